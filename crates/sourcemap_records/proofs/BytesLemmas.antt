-- If decoding any record has at most one result, then decoding any JSON value, bytes or data URL also has at most one
-- result. Of two `Io` errors only the kinds are compared. A result for a record is also a result for a JSON value that
-- has this record, and for bytes that hold this record. A result for bytes is also a result for the reader that
-- returned these bytes.
use Rattle.std.proofs.Common.{◌≡◌, inl, inr, refl, sym, ◌∙◌, ap, ℕ, List, [], Option, Some, None, Result, Ok, Err, IfSome, MatchOption, MatchResult, IsErrAnd}
use Rattle.serde_json.specs.Data.{Data}
use Rattle.serde_json.specs.Read.{read}
use Rattle.sourcemap_errors.specs.declared.errors.Error.{Error}
use Rattle.sourcemap_errors.specs.declared.errors.Error.TheVariants.{Io, BadJson, OutOfMemory}
use Rattle.sourcemap_errors.specs.declared.errors.JsonFault.TheVariants.{Parse, Shape}
use Rattle.sourcemap_errors.specs.Answer.{UnlessMemory, Gives, IsAnswer}
use Rattle.sourcemap_errors.proofs.AnswerLemmas.{UnlessMemory-weaker}
use Rattle.sourcemap_headers.specs.Header.{after_header}
use Rattle.sourcemap_records.specs.Field.{due}
use Rattle.sourcemap_records.specs.Jsontypes.{Tree, record_of}
use Rattle.sourcemap_headers.proofs.DataUrlLemmas.{one_answer}
use Rattle.sourcemap_records.specs.Bytes.{IsJson, HoldJson, IsHeaderError, HoldNoJson, HoldRecord, HoldNoRecord, ValueHasResult, BytesHaveResult, UrlHasResult, IsSameError, AreSame, UnlessReadFails, IsAnswerRead, Reading}

-- Bytes have at most one JSON value and at most one error, but never a value and an error.

pub json_once : (bytes : List ℕ) (d e : Data) → HoldJson bytes d → HoldJson bytes e → d ≡ e
json_once bytes d e p q = let same : p.0 ≡ q.0 = cc in let again : read p.0 ≡ Some e = rw same q.2.1 in cc

json_or_none : (found : Option (List ℕ)) (d : Data) (e : Error)
    → (text : List ℕ) × (found ≡ Some text) × IsJson text d
    → MatchOption found (IsHeaderError e) (λ text. ((d : Data) → ¬ IsJson text d) × (e ≡ BadJson Parse)) → ⊥
json_or_none None d e p q = cc
json_or_none (Some text) d e p q = let same : text ≡ p.0 = cc in q.0 d (rw same p.2)

header_error_once : (e f : Error) → IsHeaderError e → IsHeaderError f → IsSameError e f
header_error_once e f p q = rw (p.1, q.1) (p.2 ∙ sym q.2)

parse_error_once : (e f : Error) → e ≡ BadJson Parse → f ≡ BadJson Parse → IsSameError e f
parse_error_once e f p q = rw (p, q) refl

error_once : (found : Option (List ℕ)) (e f : Error)
    → MatchOption found (IsHeaderError e) (λ text. ((d : Data) → ¬ IsJson text d) × (e ≡ BadJson Parse))
    → MatchOption found (IsHeaderError f) (λ text. ((d : Data) → ¬ IsJson text d) × (f ≡ BadJson Parse))
    → IsSameError e f
error_once None e f p q = header_error_once e f p q
error_once (Some text) e f p q = parse_error_once e f p.1 q.1

same_error : (e : Error) → IsSameError e e
same_error (Io e) = refl
same_error _ = refl

unless_read : (e : Error) (P : Type 0) → UnlessMemory e P → UnlessReadFails e P
unless_read (Io _) P h = inl h
unless_read OutOfMemory P h = tt
unless_read _ P h = h

unless_read_any : (e : Error) (P : Type 0) → UnlessReadFails e ⊥ → UnlessReadFails e P
unless_read_any (Io _) P (inl h) = absurd h
unless_read_any (Io _) P (inr h) = inr h
unless_read_any OutOfMemory P h = tt
unless_read_any _ P h = absurd h

-- the unread bytes of a reader if they are known, and no bytes otherwise
bytes_of_reader : (known : Option (List ℕ)) → (bytes : List ℕ) × IfSome known (λ remaining. bytes ≡ remaining)
bytes_of_reader None = ([], tt)
bytes_of_reader (Some remaining) = (remaining, refl)

-- The record of bytes is the record of their JSON value. Without a JSON value, bytes have no record.

some_of_due : (found : Option Tree) (t : Tree) → due found ≡ Ok t → found ≡ Some t
some_of_due None t is = cc
some_of_due (Some u) t is = let same : u ≡ t = cc in ap Some same

record_or_none : (bytes : List ℕ) (d : Data) (found : Option Tree) → record_of d ≡ found → HoldJson bytes d
    → {X : Type 0} (tree : X → Tree) (r : Result X Error) → Gives tree r (due found)
    → MatchResult r (λ x. HoldRecord bytes (tree x)) (λ e. UnlessMemory e (HoldNoRecord bytes e))
record_or_none bytes d None none holds tree (Ok x) gave = cc
record_or_none bytes d None none holds tree (Err e) gave =
    UnlessMemory-weaker e (λ h. let is : e ≡ BadJson Shape = cc in inl (d, holds, none, is)) gave
record_or_none bytes d (Some t) some holds tree (Ok x) gave =
    let same : t ≡ tree x = cc in (d, holds, some ∙ ap Some same)
record_or_none bytes d (Some t) some holds tree (Err e) gave = UnlessMemory-weaker e (λ h. cc) gave

pub record_of_json : (bytes : List ℕ) (d : Data) → HoldJson bytes d
    → {X : Type 0} (tree : X → Tree) (r : Result X Error) → Gives tree r (due (record_of d))
    → MatchResult r (λ x. HoldRecord bytes (tree x)) (λ e. UnlessMemory e (HoldNoRecord bytes e))
record_of_json bytes d holds tree r gave = record_or_none bytes d (record_of d) refl holds tree r gave

pub no_json : (bytes : List ℕ) (e : Error) → UnlessMemory e (HoldNoJson bytes e) → UnlessMemory e (HoldNoRecord bytes e)
no_json bytes e h = UnlessMemory-weaker e inr h

module _ {Y : Type 0} where
  same_answer : (a b : Result Y Error) → a ≡ b → AreSame a b
  same_answer (Ok m) (Ok n) p = cc
  same_answer (Ok m) (Err f) p = cc
  same_answer (Err e) (Ok n) p = cc
  same_answer (Err e) (Err f) p = let same : f ≡ e = cc in rw same (same_error e)

  none_once : (bytes : List ℕ) (a b : Result Y Error) → IsErrAnd a (HoldNoJson bytes) → IsErrAnd b (HoldNoJson bytes)
      → AreSame a b
  none_once bytes (Err e) (Err f) p q = error_once (after_header bytes) e f p q
  none_once bytes (Ok m) b p q = absurd p
  none_once bytes (Err e) (Ok n) p q = absurd q

  value_or_none : (bytes : List ℕ) (d : Data) (b : Result Y Error) → HoldJson bytes d → IsErrAnd b (HoldNoJson bytes)
      → ⊥
  value_or_none bytes d (Ok n) p q = q
  value_or_none bytes d (Err e) p q = json_or_none (after_header bytes) d e p q

  -- if decoding any record has at most one result, then decoding any JSON value, bytes or data URL also has at most one
  -- result. Of two `Io` errors only the kinds are compared (`AreSame`)
  module _ (Decodes : Tree → Result Y Error → Type 0)
      (once : (t : Tree) (a b : Result Y Error) → Decodes t a → Decodes t b → a ≡ b) where
    record_once : (found : Option Tree) (a b : Result Y Error)
        → MatchOption found (a ≡ Err (BadJson Shape)) (λ t. Decodes t a)
        → MatchOption found (b ≡ Err (BadJson Shape)) (λ t. Decodes t b) → a ≡ b
    record_once None a b p q = p ∙ sym q
    record_once (Some t) a b p q = once t a b p q

    pub value_once : (d : Data) (a b : Result Y Error) → ValueHasResult Decodes d a → ValueHasResult Decodes d b → a ≡ b
    value_once d a b p q = record_once (record_of d) a b p q

    pub bytes_once : (bytes : List ℕ) (a b : Result Y Error) → BytesHaveResult Decodes bytes a
        → BytesHaveResult Decodes bytes b → AreSame a b
    bytes_once bytes a b (inl p) (inl q) =
        let same : q.0 ≡ p.0 = json_once bytes q.0 p.0 q.1 p.1 in
        same_answer a b (value_once p.0 a b p.2 (rw (← same) q.2))
    bytes_once bytes a b (inl p) (inr q) = absurd (value_or_none bytes p.0 b p.1 q)
    bytes_once bytes a b (inr p) (inl q) = absurd (value_or_none bytes q.0 a q.1 p)
    bytes_once bytes a b (inr p) (inr q) = none_once bytes a b p q

    pub url_once : (url : List ℕ) (a b : Result Y Error) → UrlHasResult Decodes url a → UrlHasResult Decodes url b
        → AreSame a b
    url_once url a b (inl p) (inl q) =
        let both = one_answer url (Ok p.0) (Ok q.0) p.1 q.1 in
        let same : q.0 ≡ p.0 = cc in
        bytes_once p.0 a b p.2 (rw (← same) q.2)
    url_once url a b (inl p) (inr q) = absurd (q.1 p.0 p.1)
    url_once url a b (inr p) (inl q) = absurd (p.1 q.0 q.1)
    url_once url a b (inr p) (inr q) = same_answer a b (p.0 ∙ sym q.0)

  of_record : (Decodes : Tree → Result Y Error → Type 0) (found : Option Tree) (t : Tree) → found ≡ Some t
      → (answer : Result Y Error) → Decodes t answer
      → MatchOption found (answer ≡ Err (BadJson Shape)) (λ t. Decodes t answer)
  of_record Decodes None t is answer h = cc
  of_record Decodes (Some u) t is answer h = let same : u ≡ t = cc in rw same h

  -- a result for the record of a value is a result for the value
  pub value_of_record : (Decodes : Tree → Result Y Error → Type 0) (d : Data) (t : Tree) → record_of d ≡ Some t
      → (answer : Result Y Error) → Decodes t answer → ValueHasResult Decodes d answer
  value_of_record Decodes d t is answer h = of_record Decodes (record_of d) t is answer h

  -- A result for a record is also a result for the value, the bytes or the reader from which the record was read.

  module _ {X : Type 0} (view : X → Y) where
    answer_weaker : (P Q : Result Y Error → Type 0) → ((answer : Result Y Error) → P answer → Q answer)
        → (r : Result X Error) → IsAnswer view P r → IsAnswer view Q r
    answer_weaker P Q f (Ok x) h = f (Ok (view x)) h
    answer_weaker P Q f (Err e) h = UnlessMemory-weaker e (f (Err e)) h

    answer_read : (Answers : Result Y Error → Type 0) (r : Result X Error) → IsAnswer view Answers r
        → IsAnswerRead view Answers r
    answer_read Answers (Ok x) h = h
    answer_read Answers (Err e) h = unless_read e _ h

    -- if `Answers` allows `r` and `due`, and allows at most one result (up to `Same`), then `r` is `due`, or memory ran
    -- out
    pub answer_only : (Answers : Result Y Error → Type 0) (Same : Result Y Error → Result Y Error → Type 0)
        → ((a b : Result Y Error) → Answers a → Answers b → Same a b)
        → (r : Result X Error) → IsAnswer view Answers r → (due : Result Y Error) → Answers due
        → IsAnswer view (Same due) r
    answer_only Answers Same once (Ok x) given due is = once due (Ok (view x)) is given
    answer_only Answers Same once (Err e) given due is = UnlessMemory-weaker e (once due (Err e) is) given

    -- if `r` is a result for the `bytes` that the reader returned, then `r` is a result for the reader
    pub answer_of_reader : (Answers : List ℕ → Result Y Error → Type 0) (known : Option (List ℕ)) (bytes : List ℕ)
        (r : Result X Error)
        → IfSome known (λ remaining. bytes ≡ remaining) → IsAnswer view (Answers bytes) r
        → Reading known (λ bytes. IsAnswerRead view (Answers bytes) r)
    answer_of_reader Answers known bytes r same h = (bytes, same, answer_read (Answers bytes) r h)

    -- if `e` says that a read failed or that memory ran out, a call may return `e`, whatever `Answers` allows
    pub error_of_reader : (Answers : List ℕ → Result Y Error → Type 0) (known : Option (List ℕ)) (e : Error)
        → UnlessReadFails e ⊥ → Reading known (λ bytes. UnlessReadFails e (Answers bytes (Err e)))
    error_of_reader Answers known e h =
        let has = bytes_of_reader known in (has.0, has.1, unless_read_any e (Answers has.0 (Err e)) h)

    module _ (Decodes : Tree → Result Y Error → Type 0) where
      of_no_record : (found : Option Tree) → found ≡ None → (answer : Result Y Error) → answer ≡ Err (BadJson Shape)
          → MatchOption found (answer ≡ Err (BadJson Shape)) (λ t. Decodes t answer)
      of_no_record None is answer h = h
      of_no_record (Some u) is answer h = cc

      -- a result for the record of a value is a result for the value
      pub answer_of_record : (d : Data) (t : Tree) → due (record_of d) ≡ Ok t
          → (r : Result X Error) → IsAnswer view (Decodes t) r → IsAnswer view (ValueHasResult Decodes d) r
      answer_of_record d t is r h =
          answer_weaker (Decodes t) (ValueHasResult Decodes d)
          (value_of_record Decodes d t (some_of_due (record_of d) t is)) r h

      -- a result for the record of bytes is a result for the bytes
      pub answer_of_bytes : (bytes : List ℕ) (t : Tree) → HoldRecord bytes t
          → (r : Result X Error) → IsAnswer view (Decodes t) r → IsAnswer view (BytesHaveResult Decodes bytes) r
      answer_of_bytes bytes t holds r h =
          answer_weaker (Decodes t) (BytesHaveResult Decodes bytes)
          (λ answer is. inl (holds.0, holds.1, value_of_record Decodes holds.0 t holds.2 answer is)) r h

      no_record : (bytes : List ℕ) (e : Error) → HoldNoRecord bytes e → BytesHaveResult Decodes bytes (Err e)
      no_record bytes e (inl h) = inl (h.0, h.1, of_no_record (record_of h.0) h.2 (Err e) (ap Err h.3))
      no_record bytes e (inr h) = inr h

      pub error_of_bytes : (bytes : List ℕ) (e : Error) → UnlessMemory e (HoldNoRecord bytes e)
          → UnlessMemory e (BytesHaveResult Decodes bytes (Err e))
      error_of_bytes bytes e h = UnlessMemory-weaker e (no_record bytes e) h

      module _ (once : (t : Tree) (a b : Result Y Error) → Decodes t a → Decodes t b → a ≡ b) where
        -- let decoding any record have at most one result (`once`). If `BytesHaveResult` allows `r` and `due` for
        -- `bytes`, then `r` is the same as `due` (`AreSame`), or memory ran out
        pub bytes_only : (bytes : List ℕ) (r : Result X Error) → IsAnswer view (BytesHaveResult Decodes bytes) r
            → (due : Result Y Error) → BytesHaveResult Decodes bytes due → IsAnswer view (AreSame due) r
        bytes_only bytes r h = answer_only (BytesHaveResult Decodes bytes) AreSame (bytes_once Decodes once bytes) r h

        -- let decoding any record have at most one result (`once`). Let the unread bytes of a reader be known, and let
        -- `BytesHaveResult` allow `r` and `due` for these bytes. Then `r` is the same as `due` (`AreSame`), or a read
        -- failed, or memory ran out
        pub reader_only : (known : Option (List ℕ)) (bytes : List ℕ) (r : Result X Error)
            → IfSome known (λ xs. bytes ≡ xs) → IsAnswer view (BytesHaveResult Decodes bytes) r
            → IfSome known
            (λ xs. (due : Result Y Error) → BytesHaveResult Decodes xs due → IsAnswerRead view (AreSame due) r)
        reader_only None bytes r same h = tt
        reader_only (Some xs) bytes r same h =
            λ due is. answer_read (AreSame due) r (bytes_only xs r (rw (← same) h) due is)
