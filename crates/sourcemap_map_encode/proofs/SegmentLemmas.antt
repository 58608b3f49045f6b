-- Mappings and range bits, written piece by piece.
use Rattle.std.proofs.Common.{◌≡◌, ◌≢◌, ℕ, ◌+◌, ◌-◌, ◌<◌, ◌≤◌, ◌^◌, max, Bool, true, false, cond, List, [], ◌∷◌, ◌++◌}
use Rattle.std.proofs.Common.{Option, Some, None, replicate, refl, sym, ap, subst, ◌∙◌, ⊎_elim, append_assoc, append-nil}
use Rattle.std.proofs.Common.{arith}
use Rattle.std.proofs.lemmas.Bool.{cases_eq, cases_lt, eq-eqb, eqb-true, ne_eqb}
use Rattle.sourcemap_vlq.specs.Bits.{IsBitText}
use Rattle.sourcemap_vlq.specs.Vlq.{Spells}
use Rattle.sourcemap_tokens.specs.declared.tokens.RawToken.{RawToken}
use Rattle.sourcemap_mappings.specs.Buffer.{Adds}
use Rattle.sourcemap_mappings.specs.Segment.{comma, semicolon}
use Rattle.sourcemap_mappings.specs.Write.{base, numbers, LineByLine, IsRangeLine}
use Rattle.sourcemap_mappings.specs.WriteSteps.{repeats, follows, gap, at_line, next_base}
use Rattle.sourcemap_mappings.proofs.WriteSegments.{Writing, Writing-none, Writing-repeat, Writing-more, Writing-end}
use Rattle.sourcemap_mappings.proofs.WriteReadBack.{reads_back}
use Rattle.sourcemap_mappings.proofs.WriteSums.{IsSmall}
use Rattle.sourcemap_mappings.proofs.WriteTokens.{UpTo}
use Rattle.sourcemap_mappings.proofs.WriteRanges.{Ranging, Ranging-none, Ranging-turn, Ranging-repeat, Ranging-more}
use Rattle.sourcemap_mappings.proofs.WriteRanges.{Ranging-end}
use Rattle.sourcemap_mappings.proofs.WriteWalk.{IsAtLine, Walked, all_lines}
use Rattle.sourcemap_tokens.specs.Tokens.{AreInOrder, without_repeats}
use Rattle.json.specs.Print.{quoted}
use Rattle.serde_json.specs.Data.{string}
use Rattle.sourcemap_map_encode.specs.Members.{key_text, part}
use Rattle.sourcemap_map_encode.specs.Buffered.{Grows, GrowsBy}
use Rattle.sourcemap_map_encode.specs.Segments.{IsPlainText, IsMappingsText, IsBitsText, IsLineOfBits, before_line}
use Rattle.sourcemap_map_encode.proofs.BufferedLemmas.{Grows-none, Grows-join, Grows-into, Grows-flushed, more_copies}
use Rattle.sourcemap_map_encode.proofs.PlainLemmas.{plain-append, plain-escape, spells-plain, ends-plain, comma-plain}
use Rattle.sourcemap_map_encode.proofs.PlainLemmas.{bits-plain}

gap-plain : (previous : Option RawToken) (line : ℕ) (t : RawToken) → IsPlainText (gap previous line t)
gap-plain previous line t = by (follows previous t)
  where
    by : (b : Bool) → IsPlainText (cond b (comma ∷ []) (replicate (t.dst_line - line) semicolon))
    by true = comma-plain
    by false = ends-plain (t.dst_line - line)

-- Moving from line to line.

at_line-same : (against : RawToken) (n : ℕ) → against.dst_line ≡ n → at_line against n ≡ against
at_line-same against n e =
    ap (λ b. cond b against (record against { dst_line = n; dst_col = 0 })) (eq-eqb against.dst_line n e)

at_line-other : (against : RawToken) (n : ℕ) → against.dst_line ≢ n
    → at_line against n ≡ record against { dst_line = n; dst_col = 0 }
at_line-other against n off =
    ap (λ b. cond b against (record against { dst_line = n; dst_col = 0 })) (ne_eqb against.dst_line n off)

at_line-line : (against : RawToken) (n : ℕ) → (at_line against n).dst_line ≡ n
at_line-line against n = ⊎_elim
    (λ (same : against.dst_line ≡ n). ap (λ (t : RawToken). t.dst_line) (at_line-same against n same) ∙ same)
    (λ (off : against.dst_line ≢ n). ap (λ (t : RawToken). t.dst_line) (at_line-other against n off))
    (cases_eq against.dst_line n)

-- a token on line n, or on an earlier line, moves to line n in two steps
pub before_line-then : (against : RawToken) (n : ℕ) → against.dst_line ≤ n
    → at_line (before_line against n) n ≡ at_line against n
before_line-then against n h = ⊎_elim
    (λ (far : against.dst_line < n - 1).
    let line : max against.dst_line (n - 1) ≡ n - 1 = omega arith in
    let before : before_line against n ≡ record against { dst_line = n - 1; dst_col = 0 } =
    ap (at_line against) line ∙ at_line-other against (n - 1) (λ e. omega arith) in
    ap (λ (t : RawToken). at_line t n) before
    ∙ at_line-other (record against { dst_line = n - 1; dst_col = 0 }) n (λ e. omega arith)
    ∙ sym (at_line-other against n (λ e. omega arith)))
    (λ (near : n - 1 ≤ against.dst_line).
    let line : against.dst_line ≡ max against.dst_line (n - 1) = omega arith in
    ap (λ (t : RawToken). at_line t n) (at_line-same against (max against.dst_line (n - 1)) line))
    (cases_lt against.dst_line (n - 1))

-- the line of the last token is the one that the loop has reached
follows-line : (line : ℕ) (ts : List RawToken) (previous : Option RawToken) (t : RawToken)
    → IsAtLine line ts previous → follows previous t ≡ true → line ≡ t.dst_line
follows-line line ts None t at e = absurd cc
follows-line line ts (Some p) t at e = sym at.0 ∙ eqb-true p.dst_line t.dst_line e

-- the separators before `t` are the ends of the empty lines, and then those from the line before that of `t` on
gap-split : (previous : Option RawToken) (line : ℕ) (t : RawToken)
    → (follows previous t ≡ true → line ≡ t.dst_line) → line ≤ t.dst_line
    → replicate (t.dst_line - 1 - line) semicolon ++ gap previous (max line (t.dst_line - 1)) t ≡ gap previous line t
gap-split previous line t same h = by (follows previous t) refl
  where
    by : (b : Bool) → follows previous t ≡ b
        → replicate (t.dst_line - 1 - line) semicolon ++ gap previous (max line (t.dst_line - 1)) t
        ≡ gap previous line t
    by true e =
        let at = same e in
        let none : t.dst_line - 1 - line ≡ 0 = omega arith in
        ap (λ (k : ℕ). replicate k semicolon ++ gap previous (max line (t.dst_line - 1)) t) none
        ∙ ap (λ b. cond b (comma ∷ []) (replicate (t.dst_line - max line (t.dst_line - 1)) semicolon)) e
        ∙ sym (ap (λ b. cond b (comma ∷ []) (replicate (t.dst_line - line) semicolon)) e)
    by false e =
        let all : t.dst_line - 1 - line + (t.dst_line - max line (t.dst_line - 1)) ≡ t.dst_line - line = omega arith in
        ap (λ b. replicate (t.dst_line - 1 - line) semicolon
        ++ cond b (comma ∷ []) (replicate (t.dst_line - max line (t.dst_line - 1)) semicolon)) e
        ∙ more_copies (t.dst_line - 1 - line) (t.dst_line - max line (t.dst_line - 1)) semicolon
        ∙ ap (λ (k : ℕ). replicate k semicolon) all
        ∙ sym (ap (λ b. cond b (comma ∷ []) (replicate (t.dst_line - line) semicolon)) e)

-- the empty lines before the line of `t` are ended, the other separators and the segment of `t` are appended, and the
-- buffer may be flushed
pub token-grown : (names : ℕ) (ts : List RawToken) (previous : Option RawToken) (against t : RawToken)
    (h i j : Option (List ℕ)) (a b c d : List ℕ)
    → IsAtLine against.dst_line ts previous → against.dst_line ≤ t.dst_line
    → Grows h a i b (replicate (t.dst_line - 1 - against.dst_line) semicolon)
    → Adds (numbers names (at_line (before_line against t.dst_line) t.dst_line) t)
    (b ++ gap previous (before_line against t.dst_line).dst_line t) c
    → Grows i c j d []
    → GrowsBy (Adds (numbers names (at_line against t.dst_line) t) (gap previous against.dst_line t)) h a j d
token-grown names ts previous against t h i j a b c d at down x adds y =
    let empty : List ℕ = replicate (t.dst_line - 1 - against.dst_line) semicolon in
    let left : List ℕ = gap previous (before_line against t.dst_line).dst_line t in
    let split : empty ++ left ≡ gap previous against.dst_line t =
    ap (λ (k : ℕ). empty ++ gap previous k t) (at_line-line against (max against.dst_line (t.dst_line - 1)))
    ∙ gap-split previous against.dst_line t (follows-line against.dst_line ts previous t at) down in
    let text : empty ++ (left ++ adds.digits) ≡ gap previous against.dst_line t ++ adds.digits =
    sym (append_assoc empty left adds.digits) ∙ ap (λ r. r ++ adds.digits) split in
    let put : Grows i b i c (left ++ adds.digits) =
    Grows-into i b c (left ++ adds.digits) (adds.added ∙ append_assoc b left adds.digits) in (
      gap previous against.dst_line t ++ adds.digits,
      record {
        digits = adds.digits;
        spelled =
            subst (λ (u : RawToken). Spells (numbers names u t) adds.digits) (before_line-then against t.dst_line down)
            adds.spelled;
        added = refl;
      },
      Grows-flushed h i j a c d (gap previous against.dst_line t ++ adds.digits)
          (subst (λ (r : List ℕ). Grows h a i c r) text
          (Grows-join h i i a b c empty (left ++ adds.digits) x put)) y,
    )

-- Mappings.

-- the mappings written so far
pub record Written (names : ℕ) (done : List RawToken) (previous : Option RawToken) (against : RawToken)
    (text : List ℕ) : Type 0 where
  pub writing : Writing names done previous against text
  pub is_plain : IsPlainText text

-- let `t` be small (`IsSmall`), not repeat `previous`, and be on the line of `against` or on a later line. The mappings
-- of `done`, followed by the separators and the segment of `t`, are the mappings of `done ++ t ∷ []`
pub token-put : (names : ℕ) (done : List RawToken) (previous : Option RawToken) (against : RawToken) (t : RawToken)
    (h i j : Option (List ℕ)) (a b c : List ℕ)
    → repeats previous t ≡ false → against.dst_line ≤ t.dst_line → IsSmall t
    → GrowsBy (Written names done previous against) h a i b
    → GrowsBy (Adds (numbers names (at_line against t.dst_line) t) (gap previous against.dst_line t)) i b j c
    → GrowsBy (Written names (done ++ t ∷ []) (Some t) (next_base names (at_line against t.dst_line) t)) h a j c
token-put names done previous against t h i j a b c new down small (text, w, x) (more, adds, y) = (
  text ++ more,
  record {
    writing = Writing-more names done previous against text (text ++ more) t new down
        (record {
          digits = adds.digits;
          spelled = adds.spelled;
          added =
              ap (λ r. text ++ r) adds.added ∙ sym (append_assoc text (gap previous against.dst_line t) adds.digits);
        })
        small w.writing;
    is_plain = plain-append text more w.is_plain
        (subst IsPlainText (sym adds.added)
        (plain-append (gap previous against.dst_line t) adds.digits (gap-plain previous against.dst_line t)
        (spells-plain (numbers names (at_line against t.dst_line) t) adds.digits adds.spelled)));
  },
  Grows-join h i j a b c text more x y,
)

pub none-put : (names : ℕ) (held : Option (List ℕ)) (gathered : List ℕ)
    → GrowsBy (Written names [] None (base 0 0 [])) held gathered held gathered
none-put names held gathered = ([], record { writing = Writing-none names; is_plain = tt }, Grows-none held gathered)

pub repeat-put : (names : ℕ) (done : List RawToken) (previous : Option RawToken) (against : RawToken) (t : RawToken)
    (h i : Option (List ℕ)) (a b : List ℕ)
    → repeats previous t ≡ true → GrowsBy (Written names done previous against) h a i b
    → GrowsBy (Written names (done ++ t ∷ []) (Some t) against) h a i b
repeat-put names done previous against t h i a b again (text, w, x) = (
  text,
  record {
    writing = Writing-repeat names done previous against text t again w.writing;
    is_plain = w.is_plain;
  },
  x,
)

pub put-carried : (names : ℕ) (done more : List RawToken) (previous : Option RawToken) (against other : RawToken)
    (h i j : Option (List ℕ)) (a b c : List ℕ)
    → more ≡ done → other ≡ against → j ≡ i → c ≡ b
    → GrowsBy (Written names done previous against) h a i b → GrowsBy (Written names more previous other) h a j c
put-carried names done more previous against other h i j a b c e f k l w =
    subst (λ (ts : List RawToken). GrowsBy (Written names ts previous other) h a j c) (sym e)
    (subst (λ (x : RawToken). GrowsBy (Written names done previous x) h a j c) (sym f)
    (subst (λ (known : Option (List ℕ)). GrowsBy (Written names done previous against) h a known c) (sym k)
    (subst (λ (r : List ℕ). GrowsBy (Written names done previous against) h a i r) (sym l) w)))

-- let `names` be below 2^32 and `tokens` be in order. If all tokens are written, the text is the `mappings` text of
-- `tokens` (`IsMappingsText`)
pub all-put : (names : ℕ) (tokens : List RawToken) (previous : Option RawToken) (against : RawToken)
    (h i : Option (List ℕ)) (a b : List ℕ)
    → names < 2 ^ 32 → AreInOrder tokens → GrowsBy (Written names tokens previous against) h a i b
    → GrowsBy (IsMappingsText names tokens) h a i b
all-put names tokens previous against h i a b few order (text, w, x) =
    let written = Writing-end names tokens previous against text w.writing in (
      text,
      record {
        written = written;
        is_plain = w.is_plain;
        back = λ sources small within ranges is.
            reads_back sources names tokens text ranges small few order within w.writing.small w.writing.walked.rises
            (all_lines against.dst_line tokens previous w.writing.walked) written is;
      },
      x,
    )

-- let `bits` be the text of `flags` (`IsBitText`). If `bits` is appended to the buffer and `ends` semicolons follow,
-- the text written is a line of bits (`IsLineOfBits`)
pub line-grown : (h i : Option (List ℕ)) (a b c bits : List ℕ) (flags : List Bool) (ends : ℕ)
    → IsBitText flags bits → b ≡ a ++ bits → Grows h b i c (replicate ends semicolon)
    → GrowsBy (IsLineOfBits flags ends) h a i c
line-grown h i a b c bits flags ends is pushed y = (
  bits ++ replicate ends semicolon,
  (bits, is, refl),
  Grows-join h h i a b c bits (replicate ends semicolon) (Grows-into h a b bits pushed) y,
)

pub line-plain : (flags : List Bool) (ends : ℕ) (text : List ℕ) → IsLineOfBits flags ends text → IsPlainText text
line-plain flags ends text (bits, is, e) = subst IsPlainText (sym e) (plain-append bits (replicate ends semicolon)
    (bits-plain flags bits is) (ends-plain ends))

-- the range bits before a line, and the flags of that line
pub record Ranged (line : ℕ) (done : List RawToken) (flags : List Bool) (text : List ℕ) : Type 0 where
  pub ranging : Ranging line (without_repeats done) text flags
  pub is_plain : IsPlainText text

pub none-ranged : (flags : List Bool) (held : Option (List ℕ)) (gathered : List ℕ) → flags ≡ []
    → GrowsBy (Ranged 0 [] flags) held gathered held gathered
none-ranged flags held gathered e =
    subst (λ (fs : List Bool). GrowsBy (Ranged 0 [] fs) held gathered held gathered) (sym e)
    ([], record { ranging = Ranging-none; is_plain = tt }, Grows-none held gathered)

-- let no token of `done` be after `line`, let `n` be a later line, and let the text have the range bits of all lines
-- before `line`. If the range bits of `line` and then `n - line` semicolons are appended, the text has the range bits
-- of all lines before `n`
pub turn-ranged : (line n : ℕ) (done : List RawToken) (flags : List Bool) (h i j : Option (List ℕ)) (a b c : List ℕ)
    → line < n → UpTo line (without_repeats done) → GrowsBy (Ranged line done flags) h a i b
    → GrowsBy (IsLineOfBits flags (n - line)) i b j c
    → GrowsBy (Ranged n done []) h a j c
turn-ranged line n done flags h i j a b c down upto (text, w, x) (more, is, y) =
    let joined : (text ++ is.0) ++ replicate (n - line) semicolon ≡ text ++ more =
    append_assoc text is.0 (replicate (n - line) semicolon) ∙ ap (λ r. text ++ r) (sym is.2) in (
      text ++ more,
      record {
        ranging = subst (λ (t : List ℕ). Ranging n (without_repeats done) t []) joined (Ranging-turn line n
            (without_repeats done) text is.0 flags down upto is.1 w.ranging);
        is_plain = plain-append text more w.is_plain (line-plain flags (n - line) more is);
      },
      Grows-join h i j a b c text more x y,
    )

pub repeat-ranged : (at : ℕ) (done : List RawToken) (previous : Option RawToken) (t : RawToken) (n : ℕ)
    (flags : List Bool) (h i : Option (List ℕ)) (a b : List ℕ)
    → repeats previous t ≡ true → Walked at done previous → GrowsBy (Ranged n done flags) h a i b
    → GrowsBy (Ranged n (done ++ t ∷ []) flags) h a i b
repeat-ranged at done previous t n flags h i a b again walked (text, w, x) = (
  text,
  record {
    ranging = Ranging-repeat at done previous t n text flags again walked w.ranging;
    is_plain = w.is_plain;
  },
  x,
)

pub more-ranged : (at : ℕ) (done : List RawToken) (previous : Option RawToken) (t : RawToken) (flags : List Bool)
    (h i : Option (List ℕ)) (a b : List ℕ)
    → repeats previous t ≡ false → Walked at done previous → GrowsBy (Ranged t.dst_line done flags) h a i b
    → GrowsBy (Ranged t.dst_line (done ++ t ∷ []) (flags ++ t.is_range ∷ [])) h a i b
more-ranged at done previous t flags h i a b new walked (text, w, x) = (
  text,
  record { ranging = Ranging-more at done previous t text flags new walked w.ranging; is_plain = w.is_plain },
  x,
)

pub ranged-carried : (line n : ℕ) (done more : List RawToken) (flags others : List Bool) (h i j : Option (List ℕ))
    (a b c : List ℕ)
    → n ≡ line → more ≡ done → others ≡ flags → j ≡ i → c ≡ b → GrowsBy (Ranged line done flags) h a i b
    → GrowsBy (Ranged n more others) h a j c
ranged-carried line n done more flags others h i j a b c d e f k l w =
    subst (λ (m : ℕ). GrowsBy (Ranged m more others) h a j c) (sym d)
    (subst (λ (ts : List RawToken). GrowsBy (Ranged line ts others) h a j c) (sym e)
    (subst (λ (fs : List Bool). GrowsBy (Ranged line done fs) h a j c) (sym f)
    (subst (λ (known : Option (List ℕ)). GrowsBy (Ranged line done flags) h a known c) (sym k)
    (subst (λ (r : List ℕ). GrowsBy (Ranged line done flags) h a i r) (sym l) w))))

-- let the loop have passed all of `tokens`, and let `line` be the line that the loop has reached (`Walked`). Let the
-- text have the range bits of all lines before `line`. If the range bits of `line` are appended, the text has the range
-- bits of all lines (`IsBitsText`)
pub all-ranged : (line : ℕ) (tokens : List RawToken) (previous : Option RawToken) (flags : List Bool)
    (h i j : Option (List ℕ)) (a b c : List ℕ)
    → Walked line tokens previous → GrowsBy (Ranged line tokens flags) h a i b → GrowsBy (IsLineOfBits flags 0) i b j c
    → GrowsBy (IsBitsText tokens) h a j c
all-ranged line tokens previous flags h i j a b c walked (text, w, x) (more, is, y) =
    let bits : more ≡ is.0 = is.2 ∙ append-nil is.0 in (
      text ++ more,
      record {
        written =
            subst (λ (r : List ℕ). LineByLine (IsRangeLine (without_repeats tokens)) tokens (text ++ r)) (sym bits)
            (Ranging-end line tokens previous text is.0 flags is.1 walked w.ranging);
        is_plain = plain-append text more w.is_plain (line-plain flags 0 more is);
      },
      Grows-join h i j a b c text more x y,
    )

-- let every text that satisfies `IsText` need no escapes (`IsPlainText`). Let four texts be appended in turn:
-- `key_text` (a comma if `later` is true, the key as a JSON string, a colon), a quote, a text that satisfies `IsText`,
-- and a quote. Together, these four texts are the text of the member with this key, whose value is the third text as a
-- string
pub member-grown : (later : Bool) (key : List ℕ) (IsText : List ℕ → Type 0) → ((t : List ℕ) → IsText t → IsPlainText t)
    → (h i j k l : Option (List ℕ)) (a b c d e : List ℕ)
    → Grows h a i b (key_text later key) → Grows i b j c (34 ∷ []) → GrowsBy IsText j c k d → Grows k d l e (34 ∷ [])
    → GrowsBy (λ whole. (t : List ℕ) × IsText t × (whole ≡ part later (key, Some (string t)))) h a l e
member-grown later key IsText plain h i j k l a b c d e x y (text, is, z) w =
    let start = key_text later key in
    let joined : (start ++ 34 ∷ []) ++ (text ++ 34 ∷ []) ≡ start ++ quoted text =
    append_assoc start (34 ∷ []) (text ++ 34 ∷ []) ∙ ap (λ t. start ++ 34
    ∷ (t ++ 34 ∷ [])) (sym (plain-escape text (plain text is))) in (
      start ++ quoted text,
      (text, is, refl),
      subst (λ (t : List ℕ). Grows h a l e t) joined
          (Grows-join h j l a c e (start ++ 34 ∷ []) (text ++ 34 ∷ [])
          (Grows-join h i j a b c start (34 ∷ []) x y) (Grows-join j k l c d e text (34 ∷ []) z w)),
    )
