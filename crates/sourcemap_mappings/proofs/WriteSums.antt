-- Let there be fewer than 2^32 sources and fewer than 2^32 names. If sound tokens (`IsSound`) are written as numbers,
-- the sums of these numbers give the same tokens, except that a name id that names nothing becomes `no_id`.
use Rattle.std.proofs.Common.{◌≡◌, ℕ, ◌+◌, ◌-◌, ◌%◌, ◌^◌, ◌<◌, ◌≤◌, ◌==◌, ◌&&◌, nat_lt, nat_le, Bool, true, false, cond}
use Rattle.std.proofs.Common.{List, [], ◌∷◌, ◌++◌, length, sum_by, Option, Some, None, ℤ, pos, unsigned_abs, refl, sym}
use Rattle.std.proofs.Common.{ap, ◌∙◌, ⊎_elim, add-zero, arith, slice_get}
use Rattle.std.specs.Option.{option_map_or}
use Rattle.std.specs.List.{AllByRecursion}
use Rattle.std.specs.Int.{int_rem_euclid}
use Rattle.std.proofs.lemmas.Bool.{cases_lt, lt-ltb, le-ltb}
use Rattle.std.proofs.lemmas.Bool.Decides.{nat_tests}
use Rattle.std.proofs.lemmas.Int.{ints, int_rem_euclid_is}
use Rattle.std.proofs.lemmas.List.Sums.{sum_by_push}
use Rattle.sourcemap_tokens.specs.declared.tokens.RawToken.{RawToken}
use Rattle.sourcemap_errors.specs.declared.errors.Error.{Error}
use Rattle.sourcemap_errors.specs.declared.errors.Error.TheVariants.{BadSourceReference, BadNameReference}
use Rattle.sourcemap_vlq.specs.Bits.{bit_of}
use Rattle.sourcemap_tokens.specs.Tokens.{IsWithin, with_valid_name}
use Rattle.sourcemap_mappings.specs.Segment.{Counts, Segment, step, sum_at, field, token_of, segment_error}
use Rattle.sourcemap_mappings.specs.Write.{is_on, has_source, has_name, last_field, base, difference, numbers}
use Rattle.sourcemap_mappings.specs.WriteSteps.{HasSmallPositions}
use Rattle.sourcemap_mappings.proofs.WriteLemmas.{numbers_by, numbers_are}
use Rattle.sourcemap_mappings.proofs.WriteTokens.{last_field-push_no, last_field-push_yes}

-- Sums modulo 2^32.

-- a number modulo 2^32
abbrev pub delta : ℤ → ℕ
delta z = unsigned_abs (int_rem_euclid z (pos (2 ^ 32)))

delta_is : (a b : ℕ) → a < 2 ^ 32 → b < 2 ^ 32 → delta (difference a b) ≡ (a + 2 ^ 32 - b) % 2 ^ 32
delta_is a b ha hb = ap unsigned_abs (int_rem_euclid_is (difference a b) (pos (2 ^ 32)) (2 ^ 32) 1 (a + 2 ^ 32 - b)
    (omega arith) refl (omega (arith, ints)))

undone : (a b total : ℕ) → a < 2 ^ 32 → total % 2 ^ 32 ≡ b → (total + (a + 2 ^ 32 - b) % 2 ^ 32) % 2 ^ 32 ≡ a
undone a b total ha hb = omega arith

-- the number at index `k` of the list `ns`, modulo 2^32; 0 if the list has no number at this index
abbrev pub step_of : ℕ → List ℤ → ℕ
step_of k ns = option_map_or delta (slice_get ns k) 0

pub sum_more : (k a b : ℕ) (all : List Segment) (s : Segment) → a < 2 ^ 32 → sum_at k all ≡ b
    → step_of k s.numbers ≡ delta (difference a b)
    → sum_at k (all ++ s ∷ []) ≡ a
sum_more k a b all s ha was is =
    let small : b < 2 ^ 32 = (let bound = was in omega arith) in
    ap (λ n. n % 2 ^ 32) (sum_by_push (step k) all s ∙ ap (λ n. sum_by (step k) all + n) (is ∙ delta_is a b ha small))
    ∙ undone a b (sum_by (step k) all) ha was

pub sum_same : (k b : ℕ) (all : List Segment) (s : Segment) → sum_at k all ≡ b → step_of k s.numbers ≡ 0
    → sum_at k (all ++ s ∷ []) ≡ b
sum_same k b all s was is =
    ap (λ n. n % 2 ^ 32) (sum_by_push (step k) all s ∙ ap (λ n. sum_by (step k) all + n) is
    ∙ add-zero (sum_by (step k) all)) ∙ was

-- Tokens.

-- a token that satisfies `IsWithin`, whose lines and columns have 32 bits
pub record IsSound (sources names : ℕ) (t : RawToken) : Type 0 where
  pub dst_line : t.dst_line < 2 ^ 32
  pub dst_col : t.dst_col < 2 ^ 32
  pub src_line : t.src_line < 2 ^ 32
  pub src_col : t.src_col < 2 ^ 32
  pub within : IsWithin sources names t

-- the segment of the token `t`, with the index `index`. The tokens `before` come before `t`
abbrev pub segment_of : ℕ → ℕ → List RawToken → RawToken → Segment
segment_of names index before t = record { index = index; numbers = numbers names (base names t.dst_line before) t }

-- the three kinds of tokens: without a source; with a source but no name; with a source and a name
data Kind (names : ℕ) (t : RawToken) : Type 0 where
  bare : has_source t ≡ false → has_name names t ≡ false → Kind names t
  unnamed : has_source t ≡ true → has_name names t ≡ false → Kind names t
  named : has_source t ≡ true → has_name names t ≡ true → Kind names t

kind_by : (names : ℕ) (t : RawToken) (p q : Bool) → has_source t ≡ p → nat_lt t.name_id names ≡ q → Kind names t
kind_by names t false q source name = bare source (ap (λ b. b && nat_lt t.name_id names) source)
kind_by names t true false source name = unnamed source (ap (λ b. b && nat_lt t.name_id names) source ∙ name)
kind_by names t true true source name = named source (ap (λ b. b && nat_lt t.name_id names) source ∙ name)

kind_of : (names : ℕ) (t : RawToken) → Kind names t
kind_of names t = kind_by names t (has_source t) (nat_lt t.name_id names) refl refl

source_is : (sources names : ℕ) (t : RawToken) → sources < 2 ^ 32 → IsSound sources names t → has_source t ≡ true
    → t.src_id < sources
source_is sources names t small sound source = ⊎_elim
    (λ (h : t.src_id < sources). h)
    (λ (h : sources ≤ t.src_id).
    let none : t.src_id ≡ 4294967295 = (sound.within h).0 in
    absurd (let no : has_source t ≡ false = ap (λ n. mathlib.Core.Bool.not (n == 4294967295)) none in cc))
    (cases_lt t.src_id sources)

bare_is : (names : ℕ) (t : RawToken) → has_source t ≡ false → t.src_id ≡ 4294967295
bare_is names t e = grind (arith, nat_tests)

name_is : (names : ℕ) (t : RawToken) → has_name names t ≡ true → t.name_id < names
name_is names t e = grind (arith, nat_tests)

no_name : (names : ℕ) (t : RawToken) → has_source t ≡ true → has_name names t ≡ false → names ≤ t.name_id
no_name names t s e = grind (arith, nat_tests)

-- the generated line and column of a token are below 2^32. If the token has a source, the original line and column of
-- the token are also below 2^32
abbrev pub IsSmall : RawToken → Type 0
IsSmall t = (t.dst_line < 2 ^ 32) × HasSmallPositions t

sound_by : (sources names : ℕ) (t : RawToken) (b : Bool) → has_source t ≡ b → sources < 2 ^ 32
    → IsWithin sources names t → IsSmall t → IsSound sources names t
sound_by sources names t true source few within small = record {
  dst_line = small.0;
  dst_col = small.1.0;
  src_line = (small.1.1 source).0;
  src_col = (small.1.1 source).1;
  within = within;
}
sound_by sources names t false source few within small =
    let nothing : t.src_id ≡ 4294967295 = bare_is names t source in
    let fields = within (omega arith) in
    let no_line : t.src_line ≡ 4294967295 = fields.1 in
    let no_column : t.src_col ≡ 4294967295 = fields.2 in
    record {
      dst_line = small.0;
      dst_col = small.1.0;
      src_line = omega arith;
      src_col = omega arith;
      within = within;
    }

pub all_sound_from : (sources names : ℕ) (ts : List RawToken) → sources < 2 ^ 32
    → AllByRecursion (IsWithin sources names) ts → AllByRecursion IsSmall ts
    → AllByRecursion (IsSound sources names) ts
all_sound_from sources names [] few within small = tt
all_sound_from sources names (t ∷ ts) few within small = (
  sound_by sources names t (has_source t) refl few within.0 small.0,
  all_sound_from sources names ts few within.1 small.1,
)

-- the segments `all` sum (`sum_at`) to source id, original line and original column of the last token in `before` with
-- a source, and to the name id of the last token in `before` with a name. A sum is 0 if there is no such token
pub record Carries (names : ℕ) (before : List RawToken) (all : List Segment) : Type 0 where
  pub id : sum_at 1 all ≡ last_field has_source (λ t. t.src_id) before
  pub line : sum_at 2 all ≡ last_field has_source (λ t. t.src_line) before
  pub src_column : sum_at 3 all ≡ last_field has_source (λ t. t.src_col) before
  pub name : sum_at 4 all ≡ last_field (has_name names) (λ t. t.name_id) before

pub Carries-none : (names : ℕ) → Carries names [] []
Carries-none names = record { id = refl; line = refl; src_column = refl; name = refl }

pub Carries-more : (sources names at : ℕ) (before : List RawToken) (all : List Segment) (t : RawToken)
    → sources < 2 ^ 32 → names < 2 ^ 32 → IsSound sources names t → Carries names before all
    → Carries names (before ++ t ∷ []) (all ++ segment_of names at before t ∷ [])
unfolding numbers_by
Carries-more sources names at before all t few few_names sound c =
    go (kind_of names t) where
      s : Segment
      s = segment_of names at before t

      against : RawToken
      against = base names t.dst_line before

      go : Kind names t → Carries names (before ++ t ∷ []) (all ++ segment_of names at before t ∷ [])
      go (bare source name) =
          let ns = numbers_are names against t false false source name in
          record {
            id = sum_same 1 _ all s c.id (ap (step_of 1) ns)
                ∙ sym (last_field-push_no has_source (λ u. u.src_id) before t source);
            line = sum_same 2 _ all s c.line (ap (step_of 2) ns)
                ∙ sym (last_field-push_no has_source (λ u. u.src_line) before t source);
            src_column = sum_same 3 _ all s c.src_column (ap (step_of 3) ns)
                ∙ sym (last_field-push_no has_source (λ u. u.src_col) before t source);
            name = sum_same 4 _ all s c.name (ap (step_of 4) ns)
                ∙ sym (last_field-push_no (has_name names) (λ u. u.name_id) before t name);
          }
      go (unnamed source name) =
          let ns = numbers_are names against t true false source name in
          let known = source_is sources names t few sound source in
          record {
            id = sum_more 1 t.src_id _ all s (omega arith) c.id (ap (step_of 1) ns)
                ∙ sym (last_field-push_yes has_source (λ u. u.src_id) before t source);
            line = sum_more 2 t.src_line _ all s sound.src_line c.line (ap (step_of 2) ns)
                ∙ sym (last_field-push_yes has_source (λ u. u.src_line) before t source);
            src_column = sum_more 3 t.src_col _ all s sound.src_col c.src_column (ap (step_of 3) ns)
                ∙ sym (last_field-push_yes has_source (λ u. u.src_col) before t source);
            name = sum_same 4 _ all s c.name (ap (step_of 4) ns)
                ∙ sym (last_field-push_no (has_name names) (λ u. u.name_id) before t name);
          }
      go (named source name) =
          let ns = numbers_are names against t true true source name in
          let known = source_is sources names t few sound source in
          let named_below = name_is names t name in
          record {
            id = sum_more 1 t.src_id _ all s (omega arith) c.id (ap (step_of 1) ns)
                ∙ sym (last_field-push_yes has_source (λ u. u.src_id) before t source);
            line = sum_more 2 t.src_line _ all s sound.src_line c.line (ap (step_of 2) ns)
                ∙ sym (last_field-push_yes has_source (λ u. u.src_line) before t source);
            src_column = sum_more 3 t.src_col _ all s sound.src_col c.src_column (ap (step_of 3) ns)
                ∙ sym (last_field-push_yes has_source (λ u. u.src_col) before t source);
            name = sum_more 4 t.name_id _ all s (omega arith) c.name (ap (step_of 4) ns)
                ∙ sym (last_field-push_yes (has_name names) (λ u. u.name_id) before t name);
          }

-- suppose that the first numbers of the segments `here` sum to the generated column of the last token in `before` on
-- the line of `t`, or to 0 if there is no such token. If `t` is sound and the segment of `t` is appended to `here`, the
-- first numbers sum to the generated column of `t`. Sums are modulo 2^32
pub column_more : (sources names at : ℕ) (before : List RawToken) (here : List Segment) (t : RawToken)
    → IsSound sources names t
    → sum_at 0 here ≡ last_field (is_on t.dst_line) (λ u. u.dst_col) before
    → sum_at 0 (here ++ segment_of names at before t ∷ []) ≡ t.dst_col
column_more sources names at before here t sound was =
    sum_more 0 t.dst_col _ here (segment_of names at before t) sound.dst_col was refl

above_not : (m n : ℕ) → n < m → nat_le m n ≡ false
above_not m n h = grind (arith, nat_tests)

-- the segment of a sound token has no error
pub segment_sound : (sources names at : ℕ) (before : List RawToken) (all : List Segment) (t : RawToken)
    → sources < 2 ^ 32 → IsSound sources names t → Carries names (before ++ t ∷ []) all
    → segment_error (record { sources = sources; names = names }) all (segment_of names at before t) ≡ None
unfolding numbers_by
segment_sound sources names at before all t few sound c =
    go (kind_of names t) where
      counts : Counts
      counts = record { sources = sources; names = names }

      against : RawToken
      against = base names t.dst_line before

      error_of : List ℤ → Option Error
      error_of ns =
          segment_error (record { sources = sources; names = names }) all (record { index = at; numbers = ns })

      valid_source : has_source t ≡ true → nat_le sources (sum_at 1 all) ≡ false
      valid_source source =
          ap (nat_le sources) (c.id ∙ last_field-push_yes has_source (λ u. u.src_id) before t source)
          ∙ above_not sources t.src_id (source_is sources names t few sound source)

      valid_name : has_name names t ≡ true → nat_le names (sum_at 4 all) ≡ false
      valid_name name =
          ap (nat_le names) (c.name ∙ last_field-push_yes (has_name names) (λ u. u.name_id) before t name)
          ∙ above_not names t.name_id (name_is names t name)

      go : Kind names t
          → segment_error (record { sources = sources; names = names }) all (segment_of names at before t) ≡ None
      go (bare source name) = ap (λ ns. error_of ns) (numbers_are names against t false false source name)
      go (unnamed source name) =
          ap (λ ns. error_of ns) (numbers_are names against t true false source name)
          ∙ ap (λ b. cond b (Some (BadSourceReference (sum_at 1 all))) None) (valid_source source)
      go (named source name) =
          ap (λ ns. error_of ns) (numbers_are names against t true true source name)
          ∙ ap (λ b. cond b (Some (BadSourceReference (sum_at 1 all)))
          (cond (nat_le names (sum_at 4 all)) (Some (BadNameReference (sum_at 4 all))) None)) (valid_source source)
          ∙ ap (λ b. cond b (Some (BadNameReference (sum_at 4 all))) None) (valid_name name)

-- the segment of a sound token decodes to the token, with `no_id` for a name id that names nothing
pub token_back : (sources names n at : ℕ) (bits : List ℕ) (before : List RawToken) (here all : List Segment)
    (t : RawToken)
    → sources < 2 ^ 32 → IsSound sources names t → n ≡ t.dst_line → bit_of bits at ≡ t.is_range
    → sum_at 0 here ≡ t.dst_col → Carries names (before ++ t ∷ []) all
    → token_of n bits here all (segment_of names at before t) ≡ with_valid_name names t
unfolding numbers_by
token_back sources names n at bits before here all t few sound on bit column c =
    go (kind_of names t) where
      against : RawToken
      against = base names t.dst_line before

      s : Segment
      s = segment_of names at before t

      field_of : ℕ → List ℤ → ℕ
      field_of k ns = cond (nat_lt k (length ns)) (sum_at k all) 4294967295

      id_is : has_source t ≡ true → sum_at 1 all ≡ t.src_id
      id_is source = c.id ∙ last_field-push_yes has_source (λ u. u.src_id) before t source

      line_is : has_source t ≡ true → sum_at 2 all ≡ t.src_line
      line_is source = c.line ∙ last_field-push_yes has_source (λ u. u.src_line) before t source

      src_column_is : has_source t ≡ true → sum_at 3 all ≡ t.src_col
      src_column_is source = c.src_column ∙ last_field-push_yes has_source (λ u. u.src_col) before t source

      go : Kind names t → token_of n bits here all (segment_of names at before t) ≡ with_valid_name names t
      go (bare source name) =
          let ns = numbers_are names against t false false source name in
          let nothing : t.src_id ≡ 4294967295 = bare_is names t source in
          let within = sound.within (omega arith) in
          let id : field 1 all s ≡ t.src_id = ap (λ ns. field_of 1 ns) ns ∙ sym within.0 in
          let line : field 2 all s ≡ t.src_line = ap (λ ns. field_of 2 ns) ns ∙ sym within.1 in
          let src_column : field 3 all s ≡ t.src_col = ap (λ ns. field_of 3 ns) ns ∙ sym within.2 in
          let no_such : nat_lt t.name_id names ≡ false = le-ltb t.name_id names within.3 in
          let id' : field 4 all s ≡ cond (nat_lt t.name_id names) t.name_id 4294967295 =
          ap (λ ns. field_of 4 ns) ns ∙ sym (ap (λ b. cond b t.name_id 4294967295) no_such) in
          cc
      go (unnamed source name) =
          let ns = numbers_are names against t true false source name in
          let id : field 1 all s ≡ t.src_id = ap (λ ns. field_of 1 ns) ns ∙ id_is source in
          let line : field 2 all s ≡ t.src_line = ap (λ ns. field_of 2 ns) ns ∙ line_is source in
          let src_column : field 3 all s ≡ t.src_col = ap (λ ns. field_of 3 ns) ns ∙ src_column_is source in
          let no_such : nat_lt t.name_id names ≡ false = le-ltb t.name_id names (no_name names t source name) in
          let id' : field 4 all s ≡ cond (nat_lt t.name_id names) t.name_id 4294967295 =
          ap (λ ns. field_of 4 ns) ns ∙ sym (ap (λ b. cond b t.name_id 4294967295) no_such) in
          cc
      go (named source name) =
          let ns = numbers_are names against t true true source name in
          let id : field 1 all s ≡ t.src_id = ap (λ ns. field_of 1 ns) ns ∙ id_is source in
          let line : field 2 all s ≡ t.src_line = ap (λ ns. field_of 2 ns) ns ∙ line_is source in
          let src_column : field 3 all s ≡ t.src_col = ap (λ ns. field_of 3 ns) ns ∙ src_column_is source in
          let such : nat_lt t.name_id names ≡ true = lt-ltb t.name_id names (name_is names t name) in
          let name_back : sum_at 4 all ≡ t.name_id =
          c.name ∙ last_field-push_yes (has_name names) (λ u. u.name_id) before t name in
          let id' : field 4 all s ≡ cond (nat_lt t.name_id names) t.name_id 4294967295 =
          ap (λ ns. field_of 4 ns) ns ∙ name_back ∙ sym (ap (λ b. cond b t.name_id 4294967295) such) in
          cc
