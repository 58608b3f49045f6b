-- The parts of a path, and the files of the sources of a map.
use Rattle.std.proofs.Common.{◌≡◌, ℕ, zero, suc, ◌+◌, ◌<◌, Bool, true, false, List, [], ◌∷◌, ◌++◌, length, take, get_or, Option, Some, None, Result, Ok, Err, IfOk, MatchResult, Vec, Global, ◌≢◌, refl, sym, ap, ◌∙◌, subst, arith, option_map, below_more}
use Rattle.std.specs.Prelude.{◌||◌, unwrap_or}
use Rattle.std.specs.List.{list_any}
use Rattle.std.proofs.lemmas.List.Folds.{list_any_more}
use Rattle.std.proofs.lemmas.List.{length_push}
use Rattle.sourcemap_tokens.specs.Items.{item_at}
use Rattle.sourcemap_map_regular.specs.Map.{MapValue, source_of}
use Rattle.sourcemap_errors.specs.Answer.{UnlessMemory}
use Rattle.sourcemap_errors.specs.declared.errors.Error.{Error}
use Rattle.sourcemap_errors.specs.declared.errors.Error.TheVariants.{OutOfMemory}
use Rattle.sourcemap_records.specs.Bytes.{BytesHaveResult}
use Rattle.sourcemap_check_suspicious.specs.Reading.{IsMapOf, TextMapDecodes, text_map_value}
use Rattle.sourcemap_cli.specs.Checks.{AreBelow, AreSourceFiles, StaysBelow}

or_false : (a b : Bool) → a ≡ false → b ≡ false → (a || b) ≡ false
or_false false false is also = refl
or_false true b is also = absurd cc
or_false false true is also = absurd cc

or_true : (b : Bool) → (b || true) ≡ true
or_true true = refl
or_true false = refl

pub none_more : {X : Type 0} (test : X → Bool) (xs : List X) (k : ℕ) (x : X) → k < length xs → x ≡ get_or xs k x
    → list_any test (take k xs) ≡ false → test x ≡ false → list_any test (take (k + 1) xs) ≡ false
none_more test xs k x within at none other =
    list_any_more test xs k x within ∙ or_false _ _ none (ap test (sym at) ∙ other)

-- a test that holds of an item of a list holds of some item
pub any_at : {X : Type 0} (test : X → Bool) (xs : List X) (k : ℕ) (x : X) → k < length xs → x ≡ get_or xs k x
    → test x ≡ true → list_any test xs ≡ true
any_at test [] k x within at is = absurd (omega (arith, within))
any_at test (y ∷ xs) zero x within at is = ap (λ b. b || list_any test xs) (ap test (sym at) ∙ is)
any_at test (y ∷ xs) (suc k) x within at is =
    ap (λ b. test y || b) (any_at test xs k x (omega (arith, within)) at is) ∙ or_true (test y)

-- ---- the files of sources

item_kept : (files : List (Option (List ℕ))) (file : Option (List ℕ)) (k : ℕ) → k < length files
    → item_at (files ++ file ∷ []) k ≡ item_at files k
item_kept [] file k h = absurd (omega (arith, h))
item_kept (first ∷ files) file zero h = refl
item_kept (first ∷ files) file (suc k) h = item_kept files file k (omega (arith, h))

item_last : (files : List (Option (List ℕ))) (file : Option (List ℕ)) → item_at (files ++ file ∷ []) (length files) ≡ file
item_last [] file = refl
item_last (first ∷ files) file = item_last files file

-- the text that `unwrap_or` returns
pub unwrapped : {X : Type 0} (f : X → List ℕ) (o : Option X) (d : X) (p : Option (List ℕ)) → option_map f o ≡ p
    → f (unwrap_or o d) ≡ unwrap_or p (f d)
unwrapped f None d p is = ap (λ q. unwrap_or q (f d)) is
unwrapped f (Some x) d p is = ap (λ q. unwrap_or q (f d)) is

abbrev source_at : MapValue → ℕ → List ℕ
source_at m k = unwrap_or (source_of m k) []

-- the files of the first sources
pub record BelowSoFar (m : MapValue) (files : List (Option (List ℕ))) (i : ℕ) : Type 0 where
  pub count : length files ≡ i
  pub each : (k : ℕ) → k < i → StaysBelow (source_at m k) (item_at files k)

pub BelowSoFar-none : (m : MapValue) (files : List (Option (List ℕ))) → files ≡ [] → BelowSoFar m files 0
BelowSoFar-none m files is = record {
  count = ap length is;
  each = λ k h. absurd (omega (arith, h));
}

pub BelowSoFar-more : (m : MapValue) (files new : List (Option (List ℕ))) (i : ℕ) (source : List ℕ)
    (file : Option (List ℕ)) → BelowSoFar m files i → source ≡ source_at m i → StaysBelow source file
    → new ≡ files ++ file ∷ [] → BelowSoFar m new (i + 1)
BelowSoFar-more m files new i source file so_far at stays is = record {
  count = ap length is ∙ length_push files file ∙ ap (λ n. n + 1) so_far.count;
  each = below_more _ _
      (λ k h out. let within : k < length files = omega (arith, h, so_far.count) in
      ap (λ fs. item_at fs k) is ∙ item_kept files file k within ∙ so_far.each k h out)
      (λ out. ap (λ fs. item_at fs i) is ∙ ap (item_at (files ++ file ∷ [])) (sym so_far.count)
      ∙ item_last files file ∙ subst (λ s. StaysBelow s file) at stays out);
}

pub BelowSoFar-all : (m : MapValue) (files : List (Option (List ℕ))) (i : ℕ) → BelowSoFar m files i
    → i ≡ length m.sources → AreBelow m files
BelowSoFar-all m files i so_far is = record {
  count = so_far.count ∙ is;
  each = λ k h. so_far.each k (omega (arith, h, is));
}

with_memory : (e : Error) (P : Type 0) → e ≢ OutOfMemory → UnlessMemory e P → P
with_memory OutOfMemory P is h = absurd (is refl)
with_memory _ P is h = h

-- the files of the sources of a map are those of the bytes that decode to it
pub of_decoded : (bytes : List ℕ) (m : MapValue) (r : Result (Vec (Option (List ℕ)) Global) Error) → IsMapOf bytes m
    → IfOk r (λ files. AreBelow m files.items) → IfOk r (λ files. AreSourceFiles bytes files.items)
of_decoded bytes m (Ok files) is below = (Ok (text_map_value m is.mappings is.ranges), is.decodes, below)
of_decoded bytes m (Err e) is below = tt

-- bytes that do not decode have no files
pub none_undecoded : (bytes : List ℕ) (e : Error) (r : Result (Vec (Option (List ℕ)) Global) Error)
    → UnlessMemory e (BytesHaveResult TextMapDecodes bytes (Err e))
    → MatchResult r (λ files. (e ≢ OutOfMemory) × (files.items ≡ [])) (λ f. f ≡ OutOfMemory)
    → IfOk r (λ files. AreSourceFiles bytes files.items)
none_undecoded bytes e (Ok files) fails (other, none) =
    (Err e, with_memory e (BytesHaveResult TextMapDecodes bytes (Err e)) other fails, none)
none_undecoded bytes e (Err f) fails is = tt
