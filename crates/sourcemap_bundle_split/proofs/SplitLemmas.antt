-- The text of a module, the modules that are skipped, and splits with more modules.
use Rattle.std.proofs.Common.{◌≡◌, ◌∙◌, ap, refl, ℕ, ◌+◌, ◌≤◌, List, [], ◌∷◌, length, filter_map, Bool, true, false}
use Rattle.std.proofs.Common.{Option, Some, None, Result, Ok, Err, inl, inr, arith}
use Rattle.std.specs.List.{cons_option}
use Rattle.std.specs.Str.{IsUtf8, is_utf8}
use Rattle.std.proofs.lemmas.Str.{IsUtf8-from_is_utf8, is_utf8-from_IsUtf8}
use Rattle.sourcemap_errors.specs.declared.errors.Error.{Error}
use Rattle.sourcemap_errors.specs.declared.errors.Error.TheVariants.{InvalidRamBundleEntry}
use Rattle.sourcemap_map_regular.specs.Map.{MapValue}
use Rattle.sourcemap_index_model.specs.MapTree.{IndexValue}
use Rattle.sourcemap_bundles.specs.Modules.{ModuleValue}
use Rattle.sourcemap_bundle_split.specs.Split.{SplitValue, Splits, utf8_text, with_offsets}

pub text-utf8 : (text : List ℕ) → IsUtf8 text → utf8_text text ≡ Ok text
text-utf8 text utf8 = rw (is_utf8-from_IsUtf8 text utf8) refl

pub text-not_utf8 : (text : List ℕ) → (IsUtf8 text → ⊥) → utf8_text text ≡ Err InvalidRamBundleEntry
text-not_utf8 text other = by_cases (is_utf8 text) refl
  where
    by_cases : (b : Bool) → is_utf8 text ≡ b → utf8_text text ≡ Err InvalidRamBundleEntry
    by_cases true b = absurd (other (IsUtf8-from_is_utf8 text b))
    by_cases false b = rw b refl

fewer : {X : Type 0} (o : Option X) (xs : List X) → length (cons_option o xs) ≤ length xs + 1
fewer None xs = omega arith
fewer (Some x) xs = omega arith

pub length-filter_map : {X Y : Type 0} (h : X → Option Y) (xs : List X) → length (filter_map h xs) ≤ length xs
length-filter_map h [] = omega arith
length-filter_map h (x ∷ xs) = omega (arith, fewer (h x) (filter_map h xs), length-filter_map h xs)

abbrev with_modules : List (Result ModuleValue Error) → Result SplitValue Error → Result SplitValue Error
with_modules modules (Ok split) = Ok (record split { modules = modules })
with_modules modules (Err e) = Err e

with_modules-is : (flat : MapValue) (modules : List (Result ModuleValue Error)) (offsets : Option (List (Option ℕ)))
    → with_modules modules (with_offsets flat [] offsets) ≡ with_offsets flat modules offsets
with_modules-is flat modules None = refl
with_modules-is flat modules (Some offsets) = refl

pub splits-Ok : (i : IndexValue) (modules : List (Result ModuleValue Error)) (split : SplitValue)
    → Splits i [] (Ok split) → Splits i modules (Ok (record split { modules = modules }))
splits-Ok i modules split (inl (flat, flattened, is)) =
    inl (flat, flattened, ap (with_modules modules) is ∙ with_modules-is flat modules i.parts.x_facebook_offsets)
splits-Ok i modules split (inr none) = absurd none

pub splits-Err : (i : IndexValue) (modules : List (Result ModuleValue Error)) (e : Error)
    → Splits i [] (Err e) → Splits i modules (Err e)
splits-Err i modules e (inl (flat, flattened, is)) =
    inl (flat, flattened, ap (with_modules modules) is ∙ with_modules-is flat modules i.parts.x_facebook_offsets)
splits-Err i modules e (inr refused) = inr refused
