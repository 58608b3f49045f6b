-- The first module of a split bundle, and the meaning of its map.
use Rattle.std.proofs.Common.{◌≡◌, ◌∙◌, refl, sym, ap, ℕ, List, [], ◌∷◌, ◌&&◌, Bool, true, false, is_some, Result, Ok}
use Rattle.std.proofs.Common.{Err, IfErr, IfOk, IfSome, IsOkUnless, Option, Some, None, String, string_bytes, inl, inr}
use Rattle.std.proofs.Common.{map, subst}
use Rattle.std.specs.Str.{is_utf8}
use Rattle.std.specs.declared.alloc.Global.{Global}
use Rattle.std.specs.declared.vec.Vec.{Vec}
use Rattle.sourcemap.specs.Answer.{IsAnswer, UnlessMemory}
use Rattle.sourcemap.specs.BundleModules.{ModuleValue}
use Rattle.sourcemap.specs.Encoder.{ReadsBack, Restores}
use Rattle.sourcemap.specs.Reading.{BytesHaveResult, RegularDecodes}
use Rattle.sourcemap.specs.Split.{HaveWellFormedMaps, ModuleParts, SplitValue, Splits, due_of, dues_in, parts_at}
use Rattle.sourcemap.specs.Split.{parts_on, with_offsets}
use Rattle.sourcemap.specs.Trees.{IndexValue}
use Rattle.sourcemap.specs.Types.{IsWellFormed, MapValue, meaning}
use Rattle.sourcemap.specs.declared.errors.Error.{Error}
use Rattle.sourcemap.specs.declared.errors.Error.TheVariants.{OutOfMemory}
use Rattle.sourcemap_uses.specs.Splitting.{IsFirstModule, IsFirstRefused, StoresFirst, TracesFirst, first_text, printed}
use Rattle.sourcemap_uses.proofs.RefusalLemmas.{unless_memory}

module _ (i : IndexValue) (modules : List (Result ModuleValue Error)) (split : SplitValue) (flat : MapValue)
    (found : ModuleValue) (first : ℕ)
    (is_first : IsFirstModule i modules flat found first) where
  split_over : MapValue → SplitValue
  split_over flat = record { flat = flat; offsets = is_first.offsets; modules = modules }

  -- let `IsFirstModule` hold for `found`, and let the bundle split into `split`. Then `split.flat` is `flat`, and the
  -- first item of `dues_in split` is `parts_at flat first found`
  pub first_due : Splits i modules (Ok split)
      → (split.flat ≡ flat)
      × ((others : List (Result ModuleParts Error)) × (dues_in split ≡ parts_at flat first found ∷ others))
  unfolding split_over
  first_due (inl (x, due, is)) =
      let same_flat : x ≡ flat = (let both = sym due ∙ is_first.flat_is in cc) in
      let same_split : split ≡ split_over x =
      (let both = is ∙ ap (with_offsets x modules) is_first.offsets_are in cc) in
      let same : split ≡ split_over flat = same_split ∙ ap split_over same_flat in (
        ap (λ s. s.flat) same,
        (map (due_of flat) is_first.others, ap dues_in same ∙ ap (map (due_of flat)) is_first.comes_first),
      )
  first_due (inr nothing) = absurd nothing

-- if `parts_at` returns the parts of a module, their map is the map that `parts_on` makes for this module
pub given_map : (flat : MapValue) (line : ℕ) (found : ModuleValue) (parts : ModuleParts)
    → parts_at flat line found ≡ Ok parts
    → (parts_on flat line found).map ≡ parts.map
given_map flat line found parts is = by_cases (is_some (meaning flat (line, 0)) && is_utf8 found.text) refl
  where
    by_cases : (b : Bool) → (is_some (meaning flat (line, 0)) && is_utf8 found.text) ≡ b
        → (parts_on flat line found).map ≡ parts.map
    by_cases true b = let given : Ok (parts_on flat line found) ≡ Ok parts = (rw b at is) in
        let same : parts_on flat line found ≡ parts = cc in ap (λ p. p.map) same
    by_cases false b = let no = (rw b at is) in cc

-- if the bundle cannot be split, the result is the error of splitting
pub split_refused : (i : IndexValue) (modules : List (Result ModuleValue Error)) (p : ℕ × ℕ) (e : Error)
    → UnlessMemory e (Splits i modules (Err e)) → UnlessMemory e (TracesFirst i modules p (Err e))
split_refused i modules p e h =
    unless_memory e (Splits i modules (Err e)) (TracesFirst i modules p (Err e)) (λ refused. inr refused) h

module _ (i : IndexValue) (modules : List (Result ModuleValue Error)) (p : ℕ × ℕ) (split : SplitValue)
    (splits : Splits i modules (Ok split)) where
  -- if the bundle splits into `split`, `TracesFirst` allows the result of `first_text` for the items of `split`
  -- (`dues_in`). `first_text` uses only the first item
  first_traced : (items : List (Result ModuleParts Error)) → dues_in split ≡ items
      → TracesFirst i modules p (first_text p items)
  first_traced items is = inl (split, splits, sym (ap (first_text p) is))

  -- without an item, the text is empty
  pub none_traced : dues_in split ≡ [] → TracesFirst i modules p (Ok [])
  none_traced is = first_traced [] is

  -- if the first item is an error, the result is this error
  pub item_refused : (due : Result ModuleParts Error) (others : List (Result ModuleParts Error)) (e : Error)
      → dues_in split ≡ due ∷ others → UnlessMemory e (due ≡ Err e) → UnlessMemory e (TracesFirst i modules p (Err e))
  item_refused due others e is h = unless_memory e (due ≡ Err e) (TracesFirst i modules p (Err e))
      (λ same. first_traced (Err e ∷ others) (is ∙ ap (λ d. d ∷ others) same)) h

  -- if the first item is `parts`, the result may be the text printed for `p` by the map of `parts`, or `OutOfMemory`
  pub text_traced : (due : Result ModuleParts Error) (others : List (Result ModuleParts Error)) (parts : ModuleParts)
      (r : Result (String Global) Error)
      → dues_in split ≡ due ∷ others → due ≡ Ok parts
      → IfOk r (λ text. string_bytes text ≡ printed (meaning parts.map p)) → IsOkUnless r OutOfMemory
      → IsAnswer string_bytes (TracesFirst i modules p) r
  text_traced due others parts (Ok text) is gives same memory =
      rw same (first_traced (Ok parts ∷ others) (is ∙ ap (λ d. d ∷ others) gives))
  text_traced due others parts (Err e) is gives same memory = rw memory tt

module _ (i : IndexValue) (modules : List (Result ModuleValue Error)) (split : SplitValue)
    (splits : Splits i modules (Ok split)) (due : Result ModuleParts Error) (others : List (Result ModuleParts Error))
    (is : dues_in split ≡ due ∷ others) where
  -- the text of the first item's map reads back
  pub first_stored : (parts : ModuleParts) → due ≡ Ok parts → HaveWellFormedMaps (dues_in split)
      → (r : Result (Option (Vec ℕ Global)) Error)
      → IfOk r (λ text. IfSome text (λ text. IsWellFormed parts.map
      → ReadsBack (BytesHaveResult RegularDecodes text.items) (Restores parts.map)))
      → IfOk r (λ text. IfSome text (λ text. StoresFirst i modules text.items))
  first_stored parts gives well (Ok (Some text)) reads =
      let first : dues_in split ≡ Ok parts ∷ others = is ∙ ap (λ d. d ∷ others) gives in
      let all : HaveWellFormedMaps (Ok parts ∷ others) = subst HaveWellFormedMaps first well in
      (split, parts, others, splits, first, reads all.0)
  first_stored parts gives well (Ok None) reads = tt
  first_stored parts gives well (Err e) reads = tt

  pub first_refused : (e : Error) → UnlessMemory e (due ≡ Err e) → UnlessMemory e (IsFirstRefused i modules e)
  first_refused e = unless_memory e (due ≡ Err e) (IsFirstRefused i modules e)
      (λ same. inr (split, others, splits, is ∙ ap (λ d. d ∷ others) same))
