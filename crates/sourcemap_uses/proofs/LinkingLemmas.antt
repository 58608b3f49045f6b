-- An index map with one section replaced.
use Rattle.std.proofs.Common.{◌≡◌, ◌≢◌, ◌∙◌, refl, sym, ap, subst, ℕ, zero, suc, List, [], ◌∷◌, slice_get, slice_set}
use Rattle.std.proofs.Common.{Option, Some, None, option_map, Result, Ok, Err}
use Rattle.std.specs.Prelude.{IfNone, unwrap_or}
use Rattle.sourcemap.specs.Answer.{Changes}
use Rattle.sourcemap.specs.Index.{with_section}
use Rattle.sourcemap.specs.Section.{with_url}
use Rattle.sourcemap.specs.Trees.{IndexValue, MapSection}
use Rattle.sourcemap.specs.declared.errors.Error.{Error}
use Rattle.sourcemap_uses.specs.Linking.{linked}

pub get_other : {X : Type 0} (xs : List X) (id other : ℕ) (x : X) → other ≢ id
    → slice_get (slice_set xs id x) other ≡ slice_get xs other
get_other [] id other x differs = refl
get_other (y ∷ ys) zero zero x differs = absurd (differs refl)
get_other (y ∷ ys) zero (suc other) x differs = refl
get_other (y ∷ ys) (suc id) zero x differs = refl
get_other (y ∷ ys) (suc id) (suc other) x differs = get_other ys id other x (λ same. differs (ap suc same))

set_same : {X : Type 0} (xs : List X) (id : ℕ) (x : X) → slice_get xs id ≡ Some x → slice_set xs id x ≡ xs
set_same [] id x there = refl
set_same (y ∷ ys) zero x there = cc
set_same (y ∷ ys) (suc id) x there = ap (λ zs. y ∷ zs) (set_same ys id x there)

-- if the index map `i` has no section `id`, `linked i id url` is `i` unchanged
pub linked_none : (i : IndexValue) (id : ℕ) (url : List ℕ) → None ≡ slice_get i.sections id → i ≡ linked i id url
linked_none i id url none = ap (λ o. unwrap_or (option_map (λ s. with_section i id (with_url s (Some url))) o) i) none

-- setting the URL of a section changes the index accordingly; after an error the index is unchanged
pub linked_as : {T : Type 0} (r : Result T Error) (before after : IndexValue) (id : ℕ) (old new : MapSection)
    (url : List ℕ)
    → Some old ≡ slice_get before.sections id → after ≡ with_section before id new
    → Changes r old new (with_url old (Some url))
    → Changes r before after (linked before id url)
linked_as (Ok t) before after id old new url there is changed =
    is ∙ ap (λ s. with_section before id s) changed
    ∙ ap (λ o. unwrap_or (option_map (λ s. with_section before id (with_url s (Some url))) o) before) there
linked_as (Err e) before after id old new url there is changed = (
  is ∙ ap (λ s. with_section before id s) changed.0
      ∙ ap (λ sections. record before { sections = sections }) (set_same before.sections id old (sym there)),
  changed.1,
)

pub unless_there : {X : Type 0} (o : Option X) (x : X) (P : Type 0) → Some x ≡ o → IfNone o P
unless_there o x P is = subst (λ o. IfNone o P) is tt
