-- The sections that lead to a map.
use Rattle.std.proofs.Common.{◌≡◌, ◌≢◌, ℕ, zero, suc, List, [], ◌∷◌, ◌++◌, None, Some, slice_get, append-nil, append_assoc, refl, ap, sym, ◌∙◌}
use Rattle.std.specs.Option.{option_map_or}
use Rattle.sourcemap_check.specs.declared.tree.MapPlace.{MapPlace}
use Rattle.sourcemap_check_print.specs.Places.{sections_to}

-- none are added to `old` if none lead to the map
pub none_added : (old : List ℕ) (left : ℕ) (maps : List MapPlace) (map : ℕ) → sections_to left maps map ≡ []
    → old ≡ old ++ sections_to left maps map
none_added old left maps map none = sym (append-nil old) ∙ ap (λ xs. old ++ xs) (sym none)

-- none are asked for
pub sections_to-none : (left : ℕ) (maps : List MapPlace) (map : ℕ) → left ≡ 0 → sections_to left maps map ≡ []
sections_to-none left maps map is = ap (λ left. sections_to left maps map) is

-- none lead to the whole map
pub sections_to-whole : (left : ℕ) (maps : List MapPlace) (map : ℕ) → map ≡ 0 → sections_to left maps map ≡ []
sections_to-whole zero maps map is = refl
sections_to-whole (suc left) maps map is = ap (λ map. sections_to (suc left) maps map) is

-- none lead to a map that is not listed
pub sections_to-missing : (left : ℕ) (maps : List MapPlace) (map : ℕ) → slice_get maps map ≡ None
    → sections_to left maps map ≡ []
sections_to-missing zero maps map is = refl
sections_to-missing (suc left) maps zero is = refl
sections_to-missing (suc left) maps (suc map) is =
    ap (λ found. option_map_or (λ place. sections_to left maps place.map ++ place.section ∷ []) found []) is

-- those that lead to the map that has the section, and the section
pub sections_to-place : (left less : ℕ) (maps : List MapPlace) (map : ℕ) (place : MapPlace) → suc less ≡ left
    → map ≢ 0 → slice_get maps map ≡ Some place
    → sections_to left maps map ≡ sections_to less maps place.map ++ place.section ∷ []
sections_to-place left less maps zero place is inner at = absurd (inner refl)
sections_to-place left less maps (suc map) place is inner at =
    ap (λ left. sections_to left maps (suc map)) (sym is)
    ∙ ap (λ found. option_map_or (λ place. sections_to less maps place.map ++ place.section ∷ []) found []) at

-- let `path` be added to `old`, and then a section
pub one_section_more : (old path between new whole : List ℕ) (section : ℕ) → between ≡ old ++ path
    → new ≡ between ++ section ∷ [] → whole ≡ path ++ section ∷ [] → new ≡ old ++ whole
one_section_more old path between new whole section first more is =
    more ∙ ap (λ xs. xs ++ section ∷ []) first ∙ append_assoc old path (section ∷ []) ∙ ap (λ xs. old ++ xs) (sym is)
