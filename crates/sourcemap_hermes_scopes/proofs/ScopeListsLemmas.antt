-- Equality of lists of scopes, and function maps of entries.
use Rattle.std.proofs.Common.{◌≡◌, ℕ, ◌+◌, List, [], ◌∷◌, ◌++◌, map, take, length, ◌<◌, get_or, string_bytes, Bool}
use Rattle.std.proofs.Common.{◌&&◌, Option, Some, None, Vec, sym, ap, ◌∙◌, subst, refl}
use Rattle.std.specs.List.{AllZip}
use Rattle.std.specs.Option.{option_eq}
use Rattle.std.specs.Cmp.Lexicographic.{pointwise}
use Rattle.std.specs.declared.alloc.Global.{Global}
use Rattle.sourcemap_map_parts.specs.TextLists.{same_text}
use Rattle.sourcemap_map_parts.proofs.TextListsLemmas.{pointwise-map}
use Rattle.sourcemap_records.specs.Jsontypes.{scopes_view}
use Rattle.sourcemap_records.specs.declared.jsontypes.FacebookScopeMapping.{FacebookScopeMapping}
use Rattle.sourcemap_hermes_scopes.specs.ScopeLists.{entry_in, same_scopes, same_entry}
use Rattle.std.proofs.lemmas.List.{take_more}

AllZip-last : {B C : Type 0} (R : B → C → Type 0) (xs : List B) (ys : List C) (x : B) (y : C) → AllZip R xs ys → R x y
    → AllZip R (xs ++ x ∷ []) (ys ++ y ∷ [])
AllZip-last R [] [] x y all one = (one, tt)
AllZip-last R [] (z ∷ ys) x y all one = absurd all
AllZip-last R (w ∷ xs) [] x y all one = absurd all
AllZip-last R (w ∷ xs) (z ∷ ys) x y all one = (all.0, AllZip-last R xs ys x y all.1 one)

map-last : {A B : Type 0} (f : A → B) (xs : List A) (x : A) → map f (xs ++ x ∷ []) ≡ map f xs ++ f x ∷ []
map-last f [] x = refl
map-last f (y ∷ xs) x = ap (λ rest. f y ∷ rest) (map-last f xs x)

-- if `R` relates, item by item, the first `i` items of `map f xs` to `ys`, and the next item to `y`, then `R` relates
-- the first `i + 1` items to `ys` with `y` appended
pub AllZip-more : {A B C : Type 0} (R : B → C → Type 0) (f : A → B) (xs : List A) (i : ℕ) (d : A) (ys zs : List C)
    (y : C) → i < length xs
    → AllZip R (map f (take i xs)) ys → R (f (get_or xs i d)) y → zs ≡ ys ++ y ∷ []
    → AllZip R (map f (take (i + 1) xs)) zs
AllZip-more R f xs i d ys zs y within all one is =
    subst (λ ws. AllZip R ws zs) (sym (ap (map f) (take_more xs i d within) ∙ map-last f (take i xs) (get_or xs i d)))
    (subst (λ ws. AllZip R (map f (take i xs) ++ f (get_or xs i d) ∷ []) ws) (sym is)
    (AllZip-last R (map f (take i xs)) ys (f (get_or xs i d)) y all one))

-- Scopes as they are stored.

-- whether two stored scopes have the same names and the same mappings
unfoldable pub stored_same : FacebookScopeMapping → FacebookScopeMapping → Bool
stored_same x y =
    pointwise (λ a b. same_text (string_bytes a) (string_bytes b)) x.names.items y.names.items
    && same_text (string_bytes x.mappings) (string_bytes y.mappings)

scopes_alike : (x y : FacebookScopeMapping) → stored_same x y ≡ same_scopes (scopes_view x) (scopes_view y)
unfolding stored_same
scopes_alike x y =
    ap (λ names. names && same_text (string_bytes x.mappings) (string_bytes y.mappings))
    (pointwise-map (λ a b. same_text (string_bytes a) (string_bytes b)) same_text string_bytes
    (λ a b. refl) x.names.items y.names.items)

stored_entry : Option (Vec FacebookScopeMapping Global) → Option (Vec FacebookScopeMapping Global) → Bool
stored_entry = option_eq (λ x y. pointwise stored_same x.items y.items)

entry_alike : (a b : Option (Vec FacebookScopeMapping Global)) → stored_entry a b ≡ same_entry (entry_in a) (entry_in b)
unfolding stored_entry
entry_alike None None = refl
entry_alike None (Some y) = refl
entry_alike (Some x) None = refl
entry_alike (Some x) (Some y) = pointwise-map stored_same same_scopes scopes_view scopes_alike x.items y.items

pub entries_alike : (a b : List (Option (Vec FacebookScopeMapping Global))) → pointwise (option_eq
    (λ x y. pointwise stored_same x.items y.items)) a b ≡ pointwise same_entry (map entry_in a) (map entry_in b)
unfolding stored_entry
entries_alike a b = pointwise-map stored_entry same_entry entry_in entry_alike a b
