-- The lookup of a position in an index map is the lookup in the map of the section closest to the position.
use Rattle.std.proofs.Common.{◌≡◌, inl, inr, refl, sym, ap, subst, ◌∙◌, ℕ, ◌+◌, ◌<◌, ◌≤◌, arith, zero, suc, List, [], ◌∷◌, map, Option, Some, None, option_map, IfSome, slice_get, IsSortedByKey}
use Rattle.std.specs.Prelude.{option_and_then}
use Rattle.std.specs.List.{AllByRecursion}
use Rattle.std.specs.declared.cmp.Ordering.{Ordering}
use Rattle.std.proofs.lemmas.List.{get_or-map, length-map}
use Rattle.sourcemap_tokens.specs.Search.{closest, closest_item}
use Rattle.sourcemap_tokens.specs.Tokens.{position_cmp}
use Rattle.sourcemap_tokens.proofs.SearchLemmas.{closest_item-has, closest_item-change, item-closest}
use Rattle.sourcemap_records.specs.Jsontypes.{SectionHead}
use Rattle.sourcemap_map_regular.specs.Token.{TokenValue, meaning_of_token, says, token_value, lookup as lookup_regular}
use Rattle.sourcemap_map_regular.specs.declared.token.Token.{Token}
use Rattle.sourcemap_index_model.specs.MapTree.{MapTree, LeafMap, held, leaf, index, MapSections, no_sections, hollow, filled, MapSection, IndexValue, index_tree, offset_of, section_offset, section_with, sections_from, InEachSection}
use Rattle.sourcemap_index_model.specs.Meaning.{relative_position, lookup, lookups, meaning, closest_answer}
use Rattle.sourcemap_index_model.specs.WellFormed.{IsInOrder, AreSectionsInOrder}
use Rattle.sourcemap_index_model.proofs.MapTreeLemmas.{InSection, section_list-from}
use Rattle.sourcemap_index.specs.Lookup.{AnyHasToken, HasToken, IsAmong, IsInner}

-- ---- how many indexes a map holds

-- the number of index maps in a map, at all levels. If the map is an index map, it is counted too
abbrev mutual
  pub indexes : MapTree → ℕ
  indexes (leaf l) = 0
  indexes (index parts ss) = 1 + indexes_in ss

  pub indexes_in : MapSections → ℕ
  indexes_in no_sections = 0
  indexes_in (hollow head rest) = indexes_in rest
  indexes_in (filled head t rest) = indexes t + indexes_in rest

indexes_with : (head : SectionHead) (map : Option MapTree) (rest : MapSections)
    → indexes_in rest ≤ indexes_in (section_with head map rest)
indexes_with head None rest = omega arith
indexes_with head (Some t) rest = omega arith

indexes_at : (ss : List MapSection) (k : ℕ) (s : MapSection) (t : MapTree) → slice_get ss k ≡ Some s → s.map ≡ Some t
    → indexes t ≤ indexes_in (sections_from ss)
indexes_at [] k s t at is = cc
indexes_at (s' ∷ ss) zero s t at is =
    let same : s' ≡ s = cc in
    subst (λ m. indexes t ≤ indexes_in (section_with s'.head m (sections_from ss)))
    (sym (ap (λ (s : MapSection). s.map) same ∙ is)) (omega arith)
indexes_at (s' ∷ ss) (suc k) s t at is =
    let less = indexes_at ss k s t at is in
    let more = indexes_with s'.head s'.map (sections_from ss) in
    omega (arith, less, more)

-- if `t` is the map of a section of `v`, then `t` holds fewer index maps than `v`, because `v` itself is counted
pub indexes_below : (v : IndexValue) (s : MapSection) (t : MapTree) → IsAmong v.sections s → s.map ≡ Some t
    → indexes t < indexes (index_tree v)
indexes_below v s t (k, at) is = let less = indexes_at v.sections k s t at is in omega (arith, less)

pub inner_below : (v : IndexValue) (t : MapTree) → IsInner v.sections t → indexes t < indexes (index_tree v)
inner_below v t (s, among, is) = indexes_below v s t among is

-- ---- what a section answers

abbrev pub answer_of : Option MapTree → ℕ × ℕ → Option TokenValue
answer_of None p = None
answer_of (Some t) p = lookup t p

abbrev entry : MapSection → (ℕ × ℕ) × (ℕ × ℕ → Option TokenValue)
entry s = (section_offset s, λ p. answer_of s.map p)

lookups-from : (ss : List MapSection) → lookups (sections_from ss) ≡ map entry ss
lookups-from [] = refl
lookups-from (s ∷ ss) = by_case s.map ∙ ap (λ rest. entry s ∷ rest) (lookups-from ss)
  where
    by_case : (m : Option MapTree) → lookups (section_with s.head m (sections_from ss))
        ≡ (offset_of s.head, λ p. answer_of m p) ∷ lookups (sections_from ss)
    by_case None = refl
    by_case (Some t) = refl

-- the lookup in the map of the section `found`, at `p` relative to the offset of this section; `None` if `found` is
-- `None` or the section has no map
abbrev pub found_answer : Option MapSection → ℕ × ℕ → Option TokenValue
found_answer found p = option_and_then (λ s. answer_of s.map (relative_position (section_offset s) p)) found

lookup-index : (v : IndexValue) (p : ℕ × ℕ)
    → lookup (index_tree v) p ≡ found_answer (closest_item {K = ℕ × ℕ} section_offset position_cmp v.sections p) p
lookup-index v p =
    ap (λ xs. closest_answer xs p) (lookups-from v.sections)
    ∙ ap (option_and_then (λ section. section.1 (relative_position section.0 p)))
    (closest_item-change section_offset (λ e. e.0) position_cmp entry (λ s. refl) v.sections p)
    ∙ by_case (closest_item {K = ℕ × ℕ} section_offset position_cmp v.sections p)
  where
    by_case : (found : Option MapSection) → option_and_then (λ section. section.1 (relative_position section.0 p))
        (option_map entry found) ≡ found_answer found p
    by_case None = refl
    by_case (Some s) = refl

-- ---- the lookup in an index map with sorted sections

each_in_order : (ss : List MapSection) → InEachSection (λ l. Unit {0}) AreSectionsInOrder (sections_from ss)
    → AllByRecursion (InSection (λ l. Unit {0}) AreSectionsInOrder) ss
each_in_order [] h = tt
each_in_order (s ∷ ss) h = let both = by_case s.map h in (both.0, each_in_order ss both.1)
  where
    by_case : (m : Option MapTree)
        → InEachSection (λ l. Unit {0}) AreSectionsInOrder (section_with s.head m (sections_from ss))
        → IfSome m (λ t. IsInOrder t) × InEachSection (λ l. Unit {0}) AreSectionsInOrder (sections_from ss)
    by_case None h = (tt, h)
    by_case (Some t) h = h

in_order_at : (ss : List MapSection) (k : ℕ) (s : MapSection) (t : MapTree) → slice_get ss k ≡ Some s → s.map ≡ Some t
    → AllByRecursion (InSection (λ l. Unit {0}) AreSectionsInOrder) ss → IsInOrder t
in_order_at [] k s t at is h = cc
in_order_at (s' ∷ ss) zero s t at is h =
    let same : s' ≡ s = cc in
    subst (λ (m : Option MapTree). IfSome m IsInOrder) (ap (λ (x : MapSection). x.map) same ∙ is) h.0
in_order_at (s' ∷ ss) (suc k) s t at is h = in_order_at ss k s t at is h.1

-- if the sections of `v` are sorted at all levels, those of the map of a section of `v` are too
pub inner_in_order : (v : IndexValue) (t : MapTree) → IsInner v.sections t → IsInOrder (index_tree v) → IsInOrder t
inner_in_order v t (s, (k, at), is) ordered = in_order_at v.sections k s t at is (each_in_order v.sections ordered.1)

-- let the sections of `v` be sorted at all levels. If `found` is the section closest to `p`, and `answer` is the lookup
-- in `found`, then `answer` is the lookup of `p` in `v`
pub index_answers : (v : IndexValue) (p : ℕ × ℕ) (found : Option MapSection) (answer : Option TokenValue)
    → (IsSortedByKey {K = ℕ × ℕ} section_offset position_cmp v.sections
    → found ≡ closest_item {K = ℕ × ℕ} section_offset position_cmp v.sections p)
    → (IfSome found (λ s. IfSome s.map IsInOrder) → answer ≡ found_answer found p)
    → IsInOrder (index_tree v) → answer ≡ lookup (index_tree v) p
index_answers v p found answer is due ordered =
    let sorted = subst (λ ss. IsSortedByKey {K = ℕ × ℕ} section_offset position_cmp ss) (section_list-from v.sections)
    ordered.0 in
    let same = is sorted in
    let inner = closest_item-has section_offset position_cmp (InSection (λ l. Unit {0}) AreSectionsInOrder) v.sections p
    (each_in_order v.sections ordered.1) in
    due (subst (λ found. IfSome found (λ s. IfSome s.map IsInOrder)) (sym same) inner)
    ∙ ap (λ found. found_answer found p) same ∙ sym (lookup-index v p)

-- ---- the section that a search found

sorted_before : {X Y K : Type 0} (f : X → Y) (key : Y → K) (cmp : K → K → Ordering) (xs : List X)
    → IsSortedByKey key cmp (map f xs) → IsSortedByKey (λ x. key (f x)) cmp xs
sorted_before f key cmp xs sorted k d l m =
    let many = length-map xs f in
    let up = sorted k (f d) (omega arith) (omega arith) in
    rw (sym (get_or-map f xs (k + 1) d (f d) (omega arith)), sym (get_or-map f xs k d (f d) (omega arith))) up

-- if `map f xs` is sorted and `found` is the item of `xs` closest to `p`, `f` maps `found` to the item of `map f xs`
-- closest to `p`
pub closest_seen : {X Y K : Type 0} (f : X → Y) (key : Y → K) (cmp : K → K → Ordering) (xs : List X) (p : K)
    (found : Option (ℕ × X))
    → (IsSortedByKey (λ x. key (f x)) cmp xs → found ≡ closest (λ x. key (f x)) cmp xs p)
    → IsSortedByKey key cmp (map f xs) → option_map (λ e. f e.1) found ≡ closest_item key cmp (map f xs) p
closest_seen {X} f key cmp xs p found is sorted =
    ap (option_map (λ e. f e.1)) (is (sorted_before f key cmp xs sorted))
    ∙ item_mapped (closest (λ x. key (f x)) cmp xs p)
    ∙ ap (option_map f) (item-closest (λ x. key (f x)) cmp xs p)
    ∙ sym (closest_item-change (λ x. key (f x)) key cmp f (λ x. refl) xs p)
  where
    item_mapped : (o : Option (ℕ × X)) → option_map (λ e. f e.1) o ≡ option_map f (option_map (λ e. e.1) o)
    item_mapped None = refl
    item_mapped (Some e) = refl

-- if a lookup of `p` in `t` returns `found`, the meaning of the token in `found` is the meaning of `p` in `t`
pub meaning_found : (t : MapTree) (p : ℕ × ℕ) (found : Option Token) → option_map token_value found ≡ lookup t p
    → option_map meaning_of_token found ≡ meaning t p
meaning_found t p found is = meaning_of_value found ∙ ap (option_map says) is
  where
    meaning_of_value : (found : Option Token)
        → option_map meaning_of_token found ≡ option_map says (option_map token_value found)
    meaning_of_value None = refl
    meaning_of_value (Some token) = refl

-- ---- which map the token is from

pub found_in_leaf : (l : LeafMap) (p : ℕ × ℕ) (found : Option Token)
    → option_map token_value found ≡ lookup_regular (held l) p
    → IfSome found (λ token. HasToken (leaf l) (token_value token))
found_in_leaf l p None is = tt
found_in_leaf l p (Some token) is = (p, sym is)

in_rest : (head : SectionHead) (map : Option MapTree) (rest : MapSections) (token : TokenValue) → AnyHasToken rest token
    → AnyHasToken (section_with head map rest) token
in_rest head None rest token has = has
in_rest head (Some t) rest token has = inr has

in_section : (ss : List MapSection) (k : ℕ) (s : MapSection) (t : MapTree) (token : TokenValue)
    → slice_get ss k ≡ Some s
    → s.map ≡ Some t → HasToken t token → AnyHasToken (sections_from ss) token
in_section [] k s t token at is has = cc
in_section (s' ∷ ss) zero s t token at is has =
    let same : s' ≡ s = cc in
    subst (λ m. AnyHasToken (section_with s'.head m (sections_from ss)) token)
    (sym (ap (λ (s : MapSection). s.map) same ∙ is)) (inl has)
in_section (s' ∷ ss) (suc k) s t token at is has =
    in_rest s'.head s'.map (sections_from ss) token (in_section ss k s t token at is has)

-- if the map of a section of `v` has a token, the index map `v` has this token too
pub inner_has : (v : IndexValue) (t : MapTree) (token : TokenValue) → IsInner v.sections t → HasToken t token
    → HasToken (index_tree v) token
inner_has v t token (s, (k, at), is) has = in_section v.sections k s t token at is has

-- if a map has each token of another map, it has the token that was found in the other map
pub has_found : (t v : MapTree) (found : Option Token) → ((token : TokenValue) → HasToken t token → HasToken v token)
    → IfSome found (λ token. HasToken t (token_value token))
    → IfSome found (λ token. HasToken v (token_value token))
has_found t v None each has = tt
has_found t v (Some token) each has = each (token_value token) has
