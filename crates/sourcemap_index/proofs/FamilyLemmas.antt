-- The values of `index_value`, `section_value` and `map_tree`, from the parts of their arguments.
use Rattle.std.proofs.Common.{◌≡◌, refl, ap, sym, ◌∙◌, ℕ, List, map, length, Option, Some, None, option_map, slice_get, Box, Global}
use Rattle.std.specs.Vec.{with_item}
use Rattle.std.specs.List.{ItemBy}
use Rattle.std.specs.Option.{OnSome}
use Rattle.std.proofs.lemmas.Option.{slice_get-map, slice_get_read, slice_get_past}
use Rattle.std.proofs.lemmas.List.{map-set}
use Rattle.sourcemap_records.specs.Jsontypes.{text_view}
use Rattle.sourcemap_map_regular.specs.Map.{MapValue}
use Rattle.sourcemap_hermes.specs.Map.{hermes_value}
use Rattle.sourcemap_hermes.specs.declared.map.SourceMapHermes.{SourceMapHermes}
use Rattle.sourcemap_index_model.specs.MapTree.{regular, hermes, MapTree, leaf, MapSection, IndexValue, index_tree, section_offset}
use Rattle.sourcemap_index.specs.Family.{map_step, index_step, section_step, map_tree, index_value, section_value, parts_view}
use Rattle.sourcemap_index.specs.Index.{with_section}
use Rattle.sourcemap_index.specs.declared.family.DecodedMap.{DecodedMap, fold_out-DecodedMap}
use Rattle.sourcemap_index.specs.declared.family.DecodedMap.TheVariants.{Regular, Index, Hermes}
use Rattle.sourcemap_index.specs.declared.family.SourceMapSection.{SourceMapSection, out-SourceMapSection, map-SourceMapSection, fold_out-SourceMapSection}
use Rattle.sourcemap_index.specs.declared.family.SourceMapIndex.{SourceMapIndex, SourceMapIndex-F, out-SourceMapIndex, roll-SourceMapIndex, fold_out-SourceMapIndex, fold-roll-SourceMapIndex}

pub index-out : (i : SourceMapIndex) → index_value i
    ≡ record {
      parts = parts_view (out-SourceMapIndex i);
      sections = map section_value (out-SourceMapIndex i).sections.items;
    }
index-out i = fold_out-SourceMapIndex MapTree IndexValue MapSection map_step index_step section_step i

pub index-roll : (r : SourceMapIndex-F DecodedMap SourceMapIndex SourceMapSection)
    → index_value (roll-SourceMapIndex r)
    ≡ record { parts = parts_view r; sections = map section_value r.sections.items }
index-roll r = fold-roll-SourceMapIndex MapTree IndexValue MapSection map_step index_step section_step r

-- let `found` be the borrowed item `i` of `xs`, or `None` if `xs` has no item `i`. If `found` is `None`, `map f xs` has
-- no item `i`. Otherwise `f` maps the value of `found` to item `i` of `map f xs`
pub item_seen : {R X Y : Type 0} (now : R → X) (f : X → Y) (xs : List X) (i : ℕ) (found : Option R)
    → ItemBy now xs i i found → option_map (λ r. f (now r)) found ≡ slice_get (map f xs) i
item_seen now f xs i (Some x) h =
    sym (slice_get-map f xs i ∙ ap (option_map f) (slice_get_read xs (length xs) i (now x) refl h.3.0 h.1))
item_seen now f xs i None h = sym (slice_get-map f xs i ∙ ap (option_map f) (slice_get_past xs i h.3))

pub on_some : {X : Type 0} (found : Option X) (P : Type 0) → P → OnSome found P
on_some (Some x) P h = h
on_some None P h = tt

-- replacing section `id` of `i` by `s` changes `index_value` as `with_section` does
pub section_put : (i : SourceMapIndex) (id : ℕ) (s : SourceMapSection)
    → index_value (roll-SourceMapIndex (record
    (out-SourceMapIndex i) { sections = with_item (out-SourceMapIndex i).sections id s }))
    ≡ with_section (index_value i) id (section_value s)
section_put i id s =
    index-roll (record (out-SourceMapIndex i) { sections = with_item (out-SourceMapIndex i).sections id s })
    ∙ ap (λ ss. record { parts = parts_view (out-SourceMapIndex i); sections = ss })
    (map-set section_value (out-SourceMapIndex i).sections.items id s)
    ∙ ap (λ v. with_section v id (section_value s)) (sym (index-out i))

pub index_same : (i : SourceMapIndex) → index_value (roll-SourceMapIndex (out-SourceMapIndex i)) ≡ index_value i
index_same i = index-roll (out-SourceMapIndex i) ∙ sym (index-out i)

boxed_map : (s : SourceMapSection) (m : Option (Box DecodedMap Global))
    → (section_step (map-SourceMapSection DecodedMap SourceMapIndex SourceMapSection MapTree IndexValue MapSection
    map_tree index_value section_value (record (out-SourceMapSection s) { map = m }))).map
    ≡ option_map (λ b. map_tree b.value) m
boxed_map s None = refl
boxed_map s (Some b) = refl

pub section_map : (s : SourceMapSection) → (section_value s).map ≡ option_map (λ b. map_tree b.value) s.map
section_map s = ap (λ (v : MapSection). v.map)
    (fold_out-SourceMapSection MapTree IndexValue MapSection map_step index_step section_step s) ∙ boxed_map s s.map

-- `section_value` keeps the offset and the URL of a section
pub section_offset_and_url : (s : SourceMapSection)
    → (section_value s).head ≡ record { line = s.offset.0; column = s.offset.1; url = text_view s.url }
section_offset_and_url s = ap (λ (v : MapSection). v.head)
    (fold_out-SourceMapSection MapTree IndexValue MapSection map_step index_step section_step s)

pub section_at : (s : SourceMapSection) → section_offset (section_value s) ≡ s.offset
section_at s =
    ap section_offset (fold_out-SourceMapSection MapTree IndexValue MapSection map_step index_step section_step s)

-- what `map_tree` returns for a regular map, a Hermes map and an index map
pub regular_tree : (m : MapValue) → map_tree (Regular m) ≡ leaf (regular m)
unfolding Rattle.sourcemap_index.specs.declared.family.DecodedMap.TheViews.out-DecodedMap denote.Hole.Carrier.out
regular_tree m = fold_out-DecodedMap MapTree IndexValue MapSection map_step index_step section_step (Regular m)

pub hermes_tree : (h : SourceMapHermes) → map_tree (Hermes h) ≡ leaf (hermes (hermes_value h))
unfolding Rattle.sourcemap_index.specs.declared.family.DecodedMap.TheViews.out-DecodedMap denote.Hole.Carrier.out
hermes_tree h = fold_out-DecodedMap MapTree IndexValue MapSection map_step index_step section_step (Hermes h)

pub index_tree-of : (i : SourceMapIndex) → map_tree (Index i) ≡ index_tree (index_value i)
unfolding Rattle.sourcemap_index.specs.declared.family.DecodedMap.TheViews.out-DecodedMap denote.Hole.Carrier.out
index_tree-of i = fold_out-DecodedMap MapTree IndexValue MapSection map_step index_step section_step (Index i)
