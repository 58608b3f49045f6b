-- A loop adds `rows` to the line of each section's offset. If no sum exceeds 4294967295, the result is `shifted`.
use Rattle.std.proofs.Common.{◌≡◌, refl, sym, ap, ◌∙◌, ℕ, ◌+◌, ◌<◌, ◌≤◌, arith, min, List, [], ◌∷◌, ◌++◌, length, map, take, drop, get_or, slice_set}
use Rattle.std.proofs.lemmas.List.{append-nil, drop_all, get_or-map, length-map, map-set, take_all}
use Rattle.std.proofs.lemmas.List.Edits.{map_over_more}
use Rattle.sourcemap_index_model.specs.MapTree.{MapTree, MapSection, IndexValue}
use Rattle.sourcemap_index_model.specs.Shift.{shifted, HaveRowsLeft}
use Rattle.sourcemap_index.specs.Family.{map_step, index_step, section_step, section_value}
use Rattle.sourcemap_index.specs.declared.family.SourceMapSection.{SourceMapSection, out-SourceMapSection, roll-SourceMapSection, fold_out-SourceMapSection, fold-roll-SourceMapSection}

abbrev pub at_line : ℕ → MapSection → MapSection
at_line n s = record s { head = record s.head { line = n } }

-- a section moved down by `rows`, at most to line 4294967295
abbrev pub moved : ℕ → MapSection → MapSection
moved rows s = at_line (min (s.head.line + rows) 4294967295) s

pub line_of : (s : SourceMapSection) → (section_value s).head.line ≡ s.offset.0
line_of s = ap (λ (v : MapSection). v.head.line)
    (fold_out-SourceMapSection MapTree IndexValue MapSection map_step index_step section_step s)

pub section_at_line : (s : SourceMapSection) (n : ℕ)
    → section_value (roll-SourceMapSection (record
    (out-SourceMapSection s) { offset = (n, (out-SourceMapSection s).offset.1) })) ≡ at_line n (section_value s)
section_at_line s n =
    fold-roll-SourceMapSection MapTree IndexValue MapSection map_step index_step section_step
    (record (out-SourceMapSection s) { offset = (n, (out-SourceMapSection s).offset.1) })
    ∙ ap (at_line n) (sym (fold_out-SourceMapSection MapTree IndexValue MapSection map_step index_step section_step s))

pub moved_all : (rows : ℕ) (ss : List MapSection) → HaveRowsLeft rows ss → map (moved rows) ss ≡ shifted rows ss
moved_all rows [] h = refl
moved_all rows (s ∷ ss) h =
    let few = h.0 in
    let line : min (s.head.line + rows) 4294967295 ≡ s.head.line + rows = omega (arith, few) in
    λ k. at_line (line k) s ∷ moved_all rows ss h.1 k

-- one turn of the loop that moves the sections
pub moved_more : (rows : ℕ) (old now : List SourceMapSection) (i r : ℕ) (d : SourceMapSection) → i < length now
    → length now ≡ length old
    → map section_value now ≡ map (moved rows) (take i (map section_value old)) ++ drop i (map section_value old)
    → r ≡ min ((out-SourceMapSection (get_or now i d)).offset.0 + rows) 4294967295
    → map section_value (slice_set now i (roll-SourceMapSection
    (record (out-SourceMapSection (get_or now i d)) {
      offset =
          (r, (out-SourceMapSection (get_or now i d)).offset.1);
    })))
    ≡ map (moved rows) (take (i + 1) (map section_value old)) ++ drop (i + 1) (map section_value old)
moved_more rows old now i r d lt many so_far is =
    let x = get_or now i d in
    let few : i < length (map section_value old) = rw (length-map old section_value, sym many) lt in
    let line : r ≡ min ((section_value x).head.line + rows) 4294967295 =
    is ∙ ap (λ n. min (n + rows) 4294967295) (sym (line_of x)) in
    map-set section_value now i
    (roll-SourceMapSection (record (out-SourceMapSection x) { offset = (r, (out-SourceMapSection x).offset.1) }))
    ∙ ap (slice_set (map section_value now) i) (section_at_line x r ∙ ap (λ n. at_line n (section_value x)) line)
    ∙ map_over_more (moved rows) (map section_value old) (map section_value now) i (section_value x) few so_far
    (sym (get_or-map section_value now i d (section_value x) lt))

pub moved_to_end : (rows : ℕ) (ss : List MapSection) (i : ℕ) → length ss ≤ i
    → map (moved rows) (take i ss) ++ drop i ss ≡ map (moved rows) ss
moved_to_end rows ss i past =
    ap (λ ts. map (moved rows) ts ++ drop i ss) (take_all i ss past)
    ∙ ap (λ ts. map (moved rows) ss ++ ts) (drop_all i ss past) ∙ append-nil (map (moved rows) ss)
