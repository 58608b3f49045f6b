use Rattle.std.proofs.Common.{◌≡◌, ℕ, Some, List, [], Bor, codes, map, get_or, slice_get}
use Rattle.std.proofs.Common.{option_map, sym, ap, ◌∙◌}
use Rattle.std.specs.Str.{bytes_eq}
use Rattle.std.proofs.lemmas.Option.{slice_get-map, slice_get-get_or}
use Rattle.std.proofs.lemmas.Map.Keys.{any_passes_from_place}
use Rattle.sourcemap_map_rewrite.proofs.cut_sources.contains_marker.Goals as goal

pub returns-then-eq : goal.returns-then-eq
returns-then-eq c =
    let prefixes = c.args.prefixes.now in
    let i = c.loop-prefix.prefix-index in
    let none : Bor (List ℕ) = record { ref_ptr = (0, 0); now = [] } in
    let read : slice_get (map (λ (prefix : Bor (List ℕ)). prefix.now) prefixes) i ≡ Some (get_or prefixes i none).now =
    slice_get-map (λ (prefix : Bor (List ℕ)). prefix.now) prefixes i ∙ ap (option_map
    (λ (prefix : Bor (List ℕ)). prefix.now)) (slice_get-get_or prefixes i none c.loop-prefix-test.true) in
    sym (any_passes_from_place (λ prefix. bytes_eq prefix (codes "~")) (map (λ prefix. prefix.now) prefixes) i
    (get_or prefixes i none).now read (sym c.if-eq.ensures))
