-- The sections that lead to the map that has the section of this map, and then this section.
use Rattle.std.proofs.Common.{◌≡◌, ◌-◌, suc, length, refl, arith}
use Rattle.std.proofs.lemmas.Option.{slice_get_read}
use Rattle.sourcemap_check_print.specs.Places.{sections_to}
use Rattle.sourcemap_check_print.proofs.PlacesLemmas.{none_added, one_section_more, sections_to-none, sections_to-place, sections_to-whole}
use Rattle.sourcemap_check_print.proofs.places.+push_sections.Goals as goal

pub returns-then-left-eq0-clause-sections : goal.returns-then-left-eq0-clause-sections
returns-then-left-eq0-clause-sections t c =
    none_added _ c.args.left c.args.maps.now c.args.map
    (sections_to-none c.args.left c.args.maps.now c.args.map (omega arith))

pub returns-then-map-eq0-clause-sections : goal.returns-then-map-eq0-clause-sections
returns-then-map-eq0-clause-sections t c =
    none_added _ c.args.left c.args.maps.now c.args.map
    (sections_to-whole c.args.left c.args.maps.now c.args.map (omega arith))

pub returns-clause-sections : goal.returns-clause-sections
returns-clause-sections t c =
    let at = slice_get_read c.args.maps.now (length c.args.maps.now) c.args.map c.in-Some.place.now refl
    c.in-Some.ensures.lookup.3.0 c.in-Some.ensures.lookup.1 in
    let less : suc (c.args.left - 1) ≡ c.args.left = omega arith in
    one_section_more c.args.sections.now.items (sections_to (c.args.left - 1) c.args.maps.now c.in-Some.place.now.map)
    c.push_sections.new.sections.items c.push.new.self.items (sections_to c.args.left c.args.maps.now c.args.map)
    c.in-Some.place.now.section c.in_ok-push_sections.ensures.sections c.in_ok-push.ensures.items
    (sections_to-place c.args.left (c.args.left - 1) c.args.maps.now c.args.map c.in-Some.place.now less (omega arith) at)
