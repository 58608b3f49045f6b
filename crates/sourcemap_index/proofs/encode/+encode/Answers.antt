-- The list of records has one record for each section, in the order of the sections.
use Rattle.std.proofs.Common.{◌≡◌, ◌∙◌, sym, ap, subst, arith, ◌+◌, ◌++◌, [], ◌∷◌, map, take}
use Rattle.std.proofs.lemmas.List.{map-append, take_more, take_all}
use Rattle.sourcemap_records.specs.Jsontypes.{section}
use Rattle.sourcemap_index.specs.Family.{section_value}
use Rattle.sourcemap_index.proofs.EncodeLemmas.{ArePairs, pairs_more, pairs_written, pairs_in_range}
use Rattle.sourcemap_index.proofs.encode.+encode.Goals as goal

pub records_of-loop-part-preserved : goal.records_of-loop-part-preserved
records_of-loop-part-preserved t c =
    let xs = c.args.sections.now in
    let i = c.loop-part.part-index in
    let x = c.part-item.result in
    let more : map section_value (take (i + 1) xs) ≡ map section_value (take i xs) ++ section_value x ∷ [] =
    ap (map section_value) (take_more xs i x c.loop-part-test.true ∙ ap (λ y. take i xs ++ y ∷ []) (sym c.part-item.is))
    ∙ map-append section_value (take i xs) (x ∷ []) in
    let pushed = ap (map section) c.in_ok-push.ensures.items ∙ map-append section c.loop-part.records.items _ in
    subst (λ ss. ArePairs ss (map section c.push.new.self.items)) (sym more)
    (subst (ArePairs (map section_value (take i xs) ++ section_value x ∷ [])) (sym pushed)
    (pairs_more (map section_value (take i xs)) (map section c.loop-part.records.items) (section_value x) _
    c.loop-part.invariant c.in_ok-record_of_section.ensures))

pub records_of-returns : goal.records_of-returns
records_of-returns t c =
    let all = ap (map section_value)
    (take_all c.loop-part.part-index c.args.sections.now (omega (arith, c.loop-part-test.false))) in
    let pairs = subst (λ ss. ArePairs ss (map section c.loop-part.records.items)) all c.loop-part.invariant in (
      pairs_written (map section_value c.args.sections.now) (map section c.loop-part.records.items) pairs,
      pairs_in_range (map section_value c.args.sections.now) (map section c.loop-part.records.items) pairs,
    )
