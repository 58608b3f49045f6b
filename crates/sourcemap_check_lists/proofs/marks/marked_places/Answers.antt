use Rattle.std.proofs.Common.{◌≡◌, ◌∙◌, ap, sym, refl, arith, rules, false, get_or, take, length, []}
use Rattle.std.proofs.lemmas.List.{take_all}
use Rattle.sourcemap_check_texts.specs.Doubts.{marked}
use Rattle.sourcemap_check_lists.proofs.MarkLemmas.{marked_next, marked_count}
use Rattle.sourcemap_check_lists.proofs.marks.marked_places.Goals as goal

pub loop-index-init : goal.loop-index-init
loop-index-init c = c.new-first.ensures.items ∙ sym (take_all c.args.most [] (omega arith))

pub loop-index-preserved : goal.loop-index-preserved
loop-index-preserved c =
    c.in_ok-push_if.ensures.pushed _ c.loop-index.invariant
    ∙ ap (take c.args.most) (marked_next (λ i. get_or c.args.marks.now i false) c.loop-index.index _ refl)

pub returns-clause-places : goal.returns-clause-places
returns-clause-places c =
    let end : c.loop-index.index ≡ length c.args.marks.now = omega arith in
    let all : c.count-count.result ≡ length (marked (λ i. get_or c.args.marks.now i false) (length c.args.marks.now)) =
    (search rules) ∙ marked_count c.args.marks.now in
    record {
      first = c.loop-index.invariant ∙ ap (λ n. take c.args.most (marked (λ i. get_or c.args.marks.now i false) n)) end;
      count = all;
    }
