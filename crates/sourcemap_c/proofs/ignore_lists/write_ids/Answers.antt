use Rattle.std.proofs.Common.{◌≡◌, ◌∙◌, ◌+◌, ◌++◌, ◌∷◌, [], append_assoc, ap, arith, length, set, subst, sym}
use Rattle.std.proofs.lemmas.List.{length-append, length_push}
use Rattle.sourcemap_c.specs.Segments.{Overwrites, fitting}
use Rattle.sourcemap_c.proofs.IgnoreListsLemmas.{all_written, set_next_id}
use Rattle.sourcemap_c.proofs.ignore_lists.write_ids.Goals as goal

pub loop-count-preserved : goal.loop-count-preserved
loop-count-preserved c =
    let l = c.loop-count in
    let h = l.invariant in
    let id = c.in-Some.id.now in
    let old = c.args.ids.now in
    let same = l.auto.ids in
    let space = c.loop-count-test.true in (
      h.0 ++ id ∷ [],
      h.1 ∙ ap (λ left. h.0 ++ left) c.in-Some.ensures.steps ∙ sym (append_assoc h.0 (id ∷ []) c.next.new.self),
      length_push h.0 id ∙ ap (λ n. n + 1) h.2,
      ap (λ ids. set ids l.count id) h.3 ∙ set_next_id h.0 old l.count id h.2 (omega (arith, same, space)),
      omega (arith, same, space),
    )

pub returns-in-None : goal.returns-in-None
returns-in-None c =
    let l = c.loop-count in
    let h = l.invariant in
    let all = length-append h.0 l.left in
    let none = ap length c.in-None.ensures.steps.0 in
    let fits : fitting (h.0 ++ l.left) c.args.ids.now ≡ l.count = omega (arith, all, none, h.2, h.4) in
    subst (λ xs. Overwrites xs l.count c.args.ids.now l.ids) (sym h.1)
    (sym fits, h.3 ∙ all_written h.0 l.left c.args.ids.now l.count h.2 fits)

pub returns : goal.returns
returns c =
    let l = c.loop-count in
    let h = l.invariant in
    let same = l.auto.ids in
    let full = c.loop-count-test.false in
    let all = length-append h.0 l.left in
    let fits : fitting (h.0 ++ l.left) c.args.ids.now ≡ l.count = omega (arith, all, same, full, h.2, h.4) in
    subst (λ xs. Overwrites xs l.count c.args.ids.now l.ids) (sym h.1)
    (sym fits, h.3 ∙ all_written h.0 l.left c.args.ids.now l.count h.2 fits)
