use Rattle.std.proofs.Common.{◌≡◌, ◌≢◌, ◌++◌, ◌∷◌, [], ℕ, Some, length, get_or, slice_get, arith, refl, sym, ap, ◌∙◌}
use Rattle.std.proofs.lemmas.Option.{slice_get-get_or, slice_get_read, slice_get_within}
use Rattle.sourcemap_tokens.proofs.AllLemmas.{All-at}
use Rattle.sourcemap_map_rewrite.specs.Numbering.{IsSeen}
use Rattle.sourcemap_map_rewrite.proofs.KeptTextsLemmas.{first-more, first-same}
use Rattle.sourcemap_map_rewrite.proofs.first_ids.first_ids.Goals as goal
use Rattle.sourcemap_map_rewrite.proofs.first_ids.first_ids.Goals.{then-index-len+in_ok-push, else-index-len}

pub loop-id-preserved : goal.loop-id-preserved
loop-id-preserved c texts is =
    let n = c.args.numbers.now in
    let i = c.loop-id.id-index in
    let order = c.deref-id-items.result.now in
    let id : ℕ = get_or order i 0 in
    let at : slice_get n.order.items i ≡ Some id =
    ap (λ ids. slice_get ids i) (sym c.deref-id-items.ensures.value) ∙ slice_get-get_or order i 0 c.loop-id-test.true in
    let seen = All-at (IsSeen texts n) n.order.items i id at is.seen in
    let number : ℕ = c.index.result.now in
    let numbered : slice_get n.numbers.items id ≡ Some number =
    slice_get_read n.numbers.items (length n.numbers.items) id number refl
    (slice_get_within n.numbers.items id seen.number seen.numbered) c.index.ensures in
    let ids = c.loop-id.ids.items in
    let so_far = c.loop-id.invariant texts is in
    elim c.if-index-len.branch [
      | then-index-len+in_ok-push w ↦
          let next : number ≡ length ids = omega (arith, w.if-index-len.true, c.len.ensures, c.loop-id.ids.ok.0) in
          let pushed : c.if-index-len.ids.items ≡ ids ++ id ∷ [] =
          ap (λ v. v.items) w.ids-is ∙ w.in_ok-push.ensures.items in
          first-more texts n is i id number at numbered ids so_far next c.if-index-len.ids.items pushed
      | else-index-len w ↦
          let other : number ≢ length ids =
          λ e. w.if-index-len.false (omega (arith, e, c.len.ensures, c.loop-id.ids.ok.0)) in
          ap (λ v. v.items) w.ids-is ∙ first-same texts n is i id number at numbered ids so_far other
    ]
