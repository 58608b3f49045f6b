use Rattle.std.proofs.Common.{◌≡◌, ◌≢◌, ◌+◌, ◌++◌, ◌∷◌, [], ℕ, List, Some, length, map, take, get_or, slice_get}
use Rattle.std.proofs.Common.{slice_set, string_bytes, arith, refl, sym, ap, subst, ◌∙◌}
use Rattle.std.specs.declared.alloc.Global.{Global}
use Rattle.std.proofs.lemmas.List.{length-map, length-set, map_push}
use Rattle.std.proofs.lemmas.Option.{slice_get-get_or, slice_get_read, slice_get_within}
use Rattle.sourcemap_texts.specs.Texts.{texts_of}
use Rattle.sourcemap_map_rewrite.specs.Numbering.{texts_in_use, IsSeen}
use Rattle.sourcemap_tokens.proofs.AllLemmas.{All-at}
use Rattle.sourcemap_map_rewrite.proofs.KeptTextsLemmas.{AreLeftOrMoved, moved-more, left_or_moved-more, moved-same}
use Rattle.sourcemap_map_rewrite.proofs.KeptTextsLemmas.{left_or_moved-same}
use Rattle.sourcemap_map_rewrite.proofs.kept_texts.kept_texts.Goals as goal
use Rattle.sourcemap_map_rewrite.proofs.kept_texts.kept_texts.Goals.{then-index-len+in_ok-push, else-index-len}

pub loop-id-preserved : goal.loop-id-preserved
loop-id-preserved c =
    let T : List (List ℕ) = texts_of c.args.texts in
    let n = c.args.numbers.now in
    let i = c.loop-id.id-index in
    let order = c.deref-id-items.result.now in
    let id : ℕ = get_or order i 0 in
    let at : slice_get n.order.items i ≡ Some id =
    ap (λ ids. slice_get ids i) (sym c.deref-id-items.ensures.value) ∙ slice_get-get_or order i 0 c.loop-id-test.true in
    let seen = All-at (IsSeen T n) n.order.items i id at c.requires.seen in
    let number : ℕ = c.index.result.now in
    let numbered : slice_get n.numbers.items id ≡ Some number =
    slice_get_read n.numbers.items (length n.numbers.items) id number refl
    (slice_get_within n.numbers.items id seen.number seen.numbered) c.index.ensures in
    let so_far = c.loop-id.invariant in
    let now = texts_of c.loop-id.texts in
    let moved = texts_of c.loop-id.kept in
    let many : length moved ≡ length c.loop-id.kept.items =
    length-map c.loop-id.kept.items (string_bytes {Z = Global}) in
    elim c.if-index-len.branch [
      | then-index-len+in_ok-push w ↦
          let taken = string_bytes w.take_text.result in
          let next : number ≡ length moved =
          omega (arith, w.if-index-len.true, c.len.ensures, c.loop-id.kept.ok.0, many) in
          let pushed : texts_of c.if-index-len.kept ≡ moved ++ taken ∷ [] =
          ap texts_of w.kept-is ∙ ap (map (string_bytes {Z = Global})) w.in_ok-push.ensures.items
          ∙ map_push (string_bytes {Z = Global}) c.loop-id.kept.items w.take_text.result in
          let left : texts_of c.if-index-len.texts ≡ slice_set now id [] =
          ap texts_of w.texts-is ∙ w.take_text.ensures.left in
          record {
            moved = moved-more T n c.requires i id number at numbered now moved so_far.left_or_moved so_far.moved taken
                next w.take_text.ensures.taken (texts_of c.if-index-len.kept) pushed;
            left_or_moved = left_or_moved-more T n c.requires i id number at numbered now moved so_far.left_or_moved
                so_far.moved taken next w.take_text.ensures.taken (texts_of c.if-index-len.texts) left;
            many = ap length left ∙ length-set now id [] ∙ so_far.many;
          }
      | else-index-len w ↦
          let other : number ≢ length moved =
          λ e. w.if-index-len.false (omega (arith, e, c.len.ensures, c.loop-id.kept.ok.0, many)) in
          record {
            moved = ap texts_of w.kept-is
                ∙ moved-same T n c.requires i id number at numbered now moved so_far.left_or_moved so_far.moved other;
            left_or_moved = subst (λ xs. AreLeftOrMoved T xs (texts_in_use T (take (i + 1) n.order.items))) (ap texts_of
                (sym w.texts-is))
                (left_or_moved-same T n c.requires i id number at numbered now moved so_far.left_or_moved
                so_far.moved other);
            many = ap (λ xs. length (texts_of xs)) w.texts-is ∙ so_far.many;
          }
    ]
