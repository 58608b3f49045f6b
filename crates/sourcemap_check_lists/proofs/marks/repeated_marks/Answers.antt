use Rattle.std.proofs.Common.{◌≡◌, ◌<◌, ◌∙◌, ap, sym, map, string_bytes, get_or, length}
use Rattle.std.proofs.lemmas.List.{length-map, get_or-map}
use Rattle.sourcemap_check_lists.proofs.RepeatLemmas.{RepeatedSoFar-more}
use Rattle.sourcemap_check_lists.proofs.marks.repeated_marks.Goals as goal

pub loop-text-preserved : goal.loop-text-preserved
loop-text-preserved c =
    let within : c.loop-text.text-index < length (map string_bytes c.args.texts.now) =
    rw (length-map c.args.texts.now string_bytes) c.loop-text-test.true in
    let at : string_bytes c.text-item.result
    ≡ get_or (map string_bytes c.args.texts.now) c.loop-text.text-index (string_bytes c.text-item.result) =
    ap string_bytes c.text-item.is
    ∙ sym (get_or-map string_bytes c.args.texts.now c.loop-text.text-index c.text-item.result
    (string_bytes c.text-item.result) c.loop-text-test.true) in
    RepeatedSoFar-more _ _ _ _ _ _ _ _ c.loop-text.invariant within at
    (rw c.as_str.ensures.value at c.contains.ensures)
    (rw c.as_str-in-loop-text.ensures.value at c.in_ok-_number.ensures.texts) c.in_ok-push.ensures.items
