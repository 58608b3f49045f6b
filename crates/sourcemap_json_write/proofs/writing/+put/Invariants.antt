use Rattle.std.proofs.Common.{◌≡◌, List, ◌∷◌, ◌++◌, false, drop}
use Rattle.serde_json.specs.Data.{no_members}
use Rattle.serde_json.specs.View.{items_view, members_view}
use Rattle.serde_json.specs.Written.{items_text, members_text}
use Rattle.serde_json.proofs.Views.{Entry}
use Rattle.sourcemap_json_write.specs.Writing.{ArePlainItems}
use Rattle.sourcemap_json_write.proofs.WritingLemmas.{IsPlainRest}
use Rattle.sourcemap_json_write.proofs.writing.+put.Given as goal

-- the output so far, followed by the text of the remaining items, is the whole output. If the remaining items are
-- plain, then all items are plain
abbrev pub invariant-put_items-loop-item : goal.invariant-put_items-loop-item
invariant-put_items-loop-item l =
    (l.out.items ++ items_text l.later (items_view (drop l.item-index l.item-items))
    ≡ l.fn.out.items ++ 91 ∷ items_text false (items_view l.item-items))
    × (ArePlainItems (items_view (drop l.item-index l.item-items)) → ArePlainItems (items_view l.item-items))

abbrev pub invariant-put_members-loop-key : goal.invariant-put_members-loop-key
invariant-put_members-loop-key l =
    let all = members_view l.members.entries in
    (l.out.items ++ members_text l.later (members_view l.key-iterator)
    ≡ l.fn.out.items ++ 123 ∷ members_text false (members_view l.members.entries))
    × (done : List Entry) × (l.members.entries ≡ done ++ l.key-iterator)
    × (IsPlainRest (members_view done) (members_view l.key-iterator) all → IsPlainRest no_members all all)
