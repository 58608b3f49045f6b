use Rattle.std.proofs.Common.{◌≡◌, List, ◌++◌, take, map}
use Rattle.serde_json.specs.View.{view, members_view}
use Rattle.serde_json.proofs.Views.{Entry}
use Rattle.sourcemap_json_read.specs.Kept.{kept, kept_members}
use Rattle.sourcemap_json_read.proofs.kept.+copy.Given as goal

abbrev pub invariant-copy_items-loop-item : goal.invariant-copy_items-loop-item
invariant-copy_items-loop-item g l =
    map view l.copies.items ≡ map (λ v. kept g.L.Level.inside l.level (view v)) (take l.item-index l.item-items)

abbrev pub invariant-copy_members-loop-key : goal.invariant-copy_members-loop-key
invariant-copy_members-loop-key g l =
    (done : List Entry) × (l.members.entries ≡ done ++ l.key-iterator)
    × (members_view l.copies.entries ≡ kept_members g.L.Level.inside l.level (members_view done))
