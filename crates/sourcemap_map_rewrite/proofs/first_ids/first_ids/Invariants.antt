use Rattle.std.proofs.Common.{◌≡◌, ℕ, List, map, take}
use Rattle.sourcemap_map_rewrite.specs.FirstIds.{first_of}
use Rattle.sourcemap_map_rewrite.specs.Numbering.{AreNumbered, texts_in_use}
use Rattle.sourcemap_map_rewrite.proofs.first_ids.first_ids.Given as goal

abbrev pub invariant-loop-id : goal.invariant-loop-id
invariant-loop-id l =
    (texts : List (List ℕ)) → AreNumbered texts l.numbers
    → l.ids.items
    ≡ map (first_of texts l.numbers.order.items) (texts_in_use texts (take l.id-index l.numbers.order.items))
