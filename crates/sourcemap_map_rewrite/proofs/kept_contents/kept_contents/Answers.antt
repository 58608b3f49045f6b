use Rattle.std.proofs.Common.{◌≡◌, ◌<◌, ℕ, Some, take, get_or, slice_get, sym, ap, subst, ◌∙◌}
use Rattle.std.proofs.lemmas.List.{take_more}
use Rattle.std.proofs.lemmas.Option.{slice_get-get_or, get_or_from_slice_get}
use Rattle.sourcemap_map_rewrite.specs.KeptContents.{AreKept, HasNewNumber}
use Rattle.sourcemap_tokens.proofs.AllLemmas.{All-at}
use Rattle.sourcemap_map_rewrite.proofs.KeptContentsLemmas.{kept-more, left-more}
use Rattle.sourcemap_map_rewrite.proofs.kept_contents.kept_contents.Goals as goal

pub loop-id-preserved : goal.loop-id-preserved
loop-id-preserved c =
    let order = c.args.order.now in
    let numbers = c.args.numbers.now in
    let i = c.loop-id.id-index in
    let id : ℕ = get_or order i 0 in
    let new_id : ℕ = get_or numbers id 0 in
    let old = c.args.contents.items in
    let interned =
    All-at (HasNewNumber numbers c.args.count) order i id (slice_get-get_or order i 0 c.loop-id-test.true) c.requires in
    let same : new_id ≡ interned.0 = get_or_from_slice_get numbers id interned.0 0 interned.1 in
    let named : slice_get numbers id ≡ Some new_id = interned.1 ∙ ap Some (sym same) in
    let within : new_id < c.args.count = subst (λ n. n < c.args.count) (sym same) interned.2 in
    let so_far = c.loop-id.invariant in
    record {
      kept = subst (λ ids. AreKept numbers ids old c.args.count c.move_contents.new.kept.items) (sym
          (take_more order i 0 c.loop-id-test.true))
          (kept-more numbers (take i order) old c.loop-id.contents.items c.loop-id.kept.items
          c.move_contents.new.contents.items c.move_contents.new.kept.items c.args.count id new_id so_far.kept
          so_far.left named within c.move_contents.ensures.kept c.move_contents.ensures.left);
      left = left-more numbers (take i order) old c.loop-id.contents.items c.loop-id.kept.items
          c.move_contents.new.contents.items c.move_contents.new.kept.items c.args.count id new_id
          so_far.kept so_far.left
          named within c.move_contents.ensures.kept c.move_contents.ensures.left;
    }
