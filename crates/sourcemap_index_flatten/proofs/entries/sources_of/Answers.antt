use Rattle.std.proofs.Common.{string_bytes, arith, ap, ◌∙◌}
use Rattle.sourcemap_index_flatten.proofs.EntriesLemmas.{entries-more}
use Rattle.sourcemap_index_flatten.proofs.entries.sources_of.Goals as goal

pub loop-text-preserved : goal.loop-text-preserved
loop-text-preserved c =
    entries-more c.args.contents.now c.args.sources.now c.loop-text.text-index c.len-id.result c.text-item.result
    c.loop-text-test.true
    c.loop-text.entries.items c.push.new.self.items (record { text = c.as_str.result; contents = c.item_at.result })
    c.loop-text.invariant (omega (arith, c.len-id.ensures, c.loop-text.entries.ok.0))
    (c.as_str.ensures.value ∙ ap string_bytes c.text-item.is) c.item_at.ensures c.in_ok-push.ensures.items
