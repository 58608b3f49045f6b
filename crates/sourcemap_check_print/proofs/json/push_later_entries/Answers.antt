use Rattle.std.proofs.Common.{◌++◌, codes, string_bytes}
use Rattle.sourcemap_check_print.specs.Json.{entry_json}
use Rattle.sourcemap_check_print.proofs.TextLemmas.{one_item_more}
use Rattle.sourcemap_check_print.proofs.json.push_later_entries.Goals as goal

pub loop-entry-preserved : goal.loop-entry-preserved
loop-entry-preserved c =
    one_item_more (λ entry. codes "," ++ entry_json c.args.maps.now entry) c.args.entries.now
    c.loop-entry.entry-index _ (string_bytes c.args.text.now) (string_bytes c.loop-entry.text)
    (string_bytes c.push_later_entry.new.text) c.loop-entry-test.true c.loop-entry.invariant
    c.in_ok-push_later_entry.ensures.text
