use Rattle.std.proofs.Common.{codes, string_bytes}
use Rattle.sourcemap_check_print.specs.Json.{entry_json}
use Rattle.sourcemap_check_print.proofs.TextLemmas.{one_more}
use Rattle.sourcemap_check_print.proofs.json.push_later_entry.Goals as goal

pub returns-clause-text : goal.returns-clause-text
returns-clause-text c =
    one_more (string_bytes c.args.text.now) (codes ",") (entry_json c.args.maps.now c.args.entry.now)
    (string_bytes c.push.new.text) (string_bytes c.push_entry.new.text) c.in_ok-push.ensures.text
    c.in_ok-push_entry.ensures.text
