use Rattle.std.proofs.Common.{◌++◌, codes, string_bytes, w32}
use Rattle.std.proofs.lemmas.Int.{to_z-of_z}
use Rattle.std.specs.Fmt.{signed_decimal}
use Rattle.sourcemap_check_print.proofs.TextLemmas.{one_more}
use Rattle.sourcemap_check_print.proofs.json.push_shift.Goals as goal

pub returns-clause-text : goal.returns-clause-text
returns-clause-text c =
    let old = string_bytes c.args.text.now in
    let start = codes "{\"columns\":" in
    let columns = signed_decimal c.args.columns in
    let middle = codes ",\"lines\":" in
    let lines = signed_decimal c.args.lines in
    let columns_pushed = rw (to_z-of_z w32 c.args.columns c.ranges.columns) at c.in_ok-push_signed.ensures.text in
    let lines_pushed = rw (to_z-of_z w32 c.args.lines c.ranges.lines) at c.in_ok-push_signed-2.ensures.text in
    let first = one_more old start columns (string_bytes c.push.new.text) (string_bytes c.push_signed.new.text)
    c.in_ok-push.ensures.text columns_pushed in
    let second = one_more old (start ++ columns) middle (string_bytes c.push_signed.new.text)
    (string_bytes c.push-2.new.text) first c.in_ok-push-2.ensures.text in
    let third = one_more old (start ++ columns ++ middle) lines (string_bytes c.push-2.new.text)
    (string_bytes c.push_signed-2.new.text) second lines_pushed in
    one_more old (start ++ columns ++ middle ++ lines) (codes "}") (string_bytes c.push_signed-2.new.text)
    (string_bytes c.push-3.new.text) third c.in_ok-push-3.ensures.text
