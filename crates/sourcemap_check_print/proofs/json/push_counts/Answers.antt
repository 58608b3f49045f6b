use Rattle.std.proofs.Common.{◌++◌, codes, decimal, string_bytes}
use Rattle.sourcemap_check_print.proofs.TextLemmas.{one_more}
use Rattle.sourcemap_check_print.proofs.json.push_counts.Goals as goal

pub returns-clause-text : goal.returns-clause-text
returns-clause-text c =
    let old = string_bytes c.args.text.now in
    let start = codes "{\"counts\":{\"invalid\":" in
    let invalid = decimal c.args.counts.invalid in
    let middle = codes ",\"shown\":" in
    let shown = decimal c.args.shown in
    let later = codes ",\"suspicious\":" in
    let suspicious = decimal c.args.counts.suspicious in
    let first = one_more old start invalid (string_bytes c.push.new.text) (string_bytes c.push_number.new.text)
    c.in_ok-push.ensures.text c.in_ok-push_number.ensures.text in
    let second = one_more old (start ++ invalid) middle (string_bytes c.push_number.new.text)
    (string_bytes c.push-2.new.text) first c.in_ok-push-2.ensures.text in
    let third = one_more old (start ++ invalid ++ middle) shown (string_bytes c.push-2.new.text)
    (string_bytes c.push_number-2.new.text) second c.in_ok-push_number-2.ensures.text in
    let fourth = one_more old (start ++ invalid ++ middle ++ shown) later (string_bytes c.push_number-2.new.text)
    (string_bytes c.push-3.new.text) third c.in_ok-push-3.ensures.text in
    let fifth = one_more old (start ++ invalid ++ middle ++ shown ++ later) suspicious (string_bytes c.push-3.new.text)
    (string_bytes c.push_number-3.new.text) fourth c.in_ok-push_number-3.ensures.text in
    one_more old (start ++ invalid ++ middle ++ shown ++ later ++ suspicious) (codes "},\"findings\":[")
    (string_bytes c.push_number-3.new.text) (string_bytes c.push-4.new.text) fifth c.in_ok-push-4.ensures.text
