use Rattle.std.proofs.Common.{◌++◌, codes, decimal, string_bytes}
use Rattle.sourcemap_check_print.specs.Entries.{code_of}
use Rattle.sourcemap_check_print.proofs.TextLemmas.{one_more}
use Rattle.sourcemap_check_print.proofs.json.push_code.Goals as goal

pub returns-clause-text : goal.returns-clause-text
returns-clause-text c =
    let old = string_bytes c.args.text.now in
    let number = decimal (code_of c.args.entry.now) in
    let pushed = rw c.code_of-code.ensures at c.in_ok-push_number.ensures.text in
    let first = one_more old (codes "{\"code\":\"SM") number (string_bytes c.push.new.text)
    (string_bytes c.push_number.new.text) c.in_ok-push.ensures.text pushed in
    one_more old (codes "{\"code\":\"SM" ++ number) (codes "\",\"key\":\"") (string_bytes c.push_number.new.text)
    (string_bytes c.push-2.new.text) first c.in_ok-push-2.ensures.text
