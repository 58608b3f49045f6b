use Rattle.std.proofs.Common.{◌++◌, codes, string_bytes}
use Rattle.sourcemap_check_print.specs.Entries.{sentence_of, severity_of}
use Rattle.sourcemap_check_print.proofs.TextLemmas.{one_more}
use Rattle.sourcemap_check_print.proofs.json.push_end.Goals as goal

pub returns-clause-text : goal.returns-clause-text
returns-clause-text c =
    let old = string_bytes c.args.text.now in
    let entry = c.args.entry.now in
    let start = codes "],\"sentence\":\"" in
    let middle = codes "\",\"severity\":\"" in
    let says = rw c.sentence_of.ensures at c.in_ok-push-2.ensures.text in
    let weighs = rw c.severity_of.ensures at c.in_ok-push-4.ensures.text in
    let first = one_more old start (sentence_of entry) (string_bytes c.push.new.text)
    (string_bytes c.push-2.new.text) c.in_ok-push.ensures.text says in
    let second = one_more old (start ++ sentence_of entry) middle (string_bytes c.push-2.new.text)
    (string_bytes c.push-3.new.text) first c.in_ok-push-3.ensures.text in
    let third = one_more old (start ++ sentence_of entry ++ middle) (severity_of entry)
    (string_bytes c.push-3.new.text) (string_bytes c.push-4.new.text) second weighs in
    one_more old (start ++ sentence_of entry ++ middle ++ severity_of entry) (codes "\"}")
    (string_bytes c.push-4.new.text) (string_bytes c.push-5.new.text) third c.in_ok-push-5.ensures.text
