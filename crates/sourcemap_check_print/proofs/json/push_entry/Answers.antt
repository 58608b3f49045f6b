use Rattle.std.proofs.Common.{◌++◌, codes, decimal, string_bytes}
use Rattle.sourcemap_check_print.specs.Entries.{position_of}
use Rattle.sourcemap_check_print.specs.Json.{code_json, position_json, end_json, separated}
use Rattle.sourcemap_check_print.specs.Places.{key_text, map_of, sections_of}
use Rattle.sourcemap_check_print.proofs.TextLemmas.{one_more}
use Rattle.sourcemap_check_print.proofs.json.push_entry.Goals as goal

pub returns-clause-text : goal.returns-clause-text
returns-clause-text c =
    let old = string_bytes c.args.text.now in
    let entry = c.args.entry.now in
    let code = code_json entry in
    let key = key_text entry in
    let at = codes "\",\"position\":" in
    let position = position_json (position_of entry) in
    let inside = codes ",\"sections\":[" in
    let sections = separated decimal (sections_of c.args.maps.now (map_of entry)) in
    let placed = rw c.position_of.ensures at c.in_ok-push_position.ensures.text in
    let pushed = rw (c.as_slice.ensures.value, c.in_ok-sections.ensures) at c.in_ok-push_sections.ensures.text in
    let first = one_more old code key (string_bytes c.push_code.new.text) (string_bytes c.push_key.new.text)
    c.in_ok-push_code.ensures.text c.in_ok-push_key.ensures.text in
    let second = one_more old (code ++ key) at (string_bytes c.push_key.new.text) (string_bytes c.push.new.text)
    first c.in_ok-push.ensures.text in
    let third = one_more old (code ++ key ++ at) position (string_bytes c.push.new.text)
    (string_bytes c.push_position.new.text) second placed in
    let fourth = one_more old (code ++ key ++ at ++ position) inside (string_bytes c.push_position.new.text)
    (string_bytes c.push-2.new.text) third c.in_ok-push-2.ensures.text in
    let fifth = one_more old (code ++ key ++ at ++ position ++ inside) sections (string_bytes c.push-2.new.text)
    (string_bytes c.push_sections.new.text) fourth pushed in
    one_more old (code ++ key ++ at ++ position ++ inside ++ sections) (end_json entry)
    (string_bytes c.push_sections.new.text) (string_bytes c.push_end.new.text) fifth c.in_ok-push_end.ensures.text
