use Rattle.std.proofs.Common.{◌++◌, codes, string_bytes}
use Rattle.sourcemap_check_print.specs.Entries.{position_of}
use Rattle.sourcemap_check_print.specs.Lines.{path_text, position_text, end_text}
use Rattle.sourcemap_check_print.specs.Places.{key_text, map_of, sections_of}
use Rattle.sourcemap_check_print.proofs.TextLemmas.{one_more}
use Rattle.sourcemap_check_print.proofs.lines.push_line.Goals as goal

pub returns-clause-text : goal.returns-clause-text
returns-clause-text c =
    let old = string_bytes c.args.text.now in
    let entry = c.args.entry.now in
    let path = path_text (sections_of c.args.maps.now (map_of entry)) in
    let position = position_text (position_of entry) in
    let placed = rw c.position_of.ensures at c.in_ok-push_position.ensures.text in
    let pushed = rw (c.as_slice.ensures.value, c.in_ok-sections.ensures) at c.in_ok-push_path.ensures.text in
    let first = one_more old (codes "MAP:") path (string_bytes c.push.new.text) (string_bytes c.push_path.new.text)
    c.in_ok-push.ensures.text pushed in
    let second = one_more old (codes "MAP:" ++ path) (key_text entry) (string_bytes c.push_path.new.text)
    (string_bytes c.push_key.new.text) first c.in_ok-push_key.ensures.text in
    let third = one_more old (codes "MAP:" ++ path ++ key_text entry) position (string_bytes c.push_key.new.text)
    (string_bytes c.push_position.new.text) second placed in
    one_more old (codes "MAP:" ++ path ++ key_text entry ++ position) (end_text entry)
    (string_bytes c.push_position.new.text) (string_bytes c.push_end.new.text) third c.in_ok-push_end.ensures.text
