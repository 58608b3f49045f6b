use Rattle.std.proofs.Common.{◌≡◌, codes, is_some, true, string_bytes, subst, sym}
use Rattle.std.specs.List.{list_any}
use Rattle.serde_json.specs.Data.{string}
use Rattle.serde_json.specs.Written.{compact_text}
use Rattle.sourcemap_map_parts.specs.Contents.{fitted}
use Rattle.sourcemap_records.specs.Field.{written_list, written_or_null}
use Rattle.sourcemap_map_encode.specs.Buffered.{Grows}
use Rattle.sourcemap_map_encode.specs.Members.{Entry, key_text, part}
use Rattle.sourcemap_map_encode.proofs.BufferedLemmas.{Grows-join, OnOk-then}
use Rattle.sourcemap_map_encode.proofs.MemberLemmas.{some_contents}
use Rattle.sourcemap_map_encode.proofs.encode.put_contents.Goals as goal

pub returns-clause-text : goal.returns-clause-text
returns-clause-text g c =
    let held = g.W.Write.contents in
    let count = c.args.count in
    let contents = c.args.contents.now in
    let some : list_any is_some (fitted count contents) ≡ true = cc in
    OnOk-then c.put_content_list.result _ _
    (λ value. subst (λ (e : Entry). Grows (held c.args.writer.now) (string_bytes c.args.buffer.now)
    (held c.put_content_list.new.writer) (string_bytes c.put_content_list.new.buffer) (part true e))
    (sym (some_contents count contents some))
    (Grows-join (held c.args.writer.now) (held c.put_key.new.writer) (held c.put_content_list.new.writer)
    (string_bytes c.args.buffer.now) (string_bytes c.put_key.new.buffer) (string_bytes c.put_content_list.new.buffer)
    (key_text true (codes "sourcesContent")) (compact_text
    (written_list (written_or_null string) (fitted count contents))) c.in_ok-put_key.ensures.text value))
    c.put_content_list.ensures.text
