use Rattle.std.proofs.Common.{codes, true, map, string_bytes, Global}
use Rattle.serde_json.specs.Data.{string}
use Rattle.serde_json.specs.Written.{compact_text}
use Rattle.sourcemap_records.specs.Field.{written_list}
use Rattle.sourcemap_map_encode.specs.Members.{key_text}
use Rattle.sourcemap_map_encode.proofs.BufferedLemmas.{Grows-join, OnOk-then}
use Rattle.sourcemap_map_encode.proofs.MemberLemmas.{plain_texts}
use Rattle.sourcemap_map_encode.proofs.encode.put_names.Goals as goal

pub returns-clause-text : goal.returns-clause-text
returns-clause-text g c =
    let held = g.W.Write.contents in
    OnOk-then c.put_texts.result _ _
    (λ value. Grows-join (held c.args.writer.now) (held c.put_key.new.writer) (held c.put_texts.new.writer)
    (string_bytes c.args.buffer.now) (string_bytes c.put_key.new.buffer) (string_bytes c.put_texts.new.buffer)
    (key_text true (codes "names"))
    (compact_text (written_list string (map (string_bytes {Z = Global}) c.args.names.now)))
    c.in_ok-put_key.ensures.text value)
    c.put_texts.ensures.text

pub returns-clause-is_plain : goal.returns-clause-is_plain
returns-clause-is_plain g c =
    OnOk-then c.put_texts.result _ _ (plain_texts (map (string_bytes {Z = Global}) c.args.names.now))
    c.put_texts.ensures.utf8
