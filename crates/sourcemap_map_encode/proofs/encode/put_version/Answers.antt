use Rattle.std.proofs.Common.{codes, true, string_bytes, arith}
use Rattle.serde_json.specs.Written.{compact_text}
use Rattle.sourcemap_records.specs.Field.{written_number}
use Rattle.sourcemap_map_encode.specs.Members.{key_text}
use Rattle.sourcemap_map_encode.proofs.BufferedLemmas.{Grows-join, OnOk-then, OnOk-any}
use Rattle.sourcemap_map_encode.proofs.MemberLemmas.{plain_number}
use Rattle.sourcemap_map_encode.proofs.encode.put_version.Goals as goal

pub returns-clause-text : goal.returns-clause-text
returns-clause-text g c =
    let held = g.W.Write.contents in
    OnOk-then c.put_number.result _ _
    (λ value. Grows-join (held c.args.writer.now) (held c.put_key.new.writer) (held c.put_number.new.writer)
    (string_bytes c.args.buffer.now) (string_bytes c.put_key.new.buffer) (string_bytes c.put_number.new.buffer)
    (key_text true (codes "version")) (compact_text (written_number 3)) c.in_ok-put_key.ensures.text value)
    c.put_number.ensures.text

pub returns-clause-is_plain : goal.returns-clause-is_plain
returns-clause-is_plain g c = OnOk-any c.put_number.result _ (plain_number 3 (omega arith))
