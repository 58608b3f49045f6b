use Rattle.std.proofs.Common.{[], ◌∷◌, ◌++◌, string_bytes}
use Rattle.json.specs.Print.{quoted}
use Rattle.serde_json.specs.Written.{comma_if}
use Rattle.sourcemap_map_encode.proofs.BufferedLemmas.{Grows-into, Grows-join, OnOk-then}
use Rattle.sourcemap_map_encode.proofs.members.put_key.Goals as goal

pub returns-clause-text : goal.returns-clause-text
returns-clause-text g c =
    let held = g.W.Write.contents in
    let h = held c.args.writer.now in
    let i = held c.put_text.new.writer in
    let j = held c.put.new.writer in
    let a = string_bytes c.args.buffer.now in
    let b = string_bytes c.put_comma.new.buffer in
    let d = string_bytes c.put_text.new.buffer in
    let e = string_bytes c.put.new.buffer in
    let key = quoted c.args.key.now in
    OnOk-then c.put.result _ _
    (λ colon. Grows-join h h j a b e (comma_if c.args.later) (key ++ 58 ∷ [])
    (Grows-into h a b (comma_if c.args.later) c.in_ok-put_comma.ensures)
    (Grows-join h i j b d e key (58 ∷ []) c.in_ok-put_text.ensures.text colon))
    c.put.ensures.text
