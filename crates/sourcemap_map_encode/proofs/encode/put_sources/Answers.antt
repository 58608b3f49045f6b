use Rattle.std.proofs.Common.{ℕ, List, Option, codes, length, true, string_bytes, subst}
use Rattle.serde_json.specs.Data.{string}
use Rattle.serde_json.specs.Written.{compact_text}
use Rattle.sourcemap_records.specs.Field.{written_list}
use Rattle.sourcemap_map_encode.specs.Buffered.{Grows}
use Rattle.sourcemap_map_encode.specs.Members.{key_text, part, root_entry, sources_entry, contents_entry}
use Rattle.sourcemap_map_encode.proofs.BufferedLemmas.{Grows-join, Grows-three, OnOk-then}
use Rattle.sourcemap_map_encode.proofs.encode.put_sources.Goals as goal

pub returns-clause-text : goal.returns-clause-text
returns-clause-text g c =
    let held = g.W.Write.contents in
    let s = c.args.sources.now in
    let contents = c.args.contents.now in
    let h = held c.args.writer.now in
    let i = held c.put_text_if.new.writer in
    let j = held c.put_unresolved_sources.new.writer in
    let k = held c.put_contents.new.writer in
    let a = string_bytes c.args.buffer.now in
    let b = string_bytes c.put_text_if.new.buffer in
    let d = string_bytes c.put_unresolved_sources.new.buffer in
    let e = string_bytes c.put_contents.new.buffer in
    let root = subst (λ (r : Option (List ℕ)). Grows h a i b
    (part true (root_entry r))) c.root.ensures c.in_ok-put_text_if.ensures.text in
    let sources = Grows-join i (held c.put_key.new.writer) j b (string_bytes c.put_key.new.buffer) d
    (key_text true (codes "sources")) (compact_text
    (written_list string s.texts)) c.in_ok-put_key.ensures.text c.in_ok-put_unresolved_sources.ensures.text in
    OnOk-then c.put_contents.result _ _
    (λ put. Grows-three h i j k a b d e
    (part true (root_entry s.root)) (part true (sources_entry s.texts))
    (part true (contents_entry (length s.texts) contents)) root sources
    (subst (λ (n : ℕ). Grows j d k e (part true (contents_entry n contents))) c.len.ensures put))
    c.put_contents.ensures.text
