use Rattle.std.proofs.Common.{List, codes, string_bytes, subst}
use Rattle.sourcemap_tokens.specs.declared.tokens.RawToken.{RawToken}
use Rattle.sourcemap_map_encode.specs.Buffered.{GrowsBy}
use Rattle.sourcemap_map_encode.specs.Segments.{IsMappingsText}
use Rattle.sourcemap_map_encode.proofs.BufferedLemmas.{OnOk-then}
use Rattle.sourcemap_map_encode.proofs.SegmentLemmas.{member-grown}
use Rattle.sourcemap_map_encode.proofs.encode.put_mappings_member.Goals as goal

pub returns-clause-text : goal.returns-clause-text
returns-clause-text g c =
    let held = g.W.Write.contents in
    let i = held c.put.new.writer in
    let b = string_bytes c.put.new.buffer in
    let k = held c.put_mappings.new.writer in
    let d = string_bytes c.put_mappings.new.buffer in
    let text = subst (λ (ts : List RawToken). GrowsBy (IsMappingsText c.args.names ts) i b k d)
    c.as_slice.ensures.value c.in_ok-put_mappings.ensures.text in
    OnOk-then c.put-2.result _ _
    (λ closed. member-grown c.args.later (codes "mappings") (IsMappingsText c.args.names c.args.tokens.now)
    (λ t is. is.is_plain)
    (held c.args.writer.now) (held c.put_key.new.writer) i k (held c.put-2.new.writer)
    (string_bytes c.args.buffer.now) (string_bytes c.put_key.new.buffer) b d (string_bytes c.put-2.new.buffer)
    c.in_ok-put_key.ensures.text c.in_ok-put.ensures.text text closed)
    c.put-2.ensures.text
