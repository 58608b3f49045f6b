use Rattle.std.proofs.Common.{ℕ, List, [], ◌∷◌, ◌++◌, true, false, map, string_bytes, subst, Global}
use Rattle.sourcemap_map_conversions.specs.Parts.{PartsValue}
use Rattle.sourcemap_map_encode.specs.Buffered.{Grows}
use Rattle.sourcemap_map_encode.specs.Members.{part, parts_text, leading_entries, source_entries, version_entry}
use Rattle.sourcemap_map_encode.proofs.BufferedLemmas.{Grows-join, Grows-flushed, Grows-bare, OnOk-both}
use Rattle.sourcemap_map_encode.proofs.WholeLemmas.{whole_of, encoded}
use Rattle.sourcemap_map_encode.proofs.encode.write_parts.Goals as goal

pub returns-clause-written : goal.returns-clause-written
returns-clause-written g c =
    let held = g.W.Write.contents in
    let m : PartsValue = record {
      metadata = c.args.metadata.now;
      tokens = c.args.tokens.now;
      names = map (string_bytes {Z = Global}) c.args.names.now;
      sources = c.args.sources.now;
      contents = c.args.contents.now;
    } in
    let start = held c.args.writer.now in
    let w1 = held c.put.new.writer in
    let w2 = held c.put_leading_members.new.writer in
    let w3 = held c.put_tokens.new.writer in
    let w4 = held c.put_sources.new.writer in
    let w5 = held c.put_version.new.writer in
    let w6 = held c.put-2.new.writer in
    let end = held c.flush.new.writer in
    let b1 = string_bytes c.put.new.buffer in
    let b2 = string_bytes c.put_leading_members.new.buffer in
    let b3 = string_bytes c.put_tokens.new.buffer in
    let b4 = string_bytes c.put_sources.new.buffer in
    let b5 = string_bytes c.put_version.new.buffer in
    let b6 = string_bytes c.put-2.new.buffer in
    let left = string_bytes c.flush.new.buffer in
    let H = parts_text false (leading_entries m.metadata) in
    let S = parts_text true (source_entries m.sources m.contents) in
    let V = part true version_entry in
    let tokens = c.in_ok-put_tokens.ensures.text in
    let opened =
    subst (λ (b : List ℕ). Grows start b w1 b1 (123 ∷ [])) c.in_ok-buffer.ensures.bytes c.in_ok-put.ensures.text in
    OnOk-both c.flush.result _ _ _
    (λ flushed empty. (
      whole_of m tokens.0,
      encoded m c.in_ok-later.later tokens.0 c.in_ok-later.ensures.later c.in_ok-later.ensures.is_plain
          c.in_ok-later.ensures.sound tokens.1
          c.in_ok-put_sources.ensures.is_plain c.in_ok-put_version.ensures.is_plain,
      Grows-bare start end left (whole_of m tokens.0) empty
          (Grows-join start w1 end [] b1 left (123 ∷ []) (H ++ (tokens.0 ++ (S ++ (V ++ (125 ∷ []))))) opened
          (Grows-join w1 w2 end b1 b2 left H (tokens.0 ++ (S ++ (V ++ (125 ∷ [])))) c.in_ok-later.ensures.text
          (Grows-join w2 w3 end b2 b3 left tokens.0 (S ++ (V ++ (125 ∷ []))) tokens.2
          (Grows-join w3 w4 end b3 b4 left S (V ++ (125 ∷ [])) c.in_ok-put_sources.ensures.text
          (Grows-join w4 w5 end b4 b5 left V (125 ∷ []) c.in_ok-put_version.ensures.text
          (Grows-flushed w5 w6 end b5 b6 left (125 ∷ []) c.in_ok-put-2.ensures.text flushed)))))),
    ))
    c.flush.ensures.text c.flush.ensures.empty
