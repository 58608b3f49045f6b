use Rattle.std.proofs.Common.{List, ℕ, string_bytes, subst}
use Rattle.sourcemap_map_encode.specs.Buffered.{Grows}
use Rattle.sourcemap_map_encode.proofs.BufferedLemmas.{OnOk-then}
use Rattle.sourcemap_map_encode.proofs.PlainLemmas.{written-plain}
use Rattle.sourcemap_map_encode.proofs.segments.put_whole_mappings.Goals as goal

pub returns-clause-text : goal.returns-clause-text
returns-clause-text g c =
    let held = g.W.Write.contents in
    let text = string_bytes c.in_ok-text.text in
    let written = c.in_ok-text.ensures.text in
    OnOk-then c.put.result _ _
    (λ put. (
      text,
      record {
        written = written;
        is_plain = written-plain c.args.names c.args.tokens.now text written;
        back = c.in_ok-text.ensures.reads_back;
      },
      subst (λ (t : List ℕ). Grows (held c.args.writer.now) (string_bytes c.args.buffer.now)
          (held c.put.new.writer) (string_bytes c.put.new.buffer) t) c.as_str.ensures.value put,
    ))
    c.put.ensures.text
