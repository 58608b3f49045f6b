use Rattle.std.proofs.Common.{◌≡◌, ◌-◌, ◌++◌, replicate, string_bytes, ap, ◌∙◌, arith}
use Rattle.sourcemap_mappings.specs.Segment.{semicolon}
use Rattle.sourcemap_mappings.proofs.write.push_line_ends.Goals as goal

pub returns : goal.returns
returns c = record {
  text =
      let all : c.loop-line._line - c.args.from ≡ c.args.to - c.args.from = omega arith in
      c.loop-line.invariant.added ∙ ap (λ n. string_bytes c.args.text.now ++ replicate n semicolon) all;
}
