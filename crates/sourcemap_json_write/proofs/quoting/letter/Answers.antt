use Rattle.std.proofs.Common.{◌≡◌, get_or, ap, ◌∙◌, arith}
use Rattle.sourcemap_json_write.specs.declared.quoting.TheConstants.{LETTERS}
use Rattle.sourcemap_json_write.proofs.QuoteLemmas.{letter_of_control}
use Rattle.sourcemap_json_write.proofs.quoting.letter.Goals as goal

pub returns-then-byte-lt32 : goal.returns-then-byte-lt32
returns-then-byte-lt32 c =
    let same : c.from.result ≡ c.args.byte = omega arith in
    ap (λ k. get_or LETTERS k 0) same ∙ letter_of_control c.args.byte (omega arith)
