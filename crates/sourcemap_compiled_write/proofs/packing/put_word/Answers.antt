use Rattle.std.proofs.Common.{◌∙◌, ◌+◌, ◌-◌, ◌++◌, List, ℕ, ap, length, take, arith}
use Rattle.std.proofs.lemmas.Slice.{take-put_mid}
use Rattle.sourcemap_compiled_write.proofs.packing.put_word.Goals as goal

pub returns : goal.returns
returns c =
    let bytes = c.args.bytes.now in
    let many = ap (λ (l : List ℕ). length l) c.copy_from_slice.ensures.after in
    let four = ap (λ (l : List ℕ). length l) c.to_le_bytes.ensures in
    take-put_mid c.args.at (c.args.at + 4 - c.args.at) bytes _ (c.args.at + 4) (omega arith) (omega arith)
    ∙ ap (λ (l : List ℕ). take c.args.at bytes ++ l) (c.copy_from_slice.ensures.after ∙ c.to_le_bytes.ensures)
