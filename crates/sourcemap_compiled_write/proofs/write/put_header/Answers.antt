use Rattle.std.proofs.Common.{◌∙◌, ◌++◌, List, ℕ, ap, drop, sym}
use Rattle.std.proofs.lemmas.List.{length-take-le}
use Rattle.sourcemap_compiled_write.proofs.write.put_header.Goals as goal

pub copy_from_slice-requires : goal.copy_from_slice-requires
copy_from_slice-requires c = length-take-le 64 c.args.file.now c.requires.room ∙ sym c.requires.whole

pub returns : goal.returns
returns c = ap (λ (l : List ℕ). l ++ drop 64 c.args.file.now) c.copy_from_slice.ensures.after
