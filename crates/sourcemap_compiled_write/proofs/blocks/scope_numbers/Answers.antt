use Rattle.std.proofs.Common.{ℕ, List, ◌++◌, ◌∙◌, ap, drop, length, replicate}
use Rattle.std.proofs.lemmas.List.{drop-replicate}
use Rattle.sourcemap_compiled_write.proofs.blocks.scope_numbers.Goals as goal

pub returns : goal.returns
returns c =
    let many = length c.args.scopes.now in
    ap (λ (xs : List ℕ). xs ++ drop many (replicate 64 0)) c.copy_from_slice.ensures.after
    ∙ ap (λ (ys : List ℕ). c.args.scopes.now ++ ys) (drop-replicate many 64 0)
