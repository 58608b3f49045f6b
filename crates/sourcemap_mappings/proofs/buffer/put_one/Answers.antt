use Rattle.std.proofs.Common.{◌≡◌, ℕ, ◌+◌, ◌-◌, ◌%◌, ◌<◌, List, [], ◌∷◌, ◌++◌, take, ◌∙◌, ap, subst, sym, arith}
use Rattle.std.proofs.lemmas.List.{take_more_set}
use Rattle.sourcemap_vlq.specs.Vlq.{glyph}
use Rattle.sourcemap_mappings.specs.Write.{difference}
use Rattle.sourcemap_mappings.specs.Buffer.{Adds, raw_difference}
use Rattle.sourcemap_mappings.proofs.BufferLemmas.{Adds-last, near-at, near-raw, near-small}
use Rattle.sourcemap_mappings.proofs.buffer.put_one.Goals as goal

pub returns-then-near-lt31-clause-text : goal.returns-then-near-lt31-clause-text
returns-then-near-lt31-clause-text c =
    let a = c.args.number in
    let b = c.args.against in
    let near : ℕ = (c.from.result + 15 + (18446744073709551616 - c.from-2.result)) % 18446744073709551616 in
    let below : near < 31 = c.if-near-lt31.true in
    let counted : near + b ≡ a + 15 = omega (arith, c.from.ensures, c.from-2.ensures) in
    let raw : raw_difference near 15 ≡ raw_difference a b = near-raw a b near counted in
    let low : raw_difference a b < 32 = subst (λ (r : ℕ). r < 32) raw (near-small near below) in
    let start = take c.args.at c.args.buffer.now in
    let written = take_more_set c.args.buffer.now c.args.at _ (omega arith) ∙ ap (λ g. start ++ g
    ∷ []) (near-at near below ∙ ap glyph raw) in
    subst (λ (t : List ℕ). Adds (difference a b ∷ []) start t) (sym written)
    (Adds-last a b start [] (raw_difference a b) (omega arith) (omega arith) tt low (omega arith) (λ h. omega arith))
