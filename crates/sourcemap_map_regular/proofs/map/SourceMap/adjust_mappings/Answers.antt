use Rattle.std.proofs.Common.{◌≡◌, ◌≤◌, ◌∙◌, sym, ap, subst, length, Ok, arith}
use Rattle.sourcemap_compose.specs.Composition.{composition}
use Rattle.sourcemap_compose.specs.Moved.{IsMovedAlone}
use Rattle.sourcemap_compose.proofs.MovedLemmas.{composed_within}
use Rattle.sourcemap_tokens.specs.Tokens.{AreInOrder}
use Rattle.sourcemap_map_regular.specs.Map.{IsWellFormed, MapValue, meaning}
use Rattle.sourcemap_map_regular.specs.MapStored.{value_of}
use Rattle.sourcemap_map_regular.proofs.AdjustLemmas.{adjusted_meaning}
use Rattle.sourcemap_map_regular.proofs.map.SourceMap.adjust_mappings.Goals as goal
use Rattle.sourcemap_map_regular.proofs.map.SourceMap.adjust_mappings.Goals.{After-drop-self-inside}

-- the new list is the composition of the tokens of both maps
composed : (c : After-drop-self-inside)
    → composition c.self.inside.tokens c.adjustment.inside.tokens ≡ Ok c.in_ok-list.list
composed c =
    subst (λ tokens. composition tokens c.adjustment.inside.tokens ≡ Ok c.in_ok-list.list) c.as_slice.ensures.value
    (subst (λ tokens. composition c.as_slice.result.now tokens ≡ Ok c.in_ok-list.list) c.as_slice-2.ensures.value
    (c.in_ok-tokens.ensures.answer ∙ c.in_ok-list.ensures))

pub returns-clause-well_formed : goal.returns-clause-well_formed
returns-clause-well_formed c = λ sound.
    let stored : IsWellFormed (value_of c.self.inside) = subst IsWellFormed (sym c.self.view_is) sound in
    composed_within (length c.self.inside.sources.texts) (length (value_of c.self.inside).names) c.self.inside.tokens
    c.adjustment.inside.tokens c.in_ok-list.list stored (composed c)

pub returns-clause-meaning : goal.returns-clause-meaning
returns-clause-meaning c = λ a q sound alone.
    let few : length c.self.inside.sources.texts ≤ 4294967295 = omega (arith, c.len.ensures) in
    let stored : IsWellFormed (value_of c.self.inside) = subst IsWellFormed (sym c.self.view_is) sound in
    let up : AreInOrder c.self.inside.tokens = subst AreInOrder c.as_slice.ensures.value c.as_slice.ensures.in_order in
    let alone' : IsMovedAlone c.self.inside.tokens c.adjustment.inside.tokens a q =
    subst (λ (m : MapValue). IsMovedAlone m.tokens c.adjustment.inside.tokens a q) (sym c.self.view_is)
    (subst (λ (n : MapValue). IsMovedAlone c.args.self.now.tokens n.tokens a q) (sym c.adjustment.view_is) alone) in
    adjusted_meaning (value_of c.self.inside) (value_of c.adjustment.inside) c.in_ok-list.list a q few up stored
    (composed c) alone'
    ∙ ap (λ (m : MapValue). meaning m q) c.self.view_is
