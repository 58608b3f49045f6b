use Rattle.std.proofs.Common.{◌≡◌, ◌+◌, ◌∙◌, ap, sym, subst, Some, option_map}
use Rattle.std.specs.Option.{option_copied}
use Rattle.sourcemap_map_regular.specs.Token.{token_value}
use Rattle.sourcemap_check_texts.proofs.PlaceLemmas.{token_found}
use Rattle.sourcemap_check_texts.proofs.ShiftLemmas.{LandmarksSoFar, LandmarksSoFar-none, LandmarksSoFar-more, LandmarksSoFar-all}
use Rattle.sourcemap_check_texts.proofs.shifts.landmarks.Goals as goal

pub loop-token-init : goal.loop-token-init
loop-token-init c = LandmarksSoFar-none _ _ _ _ _ c.new-found.ensures.items

pub loop-token-preserved : goal.loop-token-preserved
loop-token-preserved c =
    let at = token_found c.args.map.now c.loop-token.index (token_value c.in-Some.token) c.in-Some.ensures in
    let next : c.loop-token.index ≡ c.get_index-index.result = sym (c.get_index-index.ensures.value ∙ at.1) in
    subst (λ n. LandmarksSoFar 10000 (option_copied c.args.generated) c.args.map.now (option_copied c.args.files)
    (n + 1) c.add_landmark.new.found.items) next
    (LandmarksSoFar-more 10000 (option_copied c.args.generated) c.args.map.now (option_copied c.args.files)
    c.loop-token.index c.get_raw_token-raw.result c.loop-token.found.items c.add_landmark.new.found.items c.loop-token.invariant
    (at.0 ∙ ap Some (sym c.get_raw_token-raw.ensures)) (c.in_ok-add_landmark.ensures.added _ c.loop-token.invariant.are))

pub returns-clause-value : goal.returns-clause-value
returns-clause-value c =
    LandmarksSoFar-all _ _ c.args.map.now _ _ _ c.loop-token.invariant
    (sym (ap (option_map token_value) c.in_default.is) ∙ c.get_token.ensures)
