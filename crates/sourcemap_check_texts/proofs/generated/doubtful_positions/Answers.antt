use Rattle.std.proofs.Common.{◌∙◌, ap, sym, refl, Some, option_map}
use Rattle.sourcemap_map_regular.specs.Token.{token_value}
use Rattle.sourcemap_check_texts.proofs.PlaceLemmas.{token_found}
use Rattle.sourcemap_check_texts.proofs.GeneratedLemmas.{PositionsSoFar-none, PositionsSoFar-more, PositionsSoFar-all}
use Rattle.sourcemap_check_texts.proofs.generated.doubtful_positions.Goals as goal

pub loop-token-init : goal.loop-token-init
loop-token-init c = record {
  so_far = PositionsSoFar-none _ _ _ _ _ c.new.ensures.items refl;
  spot = tt;
}

pub loop-token-preserved : goal.loop-token-preserved
loop-token-preserved c =
    let at = token_found c.args.map.now c.loop-token.index (token_value c.in-Some.token) c.in-Some.ensures in
    let holds = c.misses_text-holds.ensures c.args.generated.now c.next_spot-spot.ensures.spot in
    record {
      so_far = PositionsSoFar-more c.args.most c.args.doubt c.args.generated.now c.args.map.now c.loop-token.index
          c.get_raw_token-raw.result c.misses_text-holds.result c.get_index.result c.loop-token.places
          c.add_place.new.places c.loop-token.invariant.so_far (at.0 ∙ ap Some (sym c.get_raw_token-raw.ensures)) holds
          (c.get_index.ensures.value ∙ at.1)
          (c.in_ok-add_place.ensures.added _ c.loop-token.invariant.so_far.places_are) c.in_ok-add_place.ensures.few;
      spot = c.next_spot-spot.ensures.kept;
    }

pub returns-clause-places : goal.returns-clause-places
returns-clause-places c =
    PositionsSoFar-all _ _ _ c.args.map.now _ _ c.loop-token.invariant.so_far
    (sym (ap (option_map token_value) c.in_default.is) ∙ c.get_token.ensures)
