use Rattle.std.proofs.Common.{◌∙◌, ap, arith, sym, subst, refl, Some, option_map}
use Rattle.std.proofs.lemmas.Option.{slice_get_within}
use Rattle.std.specs.Option.{option_copied}
use Rattle.sourcemap_map_regular.specs.Token.{token_value}
use Rattle.sourcemap_check_texts.specs.Checkpoints.{AreCheckpoints}
use Rattle.sourcemap_check_texts.proofs.PlaceLemmas.{token_found, TokensSoFar-none, TokensSoFar-more, TokensSoFar-all}
use Rattle.sourcemap_check_texts.proofs.tokens.doubtful_tokens.Goals as goal

pub loop-token-init : goal.loop-token-init
loop-token-init c = TokensSoFar-none _ _ _ _ _ c.new.ensures.items refl

pub looks_wrong-holds-requires : goal.looks_wrong-holds-requires
looks_wrong-holds-requires c =
    subst (AreCheckpoints c.args.map.now (option_copied c.args.files)) (sym c.as_slice.ensures.value)
    c.in_ok-checkpoints.ensures.are

pub loop-token-smaller : goal.loop-token-smaller
loop-token-smaller c =
    let at = token_found c.args.map.now c.loop-token.index (token_value c.in-Some.token) c.in-Some.ensures in
    let inside = slice_get_within c.args.map.now.tokens c.loop-token.index _ at.0 in
    omega (arith, inside)

pub loop-token-preserved : goal.loop-token-preserved
loop-token-preserved c =
    let at = token_found c.args.map.now c.loop-token.index (token_value c.in-Some.token) c.in-Some.ensures in
    TokensSoFar-more c.args.most c.args.doubt c.args.map.now (option_copied c.args.files) c.loop-token.index
    c.loop-token.before c.get_raw_token-raw.result c.looks_wrong-holds.result c.get_index.result c.loop-token.places c.add_place.new.places
    c.loop-token.invariant (at.0 ∙ ap Some (sym c.get_raw_token-raw.ensures)) c.looks_wrong-holds.ensures
    (c.get_index.ensures.value ∙ at.1)
    (c.in_ok-add_place.ensures.added _ c.loop-token.invariant.places_are) c.in_ok-add_place.ensures.few

pub returns-clause-places : goal.returns-clause-places
returns-clause-places c =
    TokensSoFar-all _ _ c.args.map.now _ _ _ _ c.loop-token.invariant
    (sym (ap (option_map token_value) c.in_default.is) ∙ c.get_token.ensures)
