-- The file of a map is accepted and sound, so the lookup finds what the map means, and its texts are read without error.
use Rattle.std.proofs.Common.{ℕ, None, Some, refl}
use Rattle.sourcemap_cache.specs.Stored.{bytes_of, meaning_of_token, token_value}
use Rattle.sourcemap_uses.proofs.CachingLemmas.{no_error, no_origin, of_file, one_origin, origin_found}
use Rattle.sourcemap_uses.proofs.caching.origin_in.Goals as goal

pub returns-in_err-map : goal.returns-in_err-map
returns-in_err-map c = λ choice t is.
    absurd (no_error _ (c.compiled_maps_are_read.ensures.accepted choice t c.args.bytes.now is)
    c.in_err-map.ensures.refused)

pub returns-in_default : goal.returns-in_default
returns-in_default c = λ choice t is.
    let bytes = c.args.bytes.now in
    let means = c.compiled_maps_mean_the_same.ensures choice t bytes is in
    let sound = c.compiled_maps_are_read.ensures.sound choice t bytes is in
    no_origin t bytes (bytes_of c.in_ok-map.map) (c.args.line, c.args.col) c.in_ok-map.ensures.map means sound None
    c.in_default.ensures.meaning refl

pub returns-in_err-origin : goal.returns-in_err-origin
returns-in_err-origin c = λ choice t is.
    let bytes = c.args.bytes.now in
    let read = bytes_of c.in_ok-map.map in
    let p : ℕ × ℕ = (c.args.line, c.args.col) in
    let same = c.in_ok-map.ensures.map in
    let means = c.compiled_maps_mean_the_same.ensures choice t bytes is in
    let sound = c.compiled_maps_are_read.ensures.sound choice t bytes is in
    let token = c.in-Some.token in
    let said = meaning_of_token token in
    let one = one_origin t bytes read p same means sound (Some said) c.in-Some.ensures.meaning said refl in
    let file = of_file t bytes read p same means sound (Some said) c.in-Some.ensures.meaning (token_value token)
    c.in-Some.ensures.value in
    absurd (c.in_err-origin.ensures one.0 one.2 file)

pub returns : goal.returns
returns c = λ choice t is.
    let bytes = c.args.bytes.now in
    let read = bytes_of c.in_ok-map.map in
    let p : ℕ × ℕ = (c.args.line, c.args.col) in
    let same = c.in_ok-map.ensures.map in
    let means = c.compiled_maps_mean_the_same.ensures choice t bytes is in
    let sound = c.compiled_maps_are_read.ensures.sound choice t bytes is in
    let token = c.in-Some.token in
    let said = meaning_of_token token in
    let one = one_origin t bytes read p same means sound (Some said) c.in-Some.ensures.meaning said refl in
    let file = of_file t bytes read p same means sound (Some said) c.in-Some.ensures.meaning (token_value token)
    c.in-Some.ensures.value in
    origin_found t p means one.0 one.1 c.in_ok-origin.origin (c.in_ok-origin.ensures one.0 one.2 file)
