use Rattle.std.proofs.Common.{◌≡◌, ◌≢◌, ◌<◌, ◌≤◌, ◌+◌, drop, length, take, sym, ap, ◌∙◌, arith}
use Rattle.std.specs.List.{prefix_len}
use Rattle.sourcemap_json_read.specs.Runs.{is_plain, is_stop}
use Rattle.sourcemap_json_write.proofs.QuoteLemmas.{stop_at, block_put, run_put, escape_put}
use Rattle.sourcemap_json_read.proofs.RunLemmas.{run_goes_on, run_stops, stop_inside}
use Rattle.sourcemap_json_read.proofs.ReadLemmas.{first_stored, rest_stored}
use Rattle.sourcemap_json_write.proofs.quoting.fill.Goals as goal
use lib.Count.{count_trailing_zeros}

pub loop-at-preserved-then-stops-eq0 : goal.loop-at-preserved-then-stops-eq0
loop-at-preserved-then-stops-eq0 c =
    let text = c.args.text.now in
    let l = c.loop-at in
    let goes_on = run_goes_on is_stop text l.at 32 (omega arith) (omega (arith, c.stops-stops.ensures)) in
    let placed = rest_stored l.buffer c.store_block.new.buffer text l.at l.to 32 c.store_block.ensures in
    let put =
    first_stored l.buffer c.store_block.new.buffer (drop l.at text) l.to 32 32 l.invariant.0 (omega arith) placed in (
      omega (arith, c.store_block.ensures.len),
      omega arith,
      omega (arith, l.invariant.2),
      block_put (take l.to l.buffer) _ _ text l.at 32 goes_on put l.invariant.3,
    )

pub bounds-text-at-in-loop-at : goal.bounds-text-at-in-loop-at
bounds-text-at-in-loop-at c =
    let text = c.args.text.now in
    let l = c.loop-at in
    let mask = c.stops-stops.ensures in
    omega (
      arith,
      stop_inside is_stop text l.at 32 (omega arith) (omega arith) (omega (arith, mask)),
      ap (count_trailing_zeros 64) mask,
    )

pub letter-letter-requires : goal.letter-letter-requires
letter-letter-requires c =
    let text = c.args.text.now in
    let l = c.loop-at in
    let mask = c.stops-stops.ensures in
    let n = count_trailing_zeros 64 c.stops-stops.result in
    let run : prefix_len is_plain (drop l.at text) ≡ n = run_stops is_stop text l.at 32 (omega arith) (omega arith)
    (omega (arith, mask)) ∙ ap (count_trailing_zeros 64) (sym mask) in
    let few : n ≤ 32 = omega (
      arith,
      stop_inside is_stop text l.at 32 (omega arith) (omega arith) (omega (arith, mask)),
      ap (count_trailing_zeros 64) mask,
    ) in
    stop_at text l.at (l.at + n) (omega (arith, run)) (omega (arith, few))

pub returns-then-letter-eq0-clause-to_within : goal.returns-then-letter-eq0-clause-to_within
returns-then-letter-eq0-clause-to_within c =
    let text = c.args.text.now in
    let l = c.loop-at in
    let mask = c.stops-stops.ensures in
    omega (
      arith,
      c.store_block.ensures.len,
      stop_inside is_stop text l.at 32 (omega arith) (omega arith) (omega (arith, mask)),
      ap (count_trailing_zeros 64) mask,
    )

pub returns-then-letter-eq0-clause-within : goal.returns-then-letter-eq0-clause-within
returns-then-letter-eq0-clause-within c =
    let text = c.args.text.now in
    let l = c.loop-at in
    let mask = c.stops-stops.ensures in
    omega (
      arith,
      stop_inside is_stop text l.at 32 (omega arith) (omega arith) (omega (arith, mask)),
      ap (count_trailing_zeros 64) mask,
    )

pub store_pair-requires : goal.store_pair-requires
store_pair-requires c =
    let text = c.args.text.now in
    let l = c.loop-at in
    let mask = c.stops-stops.ensures in
    omega (
      arith,
      c.store_block.ensures.len,
      stop_inside is_stop text l.at 32 (omega arith) (omega arith) (omega (arith, mask)),
      ap (count_trailing_zeros 64) mask,
    )

pub returns-then-letter-eq0-clause-put : goal.returns-then-letter-eq0-clause-put
returns-then-letter-eq0-clause-put c =
    let text = c.args.text.now in
    let l = c.loop-at in
    let mask = c.stops-stops.ensures in
    let n = count_trailing_zeros 64 c.stops-stops.result in
    let run : prefix_len is_plain (drop l.at text) ≡ n = run_stops is_stop text l.at 32 (omega arith) (omega arith)
    (omega (arith, mask)) ∙ ap (count_trailing_zeros 64) (sym mask) in
    let few : n ≤ 32 = omega (
      arith,
      stop_inside is_stop text l.at 32 (omega arith) (omega arith) (omega (arith, mask)),
      ap (count_trailing_zeros 64) mask,
    ) in
    let placed = rest_stored l.buffer c.store_block.new.buffer text l.at l.to 32 c.store_block.ensures in
    let put = first_stored l.buffer c.store_block.new.buffer (drop l.at text) l.to n 32 l.invariant.0 few placed in
    run_put (take l.to l.buffer) _ _ text l.at n run put l.invariant.3

pub loop-at-preserved : goal.loop-at-preserved
loop-at-preserved c =
    let text = c.args.text.now in
    let l = c.loop-at in
    let mask = c.stops-stops.ensures in
    let n = count_trailing_zeros 64 c.stops-stops.result in
    let run : prefix_len is_plain (drop l.at text) ≡ n = run_stops is_stop text l.at 32 (omega arith) (omega arith)
    (omega (arith, mask)) ∙ ap (count_trailing_zeros 64) (sym mask) in
    let few : n ≤ 32 = omega (
      arith,
      stop_inside is_stop text l.at 32 (omega arith) (omega arith) (omega (arith, mask)),
      ap (count_trailing_zeros 64) mask,
    ) in
    let placed = rest_stored l.buffer c.store_block.new.buffer text l.at l.to 32 c.store_block.ensures in
    let put = first_stored l.buffer c.store_block.new.buffer (drop l.at text) l.to n 32 l.invariant.0 few placed in
    let so_far = run_put (take l.to l.buffer) _ _ text l.at n run put l.invariant.3 in
    let some : c.letter-letter.result ≢ 0 = λ none. grind arith in
    let inside : l.at + n < length text = omega (arith, few) in (
      omega (arith, few, c.store_block.ensures.len, c.store_pair.ensures.len),
      omega (arith, few),
      omega (arith, l.invariant.2),
      escape_put (take (l.to + n) c.store_block.new.buffer) _ _ text
          (l.at + n) c.letter-letter.result inside c.letter-letter.ensures some c.store_pair.ensures.bytes so_far,
    )
