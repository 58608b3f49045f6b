use Rattle.std.proofs.Common.{◌≡◌, ◌+◌, ◌≤◌, take, drop, sym, ap, ◌∙◌, arith}
use Rattle.std.specs.List.{prefix_len}
use Rattle.sourcemap_json_read.specs.Runs.{is_plain, is_stop}
use Rattle.sourcemap_json_read.proofs.ReadLemmas.{first_stored, read_on, rest_stored, run_read}
use Rattle.sourcemap_json_read.proofs.RunLemmas.{run_goes_on, run_stops, stop_inside}
use Rattle.sourcemap_json_read.proofs.filling.fill_run.Goals as goal
use lib.Count.{count_trailing_zeros}

pub returns-then-stops-ne0-clause-to_within : goal.returns-then-stops-ne0-clause-to_within
returns-then-stops-ne0-clause-to_within c =
    let mask = c.stops-stops.ensures in
    omega (
      arith,
      c.store_block.ensures.len,
      stop_inside is_stop c.args.text.now c.loop-at.at 32 (omega arith) (omega arith) (omega (arith, mask)),
      ap (count_trailing_zeros 64) mask,
    )

pub returns-then-stops-ne0-clause-within : goal.returns-then-stops-ne0-clause-within
returns-then-stops-ne0-clause-within c =
    let mask = c.stops-stops.ensures in (
      omega arith,
      omega (
        arith,
        stop_inside is_stop c.args.text.now c.loop-at.at 32 (omega arith) (omega arith) (omega (arith, mask)),
        ap (count_trailing_zeros 64) mask,
      ),
    )

pub returns-then-stops-ne0-clause-read : goal.returns-then-stops-ne0-clause-read
returns-then-stops-ne0-clause-read c =
    let text = c.args.text.now in
    let l = c.loop-at in
    let mask = c.stops-stops.ensures in
    let plain = count_trailing_zeros 64 c.stops-stops.result in
    let few : plain ≤ 32 = omega (
      arith,
      stop_inside is_stop text l.at 32 (omega arith) (omega arith) (omega (arith, mask)),
      ap (count_trailing_zeros 64) mask,
    ) in
    let run : prefix_len is_plain (drop l.at text) ≡ plain = run_stops is_stop text l.at 32 (omega arith) (omega arith)
    (omega (arith, mask)) ∙ ap (count_trailing_zeros 64) (sym mask) in
    let placed = rest_stored l.buffer c.store_block.new.buffer text l.at l.to 32 c.store_block.ensures in
    let put = first_stored l.buffer c.store_block.new.buffer (drop l.at text) l.to plain 32 l.invariant.3 few placed in
    read_on _ _ _ text c.args.from l.at (l.at + plain) l.invariant.4
    (run_read (take l.to l.buffer) _ text l.at plain (omega (arith, run)) put)

pub loop-at-preserved : goal.loop-at-preserved
loop-at-preserved c =
    let text = c.args.text.now in
    let l = c.loop-at in
    let goes_on = run_goes_on is_stop text l.at 32 (omega arith) (omega (arith, c.stops-stops.ensures)) in
    let placed = rest_stored l.buffer c.store_block.new.buffer text l.at l.to 32 c.store_block.ensures in
    let put =
    first_stored l.buffer c.store_block.new.buffer (drop l.at text) l.to 32 32 l.invariant.3 (omega arith) placed in (
      omega (arith, c.store_block.ensures.len),
      omega arith,
      omega arith,
      omega (arith, c.store_block.ensures.len),
      read_on _ _ _ text c.args.from l.at (l.at + 32) l.invariant.4
          (run_read (take l.to l.buffer) _ text l.at 32 (omega (arith, goes_on)) put),
    )
