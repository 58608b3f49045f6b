use Rattle.std.proofs.Common.{◌≡◌, ◌+◌, ◌-◌, ◌/◌, ◌^◌, ◌<◌, ◌≤◌, map, take, drop, sym, ap, ap₂, ◌∙◌, arith}
use Rattle.std.proofs.lemmas.Nat.{shr-shr}
use Rattle.std.specs.List.{prefix_len}
use Rattle.std.specs.Simd.Lanes.{chunk, mask_l}
use Rattle.sourcemap_json_read.specs.Runs.{is_plain, is_stop}
use Rattle.sourcemap_json_read.proofs.ReadLemmas.{escape_read, first_stored, read_on, rest_stored, run_read}
use Rattle.sourcemap_json_read.proofs.RunLemmas.{run_goes_on, run_stops, stop_inside, stops_after}
use Rattle.sourcemap_json_read.proofs.filling.fill_block.Goals as goal
use lib.Count.{count_trailing_zeros}

pub returns-then-left-eq0-clause-read : goal.returns-then-left-eq0-clause-read
returns-then-left-eq0-clause-read c =
    let text = c.args.text.now in
    let l = c.loop-left in
    let rest = c.saturating_sub-rest.result in
    let length_is : rest ≡ c.args.end - l.at = omega (arith, c.saturating_sub-rest.ensures) in
    let goes_on = run_goes_on is_stop text l.at (c.args.end - l.at) (omega arith) (omega (arith, l.invariant.4)) in
    let placed = rest_stored l.buffer c.store_block.new.buffer text l.at l.to 64 c.store_block.ensures in
    let put = first_stored l.buffer c.store_block.new.buffer (drop l.at text) l.to rest 64 (omega arith) (omega
    (arith, length_is)) placed in
    read_on _ _ _ text c.args.from l.at (l.at + rest) l.invariant.5
    (run_read (take l.to l.buffer) _ text l.at rest (omega (arith, goes_on, length_is)) put)

pub returns-then-byte-eq0-clause-to_within : goal.returns-then-byte-eq0-clause-to_within
returns-then-byte-eq0-clause-to_within c =
    let l = c.loop-left in
    let mask = l.invariant.4 in
    let inside =
    stop_inside is_stop c.args.text.now l.at (c.args.end - l.at) (omega arith) (omega arith) (omega (arith, mask)) in
    omega (arith, inside, ap (count_trailing_zeros 64) mask)

pub returns-then-byte-eq0-clause-within : goal.returns-then-byte-eq0-clause-within
returns-then-byte-eq0-clause-within c =
    let l = c.loop-left in
    let mask = l.invariant.4 in
    let inside =
    stop_inside is_stop c.args.text.now l.at (c.args.end - l.at) (omega arith) (omega arith) (omega (arith, mask)) in
    (omega arith, omega (arith, inside, ap (count_trailing_zeros 64) mask))

pub returns-then-byte-eq0-clause-read : goal.returns-then-byte-eq0-clause-read
returns-then-byte-eq0-clause-read c =
    let text = c.args.text.now in
    let l = c.loop-left in
    let mask = l.invariant.4 in
    let plain = count_trailing_zeros 64 l.left in
    let inside = stop_inside is_stop text l.at (c.args.end - l.at) (omega arith) (omega arith) (omega (arith, mask)) in
    let few : plain ≤ 64 = omega (arith, inside, ap (count_trailing_zeros 64) mask) in
    let run : prefix_len is_plain (drop l.at text) ≡ plain = run_stops is_stop text l.at (c.args.end
    - l.at) (omega arith) (omega arith) (omega (arith, mask)) ∙ ap (count_trailing_zeros 64) (sym mask) in
    let placed = rest_stored l.buffer c.store_block.new.buffer text l.at l.to 64 c.store_block.ensures in
    let put = first_stored l.buffer c.store_block.new.buffer (drop l.at text) l.to plain 64 (omega arith) few placed in
    read_on _ _ _ text c.args.from l.at (l.at + plain) l.invariant.5
    (run_read (take l.to l.buffer) _ text l.at plain (omega (arith, run)) put)

pub loop-left-preserved : goal.loop-left-preserved
loop-left-preserved c =
    let text = c.args.text.now in
    let l = c.loop-left in
    let mask = l.invariant.4 in
    let plain = count_trailing_zeros 64 l.left in
    let n = c.args.end - l.at in
    let byte = c.short_escape_at-byte in
    let some : 0 < byte.result = omega (arith, c.if-byte-eq0.false) in
    let inside = stop_inside is_stop text l.at n (omega arith) (omega arith) (omega (arith, mask)) in
    let few : plain < n = omega (arith, inside, ap (count_trailing_zeros 64) mask) in
    let run : prefix_len is_plain (drop l.at text) ≡ plain = run_stops is_stop text l.at n (omega arith) (omega arith)
    (omega (arith, mask)) ∙ ap (count_trailing_zeros 64) (sym mask) in
    let placed = rest_stored l.buffer c.store_block.new.buffer text l.at l.to 64 c.store_block.ensures in
    let put = first_stored l.buffer c.store_block.new.buffer (drop l.at text) l.to plain 64 (omega arith) (omega
    (arith, few)) placed in
    let so_far = read_on _ _ _ text c.args.from l.at (l.at
    + plain) l.invariant.5 (run_read (take l.to l.buffer) _ text l.at plain (omega (arith, run)) put) in
    let escape = escape_read (take (l.to + plain) c.store_block.new.buffer) _ text (l.at
    + plain) byte.result (omega (arith, few)) (byte.ensures some) c.store_byte.ensures.bytes in
    let index : l.at + (plain + 2) ≡ l.at + plain + 2 = omega arith in
    let count : n - (plain + 2) ≡ c.args.end - (l.at + plain + 2) = omega arith in (
      omega (arith, c.store_block.ensures.len, c.store_byte.ensures.len),
      omega arith,
      omega (arith, few),
      omega arith,
      ap (λ m. m / 2 ^ plain / 4) mask ∙ shr-shr (mask_l (map is_stop (chunk l.at n text))) plain 2
          ∙ stops_after text l.at n (plain + 2) ∙ ap₂ (λ i k. mask_l (map is_stop (chunk i k text))) index count,
      read_on _ _ _ text c.args.from (l.at + plain) (l.at + plain + 2) so_far escape,
    )
