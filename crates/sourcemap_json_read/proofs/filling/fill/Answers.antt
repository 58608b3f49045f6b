use Rattle.std.proofs.Common.{◌≡◌, ◌+◌, ◌-◌, ◌/◌, ◌^◌, ◌≤◌, map, ap, ap₂, ◌∙◌, arith}
use Rattle.std.specs.Simd.Lanes.{chunk, mask_l}
use Rattle.sourcemap_json_read.specs.Runs.{is_stop}
use Rattle.sourcemap_json_read.proofs.ReadLemmas.{read_on}
use Rattle.sourcemap_json_read.proofs.RunLemmas.{stops_after}
use Rattle.sourcemap_json_read.proofs.filling.fill.Goals as goal

pub loop-begin-preserved : goal.loop-begin-preserved
loop-begin-preserved c =
    let text = c.args.text.now in
    let l = c.loop-begin in
    let f = c.fill_block-next_to in
    let end = l.begin + 64 in
    let at = f.result.1 in
    let whole : end ≤ at = f.ensures.whole (c.if-not-is_whole.false) in
    let near : at ≤ end + 1 = f.ensures.within.1 in
    let index : end + (at - end) ≡ at = omega (arith, whole) in
    let count : 64 - (at - end) ≡ end + 64 - at = omega (arith, whole) in (
      omega (arith, f.ensures.len, l.invariant.0),
      whole,
      near,
      omega (arith, f.ensures.within.0, l.invariant.3),
      omega (arith, near),
      omega (arith, f.ensures.to_within, f.ensures.len),
      ap (λ m. m / 2 ^ (at - end)) c.block_stops-ahead.ensures ∙ stops_after text end 64 (at - end)
          ∙ ap₂ (λ i k. mask_l (map is_stop (chunk i k text))) index count,
      read_on _ _ _ text c.args.from l.at at l.invariant.7 f.ensures.read,
    )
