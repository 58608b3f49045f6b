use Rattle.std.proofs.Common.{◌≡◌, ◌≤◌, ◌+◌, ◌-◌, ◌++◌, drop, false, length, slice_get}
use Rattle.std.specs.List.{list_any}
use Rattle.sourcemap_tokens.specs.Tokens.{destination}
use Rattle.sourcemap_compose.specs.Composition.{composed_all, overflows_column}
use Rattle.sourcemap_compose.specs.Stretches.{source, stretches}
use Rattle.sourcemap_compose.proofs.composition.walk.Given as goal

abbrev pub invariant-loop-adjustment : goal.invariant-loop-adjustment
invariant-loop-adjustment l = record {
  adjustment : l.adjustment ≡ slice_get (stretches source l.adjustments) l.at_adjustment;
  original : l.original ≡ slice_get (stretches destination l.originals) l.at_original;
  in_adjustments : l.at_adjustment ≤ length l.adjustments;
  in_originals : l.at_original ≤ length l.originals;
  so_far : l.tokens.items ++ composed_all (drop l.at_adjustment (stretches source l.adjustments))
      (drop l.at_original (stretches destination l.originals))
      ≡ composed_all (stretches source l.adjustments) (stretches destination l.originals);
  within : list_any overflows_column l.tokens.items ≡ false;
  few : length l.tokens.items ≤ l.at_original + l.at_adjustment;
}

abbrev pub decreases-loop-adjustment : goal.decreases-loop-adjustment
decreases-loop-adjustment l = length l.adjustments - l.at_adjustment + (length l.originals - l.at_original)
