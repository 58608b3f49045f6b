use Rattle.std.proofs.Common.{◌≡◌, length}
use Rattle.sourcemap_bundles.specs.Iterators.{modules_left}
use Rattle.sourcemap_bundle_split.specs.Iterators.{modules_and_lines_left}
use Rattle.sourcemap_bundle_split.proofs.split.SplitRamBundleModuleIter.next_with_line.Given as goal

abbrev pub invariant-loop-item : goal.invariant-loop-item
invariant-loop-item l = record {
  left : modules_and_lines_left l.self ≡ modules_and_lines_left l.initial.self;
  splitter : l.self.splitter ≡ l.initial.self.splitter;
}

abbrev pub decreases-loop-item : goal.decreases-loop-item
decreases-loop-item l = length (modules_left l.self.modules)
