use Rattle.std.proofs.Common.{◌≡◌}
use Rattle.sourcemap_bundles.specs.Iterators.{modules_left}
use Rattle.sourcemap_bundles.proofs.ram_bundle.RamBundleModuleIterIterator.next.Given as goal

abbrev pub invariant-loop-id : goal.invariant-loop-id
invariant-loop-id l = record {
  at_next : l.self.next ≡ l.id;
  same_bundle : l.self.bundle ≡ l.initial.self.bundle;
  same_end : l.self.end ≡ l.end;
  left : modules_left l.self ≡ modules_left l.initial.self;
}
