use Rattle.std.proofs.Common.{◌≡◌, map, take}
use Rattle.std.specs.Option.{option_copied}
use Rattle.sourcemap_cache.specs.Texts.{AreTexts}
use Rattle.sourcemap_cache.proofs.texts.contents_of.Given as goal

abbrev pub invariant-loop-view : goal.invariant-loop-view
invariant-loop-view l = record {
  same : map option_copied l.texts.items ≡ take l.view-index l.views;
  utf8 : AreTexts (take l.view-index l.views);
}
