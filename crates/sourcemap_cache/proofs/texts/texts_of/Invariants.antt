use Rattle.std.proofs.Common.{◌≡◌, Some, map, take}
use Rattle.std.specs.Option.{option_copied}
use Rattle.sourcemap_cache.specs.Texts.{AreTexts}
use Rattle.sourcemap_cache.proofs.texts.texts_of.Given as goal

abbrev pub invariant-loop-item : goal.invariant-loop-item
invariant-loop-item g l = record {
  same : map option_copied l.texts.items ≡ map Some (map g.T.Text.bytes (take l.item-index l.list));
  utf8 : AreTexts (map Some (map g.T.Text.bytes (take l.item-index l.list)));
}
