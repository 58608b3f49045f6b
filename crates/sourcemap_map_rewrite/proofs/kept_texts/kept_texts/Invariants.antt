use Rattle.std.proofs.Common.{◌≡◌, length, take}
use Rattle.sourcemap_texts.specs.Texts.{texts_of}
use Rattle.sourcemap_map_rewrite.specs.Numbering.{texts_in_use}
use Rattle.sourcemap_map_rewrite.proofs.KeptTextsLemmas.{AreLeftOrMoved}
use Rattle.sourcemap_map_rewrite.proofs.kept_texts.kept_texts.Given as goal

abbrev pub invariant-loop-id : goal.invariant-loop-id
invariant-loop-id l = record {
  moved : texts_of l.kept ≡ texts_in_use (texts_of l.initial.texts) (take l.id-index l.numbers.order.items);
  left_or_moved : AreLeftOrMoved (texts_of l.initial.texts) (texts_of l.texts)
      (texts_in_use (texts_of l.initial.texts) (take l.id-index l.numbers.order.items));
  many : length (texts_of l.texts) ≡ length (texts_of l.initial.texts);
}
