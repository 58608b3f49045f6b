use Rattle.sourcemap_vlq.proofs.VlqLemmas.{SegmentAnswers-same, Spells-same, Spells-Reads}
use Rattle.sourcemap_vlq.proofs.vlq.segments_are_determined.Goals as goal

pub returns : goal.returns
returns c = record {
  one_answer = SegmentAnswers-same;
  one_text = Spells-same;
  round_trip = λ numbers text spells some. (Spells-Reads numbers text spells, some);
}
