use Rattle.sourcemap_vlq.proofs.BitLemmas.{BitAnswers-same, IsBitText-same}
use Rattle.sourcemap_vlq.proofs.bits.bits_are_determined.Goals as goal

pub returns : goal.returns
returns c = record { one_answer = BitAnswers-same; one_text = IsBitText-same }
