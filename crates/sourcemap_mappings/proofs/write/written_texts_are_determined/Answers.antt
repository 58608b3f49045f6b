use Rattle.sourcemap_mappings.proofs.WriteLaws.{IsWritten-same, IsRangeText-same}
use Rattle.sourcemap_mappings.proofs.write.written_texts_are_determined.Goals as goal

pub returns : goal.returns
returns c = record { one_text = IsWritten-same; one_range_text = IsRangeText-same }
