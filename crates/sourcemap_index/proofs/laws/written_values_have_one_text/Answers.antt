use Rattle.sourcemap_index.proofs.WrittenValueLemmas.{whole_value, written_text_once}
use Rattle.sourcemap_index.proofs.laws.written_values_have_one_text.Goals as goal

pub returns : goal.returns
returns c = record { whole = whole_value; once = written_text_once }
