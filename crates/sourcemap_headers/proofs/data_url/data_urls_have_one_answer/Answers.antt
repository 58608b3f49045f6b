use Rattle.sourcemap_headers.proofs.DataUrlLemmas.{one_answer}
use Rattle.sourcemap_headers.proofs.data_url.data_urls_have_one_answer.Goals as goal

pub returns : goal.returns
returns c = one_answer
