-- A data URL has one answer, unless memory runs out. Two `Io` errors of the same kind count as the same answer. Only
-- texts that are no data URL have the error `InvalidDataUrl`.
use Rattle.sourcemap_index.proofs.DecodeLemmas.{url_only}
use Rattle.sourcemap_index.proofs.UrlErrorLemmas.{refused_as_no_url}
use Rattle.sourcemap_index.proofs.decode.decode_data_url.Goals as goal

pub returns-clause-only : goal.returns-clause-only
returns-clause-only c = url_only c.args.url.now c.decode_url.result c.decode_url.ensures.answer

pub returns-clause-no_url : goal.returns-clause-no_url
returns-clause-no_url c = refused_as_no_url c.args.url.now c.decode_url.result c.decode_url.ensures.answer
