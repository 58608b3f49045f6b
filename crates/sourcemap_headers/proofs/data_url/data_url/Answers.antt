-- The URL is `data:application/json;charset=utf-8;base64,`, then the base64 text of the bytes.
use Rattle.std.proofs.Common.{rules}
use Rattle.sourcemap_headers.proofs.data_url.data_url.Goals as goal

pub returns-clause-text : goal.returns-clause-text
returns-clause-text c = search rules
