-- If the text begins with `;charset=utf8`, the result is the rest of the text.
use Rattle.std.proofs.Common.{rules}
use Rattle.sourcemap_headers.proofs.data_url.without_charset.Goals as goal

pub returns-in-Some-after_front : goal.returns-in-Some-after_front
returns-in-Some-after_front c = search rules
