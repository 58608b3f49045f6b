-- A `DecodeError` of base64 becomes `InvalidDataUrl`.
use Rattle.std.proofs.Common.{rules}
use Rattle.sourcemap_headers.proofs.data_url.data_url_bytes.Goals as goal

pub returns-in-Err-DecodeError : goal.returns-in-Err-DecodeError
returns-in-Err-DecodeError c = search rules
