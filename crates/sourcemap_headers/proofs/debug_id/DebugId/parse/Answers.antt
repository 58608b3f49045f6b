-- For a text of 32 or 36 bytes, the parser of UUIDs decides the result of `parse`.
use Rattle.std.proofs.Common.{true≢false, sym, rules}
use Rattle.sourcemap_headers.proofs.DebugIdLemmas.{not_parsed}
use Rattle.sourcemap_headers.proofs.debug_id.DebugId.parse.Goals as goal

pub returns-in-Err : goal.returns-in-Err
returns-in-Err c = not_parsed c.args.text.now (λ h. true≢false (sym (c.in-Err.ensures.ok.1 h)))

pub returns-in-Ok : goal.returns-in-Ok
returns-in-Ok c = search rules
