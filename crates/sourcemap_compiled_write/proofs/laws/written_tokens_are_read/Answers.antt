use Rattle.sourcemap_compiled_write.proofs.ReadBack.{order_back, scope_back, tokens_back}
use Rattle.sourcemap_compiled_write.proofs.laws.written_tokens_are_read.Goals as goal

pub returns : goal.returns
returns c = record { tokens = tokens_back; scopes = scope_back; order = order_back }
