-- prover: explicit search
use Rattle.std.proofs.Common.{rules}
use Rattle.sourcemap_vlq.proofs.bits.encode_rmi.Goals as goal

pub returns-in_err-push_bits-clause-written : goal.returns-in_err-push_bits-clause-written
returns-in_err-push_bits-clause-written c = search rules

pub returns-in_err-push_bits-clause-memory : goal.returns-in_err-push_bits-clause-memory
returns-in_err-push_bits-clause-memory c = search rules

pub returns-clause-written : goal.returns-clause-written
returns-clause-written c = search rules

pub returns-clause-memory : goal.returns-clause-memory
returns-clause-memory c = search rules
