use Rattle.std.proofs.Common.{◌+◌, false, rules}
use Rattle.std.specs.List.{slice_index_or}
use Rattle.sourcemap_vlq.proofs.BitLemmas.{value_of_bits}
use Rattle.sourcemap_vlq.proofs.bits.value_from.Goals as goal

pub returns-clause-each : goal.returns-clause-each
returns-clause-each c =
    value_of_bits (λ k. slice_index_or c.args.bits.now (c.args.index + k) false)
    c.bit_from.result c.bit_from-2.result c.bit_from-3.result c.bit_from-4.result c.bit_from-5.result
    c.bit_from-6.result
    c.bit_from.ensures.small c.bit_from-2.ensures.small c.bit_from-3.ensures.small c.bit_from-4.ensures.small
    c.bit_from-5.ensures.small c.bit_from-6.ensures.small
    (search rules) c.bit_from-2.ensures.is c.bit_from-3.ensures.is c.bit_from-4.ensures.is c.bit_from-5.ensures.is
    c.bit_from-6.ensures.is
