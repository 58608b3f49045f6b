use Rattle.std.proofs.Common.{◌≡◌, ◌+◌, ◌∷◌, [], subst, arith}
use Rattle.json.specs.Filled.{Placed}
use Rattle.json.proofs.Printed.Places.{Placed-then}
use Rattle.sourcemap_json_write.proofs.quoting.store_pair.Goals as goal

pub returns : goal.returns
returns c =
    let end : c.args.to + 1 + 1 ≡ c.args.to + 2 = omega arith in
    let both = Placed-then c.store_byte.ensures c.store_byte-2.ensures in
    subst (Placed c.args.buffer.now c.store_byte-2.new.buffer c.args.to (92 ∷ c.args.letter ∷ [])) end both
