-- The conjunction of two decision tests.
use Rattle.std.proofs.Common.{Bool, ◌&&◌}
use Rattle.std.specs.Bool.{Decides}
use Rattle.std.proofs.lemmas.Bool.Decides.{Decides-and}

pub decides_both : {r s : Bool} {P Q : Type 0} → Decides r P → Decides s Q → Decides (r && s) (P × Q)
decides_both {r} {s} p q = Decides-and r s p q
