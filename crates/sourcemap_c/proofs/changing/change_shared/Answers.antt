use Rattle.std.proofs.Common.{Err, refl, subst}
use Rattle.sourcemap_index.specs.Family.{map_tree}
use Rattle.sourcemap_index.specs.declared.family.DecodedMap.{DecodedMap}
use Rattle.sourcemap_c.specs.Changing.{ChangesTo}
use Rattle.sourcemap_c.specs.Codes.{UnlessMemory}
use Rattle.sourcemap_c.proofs.changing.change_shared.Goals as goal

pub returns-in-Err : goal.returns-in-Err
returns-in-Err c =
    let P : DecodedMap → Type 0 = λ m. UnlessMemory c.in-Err.failure (ChangesTo c.args.change.now (map_tree m) (Err c.in-Err.failure)) in
    (subst P c.deref.ensures c.in-Err.ensures, (refl, refl))
