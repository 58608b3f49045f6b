-- A JSON value that decodes to a map which restores `t` decodes to no other map.
use Rattle.std.proofs.Common.{◌≡◌, sym, subst, Result, Ok, Err, IfOk, IsOkUnless}
use Rattle.sourcemap.specs.Answer.{Gives}
use Rattle.sourcemap.specs.AnyMap.{map_tree}
use Rattle.sourcemap.specs.Due.{Gives-given, Gives-memory}
use Rattle.sourcemap.specs.Encoder.{ReadsBack}
use Rattle.sourcemap.specs.TreeEncoder.{Restores}
use Rattle.sourcemap.specs.Trees.{MapTree}
use Rattle.sourcemap.specs.declared.errors.Error.{Error}
use Rattle.sourcemap.specs.declared.errors.Error.TheVariants.{OutOfMemory}
use Rattle.sourcemap.specs.declared.types.DecodedMap.{DecodedMap}

module _ (t : MapTree) (Answers : Result MapTree Error → Type 0)
    (written : ReadsBack Answers (Restores t)) where
  pub restored : (r : Result DecodedMap Error) → ((due : Result MapTree Error) → Answers due → Gives map_tree r due)
      → IfOk r (λ back. Restores t (map_tree back))
  restored (Ok back) only =
      let same : map_tree back ≡ written.0 =
      Gives-given map_tree written.0 (Ok back) (only (Ok written.0) written.1) in
      subst (Restores t) (sym same) written.2
  restored (Err e) only = tt

  pub memory_alone : (r : Result DecodedMap Error)
      → ((due : Result MapTree Error) → Answers due → Gives map_tree r due) → IsOkUnless r OutOfMemory
  memory_alone (Ok back) only = tt
  memory_alone (Err e) only = Gives-memory map_tree written.0 (Err e) (only (Ok written.0) written.1)
