use Rattle.std.proofs.Common.{◌≡◌, ℕ, ◌≤◌, List, Option, Result, Ok, Err, IfOk, IfErr, ap}
use Rattle.serde_json.specs.Data.{depth}
use Rattle.serde_json.specs.Read.{max_depth}
use Rattle.serde_json.specs.View.{view}
use Rattle.serde_json.specs.declared.value.Value.{Value}
use Rattle.sourcemap_json_read.specs.Kept.{Part, HoldsKept}
use Rattle.sourcemap_json_read.specs.declared.kept.ReadError.{ReadError}
use Rattle.sourcemap_json_read.specs.declared.kept.ReadError.TheVariants.{Invalid}
use Rattle.sourcemap_json_read.proofs.KeptLemmas.{depth-HoldsKept}
use Rattle.sourcemap_json_read.proofs.kept.kept_from_slice.Goals as goal

nests : {L : Type 0} (inside : L → Part → Option L) (level : L) (bytes : List ℕ) (r : Result Value ReadError)
    → IfOk r (λ v. HoldsKept inside level bytes (view v)) → IfOk r (λ v. depth (view v) ≤ max_depth)
nests inside level bytes (Ok v) h = depth-HoldsKept inside level bytes (view v) h
nests inside level bytes (Err e) h = tt

refuses : (P : Type 0) (r : Result Value ReadError) → (r ≡ Err Invalid → P) → IfErr r (λ e. e ≡ Invalid → P)
refuses P (Ok v) h = tt
refuses P (Err e) h = λ is. h (ap Err is)

pub returns-in-Ok-clause-nests : goal.returns-in-Ok-clause-nests
returns-in-Ok-clause-nests g c = depth-HoldsKept g.L.Level.inside c.args.level c.args.bytes.now _ c.in-Ok.ensures

pub returns-in-Err-Unsupported-clause-nests : goal.returns-in-Err-Unsupported-clause-nests
returns-in-Err-Unsupported-clause-nests g c =
    nests g.L.Level.inside c.args.level c.args.bytes.now c.read_exactly.result c.read_exactly.ensures.ok

pub returns-in-Err-Unsupported-clause-err : goal.returns-in-Err-Unsupported-clause-err
returns-in-Err-Unsupported-clause-err g c = refuses _ c.read_exactly.result c.read_exactly.ensures.err
