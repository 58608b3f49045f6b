use Rattle.sourcemap_c.specs.Codes.{ReturnsValue}
use Rattle.sourcemap_c.specs.Offsets.{path_in}
use Rattle.sourcemap_c.proofs.Lending.{maps, lends_1}
use Rattle.sourcemap_c.specs.contracts.offsets.sm_module_path.Key as key
use Rattle.sourcemap_c.proofs.offsets.sm_module_path.Statement.{statement}
use Rattle.sourcemap_c.proofs.offsets.sm_module_path.Code as code
use Rattle.sourcemap_c.proofs.kinds.map_in.Met as getter
use Rattle.sourcemap_c.proofs.offsets.put_path.Met as put

pub sm_module_path_spec : {M : Type 1} → statement M
sm_module_path_spec 𝓤 𝓛 𝓜 𝓡 wired =
    lends_1 maps 𝓤 𝓛 𝓜 𝓡 _ _ _ _ _ key.name (λ ids t. ReturnsValue (path_in ids.0 t)) (code.unfolded 𝓤 𝓛.H 𝓜 𝓡 wired) (λ κ v ok. ok.0)
    (getter.met 𝓤 𝓛 𝓜 𝓡 (code.calls-sourcemap_c::kinds::map_in 𝓡.env wired)) (put.met 𝓤 𝓛 𝓜 𝓡 (code.calls-sourcemap_c::offsets::put_path 𝓡.env wired))
