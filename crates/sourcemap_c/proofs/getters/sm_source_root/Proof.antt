use Rattle.std.specs.Prelude.{option_map}
use Rattle.sourcemap_c.specs.Codes.{ReturnsValue}
use Rattle.sourcemap_c.specs.Getters.{root_of}
use Rattle.sourcemap_c.proofs.Lending.{maps, lends_0}
use Rattle.sourcemap_c.specs.contracts.getters.sm_source_root.Key as key
use Rattle.sourcemap_c.proofs.getters.sm_source_root.Statement.{statement}
use Rattle.sourcemap_c.proofs.getters.sm_source_root.Code as code
use Rattle.sourcemap_c.proofs.kinds.map_in.Met as getter
use Rattle.sourcemap_c.proofs.getters.put_source_root.Met as put

pub sm_source_root_spec : {M : Type 1} → statement M
sm_source_root_spec 𝓤 𝓛 𝓜 𝓡 wired =
    lends_0 maps 𝓤 𝓛 𝓜 𝓡 _ _ _ _ _ key.name (λ _ t. ReturnsValue (option_map root_of t)) (code.unfolded 𝓤 𝓛.H 𝓜 𝓡 wired) (λ κ v ok. ok.0)
    (getter.met 𝓤 𝓛 𝓜 𝓡 (code.calls-sourcemap_c::kinds::map_in 𝓡.env wired)) (put.met 𝓤 𝓛 𝓜 𝓡 (code.calls-sourcemap_c::getters::put_source_root 𝓡.env wired))
