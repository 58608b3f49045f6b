use Rattle.std.specs.Prelude.{option_map, slice_get}
use Rattle.sourcemap_c.specs.Codes.{ReturnsValue}
use Rattle.sourcemap_c.specs.Kinds.{builder_in}
use Rattle.sourcemap_c.proofs.Lending.{handles, lends_1}
use Rattle.sourcemap_c.specs.contracts.building.sm_builder_source.Key as key
use Rattle.sourcemap_c.proofs.building.sm_builder_source.Statement.{statement}
use Rattle.sourcemap_c.proofs.building.sm_builder_source.Code as code
use Rattle.sourcemap_c_handles.proofs.handle.Handle.get.Met as getter
use Rattle.sourcemap_c.proofs.building.put_source.Met as put

pub sm_builder_source_spec : {M : Type 1} → statement M
sm_builder_source_spec 𝓤 𝓛 𝓜 𝓡 wired =
    lends_1 handles 𝓤 𝓛 𝓜 𝓡 _ _ _ _ _ key.name (λ ids held. ReturnsValue (option_map (λ b. slice_get b.sources ids.0) (builder_in held))) (code.unfolded 𝓤 𝓛.H 𝓜 𝓡 wired) (λ κ v ok. ok.0)
    (getter.met 𝓤 𝓛 𝓜 𝓡 (code.calls-sourcemap_c_handles::handle::Handle::get 𝓡.env wired)) (put.met 𝓤 𝓛 𝓜 𝓡 (code.calls-sourcemap_c::building::put_source 𝓡.env wired))
