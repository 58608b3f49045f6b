use Rattle.sourcemap_c.specs.Functions.{NamesAt}
use Rattle.sourcemap_c.proofs.Lending.{maps, lends_1}
use Rattle.sourcemap_c.specs.contracts.functions.sm_hermes_function_name.Key as key
use Rattle.sourcemap_c.proofs.functions.sm_hermes_function_name.Statement.{statement}
use Rattle.sourcemap_c.proofs.functions.sm_hermes_function_name.Code as code
use Rattle.sourcemap_c.proofs.kinds.map_in.Met as getter
use Rattle.sourcemap_c.proofs.functions.put_name_at.Met as put

pub sm_hermes_function_name_spec : {M : Type 1} → statement M
sm_hermes_function_name_spec 𝓤 𝓛 𝓜 𝓡 wired =
    lends_1 maps 𝓤 𝓛 𝓜 𝓡 _ _ _ _ _ key.name (λ ids t. NamesAt t ids.0) (code.unfolded 𝓤 𝓛.H 𝓜 𝓡 wired) (λ κ v ok. ok.0)
    (getter.met 𝓤 𝓛 𝓜 𝓡 (code.calls-sourcemap_c::kinds::map_in 𝓡.env wired)) (put.met 𝓤 𝓛 𝓜 𝓡 (code.calls-sourcemap_c::functions::put_name_at 𝓡.env wired))
