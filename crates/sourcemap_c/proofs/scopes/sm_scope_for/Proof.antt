use Rattle.sourcemap_c.specs.Scopes.{NamesFor}
use Rattle.sourcemap_c.proofs.Lending.{maps, lends_3}
use Rattle.sourcemap_c.specs.contracts.scopes.sm_scope_for.Key as key
use Rattle.sourcemap_c.proofs.scopes.sm_scope_for.Statement.{statement}
use Rattle.sourcemap_c.proofs.scopes.sm_scope_for.Code as code
use Rattle.sourcemap_c.proofs.kinds.map_in.Met as getter
use Rattle.sourcemap_c.proofs.scopes.put_scope.Met as put

pub sm_scope_for_spec : {M : Type 1} → statement M
sm_scope_for_spec 𝓤 𝓛 𝓜 𝓡 wired =
    lends_3 maps 𝓤 𝓛 𝓜 𝓡 _ _ _ _ _ key.name (λ ns t. NamesFor t ns.0 (ns.1.0, ns.1.1.0)) (code.unfolded 𝓤 𝓛.H 𝓜 𝓡 wired) (λ κ v ok. ok.0)
    (getter.met 𝓤 𝓛 𝓜 𝓡 (code.calls-sourcemap_c::kinds::map_in 𝓡.env wired)) (put.met 𝓤 𝓛 𝓜 𝓡 (code.calls-sourcemap_c::scopes::put_scope 𝓡.env wired))
