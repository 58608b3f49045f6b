use Rattle.sourcemap_c.specs.Lookup.{ReturnsLookup, name_at}
use Rattle.sourcemap_c.proofs.Lending.{maps, lends_2}
use Rattle.sourcemap_c.specs.contracts.lookup.sm_lookup_name.Key as key
use Rattle.sourcemap_c.proofs.lookup.sm_lookup_name.Statement.{statement}
use Rattle.sourcemap_c.proofs.lookup.sm_lookup_name.Code as code
use Rattle.sourcemap_c.proofs.kinds.map_in.Met as getter
use Rattle.sourcemap_c.proofs.lookup.put_name_at.Met as put

pub sm_lookup_name_spec : {M : Type 1} → statement M
sm_lookup_name_spec 𝓤 𝓛 𝓜 𝓡 wired =
    lends_2 maps 𝓤 𝓛 𝓜 𝓡 _ _ _ _ _ key.name (λ p. ReturnsLookup (λ t. name_at t (p.0, p.1.0))) (code.unfolded 𝓤 𝓛.H 𝓜 𝓡 wired) (λ κ v ok. ok.0)
    (getter.met 𝓤 𝓛 𝓜 𝓡 (code.calls-sourcemap_c::kinds::map_in 𝓡.env wired)) (put.met 𝓤 𝓛 𝓜 𝓡 (code.calls-sourcemap_c::lookup::put_name_at 𝓡.env wired))
