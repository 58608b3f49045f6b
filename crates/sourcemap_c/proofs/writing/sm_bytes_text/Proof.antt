use Rattle.std.specs.Prelude.{Some, option_map}
use Rattle.sourcemap_c.specs.Codes.{ReturnsValue}
use Rattle.sourcemap_c.specs.Kinds.{bytes_in}
use Rattle.sourcemap_c.proofs.Lending.{handles, lends_0}
use Rattle.sourcemap_c.specs.contracts.writing.sm_bytes_text.Key as key
use Rattle.sourcemap_c.proofs.writing.sm_bytes_text.Statement.{statement}
use Rattle.sourcemap_c.proofs.writing.sm_bytes_text.Code as code
use Rattle.sourcemap_c_handles.proofs.handle.Handle.get.Met as getter
use Rattle.sourcemap_c.proofs.writing.put_held.Met as put

pub sm_bytes_text_spec : {M : Type 1} → statement M
sm_bytes_text_spec 𝓤 𝓛 𝓜 𝓡 wired =
    lends_0 handles 𝓤 𝓛 𝓜 𝓡 _ _ _ _ _ key.name (λ _ held. ReturnsValue (option_map (λ bytes. Some bytes) (bytes_in held))) (code.unfolded 𝓤 𝓛.H 𝓜 𝓡 wired) (λ κ v ok. ok.0)
    (getter.met 𝓤 𝓛 𝓜 𝓡 (code.calls-sourcemap_c_handles::handle::Handle::get 𝓡.env wired)) (put.met 𝓤 𝓛 𝓜 𝓡 (code.calls-sourcemap_c::writing::put_held 𝓡.env wired))
