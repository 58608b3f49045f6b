use Rattle.std.specs.Prelude.{Some, option_map}
use Rattle.sourcemap_c.specs.Codes.{ReturnsValue}
use Rattle.sourcemap_c.proofs.Lending.{views, lends_0}
use Rattle.sourcemap_c.specs.contracts.views.sm_view_text.Key as key
use Rattle.sourcemap_c.proofs.views.sm_view_text.Statement.{statement}
use Rattle.sourcemap_c.proofs.views.sm_view_text.Code as code
use Rattle.sourcemap_c.proofs.views.view_in.Met as getter
use Rattle.sourcemap_c.proofs.views.put_source.Met as put

pub sm_view_text_spec : {M : Type 1} → statement M
sm_view_text_spec 𝓤 𝓛 𝓜 𝓡 wired =
    lends_0 views 𝓤 𝓛 𝓜 𝓡 _ _ _ _ _ key.name (λ _ text. ReturnsValue (option_map (λ source. Some source) text)) (code.unfolded 𝓤 𝓛.H 𝓜 𝓡 wired) (λ κ v ok. ok.0)
    (getter.met 𝓤 𝓛 𝓜 𝓡 (code.calls-sourcemap_c::views::view_in 𝓡.env wired)) (put.met 𝓤 𝓛 𝓜 𝓡 (code.calls-sourcemap_c::views::put_source 𝓡.env wired))
