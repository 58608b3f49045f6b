use Rattle.std.specs.Prelude.{option_map}
use Rattle.sourcemap_source_views.specs.Sourceview.{view_slice}
use Rattle.sourcemap_c.specs.Codes.{ReturnsValue}
use Rattle.sourcemap_c.proofs.Lending.{views, lends_3}
use Rattle.sourcemap_c.specs.contracts.views.sm_view_slice.Key as key
use Rattle.sourcemap_c.proofs.views.sm_view_slice.Statement.{statement}
use Rattle.sourcemap_c.proofs.views.sm_view_slice.Code as code
use Rattle.sourcemap_c.proofs.views.view_in.Met as getter
use Rattle.sourcemap_c.proofs.views.put_slice.Met as put

pub sm_view_slice_spec : {M : Type 1} → statement M
sm_view_slice_spec 𝓤 𝓛 𝓜 𝓡 wired =
    lends_3 views 𝓤 𝓛 𝓜 𝓡 _ _ _ _ _ key.name (λ at text. ReturnsValue (option_map (λ source. view_slice source at.0 at.1.0 at.1.1.0) text)) (code.unfolded 𝓤 𝓛.H 𝓜 𝓡 wired) (λ κ v ok. ok.0)
    (getter.met 𝓤 𝓛 𝓜 𝓡 (code.calls-sourcemap_c::views::view_in 𝓡.env wired)) (put.met 𝓤 𝓛 𝓜 𝓡 (code.calls-sourcemap_c::views::put_slice 𝓡.env wired))
