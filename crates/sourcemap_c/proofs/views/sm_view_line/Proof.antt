use Rattle.std.specs.Prelude.{option_map, slice_get}
use Rattle.sourcemap_source_views.specs.Lines.{line_bodies}
use Rattle.sourcemap_c.specs.Codes.{ReturnsValue}
use Rattle.sourcemap_c.proofs.Lending.{views, lends_1}
use Rattle.sourcemap_c.specs.contracts.views.sm_view_line.Key as key
use Rattle.sourcemap_c.proofs.views.sm_view_line.Statement.{statement}
use Rattle.sourcemap_c.proofs.views.sm_view_line.Code as code
use Rattle.sourcemap_c.proofs.views.view_in.Met as getter
use Rattle.sourcemap_c.proofs.views.put_line.Met as put

pub sm_view_line_spec : {M : Type 1} → statement M
sm_view_line_spec 𝓤 𝓛 𝓜 𝓡 wired =
    lends_1 views 𝓤 𝓛 𝓜 𝓡 _ _ _ _ _ key.name (λ ids text. ReturnsValue (option_map (λ source. slice_get (line_bodies source) ids.0) text)) (code.unfolded 𝓤 𝓛.H 𝓜 𝓡 wired) (λ κ v ok. ok.0)
    (getter.met 𝓤 𝓛 𝓜 𝓡 (code.calls-sourcemap_c::views::view_in 𝓡.env wired)) (put.met 𝓤 𝓛 𝓜 𝓡 (code.calls-sourcemap_c::views::put_line 𝓡.env wired))
