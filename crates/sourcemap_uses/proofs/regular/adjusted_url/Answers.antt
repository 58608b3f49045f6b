-- The adjusted map is well-formed if the map is, so its data URL reads back.
use Rattle.std.proofs.Common.{string_bytes}
use Rattle.std.proofs.lemmas.Result.{IfOk-weaker}
use Rattle.sourcemap_maps.specs.Bytes.{UrlHasResult}
use Rattle.sourcemap_maps.specs.Decode.{RegularDecodes}
use Rattle.sourcemap_maps.specs.Encode.{ReadsBack, Restores}
use Rattle.sourcemap_maps.specs.Map.{IsWellFormed}
use Rattle.sourcemap_uses.proofs.regular.adjusted_url.Goals as goal

pub returns-in-Ok-clause-url : goal.returns-in-Ok-clause-url
returns-in-Ok-clause-url c =
    let new = c.adjust_mappings.new.self in
    IfOk-weaker c.to_data_url.result
    (λ url. IsWellFormed new → ReadsBack (UrlHasResult RegularDecodes (string_bytes url)) (Restores new)) _
    (λ url reads. (new, c.in-Ok.ensures.value, λ well. reads (c.in-Ok.ensures.well_formed well)))
    c.to_data_url.ensures.reads_back
