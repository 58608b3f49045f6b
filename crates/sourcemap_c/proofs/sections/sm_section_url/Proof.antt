use Rattle.std.specs.Prelude.{List, Option, option_and_then, option_map, slice_get}
use Rattle.sourcemap_index_model.specs.MapTree.{MapSection}
use Rattle.sourcemap_index.specs.Family.{index_value}
use Rattle.sourcemap_index.specs.contracts.family.SourceMapIndex as index
use Rattle.sourcemap_c_handles.specs.Handles.{held_in}
use Rattle.sourcemap_c.specs.Codes.{ReturnsValue}
use Rattle.sourcemap_c.specs.Kinds.{tree_in}
use Rattle.sourcemap_c.specs.Sections.{sections_in, url_of}
use Rattle.sourcemap_c.proofs.Lending.{Getter, lends_1}
use Rattle.sourcemap_c.specs.contracts.sections.sm_section_url.Key as key
use Rattle.sourcemap_c.proofs.sections.sm_section_url.Statement.{statement}
use Rattle.sourcemap_c.proofs.sections.sm_section_url.Code as code
use Rattle.sourcemap_c.proofs.sections.index_in.Met as getter
use Rattle.sourcemap_c.proofs.sections.put_url.Met as put

abbrev indexes : Getter
indexes = record { Item = index.the_row; one = tt; Seen = Option (List MapSection); seen = option_map (λ i. (index_value i.now).sections); held = λ h. option_and_then sections_in (tree_in (held_in h)) }

pub sm_section_url_spec : {M : Type 1} → statement M
sm_section_url_spec 𝓤 𝓛 𝓜 𝓡 wired =
    lends_1 indexes 𝓤 𝓛 𝓜 𝓡 _ _ _ _ _ key.name (λ ids ss. ReturnsValue (option_map (λ list. option_and_then url_of (slice_get list ids.0)) ss)) (code.unfolded 𝓤 𝓛.H 𝓜 𝓡 wired) (λ κ v ok. ok.0)
    (getter.met 𝓤 𝓛 𝓜 𝓡 (code.calls-sourcemap_c::sections::index_in 𝓡.env wired)) (put.met 𝓤 𝓛 𝓜 𝓡 (code.calls-sourcemap_c::sections::put_url 𝓡.env wired))
