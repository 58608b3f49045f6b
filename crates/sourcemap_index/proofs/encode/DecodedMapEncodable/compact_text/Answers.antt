-- The text of a regular map or a Hermes map is its text as a map of any kind.
use Rattle.std.proofs.Common.{IfOk, ap, subst, sym, ◌∙◌}
use Rattle.sourcemap_map_regular.specs.Write.{IsEncoded}
use Rattle.sourcemap_hermes.specs.Map.{hermes_value}
use Rattle.sourcemap_index_model.specs.Encode.{RecordAnswer}
use Rattle.sourcemap_index.specs.Family.{map_tree}
use Rattle.sourcemap_index.proofs.EncodeLemmas.{hermes_text, regular_text}
use Rattle.sourcemap_index.proofs.FamilyLemmas.{hermes_tree, regular_tree}
use Rattle.sourcemap_index.proofs.encode.DecodedMapEncodable.compact_text.Goals as goal

pub returns-in-Regular-clause-text : goal.returns-in-Regular-clause-text
returns-in-Regular-clause-text c =
    subst (λ t. IfOk c.compact_text.result (λ text. IsEncoded (RecordAnswer t) text.items))
    (sym (ap map_tree c.in-Regular.is ∙ regular_tree c.in-Regular.map))
    (regular_text c.in-Regular.map c.compact_text.result c.compact_text.ensures.text)

pub returns-in-Hermes-clause-text : goal.returns-in-Hermes-clause-text
returns-in-Hermes-clause-text c =
    subst (λ t. IfOk c.compact_text-in-Hermes.result (λ text. IsEncoded (RecordAnswer t) text.items))
    (sym (ap map_tree c.in-Hermes.is ∙ hermes_tree c.in-Hermes.map))
    (hermes_text (hermes_value c.in-Hermes.map) c.compact_text-in-Hermes.result c.compact_text-in-Hermes.ensures.text)
