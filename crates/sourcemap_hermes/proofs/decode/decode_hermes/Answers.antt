use Rattle.sourcemap_errors.proofs.AnswerLemmas.{Gives-only}
use Rattle.sourcemap_records.specs.Jsontypes.{flat, tree}
use Rattle.sourcemap_hermes.specs.Map.{hermes_value}
use Rattle.sourcemap_hermes.specs.Decode.{HermesDecodes}
use Rattle.sourcemap_hermes.proofs.DecodeLemmas.{HermesDecodes-same}
use Rattle.sourcemap_hermes.proofs.decode.decode_hermes.Goals as goal

pub returns-clause-only : goal.returns-clause-only
returns-clause-only c =
    Gives-only hermes_value (HermesDecodes (flat (tree c.args.rsm)))
    (HermesDecodes-same (flat (tree c.args.rsm))) c.decode_hermes_record.result c.decode_hermes_record.ensures.answer
