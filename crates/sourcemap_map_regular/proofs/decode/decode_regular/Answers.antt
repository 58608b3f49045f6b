use Rattle.std.proofs.Common.{Ok, Err}
use Rattle.sourcemap_errors.proofs.AnswerLemmas.{Gives-only}
use Rattle.sourcemap_map_conversions.specs.Parts.{parts_view}
use Rattle.sourcemap_records.specs.Jsontypes.{flat, tree}
use Rattle.sourcemap_map_regular.specs.Map.{MapValue}
use Rattle.sourcemap_map_regular.specs.Decode.{RecordDecodes}
use Rattle.sourcemap_map_regular.proofs.DecodeLemmas.{RecordDecodes-same, decoded, decoded-well}
use Rattle.sourcemap_map_regular.proofs.decode.decode_regular.Goals as goal

pub returns-in-Err-clause-answer : goal.returns-in-Err-clause-answer
returns-in-Err-clause-answer c = c.in-Err.ensures.answer

pub returns-in-Err-clause-only : goal.returns-in-Err-clause-only
returns-in-Err-clause-only c =
    Gives-only {X = MapValue} {Y = MapValue} (λ m. m) (RecordDecodes (flat (tree c.args.rsm)))
    (RecordDecodes-same (flat (tree c.args.rsm)))
    (Err c.in-Err.error) c.in-Err.ensures.answer

pub returns-in-Ok-clause-answer : goal.returns-in-Ok-clause-answer
returns-in-Ok-clause-answer c =
    decoded (flat (tree c.args.rsm)) (parts_view c.in-Ok.parts) c.map_of.result c.map_of.ensures c.in-Ok.ensures.answer

pub returns-in-Ok-clause-only : goal.returns-in-Ok-clause-only
returns-in-Ok-clause-only c =
    Gives-only {X = MapValue} {Y = MapValue} (λ m. m) (RecordDecodes (flat (tree c.args.rsm)))
    (RecordDecodes-same (flat (tree c.args.rsm)))
    (Ok c.map_of.result) (decoded (flat (tree c.args.rsm))
    (parts_view c.in-Ok.parts) c.map_of.result c.map_of.ensures c.in-Ok.ensures.answer)

pub returns-in-Ok-clause-well_formed : goal.returns-in-Ok-clause-well_formed
returns-in-Ok-clause-well_formed c = decoded-well c.in-Ok.parts c.map_of.result c.map_of.ensures c.in-Ok.ensures.within
