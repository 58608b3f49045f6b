use Rattle.sourcemap_records.specs.Jsontypes.{flat, tree}
use Rattle.sourcemap_map_conversions.proofs.FromRecordLemmas.{refused-tokens, read, few-names, all-within}
use Rattle.sourcemap_map_conversions.proofs.from_record.parts_of_record.Goals as goal

pub returns-in-Err-clause-answer : goal.returns-in-Err-clause-answer
returns-in-Err-clause-answer c =
    refused-tokens (flat (tree c.args.rsm)) c.record_parts-texts.result c.record_parts-texts.ensures
    (c.have_few_items.ensures.0 c.if-not-have_few_items.false) c.in-Err.error
    (rw (← c.len-sources.ensures, ← c.len-names.ensures) c.in-Err.ensures.answer)

pub returns-in-Ok-clause-answer : goal.returns-in-Ok-clause-answer
returns-in-Ok-clause-answer c =
    read (flat (tree c.args.rsm)) c.record_parts-texts.result c.record_parts-texts.ensures
    (c.have_few_items.ensures.0 c.if-not-have_few_items.false) c.in-Ok.tokens
    (rw (← c.len-sources.ensures, ← c.len-names.ensures) c.in-Ok.ensures.answer)
    c.parts_with.result c.parts_with.ensures

pub returns-in-Ok-clause-few_names : goal.returns-in-Ok-clause-few_names
returns-in-Ok-clause-few_names c =
    few-names (flat (tree c.args.rsm)) c.record_parts-texts.result c.record_parts-texts.ensures
    (c.have_few_items.ensures.0 c.if-not-have_few_items.false) c.in-Ok.tokens
    c.parts_with.result c.parts_with.ensures

pub returns-in-Ok-clause-within : goal.returns-in-Ok-clause-within
returns-in-Ok-clause-within c =
    all-within (flat (tree c.args.rsm)) c.record_parts-texts.result c.record_parts-texts.ensures c.in-Ok.tokens
    (rw (← c.len-sources.ensures, ← c.len-names.ensures) c.in-Ok.ensures.within)
    c.parts_with.result c.parts_with.ensures
