use Rattle.std.proofs.Common.{◌∙◌}
use Rattle.sourcemap_records.specs.Jsontypes.{tree}
use Rattle.sourcemap_check_suspicious.proofs.ReadingLemmas.{indexed_texts, plain_texts, same_texts}
use Rattle.sourcemap_check_suspicious.proofs.reading.text_doubts.Goals as goal

pub returns-in-Some-clause-doubts : goal.returns-in-Some-clause-doubts
returns-in-Some-clause-doubts c =
    same_texts c.args.most (tree c.args.raw.now) _ _ c.doubts_in.result
    (indexed_texts c.args.raw.now _ c.in-Some.is) c.doubts_in.ensures.doubts

pub returns-in-None-clause-doubts : goal.returns-in-None-clause-doubts
returns-in-None-clause-doubts c =
    let texts = plain_texts c.args.raw.now c.in-None.is in
    same_texts c.args.most (tree c.args.raw.now) _ _ c.doubts_in-in-None.result
    (c.text_or_empty.ensures ∙ texts.0, c.text_or_empty-in-None.ensures ∙ texts.1) c.doubts_in-in-None.ensures.doubts
