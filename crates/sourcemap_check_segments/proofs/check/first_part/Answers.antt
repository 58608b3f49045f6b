use Rattle.std.proofs.Common.{Some, None}
use Rattle.std.proofs.lemmas.Str.Pattern.{split_parts}
use Rattle.sourcemap_check_segments.proofs.SegmentLemmas.{split_last, split_first}
use Rattle.sourcemap_check_segments.proofs.check.first_part.Goals as goal

pub returns-in-Some-clause-split : goal.returns-in-Some-clause-split
returns-in-Some-clause-split c =
    let parts =
    split_parts c.args.separator c.args.text.now (Some (c.in-Some.part, c.in-Some.rest)) c.in-Some.ensures.cases
    c.requires in
    split_first _ _ _ _ parts.0 parts.1

pub returns-in-None-clause-split : goal.returns-in-None-clause-split
returns-in-None-clause-split c =
    split_last _ _ (split_parts c.args.separator c.args.text.now None c.in-None.ensures.cases c.requires)
