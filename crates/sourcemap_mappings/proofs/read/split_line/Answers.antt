use Rattle.std.proofs.Common.{Some, None, lit<}
use Rattle.std.proofs.lemmas.Str.Pattern.{split_parts}
use Rattle.sourcemap_mappings.specs.Segment.{semicolon}
use Rattle.sourcemap_mappings.proofs.ReadLemmas.{lines_of-last, lines_of-first}
use Rattle.sourcemap_mappings.proofs.read.split_line.Goals as goal

pub returns-in-Some-clause-split : goal.returns-in-Some-clause-split
returns-in-Some-clause-split c =
    let parts =
    split_parts semicolon c.args.text.now (Some (c.in-Some.line, c.in-Some.tail)) c.in-Some.ensures.cases (lit< tt) in
    lines_of-first _ _ _ parts.0 parts.1

pub returns-in-None-clause-split : goal.returns-in-None-clause-split
returns-in-None-clause-split c =
    lines_of-last _ (split_parts semicolon c.args.text.now None c.in-None.ensures.cases (lit< tt))
