use Rattle.std.proofs.Common.{FitsSigned, rules}
use mir.Syntax.{w64, w128}
use Rattle.sourcemap_check_segments.proofs.SegmentLemmas.{column_sum, through_sum, within_same}
use Rattle.sourcemap_check_segments.proofs.sums.after.Goals as goal

pub returns-clause-sums : goal.returns-clause-sums
returns-clause-sums c = λ before here bytes sums is.
    let old : FitsSigned w128 c.args.sums.column = search rules in
    let number : FitsSigned w64 c.args.segment.now.column = search rules in
    let new : FitsSigned w128 c.added.result = search rules in
    let old_2 : FitsSigned w128 c.args.sums.source = search rules in
    let number_2 : FitsSigned w64 c.args.segment.now.source = search rules in
    let new_2 : FitsSigned w128 c.added-2.result = search rules in
    let old_3 : FitsSigned w128 c.args.sums.line = search rules in
    let number_3 : FitsSigned w64 c.args.segment.now.line = search rules in
    let new_3 : FitsSigned w128 c.added-3.result = search rules in
    let old_4 : FitsSigned w128 c.args.sums.source_column = search rules in
    let number_4 : FitsSigned w64 c.args.segment.now.source_column = search rules in
    let new_4 : FitsSigned w128 c.added-4.result = search rules in
    let old_5 : FitsSigned w128 c.args.sums.name = search rules in
    let number_5 : FitsSigned w64 c.args.segment.now.name = search rules in
    let new_5 : FitsSigned w128 c.added-5.result = search rules in
    record {
      column = column_sum here bytes _ _ _ old number new c.added.ensures.sum sums.column is.column;
      through = record {
        source = through_sum 1 before here bytes _ _ _ old_2 number_2 new_2 c.added-2.ensures.sum sums.through.source is.source;
        line = through_sum 2 before here bytes _ _ _ old_3 number_3 new_3 c.added-3.ensures.sum sums.through.line is.line;
        source_column = through_sum 3 before here bytes _ _ _ old_4 number_4 new_4 c.added-4.ensures.sum sums.through.source_column is.source_column;
        name = through_sum 4 before here bytes _ _ _ old_5 number_5 new_5 c.added-5.ensures.sum sums.through.name is.name;
      };
    }

pub returns-clause-within : goal.returns-clause-within
returns-clause-within c =
    let new : FitsSigned w128 c.added.result = search rules in
    let new_2 : FitsSigned w128 c.added-2.result = search rules in
    let new_3 : FitsSigned w128 c.added-3.result = search rules in
    let new_4 : FitsSigned w128 c.added-4.result = search rules in
    let new_5 : FitsSigned w128 c.added-5.result = search rules in
    record {
      column = within_same _ _ new c.added.ensures.within;
      source = within_same _ _ new_2 c.added-2.ensures.within;
      line = within_same _ _ new_3 c.added-3.ensures.within;
      source_column = within_same _ _ new_4 c.added-4.ensures.within;
      name = within_same _ _ new_5 c.added-5.ensures.within;
    }
