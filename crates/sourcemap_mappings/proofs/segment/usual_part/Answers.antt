use Rattle.sourcemap_mappings.proofs.SegmentLemmas.{part_of_one, part_of_four, part_of_five}
use Rattle.sourcemap_mappings.proofs.segment.usual_part.Goals as goal

pub returns-in-Some-clause-read : goal.returns-in-Some-clause-read
returns-in-Some-clause-read c =
    part_of_one c.args.line.now c.in_ok-column.rest.now c.in_ok-column.column c.in-Some.tail c.in_ok-column.ensures
    c.in-Some.ensures

pub returns-in-Some-part_end-clause-read : goal.returns-in-Some-part_end-clause-read
returns-in-Some-part_end-clause-read c =
    part_of_four c.args.line.now c.in_ok-column.rest.now c.in_ok-source.rest.now c.in_ok-row.rest.now
    c.in_ok-source_column.rest.now
    c.in_ok-column.column c.in_ok-source.source c.in_ok-row.row c.in_ok-source_column.source_column
    c.in-Some-part_end.tail
    c.in_ok-column.ensures c.in_ok-source.ensures c.in_ok-row.ensures c.in_ok-source_column.ensures
    c.in-Some-part_end.ensures

pub returns-clause-read : goal.returns-clause-read
returns-clause-read c =
    part_of_five c.args.line.now c.in_ok-column.rest.now c.in_ok-source.rest.now c.in_ok-row.rest.now
    c.in_ok-source_column.rest.now
    c.in_ok-name.rest.now c.in_ok-column.column c.in_ok-source.source c.in_ok-row.row
    c.in_ok-source_column.source_column c.in_ok-name.name
    c.in_ok-tail.tail c.in_ok-column.ensures c.in_ok-source.ensures c.in_ok-row.ensures c.in_ok-source_column.ensures
    c.in_ok-name.ensures c.in_ok-tail.ensures
