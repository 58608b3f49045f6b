use Rattle.std.specs.Option.{option_copied}
use Rattle.std.proofs.Common.{◌∙◌, ap, sym}
use Rattle.sourcemap_check_suspicious.specs.Reading.{text_map_value}
use Rattle.sourcemap_check_suspicious.specs.Suspects.{is_range_doubt}
use Rattle.sourcemap_check_suspicious.proofs.suspects.add_all.Goals as goal

pub returns-in-Item-clause-added : goal.returns-in-Item-clause-added
returns-in-Item-clause-added c =
    λ mappings ranges are.
    rw c.in-Item.is
    (c.add_listed.ensures.added mappings ranges (option_copied c.args.generated) (option_copied c.args.name))

pub returns-in-Ranges-clause-added : goal.returns-in-Ranges-clause-added
returns-in-Ranges-clause-added c =
    λ mappings ranges are.
    let holds = c.is_range_doubt-holds.ensures ∙ ap (is_range_doubt c.in-Ranges.doubt) are.ranges_are in
    rw (c.in-Ranges.is, sym holds) c.add_if.ensures.added

pub returns-in-OtherReference-clause-added : goal.returns-in-OtherReference-clause-added
returns-in-OtherReference-clause-added c =
    λ mappings ranges are.
    rw c.in-OtherReference.is
    (c.add_reference.ensures.added (text_map_value c.args.map.now.map mappings ranges) (option_copied c.args.files))

pub returns-in-Contents-clause-added : goal.returns-in-Contents-clause-added
returns-in-Contents-clause-added c =
    λ mappings ranges are.
    rw c.in-Contents.is
    (c.add_contents.ensures.added mappings ranges (option_copied c.args.generated) (option_copied c.args.name))

pub returns-in-Generated-clause-added : goal.returns-in-Generated-clause-added
returns-in-Generated-clause-added c =
    λ mappings ranges are.
    rw c.in-Generated.is
    (c.add_generated.ensures.added mappings ranges (option_copied c.args.name) (option_copied c.args.files))
