use Rattle.std.specs.Option.{option_copied}
use Rattle.sourcemap_check_suspicious.specs.Reading.{text_map_value}
use Rattle.sourcemap_check_suspicious.proofs.SuspectLemmas.{read, unread}
use Rattle.sourcemap_check_suspicious.proofs.suspects.suspicious_beside.Goals as goal

pub returns-in-Ok-clause-wrong : goal.returns-in-Ok-clause-wrong
returns-in-Ok-clause-wrong c =
    let is = c.in-Ok.ensures in
    let decoded = is.decoded in
    read c.args.most c.args.bytes.now (option_copied c.args.generated) (option_copied c.args.name)
    (option_copied c.args.files) (text_map_value c.in-Ok.map.map decoded.mappings decoded.ranges) _ decoded.decodes
    (c.look_at.ensures.wrong decoded.mappings decoded.ranges is.doubts)

pub returns-in-Err-clause-wrong : goal.returns-in-Err-clause-wrong
returns-in-Err-clause-wrong c =
    unread c.args.most c.args.bytes.now (option_copied c.args.generated) (option_copied c.args.name)
    (option_copied c.args.files) _ _ c.in-Err.ensures c.nothing_after.ensures
