use Rattle.sourcemap_errors.specs.Due.{Gives-given}
use Rattle.std.proofs.Common.{Ok}
use Rattle.sourcemap_hermes.specs.Map.{hermes_value}
use Rattle.sourcemap_c.proofs.ReplacingLemmas.{hermes_due}
use Rattle.sourcemap_c.proofs.replacing.rewritten_hermes.Goals as goal

pub returns : goal.returns
returns c =
    let same = Gives-given hermes_value (hermes_value c.args.map.now) (Ok c.in_ok-copy.copy) c.in_ok-copy.ensures in
    hermes_due c.args.options.now (hermes_value c.args.map.now) (hermes_value c.in_ok-copy.copy) c.rewrite.result c.requires same
    c.rewrite.ensures.value
