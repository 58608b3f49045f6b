use Rattle.std.proofs.Common.{arith}
use Rattle.sourcemap_bundles.specs.Stored.{files_value}
use Rattle.sourcemap_bundles.proofs.FolderLemmas.{IsReadBy-more}
use Rattle.sourcemap_bundles.proofs.unbundle.read_modules.Goals as goal

pub loop-name-preserved : goal.loop-name-preserved
loop-name-preserved g c =
    IsReadBy-more c.args.names.now c.loop-name.name-index c.name-item.result c.as_str.result.now
    c.args.startup_code.items c.in_ok-id.id c.in_ok-text.text.items
    (files_value c.loop-name.bundle) (files_value c.add.new.self) (omega arith) c.name-item.is c.as_str.ensures.value
    c.in_ok-add.ensures.added c.in_ok-id.ensures.number c.loop-name.invariant
