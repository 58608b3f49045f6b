use Rattle.std.proofs.Common.{take, map, string_bytes}
use Rattle.sourcemap_bundles.specs.Folder.{IsReadBy}
use Rattle.sourcemap_bundles.specs.Stored.{files_value}
use Rattle.sourcemap_bundles.proofs.unbundle.read_modules.Given as goal

abbrev pub invariant-loop-name : goal.invariant-loop-name
invariant-loop-name g l =
    IsReadBy (map string_bytes (take l.name-index l.names)) l.initial.bundle.startup_code.items (files_value l.bundle)
