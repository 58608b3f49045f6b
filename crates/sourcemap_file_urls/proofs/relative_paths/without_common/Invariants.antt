use Rattle.std.proofs.Common.{◌≡◌, length}
use Rattle.sourcemap_file_urls.specs.RelativePaths.{parts, folder_parts, after_common}
use Rattle.sourcemap_file_urls.proofs.relative_paths.without_common.Given as goal

abbrev pub invariant-loop-later : goal.invariant-loop-later
invariant-loop-later l =
    after_common (folder_parts l.rest.0.now) (parts l.rest.1.now) ≡ after_common (folder_parts l.base) (parts l.target)

abbrev pub decreases-loop-later : goal.decreases-loop-later
decreases-loop-later l = length l.rest.0.now
