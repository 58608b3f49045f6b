use Rattle.std.proofs.Common.{◌≡◌, ◌++◌, length, string_bytes}
use denote.Text.{Utf8}
use denote.Shadow.{shadow}
use Rattle.sourcemap_file_urls.specs.RelativePaths.{folder_parts, steps_up}
use Rattle.sourcemap_file_urls.proofs.relative_paths.push_steps.Given as goal

abbrev pub invariant-loop-later : goal.invariant-loop-later
invariant-loop-later l =
    shadow (Utf8 l.rest)
    × (string_bytes l.path ++ steps_up (folder_parts l.rest) ≡ string_bytes l.fn.path ++ steps_up (folder_parts l.base))

abbrev pub decreases-loop-later : goal.decreases-loop-later
decreases-loop-later l = length l.rest
