use Rattle.std.proofs.Common.{◌≡◌, ◌∷◌, ◌++◌, length, flat_map, string_bytes}
use Rattle.std.specs.List.{join_with_byte}
use denote.Text.{Utf8}
use denote.Shadow.{shadow}
use Rattle.sourcemap_file_urls.specs.RelativePaths.{parts}
use Rattle.sourcemap_file_urls.proofs.relative_paths.push_joined.Given as goal

abbrev pub invariant-loop-part : goal.invariant-loop-part
invariant-loop-part l =
    shadow (Utf8 l.rest)
    × (string_bytes l.path ++ flat_map (λ part. 47 ∷ part) (parts l.rest)
    ≡ string_bytes l.fn.path ++ join_with_byte 47 (parts l.target))

abbrev pub decreases-loop-part : goal.decreases-loop-part
decreases-loop-part l = length l.rest
