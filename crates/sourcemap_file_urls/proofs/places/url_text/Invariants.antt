use Rattle.std.proofs.Common.{◌≡◌, ◌==◌, ◌++◌, List, ℕ, length, map, filter, codes, string_bytes}
use Rattle.sourcemap_file_urls.specs.Places.{is_component, escaped}
use Rattle.sourcemap_file_urls.proofs.places.url_text.Given as goal

-- `text` is `file://` and then, for each component so far, a `/` and the escaped component. `is_bare` is true exactly
-- if there is no component so far
abbrev pub invariant-loop-part : goal.invariant-loop-part
invariant-loop-part l =
    let parts : List (List ℕ) = filter is_component (map (λ part. part.now) l.yielded) in
    (string_bytes l.text ≡ codes "file://" ++ escaped parts) × (l.is_bare ≡ (length parts == 0))
