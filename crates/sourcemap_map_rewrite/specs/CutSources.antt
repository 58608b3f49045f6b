-- The prefixes that `rewrite` strips from sources.
use Rattle.std.specs.Prelude.{ℕ, cond, not, List, [], ◌∷◌, ◌++◌, filter, codes, Option, None}
use Rattle.std.specs.List.{list_any}
use Rattle.std.specs.Str.{bytes_eq}
use Rattle.sourcemap_texts.specs.Paths.{common_prefix}
use Rattle.sourcemap_map_rewrite.specs.Kept.{present}

-- the common prefix of the absolute paths among the texts; `None` if `~` is not one of the prefixes, or if the common
-- prefix is empty or `/` alone
abbrev pub common_if : (prefixes texts : List (List ℕ)) → Option (List ℕ)
common_if prefixes texts =
    cond (list_any (λ prefix. bytes_eq prefix (codes "~")) prefixes) (common_prefix texts) None

-- the prefixes other than `~`, then the result of `common_if` unless it is `None`
abbrev pub all_prefixes : (prefixes texts : List (List ℕ)) → List (List ℕ)
all_prefixes prefixes texts =
    filter (λ prefix. not (bytes_eq prefix (codes "~"))) prefixes ++ present (common_if prefixes texts ∷ [])
