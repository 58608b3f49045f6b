-- The contents of sources, by id.
use Rattle.std.specs.Prelude.{ℕ, ◌++◌, List, take, replicate, Bool, Option, None}
use Rattle.std.specs.Option.{option_eq}
use Rattle.std.specs.Cmp.{IsEquivalence}
use Rattle.std.specs.Cmp.Rules.{comparing}
use Rattle.std.specs.Cmp.Lexicographic.{pointwise}
use Rattle.std.proofs.Common.{rules}
use Rattle.sourcemap_map_parts.specs.TextLists.{same_text}

-- `contents` with exactly `count` items. If `contents` is longer, only its first `count` items remain. If `contents` is
-- shorter, `None` items are added at the end.
abbrev pub fitted : {X : Type 0} → ℕ → List (Option X) → List (Option X)
fitted count contents = take count (contents ++ replicate count None)

-- whether both lists are equally long and, at each index, both have the same text or both have `None`
abbrev pub same_contents : List (Option (List ℕ)) → List (Option (List ℕ)) → Bool
same_contents = pointwise (option_eq same_text)

pub same_contents_equiv : IsEquivalence same_contents
same_contents_equiv = search (comparing, rules) depth 16
