-- The sources of a map, resolved against its `sourceRoot`.
use Rattle.std.specs.Prelude.{ℕ, ◌-◌, List, [], ◌++◌, length, map, take, codes, nat_eq, Bool, ◌||◌, ◌==◌, if◌then◌else◌}
use Rattle.std.specs.Prelude.{Option, unwrap_or}
use Rattle.std.specs.List.{starts_with, ends_with}
use Rattle.std.specs.Option.{option_eq}
use Rattle.std.specs.Ordering.{on, eq_of_both}
use Rattle.std.specs.Cmp.{IsEquivalence}
use Rattle.std.specs.Cmp.Rules.{comparing}
use Rattle.std.specs.Cmp.Lexicographic.{pointwise}
use Rattle.std.proofs.Common.{rules}
use Rattle.sourcemap_map_parts.specs.TextLists.{same_text}

-- the sources by id, not yet resolved, and the root that they are resolved against
pub record SourcesValue : Type 0 where
  pub root : Option (List ℕ)
  pub texts : List (List ℕ)

-- a source that starts with `/`, `http:` or `https:`
abbrev pub is_absolute_source : List ℕ → Bool
is_absolute_source text =
    starts_with nat_eq text (codes "/")
    || (starts_with nat_eq text (codes "http:") || starts_with nat_eq text (codes "https:"))

-- if the text ends with `/`, the text without this last `/`; otherwise the text itself
abbrev pub without_slash : List ℕ → List ℕ
without_slash text = if ends_with nat_eq text (codes "/") then take (length text - 1) text else text

-- A source resolved against a root. An absolute source is unchanged, and an empty root leaves any source unchanged.
abbrev pub resolved_against : List ℕ → List ℕ → List ℕ
resolved_against root source =
    if (length root == 0) || is_absolute_source source then source else without_slash root ++ codes "/" ++ source

abbrev pub resolved : Option (List ℕ) → List ℕ → List ℕ
resolved root source = resolved_against (unwrap_or root []) source

-- all sources, resolved
abbrev pub resolved_texts : SourcesValue → List (List ℕ)
resolved_texts s = map (resolved s.root) s.texts

-- the same root and the same texts
abbrev pub same_sources : SourcesValue → SourcesValue → Bool
same_sources =
    eq_of_both
    (on (λ s. s.root) (option_eq same_text))
    (on (λ s. s.texts) (pointwise same_text))

pub same_sources_equiv : IsEquivalence same_sources
same_sources_equiv = search (comparing, rules) depth 16
