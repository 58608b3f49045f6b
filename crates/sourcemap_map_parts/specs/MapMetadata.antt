-- The file name, the ignore list and the debug id of a map.
use Rattle.std.specs.Prelude.{ℕ, List, [], nat_eq, Bool, Option, None}
use Rattle.std.specs.Option.{option_eq}
use Rattle.std.specs.Ordering.{on, eq_of_both}
use Rattle.std.specs.Cmp.{IsEquivalence}
use Rattle.std.specs.Cmp.Rules.{comparing}
use Rattle.std.specs.Cmp.Lexicographic.{pointwise}
use Rattle.std.proofs.Common.{rules}
use Rattle.sourcemap_map_parts.specs.TextLists.{same_text}

-- the name of the generated file, the source ids on the ignore list in increasing order, and the debug id
pub record MetadataValue : Type 0 where
  pub file : Option (List ℕ)
  pub ignored : List ℕ
  pub debug_id : Option (List ℕ)

-- metadata with `file` as the file name, an empty ignore list and no debug id
abbrev pub metadata_of_file : Option (List ℕ) → MetadataValue
metadata_of_file file = record { file = file; ignored = []; debug_id = None }

-- equality of all three fields
abbrev pub same_metadata : MetadataValue → MetadataValue → Bool
same_metadata =
    eq_of_both (eq_of_both
    (on (λ h. h.file) (option_eq same_text))
    (on (λ h. h.ignored) (pointwise nat_eq)))
    (on (λ h. h.debug_id) (option_eq same_text))

pub same_metadata_equiv : IsEquivalence same_metadata
same_metadata_equiv = search (comparing, rules) depth 16
