-- Texts by number, and as keys of a tree.
use Rattle.std.specs.Prelude.{ℕ, Bool, false, List, Option, None, Some}
use Rattle.std.specs.BTreeMap.{BTreeMap, get_by}
use Rattle.std.specs.Cmp.Lexicographic.{slice_cmp}
use Rattle.std.specs.Ordering.{nat_cmp}
use Rattle.std.specs.Str.{bytes_eq}

-- there is a text, and it is equal to `text`
abbrev pub is_text : List ℕ → Option (List ℕ) → Bool
is_text text None = false
is_text text (Some other) = bytes_eq other text

-- the number of a text in a tree; `None` if the tree does not have the text
abbrev pub number_in_tree : {T : Type 0} → (T → List ℕ) → BTreeMap T ℕ → List ℕ → Option ℕ
number_in_tree bytes tree text = get_by (λ key. slice_cmp nat_cmp text (bytes key)) tree
