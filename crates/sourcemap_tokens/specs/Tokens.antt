-- Lists of tokens: sorting and search by generated position, limits on ids, and the list to which encoded tokens
-- decode (`reduced`).
use Rattle.std.specs.Prelude.{◌≡◌, ℕ, ◌≤◌, Bool, ◌&&◌, cond, List, [], ◌∷◌, map, Option, ◌==◌, nat_lt, if◌then◌else◌}
use Rattle.std.specs.Prelude.{IsSortedByKey}
use Rattle.std.specs.List.{AllByRecursion}
use Rattle.std.specs.Ordering.{nat_cmp, ordering_then, is_lt}
use Rattle.std.specs.declared.cmp.Ordering.{Ordering}
use mathlib.Core.Bool.{beq}
use Rattle.sourcemap_tokens.specs.declared.tokens.RawToken.{RawToken}
use Rattle.sourcemap_tokens.specs.Search.{closest}

-- the id for no source and for no name; also the original line and the original column of a decoded token without a
-- source
abbrev pub no_id : ℕ
no_id = 4294967295

-- the order of positions, which are pairs of line and column
abbrev pub position_cmp : ℕ × ℕ → ℕ × ℕ → Ordering
position_cmp p q = ordering_then (nat_cmp p.0 q.0) (nat_cmp p.1 q.1)

-- the generated position of a token
abbrev pub destination : RawToken → ℕ × ℕ
destination token = (token.dst_line, token.dst_col)

-- the tokens are sorted by generated position
abbrev pub AreInOrder : List RawToken → Type 0
AreInOrder tokens = IsSortedByKey destination position_cmp tokens

-- inserts x into a sorted list, before the items with an equal key
abbrev pub insert_by : {X K : Type 0} → (X → K) → (K → K → Ordering) → X → List X → List X
insert_by key cmp x [] = x ∷ []
insert_by key cmp x (y ∷ ys) = cond (is_lt (cmp (key y) (key x))) (y ∷ insert_by key cmp x ys) (x ∷ y ∷ ys)

-- the stable sort of a list by key
abbrev pub sorted_by : {X K : Type 0} → (X → K) → (K → K → Ordering) → List X → List X
sorted_by key cmp [] = []
sorted_by key cmp (x ∷ xs) = insert_by key cmp x (sorted_by key cmp xs)

-- the stable sort of tokens by generated position
abbrev pub in_order : List RawToken → List RawToken
in_order tokens = sorted_by destination position_cmp tokens

-- the closest token and its index: the first token at the generated position `p`, otherwise the last token at a smaller
-- position; `None` if there is no such token
abbrev pub closest_token : List RawToken → ℕ × ℕ → Option (ℕ × RawToken)
closest_token tokens p = closest destination position_cmp tokens p

-- if the source id is `sources` or more, the token has no source and no name: the source id, the original line and the
-- original column are `no_id`, and the name id is `names` or more
abbrev pub IsWithin : (sources names : ℕ) → RawToken → Type 0
IsWithin sources names token =
    sources ≤ token.src_id
    → (token.src_id ≡ no_id) × (token.src_line ≡ no_id) × (token.src_col ≡ no_id)
    × (names ≤ token.name_id)

abbrev pub AllWithin : (sources names : ℕ) → List RawToken → Type 0
AllWithin sources names tokens = AllByRecursion (IsWithin sources names) tokens

-- equal in all fields
abbrev pub are_same : RawToken → RawToken → Bool
are_same s t =
    (s.dst_line == t.dst_line)
    && ((s.dst_col == t.dst_col)
    && ((s.src_line == t.src_line)
    && ((s.src_col == t.src_col)
    && ((s.src_id == t.src_id)
    && ((s.name_id == t.name_id)
    && beq s.is_range t.is_range)))))

-- removes each token that is equal to the token before it; the token before the first one is `previous`
abbrev pub changes_after : RawToken → List RawToken → List RawToken
changes_after previous [] = []
changes_after previous (token ∷ rest) =
    cond (are_same token previous) (changes_after token rest) (token ∷ changes_after token rest)

-- removes each token that is equal to the token before it
abbrev pub without_repeats : List RawToken → List RawToken
without_repeats [] = []
without_repeats (token ∷ rest) = token ∷ changes_after token rest

-- the token, with its name id replaced by `no_id` if it is not below `names`
abbrev pub with_valid_name : (names : ℕ) → RawToken → RawToken
with_valid_name names token = record token { name_id = (if nat_lt token.name_id names then token.name_id else no_id) }

-- removes each token that is equal to the token before it, then replaces each name id that is not below `names` by
-- `no_id`. If the tokens are sorted and satisfy `AllWithin sources names` for some `sources` below 2^32, the `mappings`
-- and `rangeMappings` texts of the tokens decode, with these counts, to the result of `reduced`
abbrev pub reduced : (names : ℕ) → List RawToken → List RawToken
reduced names tokens = map (with_valid_name names) (without_repeats tokens)
