-- The functions of a source, and the function that contains an original position.
use Rattle.std.specs.Prelude.{ℕ, ◌+◌, List, Bool, Option, IsSortedByKey, nat_eq}
use Rattle.std.specs.Ordering.{on, eq_of_both}
use Rattle.std.specs.Cmp.{IsEquivalence}
use Rattle.std.specs.Cmp.Rules.{comparing}
use Rattle.std.specs.Cmp.Lexicographic.{pointwise}
use Rattle.std.proofs.Common.{rules}
use Rattle.sourcemap_tokens.specs.Search.{closest_item}
use Rattle.sourcemap_tokens.specs.Tokens.{position_cmp}
use Rattle.sourcemap_hermes_scopes.specs.declared.offsets.HermesScopeOffset.{HermesScopeOffset}

-- the position of an offset: its line, from 1, and its column, from 0
abbrev pub offset_position : HermesScopeOffset → ℕ × ℕ
offset_position offset = (offset.line, offset.column)

-- the index of the name of the function that starts at an offset
abbrev pub offset_name : HermesScopeOffset → ℕ
offset_name offset = offset.name_index

-- offsets are sorted by position
abbrev pub AreOffsetsInOrder : List HermesScopeOffset → Type 0
AreOffsetsInOrder offsets = IsSortedByKey offset_position position_cmp offsets

-- the first offset at the original position `p`. If there is none, the last offset before `p`. `None` if all offsets
-- are after `p`. First and last refer to the order of the list. The line and the column of `p` count from 0
abbrev pub closest_offset : List HermesScopeOffset → ℕ × ℕ → Option HermesScopeOffset
closest_offset offsets p = closest_item offset_position position_cmp offsets (p.0 + 1, p.1)

-- offsets with equal fields
abbrev pub same_offset : HermesScopeOffset → HermesScopeOffset → Bool
same_offset =
    eq_of_both (on (λ o. o.line) nat_eq)
    (eq_of_both (on (λ o. o.column) nat_eq)
    (on (λ o. o.name_index) nat_eq))

-- equal lists of offsets
abbrev pub same_offsets : List HermesScopeOffset → List HermesScopeOffset → Bool
same_offsets = pointwise same_offset

pub same_offsets_equiv : IsEquivalence same_offsets
same_offsets_equiv = search (comparing, rules) depth 16
