-- Composition of the tokens of two maps.
use Rattle.std.specs.Prelude.{◌≡◌, ℕ, ◌≤◌, ◌+◌, ◌-◌, min, Bool, true, ◌&&◌, not, cond, nat_lt, ◌==◌, if◌then◌else◌}
use Rattle.std.specs.Prelude.{List, [], ◌∷◌, Result, Ok, Err}
use Rattle.std.specs.List.{flat_map, list_any}
use Rattle.sourcemap_errors.specs.Answer.{UnlessMemory}
use Rattle.sourcemap_errors.specs.declared.errors.Error.{Error}
use Rattle.sourcemap_errors.specs.declared.errors.Error.TheVariants.{IncompatibleSourceMap}
use Rattle.sourcemap_tokens.specs.Tokens.{no_id, in_order}
use Rattle.sourcemap_tokens.specs.declared.tokens.RawToken.{RawToken}
use Rattle.sourcemap_compose.specs.declared.stretches.Side.TheVariants.{Original, Adjustment}
use Rattle.sourcemap_compose.specs.declared.stretches.Stretch.{Stretch}
use Rattle.sourcemap_compose.specs.Stretches.{is_before, stretches_by}

-- two stretches overlap if each starts before the other ends. So an empty stretch overlaps exactly the stretches that
-- start before it and end after it
abbrev pub overlap : Stretch → Stretch → Bool
overlap a o = is_before a.start o.end && is_before o.start a.end

abbrev pub later_start : Stretch → Stretch → ℕ × ℕ
later_start a o = cond (is_before a.start o.start) o.start a.start

-- let the position `p` lie in the stretch `a` of the adjustment. Then `moved a p` is the position to which `a` moves
-- `p`
abbrev pub moved : Stretch → ℕ × ℕ → ℕ × ℕ
moved a p = (a.token.dst_line, p.1 - a.token.src_col + a.token.dst_col)

-- the original column of a token. If the token is a range token with a source, `columns` is added to the column. If the
-- sum exceeds 4294967295, the result is 4294967295
abbrev pub shifted_column : RawToken → ℕ → ℕ
shifted_column token columns =
    if token.is_range && not (token.src_id == no_id) then min (token.src_col + columns) 4294967295 else token.src_col

-- the token for the part of `o` that begins at `start`, where `o` is a stretch of the original. The generated position
-- of this token is the position to which the stretch `a` of the adjustment moves `start`
abbrev pub part_from : ℕ × ℕ → Stretch → Stretch → RawToken
part_from start a o = record o.token {
  dst_line = (moved a start).0;
  dst_col = (moved a start).1;
  src_col = shifted_column o.token (start.1 - o.start.1);
}

abbrev pub composed : Stretch → Stretch → RawToken
composed a o = part_from (later_start a o) a o

-- if the stretches `a` and `o` overlap, a list with their composed token; otherwise the empty list
abbrev pub pair : Stretch → Stretch → List RawToken
pair a o = cond (overlap a o) (composed a o ∷ []) []

-- the tokens of all overlapping pairs. The pairs are in the order of `adjustments`. Pairs with the same stretch of
-- `adjustments` are in the order of `originals`
abbrev pub composed_all : (adjustments originals : List Stretch) → List RawToken
composed_all adjustments originals = flat_map (λ a. flat_map (pair a) originals) adjustments

-- the generated column of a token exceeds the highest column
abbrev pub overflows_column : RawToken → Bool
overflows_column token = nat_lt 4294967295 token.dst_col

-- the adjusted tokens of the original, sorted by generated position, or the error `IncompatibleSourceMap` if a
-- generated column overflows
abbrev pub composition : (original adjustment : List RawToken) → Result (List RawToken) Error
composition original adjustment =
    sorted_unless_overflowing (composed_all (stretches_by Adjustment adjustment) (stretches_by Original original)) where
      sorted_unless_overflowing : List RawToken → Result (List RawToken) Error
      sorted_unless_overflowing tokens =
          cond (list_any overflows_column tokens) (Err IncompatibleSourceMap) (Ok (in_order tokens))

-- the column of `later_start a o` is at least the original column of the token of `a`, and at least the column of the
-- start of `o`. This holds if `a` is a stretch of the adjustment, `o` is a stretch of the original, and they overlap
pub record StartsOnBothLines (a o : Stretch) : Type 0 where
  pub in_adjustment : a.token.src_col ≤ (later_start a o).1
  pub in_original : o.start.1 ≤ (later_start a o).1

-- the error is `OutOfMemory`; or the error is `IncompatibleSourceMap` and `passes` is true
abbrev pub FailsIf : Bool → Error → Type 0
FailsIf passes e = UnlessMemory e ((passes ≡ true) × (e ≡ IncompatibleSourceMap))
