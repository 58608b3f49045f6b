-- The original position that a list of tokens gives to a generated position. Also `IsMovedAlone`, a premise of the law
-- `moved_positions_answer_as_before`. The law: if the adjustment moves position `q` to position `p`, the composition
-- gives `p` the original position that the original map gives `q`.
use Rattle.std.specs.Prelude.{◌≡◌, ℕ, ◌+◌, ◌-◌, min, Bool, ◌&&◌, ◌==◌, true, false, if◌then◌else◌, List, Option, Some}
use Rattle.std.specs.Prelude.{option_map, slice_get}
use Rattle.std.specs.List.{Contains}
use Rattle.sourcemap_tokens.specs.Search.{closest_item}
use Rattle.sourcemap_tokens.specs.Tokens.{destination, position_cmp}
use Rattle.sourcemap_tokens.specs.declared.tokens.RawToken.{RawToken}
use Rattle.sourcemap_compose.specs.declared.stretches.Side.TheVariants.{Original, Adjustment}
use Rattle.sourcemap_compose.specs.declared.stretches.Stretch.{Stretch}
use Rattle.sourcemap_compose.specs.Stretches.{is_before, stretches_by}
use Rattle.sourcemap_compose.specs.Composition.{composed, moved, overlap}

-- an original position: source id, line, column, name id, and whether a range token gives it
pub record Origin : Type 0 where
  pub source : ℕ
  pub line : ℕ
  pub column : ℕ
  pub name : ℕ
  pub is_range : Bool

-- the columns from a range token to a position on its line; 0 for any other token, for a position on another line, and
-- for a position before the token
abbrev pub distance : RawToken → ℕ × ℕ → ℕ
distance token p = if token.is_range && (token.dst_line == p.0) then p.1 - token.dst_col else 0

-- the origin that a token gives to a position
abbrev pub origin_by : RawToken → ℕ × ℕ → Origin
origin_by token p = record {
  source = token.src_id;
  line = token.src_line;
  column = min (token.src_col + distance token p) 4294967295;
  name = token.name_id;
  is_range = token.is_range;
}

-- the origin that the closest token gives to a position
abbrev pub origin : List RawToken → ℕ × ℕ → Option Origin
origin tokens p = option_map (λ token. origin_by token p) (closest_item destination position_cmp tokens p)

-- a position lies in a stretch: from its start up to, not including, its end
abbrev pub LiesIn : ℕ × ℕ → Stretch → Type 0
LiesIn q a = (is_before q a.start ≡ false) × (is_before q a.end ≡ true)

-- no two tokens have the same generated position
abbrev pub HasDistinctDestinations : List RawToken → Type 0
HasDistinctDestinations tokens =
    (i j : ℕ) (s t : RawToken) → slice_get tokens i ≡ Some s → slice_get tokens j ≡ Some t
    → destination s ≡ destination t → i ≡ j

-- the token closest to a position is on the line of the position
abbrev pub ClosestIsOnLine : List RawToken → ℕ × ℕ → Type 0
ClosestIsOnLine tokens q =
    (t : RawToken) × (closest_item destination position_cmp tokens q ≡ Some t) × (t.dst_line ≡ q.0)

-- a stretch of `adjustments` and a stretch of `originals` give a composed token if they overlap. No stretch of
-- `adjustments` other than `a` gives a token at a generated position from `moved a a.start` to `p`, both included
abbrev pub IsAloneUpTo : ℕ × ℕ → Stretch → (adjustments originals : List Stretch) → Type 0
IsAloneUpTo p a adjustments originals =
    (b o : Stretch) → Contains adjustments b → Contains originals o → overlap b o ≡ true
    → is_before (destination (composed b o)) (moved a a.start) ≡ false
    → is_before p (destination (composed b o)) ≡ false
    → b ≡ a

-- the position `q` lies in the stretch `a` of the adjustment. In the original, the token closest to `q` is on the line
-- of `q`, and no two tokens have the same generated position. Consider the composed tokens whose generated position is
-- at or after `moved a a.start`, and at or before `moved a q`. All of them come from `a`
pub record IsMovedAlone (original adjustment : List RawToken) (a : Stretch) (q : ℕ × ℕ) : Type 0 where
  pub stretch : Contains (stretches_by Adjustment adjustment) a
  pub inside : LiesIn q a
  pub on_line : ClosestIsOnLine original q
  pub apart : HasDistinctDestinations original
  pub alone : IsAloneUpTo (moved a q) a (stretches_by Adjustment adjustment) (stretches_by Original original)
