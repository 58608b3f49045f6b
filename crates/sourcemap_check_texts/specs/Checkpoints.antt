-- Offsets of columns in the lines of the sources of a map.
use Rattle.std.specs.Prelude.{◌≡◌, ℕ, ◌==◌, ◌&&◌, Bool, nat_lt, nat_le, cond, List, Some}
use Rattle.std.specs.List.{All}
use Rattle.sourcemap_source_views.specs.Columns.{IsOffset}
use Rattle.sourcemap_tokens.specs.declared.tokens.RawToken.{RawToken}
use Rattle.sourcemap_map_regular.specs.Map.{MapValue}
use Rattle.sourcemap_check_texts.specs.Sources.{Files, line_of}
use Rattle.sourcemap_check_texts.specs.declared.checkpoints.Checkpoint.{Checkpoint}

-- a checkpoint is an offset of its line
abbrev pub IsCheckpoint : MapValue → Files → Checkpoint → Type 0
IsCheckpoint m files c =
    (line : List ℕ) → line_of m files c.source c.line ≡ Some line → IsOffset line c.at.offset c.at.units

abbrev pub AreCheckpoints : MapValue → Files → List Checkpoint → Type 0
AreCheckpoints m files checkpoints = All (IsCheckpoint m files) checkpoints

-- a checkpoint is on the original line of a token
abbrev pub is_on_line : Checkpoint → RawToken → Bool
is_on_line c t = (c.source == t.src_id) && (c.line == t.src_line)

-- a checkpoint is not after the original position of a token
abbrev pub is_not_after : Checkpoint → RawToken → Bool
is_not_after c t =
    cond (c.source == t.src_id)
    (cond (c.line == t.src_line) (nat_le c.at.units t.src_col) (nat_lt c.line t.src_line)) (nat_lt c.source t.src_id)
