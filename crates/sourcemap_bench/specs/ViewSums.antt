-- Checksums of lines of texts, and of guessed names.
use Rattle.std.specs.Prelude.{ℕ, suc, zero, ◌+◌, List, codes, fold, length, min, take, Option, Some, None}
use Rattle.sourcemap.specs.Lines.{line_bodies}
use Rattle.sourcemap.specs.TokenWalk.{function_name}
use Rattle.sourcemap.specs.Types.{MapValue}
use Rattle.sourcemap_bench.specs.Sums.{counted, mixed}

-- the new checksum after the byte counts of `lines` are added to the checksum `sum`, in order. A byte count above
-- 4294967295 is taken as 4294967295
abbrev pub with_lengths : ℕ → List (List ℕ) → ℕ
with_lengths sum lines = fold (λ sum line. counted sum (length line)) sum lines

-- the new checksum after the byte counts of the lines in the text `source` are added to the checksum `start`, in order.
-- Lines after the first 4294967296 lines are ignored. Line terminators are not counted. A byte count above 4294967295
-- is taken as 4294967295
abbrev pub line_sum : List ℕ → ℕ → ℕ
line_sum source start = with_lengths start (take 4294967296 (line_bodies source))

-- the minified name that `name_sum` searches for. No function of the timed texts has this name
abbrev pub absent_name : List ℕ
absent_name = codes "nameOfNoFunction"

-- the number that is added to a checksum for a guessed name: the byte count of the name plus 1, at most 4294967295. If
-- there is no name, the number is 0
abbrev pub name_worth : Option (List ℕ) → ℕ
name_worth None = 0
name_worth (Some name) = min (length name + 1) 4294967295

-- the checksum that results from `start` when one number is added for each generated position in `positions`, in order.
-- At each position, `function_name` tries to guess the original name of the function that is called `absent_name` in
-- the generated text `source`. The number for the position is the `name_worth` of the guessed name, or 0 if no name is
-- guessed
abbrev pub name_sum : MapValue → (source : List ℕ) → List (ℕ × ℕ) → ℕ → ℕ
name_sum m source positions start =
    fold (λ sum p. mixed sum (name_worth (function_name m source absent_name p))) start positions

-- the checksum after the given number of rounds. The checksum before the first round is 0. `round` computes the
-- checksum after a round from the checksum before the round
abbrev pub rounds_sum : (ℕ → ℕ) → ℕ → ℕ
rounds_sum round zero = 0
rounds_sum round (suc n) = round (rounds_sum round n)
