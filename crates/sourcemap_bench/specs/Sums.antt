-- Checksums of results. They are numbers of 32 bits.
use Rattle.std.specs.Prelude.{ℕ, ◌+◌, ◌*◌, ◌%◌, ◌^◌, ◌==◌, List, fold, min, Option, Some, None, if◌then◌else◌}
use Rattle.sourcemap.specs.Token.{TokenValue, says, tokens_from}
use Rattle.sourcemap.specs.Tokens.{no_id}
use Rattle.sourcemap.specs.Trees.{MapTree, lookup}
use Rattle.sourcemap.specs.Types.{MapValue}

-- the new checksum after `number` is added to the checksum `sum`
abbrev pub mixed : ℕ → ℕ → ℕ
mixed sum number = (31 * sum + number) % 2 ^ 32

-- the new checksum after `count` is added to the checksum `sum`. A count above 4294967295 is taken as 4294967295
abbrev pub counted : ℕ → ℕ → ℕ
counted sum count = mixed sum (min count 4294967295)

-- the number that a token adds to a checksum
abbrev pub worth : Option TokenValue → ℕ
worth None = 0
worth (Some t) =
    if t.raw.src_id == no_id then 0 else ((says t).line + 7 * (says t).column + 1) % 2 ^ 32

abbrev pub lookup_sum : MapTree → List (ℕ × ℕ) → ℕ → ℕ
lookup_sum t positions start = fold (λ sum p. mixed sum (worth (lookup t p))) start positions

-- the checksum that results from `sum` when one number is added for each token in `tokens`, in order. The number for a
-- token is its `worth`
abbrev pub with_all : ℕ → List TokenValue → ℕ
with_all sum tokens = fold (λ sum t. mixed sum (worth (Some t))) sum tokens

abbrev pub token_sum : MapValue → ℕ → ℕ
token_sum m start = with_all start (tokens_from m 0)
