use Rattle.std.proofs.Common.{◌≡◌, List, ℕ, ◌++◌, drop}
use Rattle.sourcemap_headers.specs.HeaderReader.{remaining_in}
use Rattle.sourcemap_headers.specs.declared.header_reader.HeaderState.TheVariants.{InHeader}
use Rattle.sourcemap_headers.proofs.header_reader.skip_junk.Given as goal

-- later reads give the same result for the rest of the chunk, in state `InHeader after_return`, as for the whole chunk,
-- in state `InHeader follows_return`
abbrev pub invariant-loop-byte : goal.invariant-loop-byte
invariant-loop-byte l =
    (l.at ≡ l.byte-index)
    × ((later : List ℕ) → remaining_in (InHeader l.after_return) (drop l.byte-index l.chunk ++ later)
    ≡ remaining_in (InHeader l.fn.follows_return) (l.chunk ++ later))
