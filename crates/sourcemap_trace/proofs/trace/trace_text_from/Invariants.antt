use Rattle.std.proofs.Common.{◌≡◌, ◌++◌, length, string_bytes}
use Rattle.sourcemap_trace.specs.Asked.{IsExact, asked_meaning}
use Rattle.sourcemap_trace.specs.Positions.{first_of}
use Rattle.sourcemap_trace.specs.Trace.{trace_from}
use Rattle.sourcemap_trace.proofs.trace.trace_text_from.Given as goal

-- if lookups are exact, `text` followed by the answers to `rest` equals the answers to all `positions`
abbrev pub invariant-loop-rest : goal.invariant-loop-rest
invariant-loop-rest l = IsExact l.map
    → string_bytes l.text ++ trace_from (first_of l.counting) (asked_meaning l.map) l.rest
    ≡ trace_from (first_of l.counting) (asked_meaning l.map) l.positions

abbrev pub decreases-loop-rest : goal.decreases-loop-rest
decreases-loop-rest l = length l.rest
