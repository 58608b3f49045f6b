use Rattle.std.proofs.Common.{◌≡◌, ◌-◌, ◌≤◌, [], ◌∷◌, ◌++◌, length, drop}
use Rattle.json.specs.Print.{escape}
use Rattle.sourcemap_json_write.proofs.quoting.put_escaped.Given as goal

-- the output so far, followed by the escaped rest of the text and a quote, is the whole output
abbrev pub invariant-loop-from : goal.invariant-loop-from
invariant-loop-from l =
    (l.at ≤ length l.text)
    × (l.out.items ++ (escape (drop l.at l.text) ++ 34 ∷ []) ≡ l.fn.out.items ++ (escape l.text ++ 34 ∷ []))

abbrev pub decreases-loop-from : goal.decreases-loop-from
decreases-loop-from l = length l.text - l.at
