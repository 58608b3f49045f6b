use Rattle.std.proofs.Common.{◌≡◌, ◌==◌, ◌<◌, ◌≤◌, ◌+◌, ◌-◌, ℕ, true, false, get_or, length, take}
use Rattle.std.specs.Char.{is_ascii_digit}
use Rattle.std.specs.List.{list_all}
use Rattle.std.specs.Str.Parse.{digits_value}
use Rattle.sourcemap_trace.proofs.positions.number_before.Given as goal

-- the bytes before `index` are digits, none of them is `mark`, and `value` is their decimal value, at most
-- `first + 4294967295`
abbrev pub invariant-loop-index : goal.invariant-loop-index
invariant-loop-index l = record {
  bound : l.index ≤ length l.bytes;
  others : (k : ℕ) → k < l.index → (get_or l.bytes k 0 == l.mark) ≡ false;
  digits : list_all is_ascii_digit (take l.index l.bytes) ≡ true;
  value : l.value ≡ digits_value 10 (take l.index l.bytes);
  within : l.value ≤ l.first + 4294967295;
}

abbrev pub decreases-loop-index : goal.decreases-loop-index
decreases-loop-index l = length l.bytes - l.index
