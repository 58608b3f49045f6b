use Rattle.std.proofs.Common.{◌≡◌, ◌==◌, bytes_eq, codes, false, length, take}
use Rattle.std.specs.List.{list_any, slice_split}
use Rattle.sourcemap_cli.proofs.checks.has_parent.Given as goal

abbrev pub invariant-loop-part : goal.invariant-loop-part
invariant-loop-part l =
    list_any (λ part. bytes_eq part (codes "..")) (take (length l.yielded) (slice_split (λ b. b == 47) l.path)) ≡ false
