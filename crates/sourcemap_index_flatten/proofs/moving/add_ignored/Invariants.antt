use Rattle.std.proofs.Common.{◌≡◌, fold, take}
use Rattle.std.specs.BTreeSet.{insert_key}
use Rattle.std.specs.Ordering.{nat_cmp}
use Rattle.sourcemap_index_flatten.specs.Moving.{ignored_numbers}
use Rattle.sourcemap_index_flatten.proofs.moving.add_ignored.Given as goal

abbrev pub invariant-loop-token : goal.invariant-loop-token
invariant-loop-token l = l.all.keys
    ≡ fold (insert_key nat_cmp) l.fn.all.keys (ignored_numbers l.ignored.keys l.sources (take l.token-index l.tokens))
