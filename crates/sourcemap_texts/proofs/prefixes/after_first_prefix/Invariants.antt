use Rattle.std.proofs.Common.{◌≡◌, map, drop}
use Rattle.sourcemap_texts.specs.Prefixes.{without_prefix}
use Rattle.sourcemap_texts.proofs.prefixes.after_first_prefix.Given as goal

-- the prefixes that are left give the same result as all prefixes
abbrev pub invariant-loop-prefix : goal.invariant-loop-prefix
invariant-loop-prefix g l = without_prefix (map g.S.AsStr.text l.prefixes) l.text
    ≡ without_prefix (map g.S.AsStr.text (drop l.prefix-index l.prefixes)) l.text
