use Rattle.std.proofs.Common.{◌≡◌, map, option_map, take, string_bytes, vec_len}
use Rattle.sourcemap_texts.specs.Texts.{contents_in}
use Rattle.sourcemap_builder.specs.Builder.{with_changes}
use Rattle.sourcemap_texts.specs.Prefixes.{without_prefix}
use Rattle.sourcemap_builder.proofs.builder.cut_texts.Given as goal

-- `cut` has `id` items. The current texts are `texts` changed by `current`. The changes `cut` turn the first `id` texts
-- of `texts` into the results of `without_prefix` for the first `id` current texts
abbrev pub invariant-loop-id : goal.invariant-loop-id
invariant-loop-id g l =
    (vec_len l.cut ≡ l.id)
    × (with_changes (contents_in l.cut) (take l.id l.texts)
    ≡ take l.id (map (without_prefix (map g.S.AsStr.text l.prefixes))
    (with_changes (map (option_map string_bytes) l.current) l.texts)))
