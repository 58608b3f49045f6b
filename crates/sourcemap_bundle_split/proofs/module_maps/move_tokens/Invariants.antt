use Rattle.std.proofs.Common.{◌≡◌, map, take}
use Rattle.sourcemap_tokens.specs.declared.tokens.RawToken.{RawToken}
use Rattle.sourcemap_bundle_split.specs.ModuleMap.{moved_by, used_ids}
use Rattle.sourcemap_bundle_split.proofs.module_maps.move_tokens.Given as goal

abbrev pub invariant-loop-token : goal.invariant-loop-token
invariant-loop-token l = record {
  sources : l.sources.ids
      ≡ used_ids l.fn.sources.count (map (λ (t : RawToken). t.src_id) (take l.token-index l.tokens));
  names : l.names.ids ≡ used_ids l.fn.names.count (map (λ (t : RawToken). t.name_id) (take l.token-index l.tokens));
  same_sources : l.sources.count ≡ l.fn.sources.count;
  same_names : l.names.count ≡ l.fn.names.count;
  moved : l.moved.items ≡ map (moved_by l.line l.sources.ids l.names.ids) (take l.token-index l.tokens);
}
