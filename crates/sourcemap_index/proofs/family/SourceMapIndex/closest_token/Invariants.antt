use Rattle.std.proofs.Common.{◌≡◌}
use Rattle.sourcemap_map_regular.specs.Token.{TokenValue}
use Rattle.sourcemap_index_model.specs.MapTree.{index_tree}
use Rattle.sourcemap_index_model.specs.Meaning.{lookup}
use Rattle.sourcemap_index_model.specs.WellFormed.{IsInOrder}
use Rattle.sourcemap_index.specs.Family.{index_value}
use Rattle.sourcemap_index.specs.Lookup.{HasToken}
use Rattle.sourcemap_index.proofs.LookupLemmas.{indexes}
use Rattle.sourcemap_index.proofs.family.SourceMapIndex.closest_token.Given as goal

abbrev pub invariant-levels : goal.invariant-levels
invariant-levels l = record {
  in_order : IsInOrder (index_tree (index_value l.self)) → IsInOrder (index_tree (index_value l.index));
  same : IsInOrder (index_tree (index_value l.self))
      → lookup (index_tree (index_value l.index)) l.position
      ≡ lookup (index_tree (index_value l.self)) (l.line, l.col);
  has : (token : TokenValue) → HasToken (index_tree (index_value l.index)) token
      → HasToken (index_tree (index_value l.self)) token;
}

abbrev pub decreases-levels : goal.decreases-levels
decreases-levels l = indexes (index_tree (index_value l.index))
