-- An index map or a Hermes map is not regular.
use Rattle.std.proofs.Common.{◌≡◌, ◌⊎◌, inl, inr, ◌∙◌, ap, refl, subst, sym}
use Rattle.sourcemap.specs.AnyMap.{map_tree}
use Rattle.sourcemap.specs.declared.hermes.SourceMapHermes.{SourceMapHermes}
use Rattle.sourcemap_index.proofs.FamilyLemmas.{hermes_tree, index_tree-of}
use Rattle.sourcemap.specs.declared.types.DecodedMap.{DecodedMap}
use Rattle.sourcemap.specs.declared.types.DecodedMap.TheVariants.{Hermes, Index}
use Rattle.sourcemap.specs.declared.types.SourceMapIndex.{SourceMapIndex}
use Rattle.sourcemap_cli.specs.Program.{IsNotRegular}
use Rattle.sourcemap_cli.proofs.maps.as_regular.Goals as goal

other_kind : (m : DecodedMap)
    → ((index : SourceMapIndex) × (m ≡ Index index)) ⊎ ((map : SourceMapHermes) × (m ≡ Hermes map))
    → IsNotRegular (map_tree m)
other_kind m (inl (index, is)) = subst IsNotRegular (sym (ap map_tree is ∙ index_tree-of index)) tt
other_kind m (inr (map, is)) = subst IsNotRegular (sym (ap map_tree is ∙ hermes_tree map)) tt

pub returns-in-Index : goal.returns-in-Index
returns-in-Index c = (refl, other_kind c.args.map.now c.in-Index.is)
