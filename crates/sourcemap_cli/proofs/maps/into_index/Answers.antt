-- A regular map or a Hermes map is not an index map.
use Rattle.std.proofs.Common.{◌≡◌, ◌⊎◌, inl, inr, ◌∙◌, ap, refl, subst, sym}
use Rattle.sourcemap.specs.AnyMap.{map_tree}
use Rattle.sourcemap.specs.declared.hermes.SourceMapHermes.{SourceMapHermes}
use Rattle.sourcemap_index.proofs.FamilyLemmas.{hermes_tree, regular_tree}
use Rattle.sourcemap.specs.declared.types.DecodedMap.{DecodedMap}
use Rattle.sourcemap.specs.declared.types.DecodedMap.TheVariants.{Hermes, Regular}
use Rattle.sourcemap.specs.Types.{MapValue}
use Rattle.sourcemap_cli.specs.Program.{IsNotIndex}
use Rattle.sourcemap_cli.proofs.maps.into_index.Goals as goal

no_index : (m : DecodedMap) → ((map : MapValue) × (m ≡ Regular map)) ⊎ ((map : SourceMapHermes) × (m ≡ Hermes map))
    → IsNotIndex (map_tree m)
no_index m (inl (map, is)) = subst IsNotIndex (sym (ap map_tree is ∙ regular_tree map)) tt
no_index m (inr (map, is)) = subst IsNotIndex (sym (ap map_tree is ∙ hermes_tree map)) tt

pub returns : goal.returns
returns c = (refl, no_index c.args.map c.in-Regular.is)
