-- An index map or a Hermes map is not regular.
use Rattle.std.proofs.Common.{◌∙◌, ap, refl, subst, sym}
use Rattle.sourcemap.specs.AnyMap.{map_tree}
use Rattle.sourcemap_cli.specs.Program.{IsNotRegular}
use Rattle.sourcemap_index.proofs.FamilyLemmas.{hermes_tree, index_tree-of}
use Rattle.sourcemap_cli.proofs.maps.into_regular.Goals as goal

pub returns-in-Index : goal.returns-in-Index
returns-in-Index c = (refl, subst IsNotRegular (sym (ap map_tree c.in-Index.is ∙ index_tree-of c.in-Index.field-0)) tt)

pub returns : goal.returns
returns c = (refl, subst IsNotRegular (sym (ap map_tree c.in-Hermes.is ∙ hermes_tree c.in-Hermes.field-0)) tt)
