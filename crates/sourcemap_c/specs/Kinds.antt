-- Kinds and values of handles.
use Rattle.std.specs.Prelude.{◌≡◌, ◌⊎◌, ℕ, List, Option, Some, None, option_map}
use Rattle.std.specs.Borrow.{Bor}
use Rattle.std.specs.Arc.{arc_value, arc_with_value}
use Rattle.std.specs.declared.alloc.Global.{Global}
use Rattle.std.specs.declared.sync.Arc.{Arc}
use Rattle.sourcemap_index_model.specs.MapTree.{regular, hermes, MapTree, leaf, index}
use Rattle.sourcemap_index.specs.Family.{map_tree}
use Rattle.sourcemap_index.specs.declared.family.DecodedMap.{DecodedMap}
use Rattle.sourcemap_builder.specs.Builder.{BuilderValue}
use Rattle.sourcemap_bundles.specs.Modules.{BundleValue}
use Rattle.sourcemap_c_handles.specs.declared.report.CheckReport.{CheckReport}
use Rattle.sourcemap_c.specs.declared.kinds.Kind.{Kind}
use Rattle.sourcemap_c_handles.specs.declared.held.Held.{Held}
use Rattle.sourcemap_c_handles.specs.declared.held.Held.TheVariants.{Map, Builder, View, Bundle, Split, Bytes, Sections, Report}

-- the map in a handle, as a tree; `None` if the handle holds no map
abbrev pub tree_in : Option Held → Option MapTree
tree_in (Some (Map map)) = Some (map_tree (arc_value map))
tree_in _ = None

-- a borrowed map as a tree; `None` if there is no map
abbrev pub tree_of : Option (Bor DecodedMap) → Option MapTree
tree_of map = option_map (λ m. map_tree m.now) map

abbrev pub builder_in : Option Held → Option BuilderValue
builder_in (Some (Builder builder)) = Some builder
builder_in _ = None

abbrev pub view_in : Option Held → Option (List ℕ)
view_in (Some (View view)) = Some (arc_value view)
view_in _ = None

abbrev pub bytes_in : Option Held → Option (List ℕ)
bytes_in (Some (Bytes bytes)) = Some bytes.items
bytes_in _ = None

abbrev pub report_in : Option Held → Option CheckReport
report_in (Some (Report report)) = Some report
report_in _ = None

-- what several handles may share: a map, a text or a RAM bundle
pub data Shareable : Type 0 where
  shared_map : MapTree → Shareable
  shared_view : List ℕ → Shareable
  shared_bundle : BundleValue → Shareable

-- `None` if the handle holds nothing that handles may share
abbrev pub shareable_in : Option Held → Option Shareable
shareable_in (Some (Map map)) = Some (shared_map (map_tree (arc_value map)))
shareable_in (Some (View view)) = Some (shared_view (arc_value view))
shareable_in (Some (Bundle bundle)) = Some (shared_bundle (arc_value bundle))
shareable_in _ = None

-- `old` and `new` have the same pointer, and their maps have equal trees
abbrev pub IsSameMap : (old new : Arc DecodedMap Global) → Type 0
IsSameMap old new = (new ≡ arc_with_value old (arc_value new)) × (map_tree (arc_value new) ≡ map_tree (arc_value old))

abbrev pub AreSameMaps : (old new : Option Held) → Type 0
AreSameMaps (Some (Map old)) (Some (Map new)) = IsSameMap old new
AreSameMaps _ _ = ⊥

-- the value of a handle is unchanged, or it is a map before and after, and `IsSameMap` holds for these maps
abbrev pub IsAsBefore : (old new : Option Held) → Type 0
IsAsBefore old new = (new ≡ old) ⊎ AreSameMaps old new

abbrev pub tree_kind : MapTree → Kind
tree_kind (leaf (regular _)) = Kind.Regular
tree_kind (index _ _) = Kind.Index
tree_kind (leaf (hermes _)) = Kind.Hermes

abbrev pub kind_of : Option Held → Kind
kind_of None = Kind.Empty
kind_of (Some (Map map)) = tree_kind (map_tree (arc_value map))
kind_of (Some (Builder _)) = Kind.Builder
kind_of (Some (View _)) = Kind.View
kind_of (Some (Bundle _)) = Kind.Bundle
kind_of (Some (Split _)) = Kind.Split
kind_of (Some (Bytes _)) = Kind.Bytes
kind_of (Some (Sections _)) = Kind.Sections
kind_of (Some (Report _)) = Kind.Report

-- the number of a kind in the C header: `SM_KIND_..`
abbrev pub number_of : Kind → ℕ
number_of Kind.Empty = 0
number_of Kind.Regular = 1
number_of Kind.Index = 2
number_of Kind.Hermes = 3
number_of Kind.Builder = 4
number_of Kind.View = 5
number_of Kind.Bundle = 6
number_of Kind.Split = 7
number_of Kind.Bytes = 8
number_of Kind.Sections = 9
number_of Kind.Report = 10
