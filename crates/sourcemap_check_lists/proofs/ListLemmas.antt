-- The lists of a map.
use Rattle.std.proofs.Common.{◌≡◌, Bool, true, false, not, length, sym, ◌∙◌, ap, refl, Option, Some, None}
use Rattle.std.proofs.Common.{option_map, string_bytes}
use Rattle.std.specs.Prelude.{is_none, is_some}
use Rattle.std.proofs.lemmas.List.{length-map}
use Rattle.sourcemap_map_regular.specs.Map.{MapValue}
use Rattle.sourcemap_map_parts.specs.Sources.{resolved}
use Rattle.sourcemap_map_regular.specs.Lists.{AreListsOf}
use Rattle.sourcemap_map_regular.specs.declared.lists.MapLists.{MapLists}

pub source_count : (m : MapValue) (lists : MapLists) → AreListsOf m lists
    → length lists.sources.now ≡ length m.sources
source_count m lists h =
    sym (length-map lists.sources.now string_bytes) ∙ (ap length h.sources ∙ length-map m.sources (resolved m.root))

pub some_mapped : {X Y : Type 0} (f : X → Y) (o : Option X) → is_some o ≡ is_some (option_map f o)
some_mapped f None = refl
some_mapped f (Some x) = refl

-- what `is_none` returns
pub none_result : {X Y : Type 0} (f : X → Y) (o : Option X) (p : Option Y) (b : Bool) → is_some o ≡ not b
    → option_map f o ≡ p → b ≡ is_none p
none_result f None p true e m = ap is_none m
none_result f None p false e m = absurd (let h = e in cc)
none_result f (Some x) p true e m = absurd (let h = e in cc)
none_result f (Some x) p false e m = ap is_none m
