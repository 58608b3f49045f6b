-- For writing a record: a missing text counts as empty, and `text_view` does not change whether contents exist.
use Rattle.std.proofs.Common.{◌≡◌, ℕ, List, [], ◌∷◌, map, Option, Some, None, is_some, refl, String}
use Rattle.std.specs.declared.alloc.Global.{Global}
use Rattle.std.specs.Option.{option_map_or}
use Rattle.std.specs.List.{list_any}
use Rattle.sourcemap_records.specs.Jsontypes.{text_view}
use Rattle.sourcemap_map_conversions.specs.FromRecord.{list_or_empty}

pub same_listed : (o : Option (List ℕ)) → option_map_or (λ bits. bits) o [] ≡ list_or_empty o
same_listed None = refl
same_listed (Some x) = refl

some-text_view : (o : Option (String Global)) → is_some (text_view o) ≡ is_some o
some-text_view None = refl
some-text_view (Some s) = refl

pub list_any-text_view : (contents : List (Option (String Global)))
    → list_any is_some (map text_view contents) ≡ list_any is_some contents
list_any-text_view [] = refl
list_any-text_view (o ∷ os) = rw (some-text_view o, list_any-text_view os)
