-- When the contents of a source look wrong beside its file.
use Rattle.std.specs.Prelude.{ℕ, Bool, true, false, List, Option, Some, None, if◌then◌else◌}
use Rattle.std.specs.Str.{bytes_eq}
use Rattle.sourcemap_tokens.specs.Items.{item_at}
use Rattle.sourcemap_map_regular.specs.Map.{MapValue, contents_of}
use Rattle.sourcemap_check_lists.specs.declared.contents.ContentsDoubt.{ContentsDoubt}
use Rattle.sourcemap_check_lists.specs.declared.contents.ContentsDoubt.TheVariants.{OtherContents, NoContents}

-- contents and file differ, or both are missing
abbrev pub contents_doubt : (contents file : Option (List ℕ)) → Option ContentsDoubt
contents_doubt (Some contents) (Some file) = if bytes_eq contents file then None else Some OtherContents
contents_doubt (Some contents) None = None
contents_doubt None (Some file) = None
contents_doubt None None = Some NoContents

abbrev pub is_doubt : ContentsDoubt → Option ContentsDoubt → Bool
is_doubt OtherContents (Some OtherContents) = true
is_doubt NoContents (Some NoContents) = true
is_doubt _ _ = false

-- the source with this index looks wrong beside its file
abbrev pub has_contents_doubt : ContentsDoubt → MapValue → (files : List (Option (List ℕ))) → ℕ → Bool
has_contents_doubt doubt m files i = is_doubt doubt (contents_doubt (contents_of m i) (item_at files i))
