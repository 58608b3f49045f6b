-- The key and the sentence of what looks wrong.
use Rattle.std.specs.Prelude.{ℕ, List, [], ◌++◌, codes}
use Rattle.std.specs.Fmt.{decimal}
use Rattle.sourcemap_check_lists.specs.declared.contents.ContentsDoubt.{ContentsDoubt}
use Rattle.sourcemap_check_lists.specs.declared.contents.ContentsDoubt.TheVariants.{OtherContents, NoContents}
use Rattle.sourcemap_check_lists.specs.declared.lists.ListDoubt.{ListDoubt}
use Rattle.sourcemap_check_lists.specs.declared.lists.ListDoubt.TheVariants.{UnusedSource, UnusedName, EqualSource}
use Rattle.sourcemap_check_lists.specs.declared.lists.ListDoubt.TheVariants.{MissingContents, RootWithoutEffect}
use Rattle.sourcemap_check_order.specs.declared.ranges.RangeDoubt.{RangeDoubt}
use Rattle.sourcemap_check_order.specs.declared.ranges.RangeDoubt.TheVariants.{OtherFormat, NoFormat}
use Rattle.sourcemap_check_texts.specs.declared.generated.GeneratedDoubt.{GeneratedDoubt}
use Rattle.sourcemap_check_texts.specs.declared.generated.GeneratedDoubt.TheVariants.{PastText, PastLine as PastGeneratedLine}
use Rattle.sourcemap_check_texts.specs.declared.generated.GeneratedDoubt.TheVariants.{WithinPair as WithinGeneratedPair}
use Rattle.sourcemap_check_texts.specs.declared.tokens.Doubt.{Doubt}
use Rattle.sourcemap_check_texts.specs.declared.tokens.Doubt.TheVariants.{TwoOriginals, PastSource, PastLine, WithinPair}
use Rattle.sourcemap_check_texts.specs.declared.tokens.Doubt.TheVariants.{OtherName}
use Rattle.sourcemap_check_suspicious.specs.declared.shifted.Shifted.{Shifted}
use Rattle.sourcemap_check_suspicious.specs.declared.shifted.Shifted.TheVariants.{Original}
use Rattle.sourcemap_check_suspicious.specs.declared.shifted.Shifted.TheVariants.{Generated as GeneratedShift}
use Rattle.sourcemap_check_suspicious.specs.declared.suspects.Suspect.{Suspect}
use Rattle.sourcemap_check_suspicious.specs.declared.suspects.Suspicion.{Suspicion}
use Rattle.sourcemap_check_suspicious.specs.declared.suspects.Suspicion.TheVariants.{Token, Item, SegmentBack, Ranges}
use Rattle.sourcemap_check_suspicious.specs.declared.suspects.Suspicion.TheVariants.{OtherDebugId, OtherReference, Contents, Generated}

abbrev pub token_sentence : Doubt → List ℕ
token_sentence TwoOriginals = codes "the token before is at the same position, with another original"
token_sentence PastSource = codes "the source has no such line"
token_sentence PastLine = codes "the original line has fewer columns"
token_sentence WithinPair = codes "the original column is in the middle of a surrogate pair"
token_sentence OtherName = codes "the name does not stand at the original position"

abbrev pub item_sentence : ListDoubt → List ℕ
item_sentence UnusedSource = codes "no token has the source"
item_sentence UnusedName = codes "no token has the name"
item_sentence EqualSource = codes "the source is equal to one before it"
item_sentence MissingContents = codes "the map has no contents for the source"
item_sentence RootWithoutEffect = codes "sourceRoot changes no source"

abbrev pub range_sentence : RangeDoubt → List ℕ
range_sentence OtherFormat = codes "rangeMappings fits mappings as numbers, but not as bits"
range_sentence NoFormat = codes "rangeMappings does not fit mappings"

abbrev pub contents_sentence : ContentsDoubt → List ℕ
contents_sentence OtherContents = codes "the contents are not those of the file"
contents_sentence NoContents = codes "the source has neither contents nor a file"

abbrev pub generated_sentence : GeneratedDoubt → List ℕ
generated_sentence PastText = codes "the generated text has no such line"
generated_sentence PastGeneratedLine = codes "the generated line has fewer columns"
generated_sentence WithinGeneratedPair = codes "the generated column is in the middle of a surrogate pair"

-- what looks wrong
abbrev pub suspicion_sentence : Suspicion → List ℕ
suspicion_sentence (Token doubt) = token_sentence doubt
suspicion_sentence (Item doubt) = item_sentence doubt
suspicion_sentence SegmentBack = codes "the segment has a lower column than the one before it"
suspicion_sentence (Ranges doubt) = range_sentence doubt
suspicion_sentence OtherDebugId = codes "the generated text names another debug id"
suspicion_sentence OtherReference = codes "the reference of the generated text ends in another file name"
suspicion_sentence (Contents doubt) = contents_sentence doubt
suspicion_sentence (Generated doubt) = generated_sentence doubt

-- which positions are off
abbrev pub shift_sentence : Shifted → List ℕ
shift_sentence (Original shift) = codes "names stand in the sources after this shift"
shift_sentence (GeneratedShift shift) = codes "words stand in the generated text after this shift"

-- a key and an index in it
abbrev pub indexed_key : List ℕ → ℕ → List ℕ
indexed_key key index = key ++ codes "[" ++ decimal index ++ codes "]"

abbrev pub item_key : ListDoubt → ℕ → List ℕ
item_key UnusedSource index = indexed_key (codes "sources") index
item_key UnusedName index = indexed_key (codes "names") index
item_key EqualSource index = indexed_key (codes "sources") index
item_key MissingContents index = indexed_key (codes "sources") index
item_key RootWithoutEffect index = codes "sourceRoot"

-- the key that looks wrong; the index is that of an item. A reference is on no key of the map
abbrev pub suspicion_key : Suspicion → (index : ℕ) → List ℕ
suspicion_key (Token doubt) index = codes "mappings"
suspicion_key (Item doubt) index = item_key doubt index
suspicion_key SegmentBack index = codes "mappings"
suspicion_key (Ranges doubt) index = codes "rangeMappings"
suspicion_key OtherDebugId index = codes "debugId"
suspicion_key OtherReference index = []
suspicion_key (Contents doubt) index = indexed_key (codes "sources") index
suspicion_key (Generated doubt) index = codes "mappings"

abbrev pub suspect_key : Suspect → List ℕ
suspect_key suspect = suspicion_key suspect.suspicion suspect.index
