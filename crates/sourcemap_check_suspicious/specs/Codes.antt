-- The number of the code of what looks wrong. The code is `SM` and this number.
use Rattle.std.specs.Prelude.{ℕ}
use Rattle.sourcemap_check_lists.specs.declared.contents.ContentsDoubt.{ContentsDoubt}
use Rattle.sourcemap_check_lists.specs.declared.contents.ContentsDoubt.TheVariants.{OtherContents, NoContents}
use Rattle.sourcemap_check_lists.specs.declared.lists.ListDoubt.{ListDoubt}
use Rattle.sourcemap_check_lists.specs.declared.lists.ListDoubt.TheVariants.{UnusedSource, UnusedName, EqualSource}
use Rattle.sourcemap_check_lists.specs.declared.lists.ListDoubt.TheVariants.{MissingContents, RootWithoutEffect}
use Rattle.sourcemap_check_order.specs.declared.ranges.RangeDoubt.{RangeDoubt}
use Rattle.sourcemap_check_order.specs.declared.ranges.RangeDoubt.TheVariants.{OtherFormat, NoFormat}
use Rattle.sourcemap_check_texts.specs.declared.generated.GeneratedDoubt.{GeneratedDoubt}
use Rattle.sourcemap_check_texts.specs.declared.generated.GeneratedDoubt.TheVariants.{PastText, PastLine as PastGeneratedLine}
use Rattle.sourcemap_check_texts.specs.declared.generated.GeneratedDoubt.TheVariants.{WithinPair as WithinGeneratedPair}
use Rattle.sourcemap_check_texts.specs.declared.tokens.Doubt.{Doubt}
use Rattle.sourcemap_check_texts.specs.declared.tokens.Doubt.TheVariants.{TwoOriginals, PastSource, PastLine, WithinPair}
use Rattle.sourcemap_check_texts.specs.declared.tokens.Doubt.TheVariants.{OtherName}
use Rattle.sourcemap_check_suspicious.specs.declared.suspects.Suspicion.{Suspicion}
use Rattle.sourcemap_check_suspicious.specs.declared.suspects.Suspicion.TheVariants.{Token, Item, SegmentBack, Ranges}
use Rattle.sourcemap_check_suspicious.specs.declared.suspects.Suspicion.TheVariants.{OtherDebugId, OtherReference, Contents, Generated}

abbrev pub token_code : Doubt → ℕ
token_code TwoOriginals = 201
token_code PastSource = 202
token_code PastLine = 203
token_code WithinPair = 204
token_code OtherName = 205

abbrev pub item_code : ListDoubt → ℕ
item_code UnusedSource = 211
item_code UnusedName = 212
item_code EqualSource = 213
item_code MissingContents = 214
item_code RootWithoutEffect = 215

abbrev pub range_code : RangeDoubt → ℕ
range_code OtherFormat = 222
range_code NoFormat = 223

abbrev pub contents_code : ContentsDoubt → ℕ
contents_code OtherContents = 226
contents_code NoContents = 227

abbrev pub generated_code : GeneratedDoubt → ℕ
generated_code PastText = 231
generated_code PastGeneratedLine = 232
generated_code WithinGeneratedPair = 233

abbrev pub code_of : Suspicion → ℕ
code_of (Token doubt) = token_code doubt
code_of (Item doubt) = item_code doubt
code_of SegmentBack = 221
code_of (Ranges doubt) = range_code doubt
code_of OtherDebugId = 224
code_of OtherReference = 225
code_of (Contents doubt) = contents_code doubt
code_of (Generated doubt) = generated_code doubt
