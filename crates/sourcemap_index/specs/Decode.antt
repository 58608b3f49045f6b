-- The maps that JSON values, bytes and data URLs decode to, and the sections and index maps that records decode to.
use Rattle.std.specs.Prelude.{◌≡◌, ℕ, List, Some, None, nat_lt, MatchOption, Result, Ok, Err}
use Rattle.std.specs.Bool.{MatchBool}
use Rattle.serde_json.specs.Data.{Data}
use Rattle.sourcemap_errors.specs.declared.errors.Error.{Error}
use Rattle.sourcemap_errors.specs.declared.errors.Error.TheVariants.{IncompatibleSourceMap}
use Rattle.sourcemap_headers.specs.DataUrl.{Holds}
use Rattle.sourcemap_records.specs.Jsontypes.{Fields, Tree, plain, indexed, Section, Sections}
pub use Rattle.sourcemap_records.specs.Bytes.{AreSame, UnlessReadFails, IsAnswerRead, Reading}
use Rattle.sourcemap_records.specs.Bytes.{ValueHasResult, BytesHaveResult, UrlHasResult}
use Rattle.sourcemap_index_model.specs.MapTree.{MapTree, MapSection, IndexParts, IndexValue}
use Rattle.sourcemap_index_model.specs.Decode.{Then, TreeDecodes, SectionsDecode, count, by_offset, index_parts}

-- the section that `s`, a section of a record, decodes to. If the map of `s` cannot be decoded, the result is the error
-- of `TreeDecodes` for this map
abbrev pub SectionDecodes : Section → Result MapSection Error → Type 0
SectionDecodes s answer = MatchOption s.map
    (answer ≡ Ok (record { head = s.head; map = None }))
    (λ t. Then (λ a. TreeDecodes t a) (λ m a. a ≡ Ok (record { head = s.head; map = Some m })) answer)

-- an index map of these parts and sections
abbrev pub index_with : IndexParts → List MapSection → IndexValue
index_with parts ss = record { parts = parts; sections = ss }

-- the index map with the parts from these keys of a record, and with these sections sorted by offset
abbrev pub index_in : Fields → List MapSection → IndexValue
index_in fields ss = record { parts = index_parts fields; sections = by_offset ss }

-- the index map that a record with these keys and sections decodes to, or the error: `IncompatibleSourceMap` for more
-- than 2^32 - 1 sections, otherwise the error of the first section that cannot be decoded
abbrev pub PartsDecode : Fields → Sections → Result IndexValue Error → Type 0
PartsDecode fields sections answer =
    MatchBool (nat_lt 4294967295 (count sections))
    (answer ≡ Err IncompatibleSourceMap)
    (Then (λ a. SectionsDecode sections a) (λ ss a. a ≡ Ok (index_in fields ss)) answer)

-- the index map that a record decodes to, or the error. A record without the key `sections` is an error, and its other
-- keys are not decoded. An empty list of sections is no error
abbrev pub IndexDecodes : Tree → Result IndexValue Error → Type 0
IndexDecodes (plain fields) answer = answer ≡ Err IncompatibleSourceMap
IndexDecodes (indexed fields sections) answer = PartsDecode fields sections answer

-- the map that a JSON value decodes to, or the error
abbrev pub ValueDecodes : Data → Result MapTree Error → Type 0
ValueDecodes d answer = ValueHasResult TreeDecodes d answer

-- the map that bytes decode to, or the error
abbrev pub BytesDecode : List ℕ → Result MapTree Error → Type 0
BytesDecode bytes answer = BytesHaveResult TreeDecodes bytes answer

-- the map that a data URL decodes to, or the error
abbrev pub UrlDecodes : List ℕ → Result MapTree Error → Type 0
UrlDecodes url answer = UrlHasResult TreeDecodes url answer

-- the text is not a data URL of any bytes
abbrev pub IsNoUrl : List ℕ → Type 0
IsNoUrl url = (bytes : List ℕ) → ¬ Holds url bytes
