-- The record of a map, and the map that it decodes to.
use Rattle.std.specs.Prelude.{◌≡◌, ℕ, ◌<◌, List, length, Option, Result, Ok, Err}
use Rattle.sourcemap_errors.specs.declared.errors.Error.{Error}
use Rattle.sourcemap_tokens.specs.Tokens.{reduced}
use Rattle.sourcemap_mappings.specs.Write.{IsWritten, IsRangeText}
use Rattle.sourcemap_map_conversions.specs.ToRecord.{record_with as parts_written}
use Rattle.sourcemap_records.specs.Jsontypes.{Fields, Tree, plain, flat, IsFine}
use Rattle.sourcemap_map_regular.specs.Map.{MapValue, IsWellFormed, MeansTheSame, contents_of}
use Rattle.sourcemap_map_regular.specs.MapStored.{parts_in}
use Rattle.sourcemap_map_regular.specs.Decode.{RecordDecodes}
pub use Rattle.sourcemap_map_conversions.specs.ToRecord.{written_contents, written_ids}

-- the record of the map `m`, with `mappings` as the field `mappings` and `ranges` as the field `rangeMappings`. The
-- tokens of `m` are not used
abbrev pub record_with : MapValue → List ℕ → Option (List ℕ) → Fields
record_with m mappings ranges = parts_written (parts_in m) mappings ranges

-- the tree is the record of the map, with texts of `mappings` and `rangeMappings` that encode the tokens of the map
abbrev pub IsRecordOf : MapValue → Tree → Type 0
IsRecordOf m t =
    (mappings : List ℕ) × (ranges : Option (List ℕ))
    × IsWritten (length m.names) m.tokens mappings × IsRangeText m.tokens ranges
    × (t ≡ plain (record_with m mappings ranges))

-- `back` has the parts of `m`, except that its tokens are `reduced`: they lack repeated tokens and name ids that name
-- nothing. Contents that belong to no source may differ
pub record KeepsParts (back m : MapValue) : Type 0 where
  pub tokens : back.tokens ≡ reduced (length m.names) m.tokens
  pub file : back.file ≡ m.file
  pub root : back.root ≡ m.root
  pub names : back.names ≡ m.names
  pub sources : back.sources ≡ m.sources
  pub contents : (id : ℕ) → id < length m.sources → contents_of back id ≡ contents_of m id
  pub ignored : back.ignored ≡ m.ignored
  pub debug_id : back.debug_id ≡ m.debug_id

-- `back` means the same as `m` at every position, and keeps the parts of `m`
abbrev pub Restores : (m back : MapValue) → Type 0
Restores m back = MeansTheSame back m × KeepsParts back m

-- there is a value `back` that satisfies `IsRestored`, and `Answers` allows `Ok back` as the result of decoding
abbrev pub ReadsBack : {Y : Type 0} → (Result Y Error → Type 0) → (Y → Type 0) → Type 0
ReadsBack Answers IsRestored = (back : _) × Answers (Ok back) × IsRestored back

-- the result of encoding a map: its record, which reads back as itself (`IsFine`). If the map is well-formed, decoding
-- the record restores the map (`Restores`). `RecordAnswer` permits no error. A contract adds the error `OutOfMemory` by
-- `IsAnswer` or `UnlessMemory`
abbrev pub RecordAnswer : MapValue → Result Tree Error → Type 0
RecordAnswer m (Ok t) = IsRecordOf m t × IsFine t × (IsWellFormed m → ReadsBack (RecordDecodes (flat t)) (Restores m))
RecordAnswer m (Err _) = ⊥
