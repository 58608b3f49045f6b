-- Writing the parts of a map: the resulting record.
use Rattle.std.specs.Prelude.{◌≡◌, ℕ, ◌<◌, ◌^◌, List, length, map, is_some, Option, Some, None, option_map}
use Rattle.std.specs.Prelude.{if◌then◌else◌, ◌==◌, Result, Ok, Err}
use Rattle.std.specs.List.{list_any}
use Rattle.serde_json.specs.Data.{string}
use Rattle.sourcemap_errors.specs.declared.errors.Error.{Error}
use Rattle.sourcemap_tokens.specs.Tokens.{AllWithin, reduced}
use Rattle.sourcemap_tokens.specs.declared.tokens.RawToken.{RawToken}
use Rattle.sourcemap_mappings.specs.Read.{MappingsAnswer}
use Rattle.sourcemap_mappings.specs.Write.{IsWritten, IsRangeText}
use Rattle.sourcemap_records.specs.Jsontypes.{Fields, Tree, plain, IsFine}
use Rattle.sourcemap_map_parts.specs.Contents.{fitted}
use Rattle.sourcemap_map_conversions.specs.FromRecord.{list_or_empty}
use Rattle.sourcemap_map_conversions.specs.Parts.{PartsValue}

-- the contents with one item for each of the `count` sources; `None` if no source has contents
abbrev pub written_contents : ℕ → List (Option (List ℕ)) → Option (List (Option (List ℕ)))
written_contents count contents =
    let items = fitted count contents in
    if list_any is_some items then Some items else None

-- the ignore list; `None` if it is empty
abbrev pub written_ids : List ℕ → Option (List ℕ)
written_ids ids = if length ids == 0 then None else Some ids

-- `mappings` and `ranges` encode these tokens in a map with `names` names. If the map has fewer than 2^32 sources and
-- the tokens satisfy `AllWithin`, the texts decode to `reduced names tokens`. `reduced` removes each token that equals
-- the token before it, then replaces each name id that is not below `names` by `no_id`
pub record AreTextsOf (names : ℕ) (tokens : List RawToken) (mappings : List ℕ) (ranges : Option (List ℕ)) : Type 0 where
  pub text : IsWritten names tokens mappings
  pub bits : IsRangeText tokens ranges
  pub back : (sources : ℕ) → sources < 2 ^ 32 → AllWithin sources names tokens
      → MappingsAnswer mappings (list_or_empty ranges) (record { sources = sources; names = names })
      (Ok (reduced names tokens))

-- the record of these parts, with the text `mappings` as its field `mappings`, and `ranges` as its field
-- `rangeMappings`. The tokens of the parts are not used
abbrev pub record_with : PartsValue → List ℕ → Option (List ℕ) → Fields
record_with p mappings ranges = record {
  version = Some 3;
  file = option_map string p.metadata.file;
  sources = Some (map Some p.sources.texts);
  source_root = p.sources.root;
  sources_content = written_contents (length p.sources.texts) p.contents;
  names = Some (map string p.names);
  range_mappings = ranges;
  mappings = Some mappings;
  ignore_list = written_ids p.metadata.ignored;
  x_facebook_offsets = None;
  x_metro_module_paths = None;
  x_facebook_sources = None;
  debug_id = p.metadata.debug_id;
}

-- `t` is a record of the parts `p`, without sections. The `mappings` and `rangeMappings` of `t` encode the tokens
-- (`AreTextsOf`). `record_with` defines the other keys
abbrev pub IsRecordOf : PartsValue → Tree → Type 0
IsRecordOf p t =
    (mappings : List ℕ) × (ranges : Option (List ℕ))
    × AreTextsOf (length p.names) p.tokens mappings ranges
    × (t ≡ plain (record_with p mappings ranges))

-- the result of writing the parts: a record of the parts (`IsRecordOf`), never an error. If this record is written as
-- JSON and read again, the record is unchanged (`IsFine`). Contracts use `IsAnswer`, which also allows `OutOfMemory`
abbrev pub RecordAnswer : PartsValue → Result Tree Error → Type 0
RecordAnswer p (Ok t) = IsRecordOf p t × IsFine t
RecordAnswer p (Err _) = ⊥
