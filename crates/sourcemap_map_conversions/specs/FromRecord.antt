-- Reading a record: the parts of the resulting regular map, or the error.
use Rattle.std.specs.Prelude.{◌≡◌, ℕ, ◌≤◌, ◌⊎◌, List, [], length, map, fold, codes, Option, option_map, unwrap_or}
use Rattle.std.specs.Prelude.{Result, Ok, Err}
use Rattle.std.specs.Ordering.{nat_cmp}
use Rattle.std.specs.BTreeSet.{insert_key}
use Rattle.std.specs.Fmt.{decimal, signed_decimal}
use Rattle.serde_json.specs.Data.{Data, number, string, Num, unsigned, negative, float}
use Rattle.sourcemap_tokens.specs.declared.tokens.RawToken.{RawToken}
use Rattle.sourcemap_errors.specs.declared.errors.Error.{Error}
use Rattle.sourcemap_errors.specs.declared.errors.Error.TheVariants.{IncompatibleSourceMap}
use Rattle.sourcemap_mappings.specs.Read.{MappingsAnswer}
use Rattle.sourcemap_records.specs.Jsontypes.{Fields}
use Rattle.sourcemap_map_conversions.specs.Parts.{PartsValue}

-- a list, empty if it is missing
abbrev pub list_or_empty : {X : Type 0} → Option (List X) → List X
list_or_empty xs = unwrap_or xs []

-- the name for a number: the decimal digits of an integer, with a sign if it is negative; empty for a floating-point
-- number
abbrev pub number_read : Num → List ℕ
number_read (unsigned n) = decimal n
number_read (negative z) = signed_decimal z
number_read (float _) = []

-- the name for a value: the text of a string, the name for a number, otherwise empty
abbrev pub name_read : Data → List ℕ
name_read (number n) = number_read n
name_read (string s) = s
name_read _ = []

-- the file name for a value: the text of a string, otherwise `<invalid>`
abbrev pub file_read : Data → List ℕ
file_read (string s) = s
file_read _ = codes "<invalid>"

-- a source, empty if it is null
abbrev pub source_read : Option (List ℕ) → List ℕ
source_read source = unwrap_or source []

-- ids in increasing order without duplicates
abbrev pub rising : List ℕ → List ℕ
rising ids = fold (insert_key nat_cmp) [] ids

-- each of the lists `sources`, `names` and `sourcesContent` has at most 4294967295 items
pub record HasFewItems (r : Fields) : Type 0 where
  pub sources : length (list_or_empty r.sources) ≤ 4294967295
  pub names : length (list_or_empty r.names) ≤ 4294967295
  pub contents : length (list_or_empty r.sources_content) ≤ 4294967295

-- the tokens of a record's `mappings` and `rangeMappings`, or the first error of these two texts
abbrev pub TokensAnswer : Fields → Result (List RawToken) Error → Type 0
TokensAnswer r answer = MappingsAnswer (list_or_empty r.mappings) (list_or_empty r.range_mappings)
    (record { sources = length (list_or_empty r.sources); names = length (list_or_empty r.names) }) answer

-- the parts of the record `r`. Their tokens are `tokens`; the mappings of `r` are not used
abbrev pub parts_from : Fields → List RawToken → PartsValue
parts_from r tokens = record {
  metadata = record {
    file = option_map file_read r.file;
    ignored = rising (list_or_empty r.ignore_list);
    debug_id = r.debug_id;
  };
  tokens = tokens;
  names = map name_read (list_or_empty r.names);
  sources = record {
    root = r.source_root;
    texts = map source_read (list_or_empty r.sources);
  };
  contents = list_or_empty r.sources_content;
}

-- the result for the record `r`: `IncompatibleSourceMap` if `HasFewItems` does not hold, otherwise the first error of
-- `mappings` or `rangeMappings` (`TokensAnswer`). If there is no error, the parts
abbrev pub PartsAnswer : Fields → Result PartsValue Error → Type 0
PartsAnswer r (Ok p) = HasFewItems r × TokensAnswer r (Ok p.tokens) × (p ≡ parts_from r p.tokens)
PartsAnswer r (Err e) = ((¬ HasFewItems r) × (e ≡ IncompatibleSourceMap)) ⊎ (HasFewItems r × TokensAnswer r (Err e))
