-- Let a `RecordParts` value have the fields of a record (`ArePartsIn`). Reading this value returns the parts of a map
-- or an error. Both are results for the record (`PartsAnswer`), except the error `OutOfMemory`.
use Rattle.std.proofs.Common.{◌≡◌, List, [], ◌∷◌, ◌++◌, reverse, length, map, option_map, Result, Ok, Err, sym, ap}
use Rattle.std.proofs.Common.{subst, ◌∙◌, inr, vec_len, string_bytes, IfOk, ◌≤◌}
use Rattle.std.proofs.lemmas.List.{length-map, append-nil}
use Rattle.serde_json.specs.View.{view}
use Rattle.sourcemap_errors.specs.Answer.{UnlessMemory, Gives, IsAnswer}
use Rattle.sourcemap_errors.specs.declared.errors.Error.{Error}
use Rattle.sourcemap_errors.proofs.AnswerLemmas.{UnlessMemory-weaker}
use Rattle.sourcemap_tokens.specs.declared.tokens.RawToken.{RawToken}
use Rattle.sourcemap_tokens.specs.Tokens.{AllWithin}
use Rattle.sourcemap_mappings.specs.Read.{MappingsAnswer}
use Rattle.sourcemap_mappings.proofs.ReadAnswers.{MappingsAnswer-same}
use Rattle.sourcemap_records.specs.Jsontypes.{Fields}
use Rattle.sourcemap_map_conversions.specs.declared.from_record.RecordParts.{RecordParts}
use Rattle.sourcemap_map_conversions.specs.declared.parts.Parts.{Parts}
use Rattle.sourcemap_map_conversions.specs.FromRecord.{PartsAnswer, TokensAnswer, HasFewItems, parts_from}
use Rattle.sourcemap_map_conversions.specs.FromRecord.{list_or_empty, rising, name_read, source_read, file_read}
use Rattle.sourcemap_map_conversions.specs.FromRecordSteps.{ArePartsIn, HaveFewItems, parts_read}
use Rattle.sourcemap_map_conversions.specs.Parts.{PartsValue, parts_view}

pub TokensAnswer-same : (r : Fields) (a b : Result (List RawToken) Error) → TokensAnswer r a → TokensAnswer r b → a ≡ b
TokensAnswer-same r a b h k =
    MappingsAnswer-same (list_or_empty r.mappings) (list_or_empty r.range_mappings)
    (record { sources = length (list_or_empty r.sources); names = length (list_or_empty r.names) }) a b h k

module _ (r : Fields) (parts : RecordParts) (are : ArePartsIn r parts) where
  names_many : vec_len parts.lists.names ≡ length (list_or_empty r.names)
  names_many = parts.lists.names.ok.0 ∙ (rw length-map at (ap length are.lists.names))

  sources_many : vec_len parts.lists.sources ≡ length (list_or_empty r.sources)
  sources_many = parts.lists.sources.ok.0 ∙ (rw length-map at (ap length are.lists.sources))

  contents_many : vec_len parts.lists.contents ≡ length (list_or_empty r.sources_content)
  contents_many = parts.lists.contents.ok.0 ∙ (rw length-map at (ap length are.lists.contents))

  have_few_items : HaveFewItems parts.lists → HasFewItems r
  have_few_items few_items = record {
    sources = rw (← sources_many) few_items.sources;
    names = rw (← names_many) few_items.names;
    contents = rw (← contents_many) few_items.contents;
  }

  have_few_items_back : HasFewItems r → HaveFewItems parts.lists
  have_few_items_back few_items = record {
    sources = rw sources_many few_items.sources;
    names = rw names_many few_items.names;
    contents = rw contents_many few_items.contents;
  }

  abbrev pub TextsAnswer : Result (List RawToken) Error → Type 0
  TextsAnswer a = MappingsAnswer (string_bytes parts.texts.mappings) (string_bytes parts.texts.ranges) (record {
    sources = vec_len parts.lists.sources;
    names = vec_len parts.lists.names;
  }) a

  tokens_due : (a : Result (List RawToken) Error) → TextsAnswer a → TokensAnswer r a
  tokens_due a h = rw (← are.texts.mappings, ← are.texts.ranges, ← sources_many, ← names_many) h

  parts_due : (tokens : List RawToken) → parts_read parts.metadata parts.lists tokens ≡ parts_from r tokens
  parts_due tokens = λ i. record {
    metadata = record {
      file = option_map file_read (are.metadata.file i);
      ignored = rising (are.metadata.ids i);
      debug_id = are.metadata.debug_id i;
    };
    tokens = tokens;
    names = map name_read (are.lists.names i);
    sources = record {
      root = are.lists.root i;
      texts = map source_read (are.lists.sources i);
    };
    contents = are.lists.contents i;
  }

  -- if no list is too long, an error of the mappings is also the error of the record
  pub refused-tokens : HaveFewItems parts.lists → (e : Error) → UnlessMemory e (TextsAnswer (Err e))
      → UnlessMemory e (PartsAnswer r (Err e))
  refused-tokens few_items e h = UnlessMemory-weaker e (λ due. inr (have_few_items few_items, tokens_due (Err e) due)) h

  -- let no list be too long, and let the texts of the mappings decode to `tokens`. If `result` is `OutOfMemory`, or the
  -- parts that `parts_read` makes of the metadata, the lists and `tokens`, then `result` is an answer for the record
  pub read : HaveFewItems parts.lists → (tokens : List RawToken) → TextsAnswer (Ok tokens)
      → (result : Result Parts Error)
      → Gives parts_view result (Ok (parts_read parts.metadata parts.lists tokens))
      → IsAnswer parts_view (PartsAnswer r) result
  read few_items tokens h (Ok p) gave =
      let same : parts_read parts.metadata parts.lists tokens ≡ parts_view p = cc in
      let is : parts_view p ≡ parts_from r tokens = sym same ∙ parts_due tokens in
      let own : p.tokens ≡ tokens = ap (λ (v : PartsValue). v.tokens) is in (
        have_few_items few_items,
        subst (λ ts. TokensAnswer r (Ok ts)) (sym own) (tokens_due (Ok tokens) h),
        is ∙ ap (parts_from r) (sym own),
      )
  read few_items tokens h (Err e) gave = UnlessMemory-weaker e (λ bad. cc) gave

  names_are : (tokens : List RawToken) (p : Parts) → parts_read parts.metadata parts.lists tokens ≡ parts_view p
      → vec_len p.names ≡ vec_len parts.lists.names
  names_are tokens p same =
      let many : length (map name_read (map view parts.lists.names.items)) ≡ length (map string_bytes p.names.items) =
      ap (λ (v : PartsValue). length v.names) same in
      p.names.ok.0 ∙ sym (rw (length-map, length-map, length-map) at many) ∙ sym parts.lists.names.ok.0

  sources_are : (tokens : List RawToken) (p : Parts) → parts_read parts.metadata parts.lists tokens ≡ parts_view p
      → length p.sources.texts ≡ vec_len parts.lists.sources
  sources_are tokens p same =
      let many = ap (λ (v : PartsValue). length v.sources.texts) same in
      sym many ∙ rw (length-map, length-map) (sym parts.lists.sources.ok.0)

  pub few-names : HaveFewItems parts.lists → (tokens : List RawToken) → (result : Result Parts Error)
      → Gives parts_view result (Ok (parts_read parts.metadata parts.lists tokens))
      → IfOk result (λ p. vec_len p.names ≤ 4294967295)
  few-names few_items tokens (Ok p) gave =
      let same : parts_read parts.metadata parts.lists tokens ≡ parts_view p = cc in
      rw (names_are tokens p same) few_items.names
  few-names few_items tokens (Err e) gave = tt

  pub all-within : (tokens : List RawToken) → AllWithin (vec_len parts.lists.sources) (vec_len parts.lists.names) tokens
      → (result : Result Parts Error)
      → Gives parts_view result (Ok (parts_read parts.metadata parts.lists tokens))
      → IfOk result (λ p. AllWithin (length p.sources.texts) (vec_len p.names) p.tokens)
  all-within tokens within (Ok p) gave =
      let same : parts_read parts.metadata parts.lists tokens ≡ parts_view p = cc in
      let own : tokens ≡ p.tokens = ap (λ (v : PartsValue). v.tokens) same in
      rw (sources_are tokens p same, names_are tokens p same, ← own) within
  all-within tokens within (Err e) gave = tt

-- let `all` be `done` followed by the results for the values in `left`, in reverse order. If `left` is empty, `all` is
-- `done`
pub none-left : {X Y Z : Type 0} (f : Y → Z) (g : X → Y) (done all : List Z) (left : List X) → length left ≡ 0
    → done ++ map f (map g (reverse left)) ≡ all → all ≡ done
none-left f g done all [] e h = sym h ∙ append-nil done
none-left f g done all (x ∷ xs) e h = cc
