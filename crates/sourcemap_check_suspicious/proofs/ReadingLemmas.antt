-- The map of a record, and what bytes decode to by their record.
use Rattle.std.proofs.Common.{◌≡◌, true, false, List, [], ℕ, Option, Some, None, Result, Ok, Err, IfOk, MatchResult, inl, inr, is_some, option_map, map, string_bytes, Vec, Global}
use Rattle.std.proofs.Common.{sym, ap, subst, ◌∙◌, refl, MatchOption, IsErrAnd}
use Rattle.serde_json.specs.Data.{Data}
use Rattle.sourcemap_errors.specs.Answer.{UnlessMemory, IsAnswer}
use Rattle.sourcemap_errors.specs.declared.errors.Error.{Error}
use Rattle.sourcemap_errors.specs.declared.errors.Error.TheVariants.{BadJson}
use Rattle.sourcemap_errors.specs.declared.errors.JsonFault.TheVariants.{Parse, Shape}
use Rattle.sourcemap_errors.proofs.AnswerLemmas.{UnlessMemory-weaker}
use Rattle.sourcemap_headers.specs.Header.{after_header}
use Rattle.sourcemap_records.specs.Bytes.{BytesHaveResult, HoldJson, HoldNoJson, HoldRecord, IsHeaderError, IsJson}
use Rattle.sourcemap_records.specs.Jsontypes.{Fields, Sections, Tree, fields_view, flat, indexed, plain, record_of, section, sections_from, tree, tree_with}
use Rattle.sourcemap_records.specs.declared.jsontypes.RawSection.{RawSection}
use Rattle.sourcemap_records.specs.declared.jsontypes.RawSourceMap.{RawSourceMap, out-RawSourceMap}
use Rattle.sourcemap_records.proofs.BytesLemmas.{answer_of_bytes, json_once}
use Rattle.sourcemap_records.proofs.JsontypesLemmas.{flat-tree, tree-out}
use Rattle.sourcemap_map_regular.specs.Map.{MapValue}
use Rattle.sourcemap_map_regular.specs.Decode.{RecordDecodes}
use Rattle.sourcemap_index_model.specs.Flat.{FlatAnswer}
use Rattle.sourcemap_index_model.specs.MapTree.{IndexValue, index_tree}
use Rattle.sourcemap_index.specs.Decode.{IndexDecodes}
use Rattle.sourcemap_check_suspicious.specs.declared.reading.TextDoubts.{TextDoubts}
use Rattle.sourcemap_check_suspicious.specs.declared.reading.TextMap.{TextMap}
use Rattle.sourcemap_check_suspicious.specs.Reading.{AreTextDoubts, FlatTextMap, IsMapOf, IsTextMapOf, TextMapDecodes, flat_value, mappings_of, ranges_of, text_or_empty, value_of_tree}

-- Records.

none_if : {X : Type 0} (o : Option X) → is_some o ≡ false → o ≡ None
none_if None is = refl
none_if (Some x) is = absurd (let h : true ≡ false = is in cc)

some_if : {X : Type 0} (o : Option X) → is_some o ≡ true → (x : X) × (o ≡ Some x)
some_if None is = absurd (let h : false ≡ true = is in cc)
some_if (Some x) is = (x, refl)

plain_tree : (r : RawSourceMap) → (out-RawSourceMap r).sections ≡ None → tree r ≡ plain (fields_view (out-RawSourceMap r))
plain_tree r none =
    tree-out r
    ∙ ap (λ s. tree_with (fields_view (out-RawSourceMap r)) (option_map (λ v. sections_from (map section v.items)) s)) none

pub plain_texts : (r : RawSourceMap) → (out-RawSourceMap r).sections ≡ None
    → (text_or_empty (option_map string_bytes (out-RawSourceMap r).mappings) ≡ mappings_of (tree r))
    × (text_or_empty (option_map string_bytes (out-RawSourceMap r).range_mappings) ≡ ranges_of (tree r))
plain_texts r none = let is = sym (plain_tree r none) in (ap mappings_of is, ap ranges_of is)

plain_read : (fields : Fields) (result : Result MapValue Error) → IsAnswer (λ m. m) (RecordDecodes fields) result
    → IsAnswer (value_of_tree (plain fields)) (TextMapDecodes (plain fields)) result
plain_read fields (Ok m) decodes = (decodes, refl)
plain_read fields (Err e) refused = refused

-- a record without sections has a regular map
pub regular_read : (r : RawSourceMap) (result : Result MapValue Error) → is_some (out-RawSourceMap r).sections ≡ false
    → IsAnswer (λ m. m) (RecordDecodes (flat (tree r))) result
    → IsAnswer (value_of_tree (tree r)) (TextMapDecodes (tree r)) result
regular_read r result none has =
    subst (λ t. IsAnswer (value_of_tree t) (TextMapDecodes t) result) (sym (plain_tree r (none_if (out-RawSourceMap r).sections none)))
    (plain_read (fields_view (out-RawSourceMap r)) result
    (subst (λ f. IsAnswer (λ m. m) (RecordDecodes f) result) (flat-tree r) has))

indexed_tree : (r : RawSourceMap) (v : Vec RawSection Global) → (out-RawSourceMap r).sections ≡ Some v
    → tree r ≡ indexed (fields_view (out-RawSourceMap r)) (sections_from (map section v.items))
indexed_tree r v some =
    tree-out r
    ∙ ap (λ s. tree_with (fields_view (out-RawSourceMap r)) (option_map (λ v. sections_from (map section v.items)) s)) some

pub indexed_texts : (r : RawSourceMap) (v : Vec RawSection Global) → (out-RawSourceMap r).sections ≡ Some v
    → ([] ≡ mappings_of (tree r)) × ([] ≡ ranges_of (tree r))
indexed_texts r v some = let is = sym (indexed_tree r v some) in (ap mappings_of is, ap ranges_of is)

-- one with sections has a flat map
pub flat_read : (r : RawSourceMap) (result : Result MapValue Error) → is_some (out-RawSourceMap r).sections ≡ true
    → IsAnswer flat_value (FlatTextMap (tree r)) result
    → IsAnswer (value_of_tree (tree r)) (TextMapDecodes (tree r)) result
flat_read r result some has =
    let found = some_if (out-RawSourceMap r).sections some in
    let is = indexed_tree r found.0 found.1 in
    subst (λ t. IsAnswer (value_of_tree t) (TextMapDecodes t) result) (sym is)
    (subst (λ t. IsAnswer flat_value (FlatTextMap t) result) is has)

-- what looks wrong in the texts of a record does so in those of its tree
pub same_texts : (most : ℕ) (t : Tree) (mappings ranges : List ℕ) (result : Result TextDoubts Error)
    → (mappings ≡ mappings_of t) × (ranges ≡ ranges_of t) → IfOk result (AreTextDoubts most mappings ranges)
    → IfOk result (AreTextDoubts most (mappings_of t) (ranges_of t))
same_texts most t mappings ranges result same are = rw (← same.0, ← same.1) are

-- Bytes that hold a record.

has_json : (found : Option (List ℕ)) (d : Data) (e : Error) → (text : List ℕ) × (found ≡ Some text) × IsJson text d
    → MatchOption found (IsHeaderError e) (λ text. ((d : Data) → ¬ IsJson text d) × (e ≡ BadJson Parse)) → ⊥
has_json None d e p q = cc
has_json (Some text) d e p q = let same : text ≡ p.0 = cc in q.0 d (rw same p.2)

result_of : {Y : Type 0} (Decodes : Tree → Result Y Error → Type 0) (found : Option Tree) (t : Tree)
    (answer : Result Y Error)
    → found ≡ Some t → MatchOption found (answer ≡ Err (BadJson Shape)) (λ t. Decodes t answer) → Decodes t answer
result_of Decodes None t answer is has = cc
result_of Decodes (Some u) t answer is has = let same : t ≡ u = cc in rw same has

-- a result for bytes is a result for the record that they hold
of_bytes : {Y : Type 0} (Decodes : Tree → Result Y Error → Type 0) (bytes : List ℕ) (t : Tree)
    (answer : Result Y Error)
    → HoldRecord bytes t → BytesHaveResult Decodes bytes answer → Decodes t answer
of_bytes Decodes bytes t answer holds (inl has) =
    let same : has.0 ≡ holds.0 = json_once bytes has.0 holds.0 has.1 holds.1 in
    result_of Decodes (record_of has.0) t answer (ap record_of same ∙ holds.2) has.2
of_bytes Decodes bytes t (Ok y) holds (inr has) = absurd has
of_bytes Decodes bytes t (Err e) holds (inr has) = absurd (has_json (after_header bytes) holds.0 e holds.1 has)

pub flat_given : (bytes : List ℕ) (t : Tree) (i : IndexValue) (result : Result MapValue Error) → HoldRecord bytes t
    → BytesHaveResult IndexDecodes bytes (Ok i) → IsAnswer (λ m. m) (FlatAnswer (index_tree i)) result
    → IsAnswer flat_value (FlatTextMap t) result
flat_given bytes t i (Ok m) holds decodes flattens =
    inl (i, of_bytes IndexDecodes bytes t (Ok i) holds decodes, inl (m, flattens, refl))
flat_given bytes t i (Err e) holds decodes refused =
    UnlessMemory-weaker e (λ wrong. inl (i, of_bytes IndexDecodes bytes t (Ok i) holds decodes, inr wrong)) refused

pub no_index : (bytes : List ℕ) (t : Tree) (e : Error) → HoldRecord bytes t
    → UnlessMemory e (BytesHaveResult IndexDecodes bytes (Err e)) → UnlessMemory e (FlatTextMap t (Err e))
no_index bytes t e holds refused =
    UnlessMemory-weaker e (λ wrong. inr (of_bytes IndexDecodes bytes t (Err e) holds wrong)) refused

-- what a record decodes to, its bytes decode to
pub map_given : (bytes : List ℕ) (t : Tree) (result : Result MapValue Error) → HoldRecord bytes t
    → IsAnswer (value_of_tree t) (TextMapDecodes t) result
    → MatchResult result (IsMapOf bytes) (λ e. UnlessMemory e (BytesHaveResult TextMapDecodes bytes (Err e)))
map_given bytes t result holds answer =
    of_answer bytes t result (answer_of_bytes (value_of_tree t) TextMapDecodes bytes t holds result answer)
  where
    of_answer : (bytes : List ℕ) (t : Tree) (result : Result MapValue Error)
        → IsAnswer (value_of_tree t) (BytesHaveResult TextMapDecodes bytes) result
        → MatchResult result (IsMapOf bytes) (λ e. UnlessMemory e (BytesHaveResult TextMapDecodes bytes (Err e)))
    of_answer bytes t (Ok m) has = record { mappings = mappings_of t; ranges = ranges_of t; decodes = has }
    of_answer bytes t (Err e) has = has

pub text_map_given : (most : ℕ) (bytes : List ℕ) (t : Tree) (found : TextMap) → HoldRecord bytes t
    → TextMapDecodes t (Ok (value_of_tree t found.map))
    → AreTextDoubts most (mappings_of t) (ranges_of t) found.doubts → IsTextMapOf most bytes found
text_map_given most bytes t found holds decodes are = record {
  decoded = record {
    mappings = mappings_of t;
    ranges = ranges_of t;
    decodes = answer_of_bytes (value_of_tree t) TextMapDecodes bytes t holds (Ok found.map) decodes;
  };
  doubts = are;
}
