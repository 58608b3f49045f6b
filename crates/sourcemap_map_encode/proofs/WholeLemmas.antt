-- Let each member of a map's record be plain (`IsPlainEntry`), and let the leading members be sound
-- (`HasSoundLeadingMembers`). Then the texts of the members together are the JSON text of the record (`IsEncoded`).
use Rattle.std.proofs.Common.{◌≡◌, ◌≢◌, ℕ, ◌==◌, List, [], ◌∷◌, ◌++◌, length, Bool, true, false, if◌then◌else◌}
use Rattle.std.proofs.Common.{Option, Some, None, option_map, IfSome, Ok, refl, sym, ap, subst, ◌∙◌, append_assoc}
use Rattle.std.proofs.Common.{arith}
use Rattle.std.specs.List.{AllByRecursion}
use Rattle.serde_json.specs.Data.{null, string}
use Rattle.sourcemap_map_conversions.specs.Parts.{PartsValue}
use Rattle.sourcemap_map_conversions.specs.ToRecord.{AreTextsOf, RecordAnswer, record_with}
use Rattle.sourcemap_map_conversions.proofs.ToRecordLemmas.{same_listed}
use Rattle.sourcemap_tokens.specs.Tokens.{reduced}
use Rattle.sourcemap_mappings.specs.Read.{MappingsAnswer}
use Rattle.sourcemap_records.specs.Jsontypes.{Tree, plain, FitsU32, IsFine}
use Rattle.sourcemap_map_encode.specs.Encoded.{IsEncoded}
use Rattle.sourcemap_map_encode.specs.Members.{Entry, part, parts_text, later_after, IsPlainEntry}
use Rattle.sourcemap_map_encode.specs.Members.{HasSoundLeadingMembers, IsTokensText, leading_entries, token_entries}
use Rattle.sourcemap_map_encode.specs.Members.{source_entries, version_entry}
use Rattle.sourcemap_map_encode.proofs.MemberLemmas.{parts_joined, text_is, map_entries}

all_append : (xs ys : List Entry) → AllByRecursion IsPlainEntry xs → AllByRecursion IsPlainEntry ys
    → AllByRecursion IsPlainEntry (xs ++ ys)
all_append [] ys p q = q
all_append (x ∷ xs) ys p q = (p.0, all_append xs ys p.1 q)

no_null : (file : Option (List ℕ)) → option_map string file ≢ Some null
no_null None = λ e. absurd cc
no_null (Some f) = λ e. absurd cc

ids_fit : (b : Bool) (ids : List ℕ) → AllByRecursion FitsU32 ids
    → IfSome (if b then None else Some ids) (λ ids. AllByRecursion FitsU32 ids)
ids_fit true ids small = tt
ids_fit false ids small = small

fine_record : (m : PartsValue) (mappings : List ℕ) (ranges : Option (List ℕ)) → HasSoundLeadingMembers m.metadata
    → IsFine (plain (record_with m mappings ranges))
fine_record m mappings ranges sound = (
  record {
    version = omega arith;
    ignore_list = ids_fit (length m.metadata.ignored == 0) m.metadata.ignored sound.small;
    x_facebook_offsets = tt;
    debug_id = sound.id;
  },
  no_null m.metadata.file,
)

regrouped : (h t s v e : List ℕ) → h ++ (t ++ (s ++ (v ++ e))) ≡ (h ++ (t ++ (s ++ v))) ++ e
regrouped h t s v e = sym (append_assoc h (t ++ (s ++ v)) e
    ∙ ap (λ r. h ++ r) (append_assoc t (s ++ v) e ∙ ap (λ r. t ++ r) (append_assoc s v e)))

-- the JSON text of the record of `m`, with `tokens` as the text of the members `mappings`, `names` and `rangeMappings`
abbrev pub whole_of : PartsValue → List ℕ → List ℕ
whole_of m tokens = (123 ∷ []) ++ (parts_text false (leading_entries m.metadata)
    ++ (tokens ++ (parts_text true (source_entries m.sources m.contents)
    ++ (part true version_entry ++ (125 ∷ [])))))

pub encoded : (m : PartsValue) (later : Bool) (tokens : List ℕ) → later ≡ later_after false (leading_entries m.metadata)
    → AllByRecursion IsPlainEntry (leading_entries m.metadata) → HasSoundLeadingMembers m.metadata
    → IsTokensText later m.names m.tokens tokens
    → AllByRecursion IsPlainEntry (source_entries m.sources m.contents) → IsPlainEntry version_entry
    → IsEncoded (RecordAnswer m) (whole_of m tokens)
encoded m later tokens is_later metadata sound of_tokens sources version =
    let mappings = of_tokens.mappings in
    let ranges = of_tokens.ranges in
    let t : Tree = plain (record_with m mappings ranges) in
    let texts : AreTextsOf (length m.names) m.tokens mappings ranges = record {
      text = of_tokens.of_mappings.written;
      bits = of_tokens.of_ranges;
      back = λ sources small within.
          subst (λ (rs : List ℕ). MappingsAnswer mappings rs (record { sources = sources; names = length m.names })
          (Ok (reduced (length m.names) m.tokens))) (same_listed ranges)
          (of_tokens.of_mappings.back sources small within ranges of_tokens.of_ranges);
    } in
    let leading = leading_entries m.metadata in
    let others = source_entries m.sources m.contents in
    let end : List Entry = version_entry ∷ [] in
    let fine = all_append leading (token_entries m.names mappings ranges ++ (others ++ end)) metadata
    (all_append (token_entries m.names mappings ranges) (others ++ end) of_tokens.is_plain
    (all_append others end sources (version, tt))) in
    let H = parts_text false leading in
    let S = parts_text true others in
    let V = part true version_entry in
    let is : whole_of m tokens ≡ 123 ∷ (parts_text false (map_entries m mappings ranges) ++ 125 ∷ []) =
    ap (λ t. 123 ∷ t) (regrouped H tokens S V (125 ∷ [])
    ∙ ap (λ r. (H ++ (r ++ (S ++ V))) ++ 125 ∷ []) of_tokens.is
    ∙ ap (λ r. r ++ 125 ∷ []) (parts_joined later m mappings ranges is_later)) in (
      t,
      ((mappings, ranges, texts, refl), fine_record m mappings ranges sound),
      text_is m mappings ranges (whole_of m tokens) fine is,
    )
