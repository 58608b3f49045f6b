use Rattle.std.proofs.Common.{◌≡◌, ℕ, List, ◌++◌, Bool, true, false, Option, length, map, string_bytes, Global, ap, sym}
use Rattle.std.proofs.Common.{subst, ◌∙◌, append-nil}
use Rattle.sourcemap_tokens.specs.declared.tokens.RawToken.{RawToken}
use Rattle.sourcemap_map_encode.specs.Buffered.{Grows, GrowsBy}
use Rattle.sourcemap_map_encode.specs.Members.{part, parts_text, mappings_entry, names_entry, ranges_entry}
use Rattle.sourcemap_map_encode.specs.Members.{token_entries, IsMappingsPart, IsRangesPart, IsTokensText, IsPlainEntry}
use Rattle.sourcemap_map_encode.proofs.BufferedLemmas.{Grows-join, OnOk-then}
use Rattle.sourcemap_map_encode.proofs.PlainLemmas.{plain-utf8}
use Rattle.sourcemap_json_write.proofs.WritingLemmas.{plain_string}
use Rattle.sourcemap_map_encode.proofs.encode.put_tokens.Goals as goal

joined : (later : Bool) (names : List (List ℕ)) (mappings : List ℕ) (ranges : Option (List ℕ))
    → part later (mappings_entry mappings) ++ (part true (names_entry names) ++ part true (ranges_entry ranges))
    ≡ parts_text later (token_entries names mappings ranges)
joined true names mappings ranges = ap (λ t. part true (mappings_entry mappings)
    ++ (part true (names_entry names) ++ t)) (sym (append-nil (part true (ranges_entry ranges))))
joined false names mappings ranges = ap (λ t. part false (mappings_entry mappings)
    ++ (part true (names_entry names) ++ t)) (sym (append-nil (part true (ranges_entry ranges))))

tokens_grown : (later : Bool) (names : List (List ℕ)) (tokens : List RawToken) (h i j k : Option (List ℕ))
    (a b c d : List ℕ) → IsPlainEntry (names_entry names)
    → GrowsBy (IsMappingsPart later (length names) tokens) h a i b → Grows i b j c (part true (names_entry names))
    → GrowsBy (IsRangesPart tokens) j c k d
    → GrowsBy (IsTokensText later names tokens) h a k d
tokens_grown later names tokens h i j k a b c d fine (
  s,
  (mappings, of_mappings, is_s),
  x,
) y (t, (ranges, of_ranges, fine_ranges, is_t), z) = (
  s ++ (part true (names_entry names) ++ t),
  record {
    mappings = mappings;
    ranges = ranges;
    of_mappings = of_mappings;
    of_ranges = of_ranges;
    is_plain = (plain_string mappings (plain-utf8 mappings of_mappings.is_plain), (fine, (fine_ranges, tt)));
    is = ap (λ r. r ++ (part true (names_entry names) ++ t)) is_s
        ∙ ap (λ r. part later (mappings_entry mappings) ++ (part true (names_entry names) ++ r)) is_t
        ∙ joined later names mappings ranges;
  },
  Grows-join h i k a b d s (part true (names_entry names) ++ t) x
      (Grows-join i j k b c d (part true (names_entry names)) t y z),
)

pub returns-clause-text : goal.returns-clause-text
returns-clause-text g c =
    let held = g.W.Write.contents in
    let names = map (string_bytes {Z = Global}) c.args.names.now in
    let tokens = c.args.tokens.now in
    let h = held c.args.writer.now in
    let i = held c.put_mappings_member.new.writer in
    let a = string_bytes c.args.buffer.now in
    let b = string_bytes c.put_mappings_member.new.buffer in
    let mappings = subst (λ (n : ℕ). GrowsBy (IsMappingsPart c.args.later n tokens) h a i b)
    c.name_count.ensures c.in_ok-put_mappings_member.ensures.text in
    OnOk-then c.put_range_bits.result _ _
    (λ ranges. tokens_grown c.args.later names tokens h i
    (held c.put_names.new.writer) (held c.put_range_bits.new.writer) a b
    (string_bytes c.put_names.new.buffer) (string_bytes c.put_range_bits.new.buffer)
    c.in_ok-put_names.ensures.is_plain mappings c.in_ok-put_names.ensures.text ranges)
    c.put_range_bits.ensures.text
