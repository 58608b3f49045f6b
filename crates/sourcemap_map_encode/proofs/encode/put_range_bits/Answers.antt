use Rattle.std.proofs.Common.{◌≡◌, ℕ, List, Option, Some, codes, true, string_bytes, subst}
use Rattle.std.specs.List.{list_any}
use Rattle.serde_json.specs.Data.{string}
use Rattle.sourcemap_tokens.specs.declared.tokens.RawToken.{RawToken}
use Rattle.sourcemap_map_encode.specs.Buffered.{GrowsBy}
use Rattle.sourcemap_map_encode.specs.Members.{part, IsRangesPart}
use Rattle.sourcemap_map_encode.specs.Segments.{IsBitsText}
use Rattle.sourcemap_map_encode.proofs.BufferedLemmas.{OnOk-then}
use Rattle.sourcemap_map_encode.proofs.PlainLemmas.{plain-utf8}
use Rattle.sourcemap_map_encode.proofs.SegmentLemmas.{member-grown}
use Rattle.sourcemap_json_write.proofs.WritingLemmas.{plain_string}
use Rattle.sourcemap_map_encode.proofs.encode.put_range_bits.Goals as goal

as_part : (tokens : List RawToken) (h i : Option (List ℕ)) (a b : List ℕ) → list_any (λ t. t.is_range) tokens ≡ true
    → GrowsBy (λ whole. (t : List ℕ) × IsBitsText tokens t
    × (whole ≡ part true (codes "rangeMappings", Some (string t)))) h a i b
    → GrowsBy (IsRangesPart tokens) h a i b
as_part tokens h i a b some (whole, (t, bits, is), x) =
    (whole, (Some t, (some, bits.written), plain_string t (plain-utf8 t bits.is_plain), is), x)

pub returns-clause-text : goal.returns-clause-text
returns-clause-text g c =
    let held = g.W.Write.contents in
    let tokens = c.args.tokens.now in
    let same = c.as_slice-tokens.ensures.value in
    let found : list_any (λ t. t.is_range) c.as_slice-tokens.result.now ≡ true = cc in
    let some : list_any (λ t. t.is_range) tokens ≡ true =
    subst (λ (ts : List RawToken). list_any (λ t. t.is_range) ts ≡ true) same found in
    let i = held c.put.new.writer in
    let b = string_bytes c.put.new.buffer in
    let k = held c.put_ranges.new.writer in
    let d = string_bytes c.put_ranges.new.buffer in
    let text =
    subst (λ (ts : List RawToken). GrowsBy (IsBitsText ts) i b k d) same c.in_ok-put_ranges.ensures.text in
    OnOk-then c.put-2.result _ _
    (λ closed. as_part tokens (held c.args.writer.now) (held c.put-2.new.writer) (string_bytes c.args.buffer.now)
    (string_bytes c.put-2.new.buffer) some
    (member-grown true (codes "rangeMappings") (IsBitsText tokens) (λ t is. is.is_plain)
    (held c.args.writer.now) (held c.put_key.new.writer) i k (held c.put-2.new.writer)
    (string_bytes c.args.buffer.now) (string_bytes c.put_key.new.buffer) b d (string_bytes c.put-2.new.buffer)
    c.in_ok-put_key.ensures.text c.in_ok-put.ensures.text text closed))
    c.put-2.ensures.text
