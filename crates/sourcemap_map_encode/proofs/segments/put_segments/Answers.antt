use Rattle.std.proofs.Common.{option_copied, ◌≡◌, ℕ, ◌+◌, List, [], ◌∷◌, ◌++◌, take, get_or, string_bytes, Some, true}
use Rattle.std.proofs.Common.{false, None, ap, sym, subst, ◌∙◌, append-nil, refl, arith}
use Rattle.std.proofs.lemmas.List.{take_more, take_all}
use Rattle.std.specs.Str.{IsAscii}
use Rattle.std.proofs.lemmas.Str.Ascii.{IsAscii-nil}
use Rattle.sourcemap_tokens.specs.Tokens.{without_repeats}
use Rattle.sourcemap_tokens.specs.declared.tokens.RawToken.{RawToken}
use Rattle.sourcemap_mappings.specs.Buffer.{Adds}
use Rattle.sourcemap_mappings.specs.Write.{base, numbers}
use Rattle.sourcemap_mappings.specs.WriteSteps.{repeats, gap, at_line, next_base}
use Rattle.sourcemap_mappings.proofs.WriteWalk.{next_line}
use Rattle.sourcemap_map_encode.specs.Buffered.{GrowsBy}
use Rattle.sourcemap_map_encode.specs.Segments.{IsMappingsText}
use Rattle.sourcemap_map_encode.proofs.BufferedLemmas.{Grows-behind, GrowsBy-flushed, OnOk-then}
use Rattle.sourcemap_map_encode.proofs.SegmentLemmas.{Written, none-put, repeat-put, token-put, put-carried, all-put}
use Rattle.sourcemap_map_encode.proofs.SegmentLemmas.{token-grown, before_line-then}
use Rattle.sourcemap_map_encode.proofs.segments.put_segments.Goals as goal
use Rattle.sourcemap_map_encode.proofs.segments.put_segments.Goals.{then-not-is_repeat+in_ok-free+in_ok-at+in_ok-flush_piece}
use Rattle.sourcemap_map_encode.proofs.segments.put_segments.Goals.{else-not-is_repeat}

pub loop-token-init : goal.loop-token-init
loop-token-init g c =
    let held = g.W.Write.contents c.args.writer.now in
    let first = string_bytes c.args.buffer.now in
    record {
      written = subst (λ (r : List ℕ). GrowsBy (Written c.args.names [] None (base 0 0 [])) held first held r)
          (sym (append-nil first)) (none-put c.args.names held first);
      within = omega arith;
      ascii = IsAscii-nil;
    }

-- replaces the first bytes of the buffers by equal values
same_bytes : (s t x y : List ℕ) (m n : ℕ) → s ≡ t → m ≡ n → x ≡ y → s ++ take m x ≡ t ++ take n y
same_bytes s t x y m n e f k = cc

pub loop-token-preserved : goal.loop-token-preserved
loop-token-preserved g c =
    let names = c.args.names in
    let tokens = c.args.tokens.now in
    let l = c.loop-token in
    let done = take l.token-index tokens in
    let previous = option_copied l.previous in
    let held = g.W.Write.contents in
    let start = held c.args.writer.now in
    let first = string_bytes c.args.buffer.now in
    let token = get_or tokens l.token-index (base 0 0 []) in
    let more : take (l.token-index + 1) tokens ≡ done ++ token ∷ [] =
    take_more tokens l.token-index (base 0 0 []) (omega arith) in
    let is_repeat = c.is_repeat.ensures in
    let known = l.invariant in
    let before = string_bytes l.buffer ++ take l.at l.digits in
    elim c.if-not-is_repeat.branch [
      | then-not-is_repeat+in_ok-free+in_ok-at+in_ok-flush_piece w ↦
          let new : repeats previous token ≡ false = cc in
          let walked = known.written.1.writing.walked in
          let line = next_line l.token-index l.against.dst_line tokens previous token (base 0 0 []) c.requires
          (omega arith) refl walked in
          let empty = w.in_ok-free.ensures in
          let put = w.in_ok-at.ensures in
          let between = string_bytes w.put_empty_lines.new.text ++ take w.in_ok-free.free l.digits in
          let after = string_bytes w.put_token.new.text ++ take w.in_ok-at.at w.put_token.new.buffer in
          let now = string_bytes w.flush_piece.new.buffer ++ take w.in_ok-at.at w.put_token.new.buffer in
          let adds = subst (λ (u : RawToken). Adds (numbers names (at_line u token.dst_line) token)
          (between ++ gap previous u.dst_line token) after) empty.next put.text in
          let flushed = Grows-behind (held w.put_empty_lines.new.writer) (held w.flush_piece.new.writer)
          (string_bytes w.put_token.new.text) (string_bytes w.flush_piece.new.buffer)
          (take w.in_ok-at.at w.put_token.new.buffer) w.in_ok-flush_piece.ensures.text in
          let grown = token-grown names (without_repeats done) previous l.against token (held l.writer)
          (held w.put_empty_lines.new.writer) (held w.flush_piece.new.writer) before between after now
          walked.is_at_line line empty.text adds flushed in
          let next = w.against-is ∙ put.next ∙ ap (λ (u : RawToken). next_base names (at_line u token.dst_line) token)
          empty.next ∙ ap (λ (u : RawToken). next_base names u token) (before_line-then l.against token.dst_line line) in
          record {
            written = put-carried names (done ++ token ∷ []) (take (l.token-index + 1) tokens) (Some token)
                (next_base names (at_line l.against token.dst_line) token) c.if-not-is_repeat.against start
                (held w.flush_piece.new.writer) (held c.if-not-is_repeat.writer) first now
                (string_bytes c.if-not-is_repeat.buffer ++ take c.if-not-is_repeat.at c.if-not-is_repeat.digits)
                more next (ap held w.writer-is)
                (same_bytes _ _ _ _ _ _ (ap string_bytes w.buffer-is) w.at-is w.digits-is)
                (token-put names done previous l.against token start (held l.writer) (held w.flush_piece.new.writer)
                first before now new line put.small known.written grown);
            within = omega (arith, w.at-is, put.end);
            ascii = subst (λ (r : List ℕ). IsAscii r)
                (sym (same_bytes [] [] _ _ _ _ refl w.at-is w.digits-is)) put.ascii;
          }
      | else-not-is_repeat w ↦
          let again : repeats previous token ≡ true = cc in
          record {
            written = put-carried names (done ++ token ∷ []) (take (l.token-index + 1) tokens) (Some token) l.against
                c.if-not-is_repeat.against start (held l.writer) (held c.if-not-is_repeat.writer) first before
                (string_bytes c.if-not-is_repeat.buffer ++ take c.if-not-is_repeat.at c.if-not-is_repeat.digits)
                more w.against-is (ap held w.writer-is)
                (same_bytes _ _ _ _ _ _ (ap string_bytes w.buffer-is) w.at-is w.digits-is)
                (repeat-put names done previous l.against token start (held l.writer) first before again known.written);
            within = omega (arith, w.at-is, known.within);
            ascii = subst (λ (r : List ℕ). IsAscii r)
                (sym (same_bytes [] [] _ _ _ _ refl w.at-is w.digits-is)) known.ascii;
          }
    ]

pub returns-clause-text : goal.returns-clause-text
returns-clause-text g c =
    let tokens = c.args.tokens.now in
    let l = c.loop-token in
    let held = g.W.Write.contents in
    let start = held c.args.writer.now in
    let first = string_bytes c.args.buffer.now in
    let all = all-put c.args.names tokens (option_copied l.previous) l.against start (held l.writer) first
    (string_bytes l.buffer ++ take l.at l.digits) (omega arith) c.requires
    (subst (λ (ts : List RawToken). GrowsBy (Written c.args.names ts (option_copied l.previous) l.against)
    start first (held l.writer) (string_bytes l.buffer ++ take l.at l.digits))
    (take_all l.token-index tokens (omega arith)) l.invariant.written) in
    OnOk-then c.flush_piece-2.result _ _
    (λ flushed. GrowsBy-flushed (IsMappingsText c.args.names tokens) start (held l.writer)
    (held c.flush_piece-2.new.writer) first (string_bytes c.flush.new.text) (string_bytes c.flush_piece-2.new.buffer)
    (subst (λ (r : List ℕ). GrowsBy (IsMappingsText c.args.names tokens) start first (held l.writer) r)
    (sym c.in_ok-flush.ensures.text) all)
    flushed)
    c.flush_piece-2.ensures.text
