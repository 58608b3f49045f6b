use Rattle.std.proofs.Common.{option_copied, ◌≡◌, ℕ, ◌+◌, ◌-◌, ◌<◌, Bool, List, [], ◌∷◌, ◌++◌, take, get_or}
use Rattle.std.proofs.Common.{string_bytes, Option, Some, true, false, sym, ap, subst, ◌∙◌, refl, arith}
use Rattle.std.proofs.lemmas.List.{take_more, take_all}
use Rattle.sourcemap_tokens.specs.declared.tokens.RawToken.{RawToken}
use Rattle.sourcemap_mappings.specs.Write.{base}
use Rattle.sourcemap_mappings.specs.WriteSteps.{repeats}
use Rattle.sourcemap_mappings.proofs.WriteWalk.{Walked, Walked-none, Walked-repeat_here, Walked-more, next_line}
use Rattle.sourcemap_map_encode.specs.Buffered.{GrowsBy}
use Rattle.sourcemap_map_encode.specs.Segments.{IsLineOfBits}
use Rattle.sourcemap_map_encode.proofs.BufferedLemmas.{OnOk-then}
use Rattle.sourcemap_map_encode.proofs.SegmentLemmas.{Ranged, none-ranged, turn-ranged, repeat-ranged, more-ranged}
use Rattle.sourcemap_map_encode.proofs.SegmentLemmas.{ranged-carried, all-ranged}
use Rattle.sourcemap_map_encode.proofs.ranges.put_ranges.Goals as goal
use Rattle.sourcemap_map_encode.proofs.ranges.put_ranges.Goals.{then-line-token+in_ok-put_line, else-line-token}
use Rattle.sourcemap_map_encode.proofs.ranges.put_ranges.Goals.{then-not-is_repeat+in_ok-push, else-not-is_repeat}

pub loop-token-init : goal.loop-token-init
loop-token-init g c = record {
  walked = Walked-none;
  ranged = none-ranged c.new-flags.result.items (g.W.Write.contents c.args.writer.now)
      (string_bytes c.args.buffer.now) c.new-flags.ensures.items;
}

line_of : (flags others : List Bool) (ends lines : ℕ) (h i : Option (List ℕ)) (a b : List ℕ) → flags ≡ others
    → ends ≡ lines
    → GrowsBy (IsLineOfBits flags ends) h a i b → GrowsBy (IsLineOfBits others lines) h a i b
line_of flags others ends lines h i a b e f x =
    subst (λ (n : ℕ). GrowsBy (IsLineOfBits others n) h a i b) f
    (subst (λ (fs : List Bool). GrowsBy (IsLineOfBits fs ends) h a i b) e x)

walked_on : (line : ℕ) (token : RawToken) (done more : List RawToken) → line ≡ token.dst_line → more ≡ done
    → Walked token.dst_line done (Some token) → Walked line more (Some token)
walked_on line token done more at e w =
    subst (λ (m : ℕ). Walked m more (Some token)) (sym at)
    (subst (λ (ts : List RawToken). Walked token.dst_line ts (Some token)) (sym e) w)

pub loop-token-preserved : goal.loop-token-preserved
loop-token-preserved g c =
    let tokens = c.args.tokens.now in
    let l = c.loop-token in
    let i = l.token-index in
    let held = g.W.Write.contents in
    let token = get_or tokens i (base 0 0 []) in
    let done = take i tokens in
    let more : take (i + 1) tokens ≡ done ++ token ∷ [] = take_more tokens i (base 0 0 []) (omega arith) in
    let walked = l.invariant.walked in
    let previous = option_copied l.before in
    let down = next_line i l.line tokens previous token (base 0 0 []) c.requires (omega arith) refl walked in
    let start = held c.args.writer.now in
    let first = string_bytes c.args.buffer.now in
    let now = held c.if-line-token.writer in
    let left = string_bytes c.if-line-token.buffer in
    let line : c.if-line-token.line ≡ token.dst_line =
    elim c.if-line-token.branch [
      | then-line-token+in_ok-put_line w ↦ w.line-is
      | else-line-token w ↦ cc
    ] in
    let turned : GrowsBy (Ranged token.dst_line done c.if-line-token.flags.items) start first now left =
    elim c.if-line-token.branch [
      | then-line-token+in_ok-put_line w ↦
          let past : l.line < token.dst_line = omega arith in
          ranged-carried token.dst_line token.dst_line done done [] c.if-line-token.flags.items start
          (held w.put_line.new.writer) now first (string_bytes w.put_line.new.buffer) left
          refl refl (ap (λ v. v.items) w.flags-is ∙ w.clear.ensures.items) (ap held w.writer-is)
          (ap string_bytes w.buffer-is)
          (turn-ranged l.line token.dst_line done l.flags.items start (held l.writer) (held w.put_line.new.writer) first
          (string_bytes l.buffer) (string_bytes w.put_line.new.buffer)
          past walked.upto l.invariant.ranged
          (line_of w.as_slice.result.now l.flags.items w.saturating_sub-line_ends.result (token.dst_line - l.line)
          (held l.writer) (held w.put_line.new.writer) (string_bytes l.buffer) (string_bytes w.put_line.new.buffer)
          w.as_slice.ensures.value w.saturating_sub-line_ends.ensures w.in_ok-put_line.ensures.text))
      | else-line-token w ↦
          let same : token.dst_line ≡ l.line = cc in
          ranged-carried l.line token.dst_line done done l.flags.items c.if-line-token.flags.items start
          (held l.writer) now first (string_bytes l.buffer) left
          same refl (ap (λ v. v.items) w.flags-is) (ap held w.writer-is)
          (ap string_bytes w.buffer-is) l.invariant.ranged
    ] in
    elim c.if-not-is_repeat.branch [
      | then-not-is_repeat+in_ok-push w ↦
          let new : repeats previous token ≡ false = cc in
          let flags_are : c.if-not-is_repeat.flags.items ≡ c.if-line-token.flags.items ++ token.is_range ∷ [] =
          ap (λ v. v.items) w.flags-is ∙ w.in_ok-push.ensures.items in
          record {
            walked = walked_on c.if-line-token.line token (done ++ token
                ∷ []) (take (i + 1) tokens) line more (Walked-more l.line done previous token new down walked);
            ranged = ranged-carried token.dst_line c.if-line-token.line (done ++ token ∷ []) (take
                (i + 1) tokens) (c.if-line-token.flags.items ++ token.is_range ∷ []) c.if-not-is_repeat.flags.items
                start now now first left left line more flags_are refl refl
                (more-ranged l.line done previous token c.if-line-token.flags.items start now first left new
                walked turned);
          }
      | else-not-is_repeat w ↦
          let again : repeats previous token ≡ true = cc in
          record {
            walked = walked_on c.if-line-token.line token (done ++ token
                ∷ []) (take (i + 1) tokens) line more (Walked-repeat_here l.line done previous token again walked);
            ranged = ranged-carried token.dst_line c.if-line-token.line (done ++ token
                ∷ []) (take (i + 1) tokens) c.if-line-token.flags.items c.if-not-is_repeat.flags.items
                start now now first left left line more (ap (λ v. v.items) w.flags-is) refl refl
                (repeat-ranged l.line done previous token token.dst_line c.if-line-token.flags.items start now first
                left again walked turned);
          }
    ]

pub returns-clause-text : goal.returns-clause-text
returns-clause-text g c =
    let tokens = c.args.tokens.now in
    let l = c.loop-token in
    let held = g.W.Write.contents in
    let all : take l.token-index tokens ≡ tokens = take_all l.token-index tokens (omega arith) in
    OnOk-then c.put_line-2.result _ _
    (λ put. all-ranged l.line tokens (option_copied l.before) l.flags.items (held c.args.writer.now) (held l.writer)
    (held c.put_line-2.new.writer)
    (string_bytes c.args.buffer.now) (string_bytes l.buffer) (string_bytes c.put_line-2.new.buffer)
    (subst (λ (ts : List RawToken). Walked l.line ts (option_copied l.before)) all l.invariant.walked)
    (subst (λ (ts : List RawToken). GrowsBy (Ranged l.line ts l.flags.items) (held c.args.writer.now)
    (string_bytes c.args.buffer.now) (held l.writer) (string_bytes l.buffer)) all l.invariant.ranged)
    (line_of c.as_slice-2.result.now l.flags.items 0 0 (held l.writer) (held c.put_line-2.new.writer)
    (string_bytes l.buffer) (string_bytes c.put_line-2.new.buffer) c.as_slice-2.ensures.value refl put))
    c.put_line-2.ensures.text
