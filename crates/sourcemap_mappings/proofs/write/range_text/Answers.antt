use Rattle.std.proofs.Common.{option_copied, ◌≡◌, ℕ, ◌+◌, ◌-◌, ◌<◌, Bool, List, [], ◌∷◌, ◌++◌, take, get_or, replicate}
use Rattle.std.proofs.Common.{string_bytes, Some, true, false, sym, ap, subst, ◌∙◌, refl, arith}
use Rattle.std.proofs.lemmas.List.{take_more, take_all}
use Rattle.sourcemap_tokens.specs.declared.tokens.RawToken.{RawToken}
use Rattle.sourcemap_vlq.specs.Bits.{IsBitText}
use Rattle.sourcemap_tokens.specs.Tokens.{without_repeats}
use Rattle.sourcemap_mappings.specs.Segment.{semicolon}
use Rattle.sourcemap_mappings.specs.Write.{base, LineByLine, IsRangeLine}
use Rattle.sourcemap_mappings.specs.WriteSteps.{repeats}
use Rattle.sourcemap_mappings.proofs.WriteWalk.{Walked, Walked-none, Walked-repeat_here, Walked-more, next_line}
use Rattle.sourcemap_mappings.proofs.WriteRanges.{Ranging, Ranging-none, Ranging-turn, Ranging-repeat, Ranging-more}
use Rattle.sourcemap_mappings.proofs.WriteRanges.{Ranging-end}
use Rattle.sourcemap_mappings.proofs.write.range_text.Goals as goal
use Rattle.sourcemap_mappings.proofs.write.range_text.Goals.{then-line-token+in_ok-push_bits+in_ok-push_line_ends}
use Rattle.sourcemap_mappings.proofs.write.range_text.Goals.{else-line-token, then-not-is_repeat+in_ok-push}
use Rattle.sourcemap_mappings.proofs.write.range_text.Goals.{else-not-is_repeat}

pub loop-token-init : goal.loop-token-init
loop-token-init c = record {
  walked = Walked-none;
  ranging = subst (λ (t : List ℕ). Ranging 0 [] t c.new-flags.result.items) (sym c.new-text.ensures.bytes)
      (subst (λ (fs : List Bool). Ranging 0 [] [] fs) (sym c.new-flags.ensures.items) Ranging-none);
}

-- replaces the line, the text and the flags by equal values
carried : (n m : ℕ) (ts : List RawToken) (s t : List ℕ) (fs gs : List Bool) → m ≡ n → t ≡ s → gs ≡ fs
    → Ranging n ts s fs → Ranging m ts t gs
carried n m ts s t fs gs em et eg r =
    subst (λ (k : ℕ). Ranging k ts t gs) (sym em)
    (subst (λ (x : List ℕ). Ranging n ts x gs) (sym et) (subst (λ (x : List Bool). Ranging n ts s x) (sym eg) r))

walked_and_ranging : (line : ℕ) (token : RawToken) (tokens : List RawToken) (n : ℕ) (done : List RawToken)
    (text : List ℕ) (flags : List Bool)
    → line ≡ token.dst_line → take n tokens ≡ done ++ token ∷ []
    → Walked token.dst_line (done ++ token ∷ []) (Some token)
    → Ranging token.dst_line (without_repeats (done ++ token ∷ [])) text flags
    → record {
      walked : Walked line (take n tokens) (Some token);
      ranging : Ranging line (without_repeats (take n tokens)) text flags;
    }
walked_and_ranging line token tokens n done text flags at more w r = record {
  walked = subst (λ (m : ℕ). Walked m (take n tokens) (Some token)) (sym at) (subst
      (λ (ts : List RawToken). Walked token.dst_line ts (Some token)) (sym more) w);
  ranging = subst (λ (m : ℕ). Ranging m (without_repeats (take n tokens)) text flags) (sym at)
      (subst (λ (ts : List RawToken). Ranging token.dst_line (without_repeats ts) text flags) (sym more) r);
}

pub loop-token-preserved : goal.loop-token-preserved
loop-token-preserved c =
    let tokens = c.args.tokens.now in
    let i = c.loop-token.token-index in
    let token = get_or tokens i (base 0 0 []) in
    let done = take i tokens in
    let more : take (i + 1) tokens ≡ done ++ token ∷ [] = take_more tokens i (base 0 0 []) (omega arith) in
    let walked = c.loop-token.invariant.walked in
    let down = next_line i c.loop-token.line tokens (option_copied c.loop-token.before) token (base 0 0 []) c.requires
    (omega arith) refl walked in
    let text = string_bytes c.loop-token.text in
    let flags = c.loop-token.flags.items in
    let line : c.if-line-token.line ≡ token.dst_line =
    elim c.if-line-token.branch [
      | then-line-token+in_ok-push_bits+in_ok-push_line_ends w ↦ w.line-is
      | else-line-token w ↦ cc
    ] in
    let turned : Ranging token.dst_line (without_repeats done)
    (string_bytes c.if-line-token.text) c.if-line-token.flags.items =
    elim c.if-line-token.branch [
      | then-line-token+in_ok-push_bits+in_ok-push_line_ends w ↦
          let written = w.in_ok-push_bits.ensures.written in
          let past : c.loop-token.line < token.dst_line = omega arith in
          carried token.dst_line token.dst_line (without_repeats done)
          ((text ++ written.0) ++ replicate (token.dst_line - c.loop-token.line) semicolon)
          (string_bytes c.if-line-token.text) [] c.if-line-token.flags.items refl
          (ap string_bytes w.text-is ∙ w.in_ok-push_line_ends.ensures.text
          ∙ ap (λ (t : List ℕ). t ++ replicate (token.dst_line - c.loop-token.line) semicolon) written.2)
          (ap (λ v. v.items) w.flags-is ∙ w.clear.ensures.items)
          (Ranging-turn c.loop-token.line token.dst_line (without_repeats done) text written.0 flags past walked.upto
          (subst (λ (fs : List Bool).
          IsBitText fs written.0) w.as_slice.ensures.value written.1) c.loop-token.invariant.ranging)
      | else-line-token w ↦
          let same : token.dst_line ≡ c.loop-token.line = cc in
          carried c.loop-token.line token.dst_line (without_repeats done) text
          (string_bytes c.if-line-token.text) flags c.if-line-token.flags.items same
          (ap string_bytes w.text-is) (ap (λ v. v.items) w.flags-is) c.loop-token.invariant.ranging
    ] in
    let kept = walked_and_ranging c.if-line-token.line token tokens (i
    + 1) done (string_bytes c.if-line-token.text) c.if-not-is_repeat.flags.items line more in
    elim c.if-not-is_repeat.branch [
      | then-not-is_repeat+in_ok-push w ↦
          let new : repeats (option_copied c.loop-token.before) token ≡ false = cc in
          let flags_are : c.if-not-is_repeat.flags.items ≡ c.if-line-token.flags.items ++ token.is_range ∷ [] =
          ap (λ v. v.items) w.flags-is ∙ w.in_ok-push.ensures.items in
          kept (Walked-more c.loop-token.line done (option_copied c.loop-token.before) token new down walked)
          (subst (λ (fs : List Bool). Ranging token.dst_line (without_repeats (done ++ token ∷ []))
          (string_bytes c.if-line-token.text) fs) (sym flags_are)
          (Ranging-more c.loop-token.line done (option_copied c.loop-token.before) token
          (string_bytes c.if-line-token.text) c.if-line-token.flags.items new walked turned))
      | else-not-is_repeat w ↦
          let again : repeats (option_copied c.loop-token.before) token ≡ true = cc in
          kept (Walked-repeat_here c.loop-token.line done (option_copied c.loop-token.before) token again walked)
          (subst (λ (fs : List Bool). Ranging token.dst_line (without_repeats (done ++ token ∷ []))
          (string_bytes c.if-line-token.text) fs) (sym (ap (λ v. v.items) w.flags-is))
          (Ranging-repeat c.loop-token.line done (option_copied c.loop-token.before) token token.dst_line
          (string_bytes c.if-line-token.text) c.if-line-token.flags.items again walked turned))
    ]

pub returns-clause-text : goal.returns-clause-text
returns-clause-text c =
    let tokens = c.args.tokens.now in
    let invariant = c.loop-token.invariant in
    let all : take c.loop-token.token-index tokens ≡ tokens = take_all c.loop-token.token-index tokens (omega arith) in
    let written = c.in_ok-push_bits-2.ensures.written in
    let whole = Ranging-end c.loop-token.line tokens (option_copied c.loop-token.before)
    (string_bytes c.loop-token.text) written.0 c.loop-token.flags.items
    (subst (λ (fs : List Bool). IsBitText fs written.0) c.as_slice-2.ensures.value written.1)
    (subst
    (λ (ts : List RawToken). Walked c.loop-token.line ts (option_copied c.loop-token.before)) all invariant.walked)
    (subst (λ (ts : List RawToken). Ranging c.loop-token.line (without_repeats ts)
    (string_bytes c.loop-token.text) c.loop-token.flags.items) all invariant.ranging) in
    subst (λ (t : List ℕ). LineByLine (IsRangeLine (without_repeats tokens)) tokens t) (sym written.2) whole
