use Rattle.std.proofs.Common.{option_copied, ◌≡◌, ℕ, ◌+◌, ◌≤◌, Option, length, List, [], ◌∷◌, ◌++◌, take, get_or}
use Rattle.std.proofs.Common.{string_bytes, Some, None, true, false, sym, ap, subst, ◌∙◌, refl, arith}
use Rattle.std.proofs.lemmas.List.{take_more, take_all}
use Rattle.std.specs.Str.{IsAscii}
use Rattle.std.proofs.lemmas.Str.Ascii.{IsAscii-nil}
use Rattle.sourcemap_tokens.specs.declared.tokens.RawToken.{RawToken}
use Rattle.sourcemap_mappings.specs.Write.{base}
use Rattle.sourcemap_mappings.specs.WriteSteps.{repeats}
use Rattle.sourcemap_mappings.proofs.WriteReadBack.{reads_back}
use Rattle.sourcemap_mappings.proofs.WriteSegments.{Writing, Writing-none, Writing-repeat, Writing-more, Writing-end}
use Rattle.sourcemap_mappings.proofs.WriteWalk.{all_lines, next_line}
use Rattle.sourcemap_mappings.proofs.write.write_mappings.Goals as goal
use Rattle.sourcemap_mappings.proofs.write.write_mappings.Goals.{then-not-is_repeat+in_ok-at, else-not-is_repeat}

pub loop-token-init : goal.loop-token-init
loop-token-init c = record {
  writing = subst (λ (t : List ℕ). Writing c.args.names [] None (base 0 0 [])
      (t ++ [])) (sym c.in_ok-text.ensures.bytes) (Writing-none c.args.names);
  within = omega arith;
  ascii = IsAscii-nil;
}

-- the loop invariant, for a text and a buffer; `carried` replaces some arguments of `Gathered` by equal values
record Gathered (names : ℕ) (done : List RawToken) (previous : Option RawToken) (against : RawToken)
    (text buffer : List ℕ) (at : ℕ) : Type 0 where
  writing : Writing names done previous against (text ++ take at buffer)
  within : at ≤ 1024
  ascii : IsAscii (take at buffer)

carried : (names : ℕ) (done more : List RawToken) (previous : Option RawToken) (a b : RawToken)
    (s t r q : List ℕ) (m n : ℕ)
    → more ≡ done → b ≡ a → t ≡ s → q ≡ r → n ≡ m → Gathered names done previous a s r m
    → Gathered names more previous b t q n
carried names done more previous a b s t r q m n is_done is_against is_text is_buffer is_at known =
    subst (λ (ts : List RawToken). Gathered names ts previous b t q n) (sym is_done)
    (subst (λ (x : RawToken). Gathered names done previous x t q n) (sym is_against)
    (subst (λ (x : List ℕ). Gathered names done previous a x q n) (sym is_text)
    (subst (λ (x : List ℕ). Gathered names done previous a s x n) (sym is_buffer)
    (subst (λ (k : ℕ). Gathered names done previous a s r k) (sym is_at) known))))

pub loop-token-preserved : goal.loop-token-preserved
loop-token-preserved c =
    let names = c.args.names in
    let tokens = c.args.tokens.now in
    let i = c.loop-token.token-index in
    let done = take i tokens in
    let previous = option_copied c.loop-token.previous in
    let against = c.loop-token.against in
    let text = string_bytes c.loop-token.text in
    let buffer = c.loop-token.buffer in
    let known = c.loop-token.invariant in
    let token = get_or tokens i (base 0 0 []) in
    let more : take (i + 1) tokens ≡ done ++ token ∷ [] = take_more tokens i (base 0 0 []) (omega arith) in
    let is_repeat = c.is_repeat.ensures in
    elim c.if-not-is_repeat.branch [
      | then-not-is_repeat+in_ok-at w ↦
          let new : repeats previous token ≡ false = cc in
          let line = next_line i against.dst_line tokens previous token (base 0 0 []) c.requires
          (omega arith) refl known.writing.walked in
          let put = w.in_ok-at.ensures in
          let grown = Writing-more names done previous against (text ++ take c.loop-token.at buffer)
          (string_bytes w.put_token.new.text
          ++ take w.in_ok-at.at w.put_token.new.buffer) token new line put.text put.small known.writing in
          let next = w.against-is ∙ put.next in
          let all = carried names (done ++ token ∷ []) (take (i + 1) tokens) (Some token) _ c.if-not-is_repeat.against
          (string_bytes w.put_token.new.text) (string_bytes c.if-not-is_repeat.text) w.put_token.new.buffer
          c.if-not-is_repeat.buffer w.in_ok-at.at c.if-not-is_repeat.at
          more next (ap string_bytes w.text-is) w.buffer-is w.at-is
          (record { writing = grown; within = put.end; ascii = put.ascii }) in
          record { writing = all.writing; within = all.within; ascii = all.ascii }
      | else-not-is_repeat w ↦
          let again : repeats previous token ≡ true = cc in
          let kept =
          Writing-repeat names done previous against (text ++ take c.loop-token.at buffer) token again known.writing in
          let all =
          carried names (done ++ token ∷ []) (take (i + 1) tokens) (Some token) against c.if-not-is_repeat.against
          text
          (string_bytes c.if-not-is_repeat.text) buffer c.if-not-is_repeat.buffer c.loop-token.at c.if-not-is_repeat.at
          more w.against-is (ap string_bytes w.text-is) w.buffer-is w.at-is
          (record { writing = kept; within = known.within; ascii = known.ascii }) in
          record { writing = all.writing; within = all.within; ascii = all.ascii }
    ]

-- after the loop, the whole text contains all tokens
whole : (names n : ℕ) (tokens : List RawToken) (previous : Option RawToken) (against : RawToken)
    (text gathered : List ℕ) → length tokens ≤ n
    → text ≡ gathered → Writing names (take n tokens) previous against gathered
    → Writing names tokens previous against text
whole names n tokens previous against text gathered h is w =
    subst (λ (t : List ℕ). Writing names tokens previous against t) (sym is)
    (subst (λ (ts : List RawToken). Writing names ts previous against gathered) (take_all n tokens h) w)

pub returns-clause-text : goal.returns-clause-text
returns-clause-text c =
    let tokens = c.args.tokens.now in
    let previous = option_copied c.loop-token.previous in
    let text = string_bytes c.flush.new.text in
    Writing-end c.args.names tokens previous c.loop-token.against text
    (whole c.args.names c.loop-token.token-index tokens previous c.loop-token.against text _
    (omega arith) c.in_ok-flush.ensures.text c.loop-token.invariant.writing)

pub returns-clause-reads_back : goal.returns-clause-reads_back
returns-clause-reads_back c sources few within ranges is =
    let tokens = c.args.tokens.now in
    let previous = option_copied c.loop-token.previous in
    let text = string_bytes c.flush.new.text in
    let done : Writing c.args.names tokens previous c.loop-token.against text =
    whole c.args.names c.loop-token.token-index tokens previous c.loop-token.against text _
    (omega arith) c.in_ok-flush.ensures.text c.loop-token.invariant.writing in
    reads_back sources c.args.names tokens text ranges few (omega arith) c.requires within done.small done.walked.rises
    (all_lines c.loop-token.against.dst_line tokens previous done.walked)
    (Writing-end c.args.names tokens previous c.loop-token.against text done) is
