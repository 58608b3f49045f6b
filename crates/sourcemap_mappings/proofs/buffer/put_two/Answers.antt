use Rattle.std.proofs.Common.{◌≡◌, ℕ, ◌+◌, ◌/◌, ◌%◌, List, [], ◌∷◌, ◌++◌, take, ◌∙◌, ap, subst, sym, arith, inl, inr}
use Rattle.std.proofs.lemmas.Bool.{cases_lt}
use Rattle.sourcemap_vlq.specs.Vlq.{glyph}
use Rattle.sourcemap_mappings.specs.Write.{difference}
use Rattle.sourcemap_mappings.specs.Buffer.{Adds, raw_difference}
use Rattle.sourcemap_mappings.proofs.BufferLemmas.{Adds-last, Adds-two, pair-one, pair-two}
use Rattle.sourcemap_mappings.proofs.buffer.put_two.Goals as goal

pub returns-clause-text : goal.returns-clause-text
returns-clause-text c =
    let a = c.args.number in
    let b = c.args.against in
    let buffer = c.args.buffer.now in
    let at = c.args.at in
    let start = take at buffer in
    let raw : ℕ = raw_difference a b in
    let is : c.raw_difference-raw.result ≡ raw = c.raw_difference-raw.ensures.value in
    let second = c.continues-second.result in
    let end : ℕ = at + 1 + second in
    let x = c.glyph_of.result in
    let y = c.glyph_of-2.result in
    elim (cases_lt raw 32) [
      | inl one ↦
          let no_second : second ≡ 0 = c.continues-second.ensures.no (omega arith) in
          let first : x ≡ glyph raw = c.glyph_of.ensures ∙ ap glyph (omega arith) in
          subst (λ (t : List ℕ). Adds (difference a b ∷ []) start t)
          (sym (pair-one buffer at x y end (omega arith) (omega arith) ∙ ap (λ g. start ++ g ∷ []) first))
          (Adds-last a b start [] raw (omega arith) (omega arith) tt one (omega arith) (λ h. omega arith))
      | inr more ↦
          let a_second : second ≡ 1 = c.continues-second.ensures.yes (omega arith) in
          let first : x ≡ glyph (raw % 32 + 32) = c.glyph_of.ensures ∙ ap glyph (omega arith) in
          let last : y ≡ glyph (raw / 32) = c.glyph_of-2.ensures ∙ ap glyph (omega arith) in
          subst (λ (t : List ℕ). Adds (difference a b ∷ []) start t)
          (sym (pair-two buffer at x y end (omega arith) (omega arith) ∙ ap (λ g. start ++ (g ∷ y ∷ [])) first
          ∙ ap (λ g. start ++ (glyph (raw % 32 + 32) ∷ g ∷ [])) last))
          (Adds-two a b start (omega arith) (omega arith) more (omega arith))
    ]
