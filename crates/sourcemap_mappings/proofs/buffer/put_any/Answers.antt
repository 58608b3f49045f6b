use Rattle.std.proofs.Common.{◌≡◌, ℕ, ◌+◌, ◌%◌, ◌/◌, ◌<◌, ◌≤◌, List, [], ◌∷◌, ◌++◌, length, take, ◌∙◌, ap, subst, sym}
use Rattle.std.proofs.Common.{arith, append_assoc, slice_set}
use Rattle.std.specs.List.{AllByRecursion}
use Rattle.std.proofs.lemmas.List.{take_more_set, length_push}
use Rattle.sourcemap_vlq.specs.Vlq.{HasContinuation, glyph, raw_of}
use Rattle.sourcemap_mappings.specs.Write.{difference}
use Rattle.sourcemap_mappings.specs.Buffer.{Adds, raw_difference}
use Rattle.sourcemap_vlq.proofs.VlqLemmas.{HasContinuation-push, HasContinuation-glyph, raw_of-split}
use Rattle.sourcemap_mappings.proofs.BufferLemmas.{Adds-last, few_before}
use Rattle.sourcemap_mappings.proofs.buffer.put_any.Goals as goal

-- a byte is appended to the digits so far
put : (buffer start part : List ℕ) (end byte digit : ℕ) → end < length buffer → byte ≡ digit
    → take end buffer ≡ start ++ part
    → take (end + 1) (slice_set buffer end byte) ≡ start ++ (part ++ digit ∷ [])
put buffer start part end byte digit h is before =
    take_more_set buffer end byte h ∙ ap (λ xs. xs ++ byte ∷ []) before ∙ ap (λ b. (start ++ part) ++ b ∷ []) is
    ∙ append_assoc start part (digit ∷ [])

pub loop-left-preserved : goal.loop-left-preserved
loop-left-preserved c =
    let part : List ℕ = c.loop-left.invariant.0 in
    let left : ℕ = c.loop-left.left in
    let digit : ℕ = glyph (left % 32 + 32) in
    let written = put c.loop-left.buffer (take c.args.at c.args.buffer.now) part c.loop-left.end c.glyph_of.result digit
    (omega arith) c.glyph_of.ensures c.loop-left.invariant.1 in
    let all : AllByRecursion HasContinuation (part ++ digit ∷ []) =
    HasContinuation-push part digit c.loop-left.invariant.2 (HasContinuation-glyph (left % 32) (omega arith)) in
    let longer : length (part ++ digit ∷ []) ≡ length part + 1 = length_push part digit in
    let total = raw_of-split part (raw_difference c.args.number c.args.against) left c.loop-left.invariant.3 in
    let few : length (part ++ digit ∷ []) ≤ 6 =
    few_before (raw_of (part ++ digit ∷ [])) (length (part ++ digit ∷ [])) (left / 32)
    (raw_difference c.args.number c.args.against) (omega arith) total (omega arith) in
    (part ++ digit ∷ [], written, all, total, (λ _. omega arith), omega arith, few)

pub returns-clause-text : goal.returns-clause-text
returns-clause-text c =
    let part : List ℕ = c.loop-left.invariant.0 in
    let left : ℕ = c.loop-left.left in
    let start = take c.args.at c.args.buffer.now in
    let written = put c.loop-left.buffer start part c.loop-left.end c.glyph_of-2.result (glyph left)
    (omega arith) c.glyph_of-2.ensures c.loop-left.invariant.1 in
    subst (λ (t : List ℕ). Adds (difference c.args.number c.args.against ∷ []) start t) (sym written)
    (Adds-last c.args.number c.args.against start part left (omega arith) (omega arith) c.loop-left.invariant.2
    (omega arith) c.loop-left.invariant.3 c.loop-left.invariant.4)
