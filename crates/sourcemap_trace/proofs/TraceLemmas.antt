-- A list of positions is answered line by line. Maps with the same meaning give the same answers.
use Rattle.std.proofs.Common.{◌≡◌, ◌≢◌, ◌<◌, ◌++◌, ℕ, List, Result, Ok, Option, Some, None, IfSome, codes, length, refl, ap, subst}
use Rattle.std.specs.List.{after_first, before_first}
use Rattle.std.proofs.lemmas.List.{append_assoc}
use Rattle.sourcemap.specs.Encoder.{ReadsBack}
use Rattle.sourcemap.specs.Flat.{AnswersLike}
use Rattle.sourcemap.specs.TreeEncoder.{Restores}
use Rattle.sourcemap.specs.Trees.{MapTree, MeansTheSame, leaf, meaning, regular}
use Rattle.sourcemap.specs.Types.{MapValue, Meaning}
use Rattle.sourcemap.specs.declared.errors.Error.{Error}
use Rattle.sourcemap_trace.specs.Positions.{is_newline, position_of}
use Rattle.sourcemap_trace.specs.Trace.{answer_at, answer_to, meaning_text, trace_from, trace_of}
use Rattle.sourcemap_trace.proofs.PositionsLemmas.{next_line}

-- let `rest` be not empty, let `new` be `old` followed by the answer to the first line of `rest`, and let `later` be
-- the other lines. Then `new` followed by the answers to `later` equals `old` followed by the answers to `rest`
pub first_line_answered : (first : ℕ) (says : ℕ × ℕ → Option Meaning) (rest later old new : List ℕ) (position : Option (ℕ × ℕ))
    → 0 < length rest → position ≡ position_of first (before_first is_newline rest)
    → later ≡ after_first is_newline rest
    → new ≡ old ++ (answer_at first says position ++ codes "\n")
    → new ++ trace_from first says later ≡ old ++ trace_from first says rest
first_line_answered first says rest later old new position some named others pushed =
    let answers : trace_from first says rest
    ≡ (answer_at first says position ++ codes "\n") ++ trace_from first says later =
    rw (next_line rest some, named, others) refl in
    rw (pushed, answers, append_assoc old (answer_at first says position ++ codes "\n") (trace_from first says later))
    refl

-- maps with the same meaning give the same answers
pub traces_alike : (s t : MapTree) (positions : List ℕ) → MeansTheSame s t
    → trace_of (meaning s) positions ≡ trace_of (meaning t) positions
traces_alike s t positions same =
    let one : meaning s ≡ meaning t = λ i. λ p. same p i in
    ap (λ says. trace_of says positions) one

-- if `Stands` allows at most one result, and allows a map that restores `t`, then a map `back` that `Stands` allows
-- gives the same answers as `t`
pub restored_traces_alike : (t back : MapTree) (Stands : Result MapTree Error → Type 0) (positions : List ℕ)
    → ((a b : Result MapTree Error) → Stands a → Stands b → a ≡ b) → ReadsBack Stands (Restores t) → Stands (Ok back)
    → trace_of (meaning back) positions ≡ trace_of (meaning t) positions
restored_traces_alike t back Stands positions once (read, stands, restored) stands' =
    let same : read ≡ back = let both = once (Ok read) (Ok back) stands stands' in cc in
    traces_alike back t positions (subst (λ x. MeansTheSame x t) same restored.0)

-- if `AnswersLike` holds, a flat map gives the same answer as its index map, unless the index map's answer is `none`
flat_at : (t : MapTree) (m : MapValue) (p : Option (ℕ × ℕ)) → AnswersLike t m
    → answer_at 0 (meaning t) p ≢ codes "none"
    → answer_at 0 (meaning (leaf (regular m))) p ≡ answer_at 0 (meaning t) p
flat_at t m None like other = refl
flat_at t m (Some p) like other = by_meaning (meaning t p) (like p) other
  where
    by_meaning : (says : Option Meaning) → IfSome says (λ it. meaning (leaf (regular m)) p ≡ Some it)
        → meaning_text 0 says ≢ codes "none" → meaning_text 0 (meaning (leaf (regular m)) p) ≡ meaning_text 0 says
    by_meaning None like other = absurd (other refl)
    by_meaning (Some it) like other = ap (meaning_text 0) like

pub flat_alike : (t : MapTree) (m : MapValue) (line : List ℕ) → AnswersLike t m
    → answer_to (meaning t) line ≢ codes "none"
    → answer_to (meaning (leaf (regular m))) line ≡ answer_to (meaning t) line
flat_alike t m line like other = flat_at t m (position_of 0 line) like other
