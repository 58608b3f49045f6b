use Rattle.std.proofs.Common.{ℕ, List, [], ◌∷◌, ◌++◌, take, string_bytes, sym, subst, arith, Ok, ℤ, pos, get_or, ◌+◌}
use Rattle.std.proofs.Common.{w64, FitsSigned, rules}
use Rattle.std.proofs.lemmas.Int.{to_z-of_z}
use Rattle.std.proofs.lemmas.Result.{err_from_is_err_and}
use Rattle.std.proofs.lemmas.List.{take_all, take_more}
use Rattle.sourcemap_vlq.specs.Vlq.{Spells, SpellingAnswers}
use Rattle.sourcemap_errors.proofs.AnswerLemmas.{Gives-only}
use Rattle.sourcemap_vlq.proofs.VlqLemmas.{SpellingAnswers-same, SpellingAnswers-refused, Spells-push, Spells-Reads}
use Rattle.sourcemap_vlq.proofs.vlq.generate_vlq_segment.Goals as goal

pub returns-in_err-push_number-clause-written : goal.returns-in_err-push_number-clause-written
returns-in_err-push_number-clause-written c =
    let p = err_from_is_err_and c.from_residual.result c.from_residual.ensures.1 in
    let n : ℤ = get_or c.args.numbers.now c.loop-number.number-index (pos 0) in
    let fits : FitsSigned w64 n = search rules in
    let refused = simp to_z-of_z at c.in_err-push_number.ensures.refused in
    rw (p.1, p.2) (SpellingAnswers-refused c.args.numbers.now c.loop-number.number-index c.in_err-push_number.field-0.0
    c.loop-number-test.true refused)

pub returns-in_err-push_number-clause-only : goal.returns-in_err-push_number-clause-only
returns-in_err-push_number-clause-only c =
    Gives-only string_bytes (SpellingAnswers c.args.numbers.now)
    (SpellingAnswers-same c.args.numbers.now) c.from_residual.result (returns-in_err-push_number-clause-written c)

pub loop-number-preserved : goal.loop-number-preserved
loop-number-preserved c =
    let n : ℤ = get_or c.args.numbers.now c.loop-number.number-index (pos 0) in
    let fits : FitsSigned w64 n = search rules in
    let more = simp to_z-of_z at c.in_ok-push_number.ensures.written in
    let front : List ℤ = take c.loop-number.number-index c.args.numbers.now in
    let pushed : Spells (front ++ n ∷ []) (string_bytes c.loop-number.text ++ more.0) =
    Spells-push front (string_bytes c.loop-number.text) more.0 n c.loop-number.invariant more.1 in
    let P : List ℤ → Type 0 = λ ns. Spells ns (string_bytes c.loop-number.text ++ more.0) in
    let Q : List ℕ → Type 0 = Spells (take (c.loop-number.number-index + 1) c.args.numbers.now) in
    subst Q (sym more.2)
    (subst P (sym (take_more c.args.numbers.now c.loop-number.number-index (pos 0) c.loop-number-test.true)) pushed)

pub returns-clause-only : goal.returns-clause-only
returns-clause-only c answer due =
    let spells : Spells c.args.numbers.now (string_bytes c.loop-number.text) =
    rw (← take_all c.loop-number.number-index c.args.numbers.now (omega arith)) c.loop-number.invariant in
    SpellingAnswers-same c.args.numbers.now answer (Ok (string_bytes c.loop-number.text)) due spells

pub returns-clause-reads_back : goal.returns-clause-reads_back
returns-clause-reads_back c =
    let spells : Spells c.args.numbers.now (string_bytes c.loop-number.text) =
    rw (← take_all c.loop-number.number-index c.args.numbers.now (omega arith)) c.loop-number.invariant in
    Spells-Reads c.args.numbers.now (string_bytes c.loop-number.text) spells
