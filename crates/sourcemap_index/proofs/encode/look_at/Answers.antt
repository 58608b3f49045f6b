use Rattle.std.proofs.Common.{◌∙◌, sym, ap, subst, arith, IfSome, None, [], ◌∷◌, ◌++◌, take}
use Rattle.std.specs.List.{AllByRecursion}
use Rattle.std.proofs.lemmas.List.{take_more, take_all}
use Rattle.sourcemap_tokens.proofs.AllLemmas.{All-append}
use Rattle.sourcemap_records.specs.Jsontypes.{FitsU32}
use Rattle.sourcemap_index.proofs.encode.look_at.Goals as goal

pub loop-number-preserved : goal.loop-number-preserved
loop-number-preserved c =
    let xs = c.args.numbers.now in
    let i = c.loop-number.number-index in
    subst (AllByRecursion (λ n. IfSome n FitsU32))
    (sym (take_more xs i None c.loop-number-test.true
    ∙ ap (λ n. take i xs ++ n ∷ []) (sym c.check_number.ensures.value)))
    (All-append (λ n. IfSome n FitsU32) (take i xs) (c.check_number.result ∷ []) c.loop-number.invariant
    (c.check_number.ensures.small, tt))

pub returns : goal.returns
returns c =
    subst (AllByRecursion (λ n. IfSome n FitsU32))
    (take_all c.loop-number.number-index c.args.numbers.now (omega (arith, c.loop-number-test.false)))
    c.loop-number.invariant
