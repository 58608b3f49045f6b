use Rattle.std.proofs.Common.{◌≡◌, ◌∙◌, ◌==◌, ℕ, List, Bool, ap, arith, bytes_eq, codes, lit<, length, sym}
use Rattle.std.specs.List.{list_any, slice_split}
use Rattle.std.proofs.lemmas.Iterator.Splits.{YieldsList-from_str_split}
use Rattle.std.proofs.lemmas.Iterator.Consumers.{YieldsList-turn, YieldsList-end}
use Rattle.std.proofs.lemmas.List.{length_push, take_all}
use Rattle.sourcemap_cli.proofs.ChecksLemmas.{any_at, none_more}
use Rattle.sourcemap_cli.proofs.checks.has_parent.Goals as goal

abbrev parts : List ℕ → List (List ℕ)
parts path = slice_split (λ b. b == 47) path

abbrev is_parent : List ℕ → Bool
is_parent part = bytes_eq part (codes "..")

pub returns-then-eq : goal.returns-then-eq
returns-then-eq c =
    let t = YieldsList-turn (YieldsList-from_str_split 47 c.args.path.now (lit< tt) (cc) (cc) (cc))
    c.loop-part.yielded _ c.loop-part.yielded_by _ _ c.in-Some.part c.in-Some.is c.next.ensures.steps in
    sym (any_at is_parent (parts c.args.path.now) (length c.loop-part.yielded) c.in-Some.part.now t.0 t.1
    (sym c.eq.ensures ∙ c.if-eq.true))

pub loop-part-preserved : goal.loop-part-preserved
loop-part-preserved c =
    let t = YieldsList-turn (YieldsList-from_str_split 47 c.args.path.now (lit< tt) (cc) (cc) (cc))
    c.loop-part.yielded _ c.loop-part.yielded_by _ _ c.in-Some.part c.in-Some.is c.next.ensures.steps in
    let more = length_push c.loop-part.yielded c.in-Some.part in
    rw more
    (none_more is_parent (parts c.args.path.now) (length c.loop-part.yielded) c.in-Some.part.now t.0 t.1
    c.loop-part.invariant (sym c.eq.ensures ∙ c.if-eq.false))

pub returns : goal.returns
returns c =
    let t = YieldsList-end (YieldsList-from_str_split 47 c.args.path.now (lit< tt) (cc) (cc) (cc))
    c.loop-part.yielded _ c.loop-part.yielded_by _ _ c.in-None.is c.next.ensures.steps in
    sym (ap (list_any is_parent) (sym (take_all (length c.loop-part.yielded) (parts c.args.path.now) (omega (arith, t.1))))
    ∙ c.loop-part.invariant)
