use Rattle.std.proofs.Common.{◌≡◌, ◌+◌, ◌∙◌, cond, sym, subst, take, get_or}
use Rattle.sourcemap_texts.specs.Paths.{path_parts, common_parts, is_separator}
use Rattle.sourcemap_texts.proofs.PathsLemmas.{shared, IsWalk, IsWalk-start, IsWalk-step, IsWalk-cut, IsWalk-kept}
use Rattle.sourcemap_texts.proofs.PathsLemmas.{path_parts-shared, IsCut, IsCut-shared}
use Rattle.sourcemap_texts.proofs.paths.common_parts_length.Goals as goal
use Rattle.sourcemap_texts.proofs.paths.common_parts_length.Goals.{then-is_separator, else-is_separator}

pub loop-kept-init : goal.loop-kept-init
loop-kept-init c = IsWalk-start c.args.a.now c.args.b.now

pub loop-kept-preserved : goal.loop-kept-preserved
loop-kept-preserved c =
    let same = c.loop-kept-test.ensures.same in
    let kept : cond (is_separator (get_or c.args.a.now c.loop-kept.at 0)) c.loop-kept.at c.loop-kept.kept
    ≡ c.if-is_separator.kept =
    elim c.if-is_separator.branch [
      | then-is_separator w ↦ (let e = sym c.is_separator.ensures ∙ w.if-is_separator.true in rw e (sym w.kept-is))
      | else-is_separator w ↦ (let e = sym c.is_separator.ensures ∙ w.if-is_separator.false in rw e (sym w.kept-is))
    ] in
    subst (IsWalk c.args.a.now c.args.b.now (c.loop-kept.at + 1)) kept
    (IsWalk-step c.loop-kept.invariant same.0 same.1 same.2)

pub returns-then-ends_part-clause-parts : goal.returns-then-ends_part-clause-parts
returns-then-ends_part-clause-parts c =
    let is : shared c.args.a.now c.args.b.now ≡ c.loop-kept.at = IsWalk-cut c.loop-kept.invariant
    c.loop-kept-test.ensures.differ _ _ c.ends_part.ensures c.ends_part-2.ensures c.if-ends_part.true in
    subst (λ n. path_parts (take n c.args.a.now) ≡ common_parts (path_parts c.args.a.now) (path_parts c.args.b.now)) is
    (path_parts-shared c.args.a.now c.args.b.now)

pub returns-else-ends_part-clause-parts : goal.returns-else-ends_part-clause-parts
returns-else-ends_part-clause-parts c =
    let is : shared c.args.a.now c.args.b.now ≡ c.loop-kept.kept = IsWalk-kept c.loop-kept.invariant
    c.loop-kept-test.ensures.differ _ _ c.ends_part.ensures c.ends_part-2.ensures c.if-ends_part.false in
    subst (λ n. path_parts (take n c.args.a.now) ≡ common_parts (path_parts c.args.a.now) (path_parts c.args.b.now)) is
    (path_parts-shared c.args.a.now c.args.b.now)

pub returns-else-ends_part-clause-within : goal.returns-else-ends_part-clause-within
returns-else-ends_part-clause-within c =
    let is : shared c.args.a.now c.args.b.now ≡ c.loop-kept.kept = IsWalk-kept c.loop-kept.invariant
    c.loop-kept-test.ensures.differ _ _ c.ends_part.ensures c.ends_part-2.ensures c.if-ends_part.false in
    (subst (IsCut c.args.a.now) is (IsCut-shared c.args.a.now c.args.b.now)).within

pub returns-else-ends_part-clause-cut : goal.returns-else-ends_part-clause-cut
returns-else-ends_part-clause-cut c =
    let is : shared c.args.a.now c.args.b.now ≡ c.loop-kept.kept = IsWalk-kept c.loop-kept.invariant
    c.loop-kept-test.ensures.differ _ _ c.ends_part.ensures c.ends_part-2.ensures c.if-ends_part.false in
    (subst (IsCut c.args.a.now) is (IsCut-shared c.args.a.now c.args.b.now)).before
