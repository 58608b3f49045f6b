use Rattle.std.proofs.Common.{◌≡◌, ◌+◌, ◌<◌, ◌++◌, ◌∷◌, [], ℤ, List, ap, arith, eqb-true, inr, length, refl, slice_set, subst, sym, ◌∙◌}
use Rattle.std.proofs.lemmas.List.{length-append, length_push, nil_from_length}
use Rattle.std.proofs.lemmas.Int.{to_z-of_z}
use Rattle.sourcemap_errors.specs.declared.errors.Error.TheVariants.{VlqNoValues}
use Rattle.sourcemap_vlq.specs.Vlq.{Reads}
use Rattle.sourcemap_vlq.proofs.VlqLemmas.{IsGroup-nonempty, IsSound-more}
use Rattle.sourcemap_web.specs.Segments.{AreWritten}
use Rattle.sourcemap_web.proofs.SegmentsLemmas.{none_written, one_left_out, one_written}
use Rattle.sourcemap_web.proofs.segments.sm_parse_segment.Goals as goal
use Rattle.sourcemap_web.proofs.segments.sm_parse_segment.Goals.{else-found-numbers, then-found-numbers}

pub loop-rest-init : goal.loop-rest-init
loop-rest-init c = record {
  read = ([], [], refl, refl, refl, none_written c.args.numbers.now);
  inside = omega arith;
  long = refl;
}

pub loop-rest-preserved : goal.loop-rest-preserved
loop-rest-preserved c =
    let (front, list, reads, split, count, before) = c.loop-rest.invariant.read in
    let begins = c.in-Ok.ensures.number in
    let number = c.in-Ok.number in
    let more = IsSound-more c.args.segment.now c.loop-rest.rest.now c.in-Ok.tail.now front list number reads split begins in
    let some : 0 < length begins.group = IsGroup-nonempty begins.group number begins.is_group in
    let parts : length c.loop-rest.rest.now ≡ length begins.group + length c.in-Ok.tail.now =
    ap length begins.split ∙ length-append begins.group c.in-Ok.tail.now in
    let inside = c.loop-rest.invariant.inside in
    let written : AreWritten (list ++ number ∷ []) c.args.numbers.now c.if-found-numbers.numbers =
    elim c.if-found-numbers.branch [
      | then-found-numbers w ↦
          let set : c.if-found-numbers.numbers ≡ slice_set c.loop-rest.numbers (length list) number =
          grind (arith, to_z-of_z, w.numbers-is, count) in
          subst (λ new. AreWritten (list ++ number ∷ []) c.args.numbers.now new) (sym set)
          (one_written list c.args.numbers.now c.loop-rest.numbers number before c.loop-rest.invariant.long
          (omega (arith, count, w.if-found-numbers.true)))
      | else-found-numbers w ↦
          subst (λ new. AreWritten (list ++ number ∷ []) c.args.numbers.now new) (sym w.numbers-is)
          (one_left_out list c.args.numbers.now c.loop-rest.numbers number before c.loop-rest.invariant.long
          (omega (arith, count, w.if-found-numbers.false)))
    ] in
    record {
      read = (front ++ begins.group, list ++ number ∷ [], more.0, more.1, omega (arith, length_push list number, count), written);
      inside = omega arith;
      long = c.if-found-numbers.auto.numbers ∙ c.loop-rest.invariant.long;
    }

pub returns-then-found-eq0 : goal.returns-then-found-eq0
returns-then-found-eq0 c =
    let (front, list, reads, split, count, before) = c.loop-rest.invariant.read in
    let none : list ≡ [] = nil_from_length list (omega (arith, count, c.if-found-eq0.true)) in
    let left : c.loop-rest.rest.now ≡ [] =
    nil_from_length c.loop-rest.rest.now (eqb-true _ _ (sym c.is_empty.ensures ∙ c.loop-rest-test.false)) in
    let P : List ℤ → Type 0 = Reads front in
    let nothing : front ≡ [] = subst P none reads in
    (list, before, inr (VlqNoValues, (cc (left, nothing, split), none), refl, refl))
