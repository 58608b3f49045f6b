use Rattle.std.proofs.Common.{◌≡◌, ◌∙◌, List, ℕ, Ok, Option, Some, map, refl, option_map, string_bytes, sym, ap, subst}
use Rattle.std.proofs.Common.{Bor}
use Rattle.std.proofs.iter.runs.Made.{run_of_exit}
use Rattle.sourcemap_errors.specs.Answer.{Gives}
use Rattle.sourcemap_texts.specs.Paths.{path_parts, common_prefix, unless_root}
use Rattle.sourcemap_texts.proofs.PathsLemmas.{start_with, parts_among, start_of-taken, concat-first_parts}
use Rattle.sourcemap_texts.proofs.paths.find_common_prefix.Goals as goal
use Rattle.sourcemap_texts.proofs.paths.find_common_prefix.Goals.{in-Some-prefix, in-None-prefix}

pub loop-text-preserved-then-is_absolute : goal.loop-text-preserved-then-is_absolute
loop-text-preserved-then-is_absolute g c =
    let seen : Option (Bor (List ℕ)) → Option (List (List ℕ)) = option_map (λ start. path_parts start.now) in
    let parts = path_parts c.in-Some.text.now in
    let beside : path_parts c.match-prefix.prefix.now ≡ start_with (seen c.loop-text.prefix) parts =
    elim c.match-prefix.branch [
      | in-Some-prefix w ↦ ap (λ start. path_parts start.now) w.prefix-is ∙ w.common_start.ensures
          ∙ sym (ap (λ start. start_with (seen start) parts) w.in-Some-prefix.is)
      | in-None-prefix w ↦ ap (λ start. path_parts start.now) w.prefix-is
          ∙ sym (ap (λ start. start_with (seen start) parts) w.in-None-prefix.is)
    ] in
    ap Some (beside ∙ ap (λ start. start_with start parts) c.loop-text.invariant)
    ∙ sym (start_of-taken c.loop-text.yielded c.in-Some.text (sym c.is_absolute.ensures ∙ c.if-is_absolute.true))

pub returns : goal.returns
returns g c =
    let run = run_of_exit g.I.Iterator.next_gives _ c.loop-text.yielded c.loop-text.text-iterator c.loop-text.yielded_by
    _ c.in-None.ensures.steps in
    let joined = concat-first_parts (parts_among c.loop-text.yielded) c.loop-text.prefix _ c.unwrap_or.result refl
    c.unwrap_or.ensures c.loop-text.invariant in
    let answer = subst (λ prefix. Gives (option_map string_bytes) c.owned_unless_root.result
    (Ok (unless_root prefix))) joined c.owned_unless_root.ensures in
    record {
      runs = (
        run.0,
        run.1 ∙ c.into_iter-text-iterator.ensures.into_iter_gives,
        run.2,
        subst (λ items. Gives (option_map string_bytes) c.owned_unless_root.result
            (Ok (common_prefix (map (λ text. text.now) items)))) (sym run.3.0) answer,
      );
    }
