use Rattle.std.proofs.Common.{◌≡◌, ◌<◌, ◌∷◌, ◌∙◌, length, map, ap, sym, subst, refl, Result, Ok, Err, arith, rules}
use Rattle.sourcemap_errors.specs.Answer.{Gives}
use Rattle.sourcemap_errors.specs.declared.errors.Error.{Error}
use Rattle.sourcemap_errors.proofs.AnswerLemmas.{UnlessMemory-from}
use Rattle.sourcemap_bundles.specs.Stored.{module_value}
use Rattle.sourcemap_bundle_split.specs.Iterators.{dues_left, modules_and_lines_left, module_and_line}
use Rattle.sourcemap_bundle_split.specs.Split.{ModuleParts, due_of, parts_at, parts_value}
use Rattle.sourcemap_bundle_split.proofs.split.SplitRamBundleModuleIterIterator.next.Goals as goal

pub returns-in-Ok-clause-goes : goal.returns-in-Ok-clause-goes
returns-in-Ok-clause-goes c =
    let old = c.args.self.now in
    let mid = c.next_with_line.new.self in
    let first = c.in_ok-found.ensures.next ∙ ap (λ r. module_and_line r ∷ modules_and_lines_left mid) c.in-Ok.is in
    let steps = ap (map (due_of old.splitter.maps)) first ∙ ap (λ s. due_of old.splitter.maps (Ok (
      module_value c.in-Ok.found,
      c.in-Ok.line,
    )) ∷ map (due_of s.maps) (modules_and_lines_left mid)) (sym c.next_with_line.ensures.splitter) in
    let new = record mid { splitter = c.parts_at.new.self } in
    let left : dues_left new ≡ dues_left mid =
    ap (λ s. dues_left (record mid { splitter = s })) c.parts_at.ensures.kept in
    let shorter : length (dues_left new) < length (dues_left old) =
    omega (arith, ap length steps, ap length left) in
    search rules

pub returns-in-Ok-clause-steps : goal.returns-in-Ok-clause-steps
returns-in-Ok-clause-steps c =
    let old = c.args.self.now in
    let mid = c.next_with_line.new.self in
    let found = module_value c.in-Ok.found in
    let due : Result ModuleParts Error = parts_at old.splitter.maps c.in-Ok.line found in
    let first = c.in_ok-found.ensures.next ∙ ap (λ r. module_and_line r ∷ modules_and_lines_left mid) c.in-Ok.is in
    let steps = ap (map (due_of old.splitter.maps)) first ∙ ap (λ s. due
    ∷ map (due_of s.maps) (modules_and_lines_left mid)) (sym c.next_with_line.ensures.splitter) in
    let left : dues_left (record mid { splitter = c.parts_at.new.self }) ≡ dues_left mid =
    ap (λ s. dues_left (record mid { splitter = s })) c.parts_at.ensures.kept in (
      due,
      steps ∙ ap (λ dues. due ∷ dues) (sym left),
      subst (λ s. Gives parts_value c.parts_at.result
          (parts_at s.maps c.in-Ok.line found)) c.next_with_line.ensures.splitter c.parts_at.ensures.parts,
    )

pub returns-in-Err-clause-steps : goal.returns-in-Err-clause-steps
returns-in-Err-clause-steps c =
    let old = c.args.self.now in
    let new = c.next_with_line.new.self in
    let e = c.in-Err.e in
    let first = c.in_ok-found.ensures.next ∙ ap (λ r. module_and_line r ∷ modules_and_lines_left new) c.in-Err.is in (
      Err e,
      ap (map (due_of old.splitter.maps)) first
          ∙ ap (λ s. Err e ∷ map (due_of s.maps) (modules_and_lines_left new)) (sym c.next_with_line.ensures.splitter),
      UnlessMemory-from e refl,
    )
