-- `trace_first_module` returns the text that the map of the first module gives for line `line` and column `col`, or an
-- error. Modules with a null offset in `x_facebook_offsets` are skipped. If no module is left, the text is empty. Let
-- `first` be the offset of the first module: the line of the bundle on which the module begins. Let `p` be line `first
-- + line` and column `col`. Let `p` be in the module. Let a lookup of `p` in the flattened map find a token whose
-- generated position is in the module too. Then the flattened map gives the same text for `p`.
use Rattle.std.proofs.lemmas.Result.{err_from_is_err_and}
use Rattle.std.proofs.Common.{◌≡◌, ◌∙◌, ◌+◌, ◌-◌, sym, ap, subst, Ok, IfOk, string_bytes, arith}
use Rattle.sourcemap.specs.Answer.{Gives}
use Rattle.sourcemap.specs.AnyMap.{index_value}
use Rattle.sourcemap.specs.BundleModules.{modules_of}
use Rattle.sourcemap.specs.Split.{HasFewTexts, ModuleParts, file_name, parts_at, parts_on, parts_value}
use Rattle.sourcemap.specs.SplitIterators.{split_value}
use Rattle.sourcemap.specs.Types.{meaning}
use Rattle.sourcemap_uses.specs.Splitting.{printed}
use Rattle.sourcemap_uses.proofs.SplittingLemmas.{first_due, given_map, split_refused, none_traced, item_refused}
use Rattle.sourcemap_uses.proofs.SplittingLemmas.{text_traced}
use Rattle.sourcemap_uses.proofs.splitting.trace_first_module.Goals as goal

pub returns-in_err-modules-clause-answer : goal.returns-in_err-modules-clause-answer
returns-in_err-modules-clause-answer c =
    let p = err_from_is_err_and c.from_residual.result c.from_residual.ensures.1 in
    rw (p.1, p.2) (split_refused (index_value c.args.map.now) (modules_of c.args.bundle.now) (
      c.args.line,
      c.args.col,
    ) _ c.in_err-modules.ensures.answer)

pub returns-in-None-clause-answer : goal.returns-in-None-clause-answer
returns-in-None-clause-answer c =
    rw c.new.ensures.bytes
    (none_traced (index_value c.args.map.now) (modules_of c.args.bundle.now) (c.args.line, c.args.col)
    (split_value c.in_ok-modules.modules) c.in_ok-modules.ensures.answer c.in-None.ensures.steps.0)

pub returns-in-Some-Err-clause-answer : goal.returns-in-Some-Err-clause-answer
returns-in-Some-Err-clause-answer c =
    let steps = c.in-Some-Err.ensures.steps in
    let gives = subst (λ r. Gives parts_value r steps.0) c.in-Some-Err.field-0-is steps.2 in
    item_refused (index_value c.args.map.now) (modules_of c.args.bundle.now) (
      c.args.line,
      c.args.col,
    ) (split_value c.in_ok-modules.modules)
    c.in_ok-modules.ensures.answer steps.0 _ c.in-Some-Err.error steps.1 gives

pub returns-clause-answer : goal.returns-clause-answer
returns-clause-answer c =
    let steps = c.in-Some-Ok.ensures.steps in
    let parts : ModuleParts = parts_value (c.in-Some-Ok.field-0-0-0, c.in-Some-Ok.field-0-0-1, c.in-Some-Ok.map) in
    let gives : steps.0 ≡ Ok parts = subst (λ r. Gives parts_value r steps.0) c.in-Some-Ok.field-0-is steps.2 in
    text_traced (index_value c.args.map.now) (modules_of c.args.bundle.now) (
      c.args.line,
      c.args.col,
    ) (split_value c.in_ok-modules.modules)
    c.in_ok-modules.ensures.answer steps.0 _ parts c.text_at.result steps.1 gives c.text_at.ensures.text
    c.text_at.ensures.memory

pub returns-in-None-clause-flat : goal.returns-in-None-clause-flat
returns-in-None-clause-flat c = λ flat found first is_first on_lines.
    let due = first_due (index_value c.args.map.now) (modules_of c.args.bundle.now)
    (split_value c.in_ok-modules.modules) flat found first is_first c.in_ok-modules.ensures.answer in
    let none = sym c.in-None.ensures.steps.0 ∙ due.1.1 in
    cc

pub returns-clause-flat : goal.returns-clause-flat
returns-clause-flat c = λ flat found first is_first on_lines.
    let line = c.args.line in
    let col = c.args.col in
    let due = first_due (index_value c.args.map.now) (modules_of c.args.bundle.now)
    (split_value c.in_ok-modules.modules) flat found first is_first c.in_ok-modules.ensures.answer in
    let steps = c.in-Some-Ok.ensures.steps in
    let parts : ModuleParts = parts_value (c.in-Some-Ok.field-0-0-0, c.in-Some-Ok.field-0-0-1, c.in-Some-Ok.map) in
    let gives : steps.0 ≡ Ok parts = subst (λ r. Gives parts_value r steps.0) c.in-Some-Ok.field-0-is steps.2 in
    let same_due : parts_at flat first found ≡ steps.0 = (let both = sym due.1.1 ∙ steps.1 in cc) in
    let map_is : (parts_on flat first found).map ≡ c.in-Some-Ok.map =
    given_map flat first found parts (same_due ∙ gives) in
    let few = subst HasFewTexts due.0 c.in_ok-modules.ensures.few in
    let law = c.module_means_what_flat_means.ensures flat (file_name found.id) found.text first (
      first + line,
      col,
    ) on_lines.token few.sources few.names
    on_lines.inside on_lines.closest on_lines.within in
    let back : first + line - first ≡ line = omega arith in
    let same : meaning c.in-Some-Ok.map (line, col) ≡ meaning flat (first + line, col) =
    ap (λ m. meaning m (line, col)) (sym map_is)
    ∙ ap (λ l. meaning (parts_on flat first found).map (l, col)) (sym back) ∙ law in
    subst (λ says. IfOk c.text_at.result (λ text. string_bytes text ≡ printed says)) same c.text_at.ensures.text
