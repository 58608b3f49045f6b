use Rattle.std.proofs.Common.{◌≡◌, Some, ap, sym, ◌∙◌}
use Rattle.sourcemap_bundles.proofs.FolderLemmas.{first_file, no_more_files}
use Rattle.sourcemap_bundles.proofs.unbundle.UnbundleRamBundle.module_from.Goals as goal

pub returns-in_err-id-clause-least : goal.returns-in_err-id-clause-least
returns-in_err-id-clause-least c = λ id from _.
    no_more_files c.args.self.now c.args.from c.range.result c.in_err-id.ensures.steps.0 (c.range.ensures.in_range tt)
    id from

pub returns-clause-found : goal.returns-clause-found
returns-clause-found c =
    let first = first_file c.args.self.now c.args.from c.range.result (c.in_ok-id.id.now, c.in_ok-id.text.now) _
    c.in_ok-id.ensures.steps (c.range.ensures.in_range tt) in
    let text : c.as_slice.result.now ≡ c.in_ok-id.text.now.items = c.as_slice.ensures.value in
    (first.0, first.1 ∙ ap (λ t. Some (record { id = c.in_ok-id.id.now; text = t })) (sym text))

pub returns-clause-least : goal.returns-clause-least
returns-clause-least c =
    (first_file c.args.self.now c.args.from c.range.result (c.in_ok-id.id.now, c.in_ok-id.text.now) _
    c.in_ok-id.ensures.steps (c.range.ensures.in_range tt)).2
