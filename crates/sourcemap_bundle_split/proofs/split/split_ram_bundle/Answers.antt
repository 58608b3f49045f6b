use Rattle.std.proofs.Common.{◌≡◌, ap, sym, subst, length, map, filter_map, Ok, arith}
use Rattle.std.proofs.lemmas.List.{length-map}
use Rattle.sourcemap_errors.proofs.AnswerLemmas.{UnlessMemory-weaker}
use Rattle.sourcemap_bundles.specs.Iterators.{modules_left}
use Rattle.sourcemap_bundles.specs.Modules.{modules_of}
use Rattle.sourcemap_index.specs.Family.{index_value}
use Rattle.sourcemap_bundle_split.specs.Iterators.{splitter_value}
use Rattle.sourcemap_bundle_split.specs.Split.{Splits, due_of, with_first_line}
use Rattle.sourcemap_bundle_split.proofs.SplitLemmas.{length-filter_map, splits-Err, splits-Ok}
use Rattle.sourcemap_bundle_split.proofs.split.split_ram_bundle.Goals as goal

pub returns-in-Ok-clause-answer : goal.returns-in-Ok-clause-answer
returns-in-Ok-clause-answer c =
    let i = index_value c.args.map.now in
    let modules = modules_of c.args.bundle.now in
    let value = splitter_value c.in-Ok.splitter in
    subst (λ left. Splits i modules (Ok (record value { modules = left }))) (sym c.iter_modules.ensures.left)
    (splits-Ok i modules value c.in-Ok.ensures.answer)

pub returns-in-Ok-clause-bound : goal.returns-in-Ok-clause-bound
returns-in-Ok-clause-bound c =
    let left = modules_left c.iter_modules.result in
    let offsets = c.in-Ok.splitter.offsets.items in
    omega (
      arith,
      length-map (filter_map (with_first_line offsets) left) (due_of c.in-Ok.splitter.maps),
      length-filter_map (with_first_line offsets) left,
      c.iter_modules.ensures.bound,
    )

pub returns-in-Err-clause-answer : goal.returns-in-Err-clause-answer
returns-in-Err-clause-answer c =
    let e = c.in-Err.error in
    let more = splits-Err (index_value c.args.map.now) (modules_of c.args.bundle.now) e in
    UnlessMemory-weaker e more c.in-Err.ensures.answer
