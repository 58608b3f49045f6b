use Rattle.std.proofs.Common.{◌≡◌, ◌+◌, ◌<◌, if◌then◌else◌, ℕ, Bool, length, map, string_bytes, slice_get, Some, ap}
use Rattle.std.proofs.Common.{sym, ◌∙◌, arith}
use Rattle.sourcemap_tokens.specs.Items.{item_at}
use Rattle.sourcemap_source_files.proofs.LoadingLemmas.{item_at-read, named_by, IsLoaded-set, Fills-load}
use Rattle.sourcemap_source_files.proofs.loading.load_all.Goals as goal
use Rattle.sourcemap_source_files.proofs.loading.load_all.Goals.{then-branch, else-branch}

pub returns-in_err-load-clause-fills : goal.returns-in_err-load-clause-fills
returns-in_err-load-clause-fills g c =
    let within : c.loop-id.id < length c.loop-id.contents.items =
    omega (arith, c.loop-id.invariant.loaded.many, c.args.contents.now.ok.0) in
    let held : item_at c.loop-id.contents.items c.loop-id.id ≡ c.index_mut.result.now =
    item_at-read c.loop-id.contents.items c.loop-id.id c.index_mut.result.now within c.index_mut.ensures.value in
    let named : slice_get (map string_bytes c.args.sources.now) c.loop-id.id ≡ Some c.as_str-source.result.now =
    named_by string_bytes c.args.sources.now c.loop-id.id c.index-sources-id.result c.as_str-source.result.now
    (omega arith) c.index-sources-id.is c.as_str-source.ensures.value in
    λ folder agree. Fills-load c.args.contents.now.items c.loop-id.contents.items c.loop-id.id c.loop-id.loaded
    c.index_mut.result.now c.load.new.contents c.loop-id.invariant.loaded within held
    c.args.base.now folder (map string_bytes c.args.sources.now) c.as_str-source.result.now
    (c.loop-id.invariant.fills folder agree) agree named c.load.ensures.kept c.load.ensures.from_file

pub loop-id-preserved : goal.loop-id-preserved
loop-id-preserved g c =
    let within : c.loop-id.id < length c.loop-id.contents.items =
    omega (arith, c.loop-id.invariant.loaded.many, c.args.contents.now.ok.0) in
    let held : item_at c.loop-id.contents.items c.loop-id.id ≡ c.index_mut.result.now =
    item_at-read c.loop-id.contents.items c.loop-id.id c.index_mut.result.now within c.index_mut.ensures.value in
    let named : slice_get (map string_bytes c.args.sources.now) c.loop-id.id ≡ Some c.as_str-source.result.now =
    named_by string_bytes c.args.sources.now c.loop-id.id c.index-sources-id.result c.as_str-source.result.now
    (omega arith) c.index-sources-id.is c.as_str-source.ensures.value in
    let counted : Bool → ℕ = λ b. if b then c.loop-id.loaded + 1 else c.loop-id.loaded in
    let more : c.if-branch.loaded ≡ counted c.in_ok-load.field-0 =
    elim c.if-branch.branch [
      | then-branch w ↦ w.loaded-is ∙ ap counted (sym w.if-branch.true)
      | else-branch w ↦ w.loaded-is ∙ ap counted (sym w.if-branch.false)
    ] in
    record {
      fills = λ folder agree. Fills-load c.args.contents.now.items c.loop-id.contents.items c.loop-id.id
          c.loop-id.loaded c.index_mut.result.now c.load.new.contents c.loop-id.invariant.loaded within held
          c.args.base.now folder (map string_bytes c.args.sources.now) c.as_str-source.result.now
          (c.loop-id.invariant.fills folder agree) agree named c.in_ok-load.ensures.kept c.in_ok-load.ensures.from_file;
      loaded = IsLoaded-set c.args.contents.now.items c.loop-id.contents.items c.loop-id.id c.loop-id.loaded
          c.index_mut.result.now c.load.new.contents c.loop-id.invariant.loaded within held c.in_ok-load.field-0
          c.if-branch.loaded c.in_ok-load.ensures.loaded more;
    }
