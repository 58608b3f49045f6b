use Rattle.std.proofs.Common.{◌≡◌, ◌∙◌, Some, ap, subst, sym}
use Rattle.sourcemap_c_handles.specs.Handles.{held_in}
use Rattle.sourcemap_index.specs.Family.{index_value, map_tree}
use Rattle.sourcemap_index.proofs.FamilyLemmas.{index_tree-of}
use Rattle.sourcemap_index_model.specs.MapTree.{index_tree}
use Rattle.sourcemap_c.specs.Bundles.{IsSplit, IsUnsplit}
use Rattle.sourcemap_c.specs.Codes.{Does}
use Rattle.sourcemap_c.specs.Kinds.{tree_in}
use Rattle.sourcemap_c.proofs.bundles.open_split.Goals as goal

pub returns-in-Some-Index-clause-split : goal.returns-in-Some-Index-clause-split
returns-in-Some-Index-clause-split c =
    let same : Some (index_tree (index_value c.in-Some-Index.index)) ≡ tree_in (held_in c.args.index.now) =
    ap Some (sym (index_tree-of c.in-Some-Index.index)) ∙ (sym (ap (λ m. Some (map_tree m)) c.in-Some-Index.field-0-is)
    ∙ c.in-Some-Index.ensures.value) in
    let held = held_in c.put_split.new.split in
    subst (λ tree. Does c.put_split.result (IsSplit tree held) (IsUnsplit tree) (held ≡ held_in c.args.split.now)) same
    c.put_split.ensures
