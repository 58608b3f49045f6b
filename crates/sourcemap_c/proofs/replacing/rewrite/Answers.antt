use Rattle.std.proofs.Common.{◌≡◌, ◌∙◌, ap, subst}
use Rattle.std.specs.List.{All}
use Rattle.std.specs.Str.{IsUtf8}
use Rattle.sourcemap_c_handles.specs.Handles.{held_in}
use Rattle.sourcemap_c.specs.Changing.{FailsAs, HoldsNew, IsRewritten}
use Rattle.sourcemap_c.specs.Kinds.{tree_in}
use Rattle.sourcemap_c.specs.Replacing.{removal}
use Rattle.sourcemap_c.proofs.ReplacingLemmas.{bytes_of, of_texts}
use Rattle.sourcemap_c.proofs.replacing.rewrite.Goals as goal

pub returns-in-Ok : goal.returns-in-Ok
returns-in-Ok c =
    of_texts c.rewrite_by.result (bytes_of c.as_slice.result.now) (bytes_of c.args.prefixes.now)
    (λ t. HoldsNew (IsRewritten (removal c.args.with_names c.args.with_contents t)) (held_in c.args.map.now) (held_in c.rewrite_by.new.map))
    (λ t. FailsAs (IsRewritten (removal c.args.with_names c.args.with_contents t)) (tree_in (held_in c.args.map.now)))
    (held_in c.rewrite_by.new.map ≡ held_in c.args.map.now) (ap bytes_of c.as_slice.ensures.value ∙ c.in-Ok.ensures.0)
    (subst (All IsUtf8) c.in-Ok.ensures.0 c.in-Ok.ensures.1) c.rewrite_by.ensures
