use Rattle.std.proofs.Common.{◌≡◌, cond, Some, subst, ◌∙◌, string_bytes}
use Rattle.std.specs.Str.{bytes_eq}
use Rattle.std.proofs.lemmas.Map.Text.{btree_map_updates_text}
use Rattle.sourcemap_interning.specs.Texts.{number_in_tree}
use Rattle.sourcemap_interning.proofs.text.StringText.insert_into.Goals as goal

pub returns : goal.returns
returns c other =
    subst (λ bytes. number_in_tree string_bytes c.insert.new.self other
    ≡ cond (bytes_eq bytes other) (Some c.args.number) (number_in_tree string_bytes c.args.tree.now other))
    (c.in_ok-key.ensures.ok ∙ c.as_str.ensures.value)
    (btree_map_updates_text _ c.args.tree.now c.insert.new.self _ c.in_ok-insert.ensures.updates other)
