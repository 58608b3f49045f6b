use Rattle.std.proofs.lemmas.Map.Text.{btree_map_updates_str}
use Rattle.sourcemap_interning.proofs.text.RefStrText.insert_into.Goals as goal

pub returns : goal.returns
returns c other =
    btree_map_updates_str c.args.self.now.now c.args.tree.now c.insert.new.self _ c.in_ok-insert.ensures.updates other
