-- The equality test on stored entries gives the same result as `same_entry` on the values of these entries.
use Rattle.std.proofs.Common.{◌∙◌}
use Rattle.sourcemap_hermes_scopes.proofs.ScopeListsLemmas.{entries_alike, stored_same}
use Rattle.sourcemap_hermes_scopes.proofs.scope_lists.same_scope_lists.Goals as goal

pub returns : goal.returns
unfolding stored_same
returns c = c.eq.ensures ∙ entries_alike c.args.a.now.items c.args.b.now.items
