-- What is copied so far.
use Rattle.std.proofs.Common.{◌≡◌, map, take}
use Rattle.sourcemap_records.specs.Jsontypes.{scopes_view}
use Rattle.sourcemap_hermes_scopes.specs.ScopeLists.{list_in}
use Rattle.sourcemap_hermes_scopes.proofs.scope_lists.copy_list.Given as goal

abbrev pub invariant-loop-scopes : goal.invariant-loop-scopes
invariant-loop-scopes l = list_in l.copies ≡ map scopes_view (take l.scopes-index l.list)
