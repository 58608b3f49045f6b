-- What is copied so far.
use Rattle.std.proofs.Common.{◌≡◌, map, take}
use Rattle.sourcemap_hermes_scopes.specs.ScopeLists.{entry_in, entries_in}
use Rattle.sourcemap_hermes_scopes.proofs.scope_lists.copy_scope_lists.Given as goal

abbrev pub invariant-loop-entry : goal.invariant-loop-entry
invariant-loop-entry l = entries_in l.copies ≡ map entry_in (take l.entry-index l.entries)
