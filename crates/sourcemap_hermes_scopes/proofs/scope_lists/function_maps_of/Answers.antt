-- Appending the function map of the next entry to `maps` keeps the loop invariant.
use Rattle.std.proofs.Common.{subst}
use Rattle.sourcemap_hermes_scopes.specs.ScopeLists.{EntryStandsFor, entry_in}
use Rattle.sourcemap_hermes_scopes.proofs.ScopeListsLemmas.{AllZip-more}
use Rattle.sourcemap_hermes_scopes.proofs.scope_lists.function_maps_of.Goals as goal

pub loop-entry-preserved : goal.loop-entry-preserved
loop-entry-preserved c =
    AllZip-more EntryStandsFor entry_in c.args.entries.now c.loop-entry.entry-index c.entry-item.result _ _ _
    c.loop-entry-test.true c.loop-entry.invariant
    (subst (λ entry. EntryStandsFor (entry_in entry) c.in_ok-function_map_of.field-0) c.entry-item.is
    c.in_ok-function_map_of.ensures.map) c.in_ok-push.ensures.items
