-- Entries and function maps are taken by the same ids.
use Rattle.sourcemap_hermes_scopes.proofs.SourceScopesLemmas.{stored_few, stored_moved, stored_picked}
use Rattle.sourcemap_hermes_scopes.proofs.source_scopes.SourceScopes.select.Goals as goal

pub invariant_of-result : goal.invariant_of-result
invariant_of-result c = record {
  few =
      stored_few c.self.inside.entries.items _ c.self.inside.function_maps.items _ c.args.ids.now
      c.in_ok-entries.ensures.moved c.in_ok-function_maps.ensures.moved
      c.requires;
  of_entries =
      stored_moved c.self.inside.entries.items _ c.self.inside.function_maps.items _ c.args.ids.now
      c.in_ok-entries.ensures.moved c.in_ok-function_maps.ensures.moved
      c.self.invariant.of_entries;
}

pub returns-clause-select : goal.returns-clause-select
returns-clause-select c =
    stored_picked c.self.inside.entries.items _ c.self.inside.function_maps.items _ c.args.ids.now
    c.in_ok-entries.ensures.moved c.in_ok-function_maps.ensures.moved
    c.args.self c.self.view_is
