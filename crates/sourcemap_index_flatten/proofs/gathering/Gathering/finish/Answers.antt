use Rattle.std.proofs.Common.{sym, ap, ◌∙◌}
use Rattle.sourcemap_tokens.specs.Tokens.{in_order}
use Rattle.sourcemap_index_flatten.specs.Gathering.{all_name_entries, all_source_entries}
use Rattle.sourcemap_index_flatten.specs.Table.{entry_values}
use Rattle.sourcemap_index_flatten.proofs.FlatLemmas.{same_Ok}
use Rattle.sourcemap_index_flatten.proofs.TableLemmas.{table-few}
use Rattle.sourcemap_index_flatten.proofs.gathering.Gathering.finish.Goals as goal

pub returns-clause-ok : goal.returns-clause-ok
returns-clause-ok c = λ pieces g. record {
  few = record {
    sources = rw c.into_entries.ensures (table-few (all_source_entries pieces) c.args.self.sources g.sources);
    names = rw c.into_entries-2.ensures (table-few (all_name_entries pieces) c.args.self.names g.names);
  };
  tokens = sym (same_Ok _ _ c.in_ok-tokens.ensures) ∙ ap in_order g.tokens;
  ignored = g.ignored;
  sources = ap (λ v. entry_values v.items) c.into_entries.ensures ∙ g.sources.kept;
  names = ap (λ v. entry_values v.items) c.into_entries-2.ensures ∙ g.names.kept;
}
