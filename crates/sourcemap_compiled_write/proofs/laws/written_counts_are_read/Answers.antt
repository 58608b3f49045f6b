use Rattle.sourcemap_compiled_write.proofs.ReadBack.{contents_counted, names_counted, scopes_counted, sources_counted}
use Rattle.sourcemap_compiled_write.proofs.ReadBack.{tokens_counted}
use Rattle.sourcemap_compiled_write.proofs.laws.written_counts_are_read.Goals as goal

pub returns : goal.returns
returns c = record {
  tokens = tokens_counted;
  sources = sources_counted;
  names = names_counted;
  scopes = scopes_counted;
  contents = contents_counted;
}
