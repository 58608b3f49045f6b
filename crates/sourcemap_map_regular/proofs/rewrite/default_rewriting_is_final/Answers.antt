use Rattle.std.proofs.Common.{map}
use Rattle.sourcemap_map_regular.proofs.RewriteTwice.{rewritten-twice}
use Rattle.sourcemap_map_regular.proofs.rewrite.default_rewriting_is_final.Goals as goal

pub returns-clause-default : goal.returns-clause-default
returns-clause-default c options is = λ i. record {
  with_names = is.names i;
  with_contents = is.contents i;
  prefixes = map (λ prefix. prefix.now) (is.no_prefixes i);
}

pub returns-clause-twice : goal.returns-clause-twice
returns-clause-twice c m few_sources few_names = rewritten-twice m few_sources few_names
