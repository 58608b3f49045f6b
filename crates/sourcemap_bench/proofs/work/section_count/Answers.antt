use Rattle.sourcemap.specs.AnyMap.{index_value}
use Rattle.sourcemap_index_model.proofs.MapTreeLemmas.{section_list-from}
use Rattle.sourcemap_bench.proofs.work.section_count.Goals as goal

pub returns : goal.returns
returns c = rw (section_list-from (index_value c.args.index.now).sections) c.get_section_count.ensures
