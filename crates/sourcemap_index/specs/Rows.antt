-- An index map with its whole list of sections replaced.
use Rattle.std.specs.Prelude.{List}
use Rattle.sourcemap_index_model.specs.MapTree.{MapSection, IndexValue}

abbrev pub with_sections : IndexValue → List MapSection → IndexValue
with_sections i ss = record i { sections = ss }
