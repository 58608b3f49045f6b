use Rattle.std.proofs.Common.{◌≡◌, option_map}
use Rattle.sourcemap_texts.specs.Paths.{path_parts}
use Rattle.sourcemap_texts.proofs.PathsLemmas.{start_of, parts_among}
use Rattle.sourcemap_texts.proofs.paths.find_common_prefix.Given as goal

abbrev pub invariant-loop-text : goal.invariant-loop-text
invariant-loop-text g l = option_map (λ start. path_parts start.now) l.prefix ≡ start_of (parts_among l.yielded)
