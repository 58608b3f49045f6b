use Rattle.std.specs.Prelude.{ℕ, List}
use Rattle.std.specs.Option.{option_copied}
use Rattle.sourcemap_check_suspicious.specs.Reading.{AreTextDoubts, text_map_value}
use Rattle.sourcemap_check_suspicious.proofs.SuspectLemmas.{SuspectsSoFar}
use Rattle.sourcemap_check_suspicious.proofs.suspects.suspects_in.Given as goal

abbrev pub invariant-loop-suspicion : goal.invariant-loop-suspicion
invariant-loop-suspicion l = (mappings ranges : List ℕ) → AreTextDoubts l.most mappings ranges l.map.doubts
    → SuspectsSoFar l.most (text_map_value l.map.map mappings ranges) (option_copied l.generated)
    (option_copied l.name) (option_copied l.files) l.suspicion-index l.found
