use Rattle.std.proofs.Common.{◌≡◌, map, take}
use Rattle.sourcemap_c_check.specs.Files.{file_texts}
use Rattle.sourcemap_c_check.proofs.files.file_texts.Given as goal

abbrev pub invariant-loop-file : goal.invariant-loop-file
invariant-loop-file l = l.texts.items ≡ file_texts (map (λ file. file.now) (take l.file-index l.files))
