-- The text that each error displays.
use Rattle.std.specs.Prelude.{ℕ, List, codes}
use Rattle.sourcemap_compiled_write.specs.declared.errors.WriteError.{WriteError}
use Rattle.sourcemap_compiled_write.specs.declared.errors.WriteError.TheVariants.{OutOfMemory, TooLarge}

abbrev pub error_text : WriteError → List ℕ
error_text TooLarge = codes "a compiled map of this map has 4 GiB or more"
error_text OutOfMemory = codes "out of memory"
