-- The text that each error displays.
use Rattle.std.specs.Prelude.{ℕ, List, ◌++◌, codes}
use Rattle.std.specs.Fmt.{decimal}
use Rattle.sourcemap_compiled.specs.declared.errors.CompiledMapError.{CompiledMapError}
use Rattle.sourcemap_compiled.specs.declared.errors.CompiledMapError.TheVariants.{InvalidUtf8, OutOfOrder, TextOutside}
use Rattle.sourcemap_compiled.specs.declared.errors.CompiledMapError.TheVariants.{Truncated, WrongExtent, WrongMagic}
use Rattle.sourcemap_compiled.specs.declared.errors.CompiledMapError.TheVariants.{WrongVersion}

abbrev pub error_text : CompiledMapError → List ℕ
error_text Truncated = codes "the compiled map is truncated"
error_text WrongMagic = codes "not a compiled map"
error_text (WrongVersion version) = codes "unknown version of a compiled map: " ++ decimal version
error_text WrongExtent = codes "a table of the compiled map has a wrong extent"
error_text (OutOfOrder index) = codes "the compiled map is out of order at token " ++ decimal index
error_text TextOutside = codes "a text passes the end of the compiled map"
error_text InvalidUtf8 = codes "a text of the compiled map is not UTF-8"
