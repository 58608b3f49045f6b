-- What a map is compiled to.
use Rattle.std.specs.Prelude.{◌≡◌, ℕ, List, [], map, Option, Some, IfSome, Result, Ok, Err, string_bytes, Vec}
use Rattle.std.specs.Str.{IsUtf8}
use Rattle.std.specs.declared.alloc.Global.{Global}
use Rattle.sourcemap_errors.specs.declared.errors.Error.TheVariants.{CannotFlatten, OutOfMemory}
use Rattle.sourcemap_tokens.specs.Tokens.{AreInOrder}
use Rattle.sourcemap_compiled_write.specs.File.{AreTooLarge, AreWritable, file_bytes}
use Rattle.sourcemap_compiled_write.specs.Parts.{Parts}
use Rattle.sourcemap_hermes.specs.Map.{HermesValue}
use Rattle.sourcemap_index_model.specs.Flat.{flat}
use Rattle.sourcemap_index_model.specs.MapTree.{hermes, index, leaf, regular, MapTree}
use Rattle.sourcemap_map_regular.specs.Map.{MapValue, resolved_sources}
use Rattle.sourcemap_cache.specs.Scopes.{AreScopesInOrder, scope_names, scope_numbers}
use Rattle.sourcemap_cache.specs.Texts.{AreTexts}
use Rattle.sourcemap_cache.specs.declared.errors.CompileError.{CompileError}
use Rattle.sourcemap_cache.specs.declared.errors.CompileError.TheVariants.{Map, TooLarge}
use Rattle.sourcemap_cache.specs.declared.parts.WithContents.{WithContents}
use Rattle.sourcemap_cache.specs.declared.parts.WithContents.TheVariants.{No, Yes}

-- the contents that are compiled
abbrev pub chosen : WithContents → List (Option (List ℕ)) → List (Option (List ℕ))
chosen Yes contents = contents
chosen No contents = []

-- the parts that a regular map is compiled to, with these scopes
abbrev pub parts_with : WithContents → MapValue → (scopes : List ℕ) → (scope_names : List (List ℕ)) → Parts
parts_with choice m scopes scope_names = record {
  tokens = m.tokens;
  scopes = scopes;
  sources = map Some (resolved_sources m);
  names = map Some m.names;
  scope_names = map Some scope_names;
  file = m.file;
  contents = chosen choice m.contents;
  debug_id = m.debug_id;
}

-- a regular map has no scopes
abbrev pub regular_parts : WithContents → MapValue → Parts
regular_parts choice m = parts_with choice m [] []

abbrev pub hermes_parts : WithContents → HermesValue → Parts
hermes_parts choice h = parts_with choice h.map (scope_numbers h) (scope_names h)

-- the parts that a Hermes map is compiled to. If the functions of a source are not sorted, the scopes may be any
abbrev pub ArePartsOfHermes : WithContents → HermesValue → Parts → Type 0
ArePartsOfHermes choice h p =
    (scopes : List ℕ) × (names : List (List ℕ)) × (p ≡ parts_with choice h.map scopes names)
    × (AreScopesInOrder h → p ≡ hermes_parts choice h)

-- the parts that a map of any kind is compiled to; of an index map, those of its flat map
abbrev pub ArePartsOf : WithContents → MapTree → Parts → Type 0
ArePartsOf choice (leaf (regular m)) p = p ≡ regular_parts choice m
ArePartsOf choice (leaf (hermes h)) p = ArePartsOfHermes choice h p
ArePartsOf choice (index parts ss) p = (m : MapValue) × (flat (index parts ss) ≡ Ok m) × (p ≡ regular_parts choice m)

-- tokens in order, and texts that are UTF-8. The parts of every map are such
pub record AreSound (p : Parts) : Type 0 where
  pub tokens : AreInOrder p.tokens
  pub sources : AreTexts p.sources
  pub names : AreTexts p.names
  pub scope_names : AreTexts p.scope_names
  pub file : IfSome p.file IsUtf8
  pub contents : AreTexts p.contents

-- these bytes are the file of these parts
pub record IsFileOf (p : Parts) (bytes : List ℕ) : Type 0 where
  pub file : bytes ≡ file_bytes p
  pub writable : AreWritable p
  pub sound : AreSound p

-- what a call returns that writes the file of these parts
abbrev pub FileAnswer : Parts → Result (List ℕ) CompileError → Type 0
FileAnswer p (Ok bytes) = IsFileOf p bytes
FileAnswer p (Err TooLarge) = AreTooLarge p
FileAnswer p (Err (Map OutOfMemory)) = Unit {0}
FileAnswer p (Err (Map _)) = ⊥

-- these bytes are the file of a map
abbrev pub IsCompiled : WithContents → MapTree → List ℕ → Type 0
IsCompiled choice t bytes = (p : Parts) × ArePartsOf choice t p × IsFileOf p bytes

-- what `compile` returns for a map: its file, or why it has none
abbrev pub CompileAnswer : WithContents → MapTree → Result (List ℕ) CompileError → Type 0
CompileAnswer choice t (Ok bytes) = IsCompiled choice t bytes
CompileAnswer choice t (Err TooLarge) = (p : Parts) × ArePartsOf choice t p × AreTooLarge p
CompileAnswer choice t (Err (Map OutOfMemory)) = Unit {0}
CompileAnswer choice t (Err (Map (CannotFlatten reason))) = flat t ≡ Err (string_bytes reason)
CompileAnswer choice t (Err (Map _)) = ⊥

-- a result, with its bytes as a list instead of a buffer
abbrev pub bytes_in : Result (Vec ℕ Global) CompileError → Result (List ℕ) CompileError
bytes_in (Ok bytes) = Ok bytes.items
bytes_in (Err e) = Err e
