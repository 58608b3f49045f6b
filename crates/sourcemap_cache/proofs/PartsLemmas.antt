-- The file that is written is that of the parts of the map.
use Rattle.std.proofs.Common.{◌≡◌, ap, subst, ◌∙◌, ℕ, List}
use Rattle.sourcemap_compiled_write.specs.File.{AreWritable, file_bytes}
use Rattle.sourcemap_compiled_write.specs.Parts.{Parts}
use Rattle.sourcemap_cache.specs.Compile.{AreSound, IsFileOf}

-- parts with equal fields are equal
pub same_parts : (v p : Parts) → v.tokens ≡ p.tokens → v.scopes ≡ p.scopes → v.sources ≡ p.sources
    → v.names ≡ p.names → v.scope_names ≡ p.scope_names → v.file ≡ p.file → v.contents ≡ p.contents
    → v.debug_id ≡ p.debug_id → v ≡ p
same_parts v p tokens scopes sources names scope_names file contents debug_id = λ i. record {
  tokens = tokens i;
  scopes = scopes i;
  sources = sources i;
  names = names i;
  scope_names = scope_names i;
  file = file i;
  contents = contents i;
  debug_id = debug_id i;
}

pub file_of_parts : (v p : Parts) (bytes : List ℕ) → v ≡ p → bytes ≡ file_bytes v → AreWritable v → AreSound p
    → IsFileOf p bytes
file_of_parts v p bytes same file writable sound = record {
  file = file ∙ ap file_bytes same;
  writable = subst AreWritable same writable;
  sound = sound;
}
