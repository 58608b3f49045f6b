-- `sources_in` converts the fields of `Sources` to a `SourcesValue`. `AreStored` is the invariant of the fields.
use Rattle.std.specs.Prelude.{◌≡◌, ◌≤◌, length, option_map, unwrap_or, string_bytes}
use Rattle.sourcemap_texts.specs.Texts.{texts_of}
use Rattle.sourcemap_map_parts.specs.Sources.{SourcesValue, resolved_texts}
use Rattle.sourcemap_map_parts.specs.declared.sources.Sources.TheInside.{Inside}

abbrev pub sources_in : Inside → SourcesValue
sources_in a = record {
  root = option_map string_bytes a.root;
  texts = texts_of a.texts;
}

-- No source has the id 4294967295. The list `resolved` contains all sources, resolved against the root. If `resolved`
-- is `None`, resolving changes no source.
pub record AreStored (a : Inside) : Type 0 where
  pub few : length (texts_of a.texts) ≤ 4294967295
  pub resolved : texts_of (unwrap_or a.resolved a.texts) ≡ resolved_texts (sources_in a)
