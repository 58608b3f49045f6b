-- The parts of a map that `rewrite` changes, as functions of the old parts.
use Rattle.std.specs.Prelude.{◌≡◌, ◌≤◌, ℕ, cond, MatchBool, List, [], map, slice_get, Option, None, option_and_then}
use Rattle.std.specs.Prelude.{vec_len}
use Rattle.std.specs.Str.{bytes_eq}
use Rattle.sourcemap_tokens.specs.Items.{item_at}
use Rattle.sourcemap_tokens.specs.declared.tokens.RawToken.{RawToken}
use Rattle.sourcemap_texts.specs.Texts.{texts_of}
use Rattle.sourcemap_texts.specs.Prefixes.{without_prefix}
use Rattle.sourcemap_map_rewrite.specs.Loaded.{AreLoaded}
use Rattle.sourcemap_map_rewrite.specs.Options.{Removal, removal_of}
use Rattle.sourcemap_map_rewrite.specs.CutSources.{all_prefixes}
use Rattle.sourcemap_map_rewrite.specs.FirstIds.{firsts_of}
use Rattle.sourcemap_map_rewrite.specs.Kept.{present}
use Rattle.sourcemap_map_rewrite.specs.Numbering.{texts_in_use, numbered_by}
use Rattle.sourcemap_map_rewrite.specs.declared.options.RewriteOptions.{RewriteOptions}
use Rattle.sourcemap_map_rewrite.specs.declared.rewritten.RewrittenParts.{RewrittenParts}

-- the contents for the source id of the token `t`, if the source of `t` is `text`. `None` if `t` has another source or
-- no source, or if the source id has no contents
abbrev pub contents_among : List (List ℕ) → List (Option (List ℕ)) → List ℕ → RawToken → Option (List ℕ)
contents_among sources contents text t =
    option_and_then (λ source. cond (bytes_eq source text) (item_at contents t.src_id) None)
    (slice_get sources t.src_id)

-- the contents for the source `text`. Take the first token whose source is `text` and whose source id has contents. The
-- result is the contents of this source id, or `None` if there is no such token
abbrev pub resulting_contents : List (List ℕ) → List (Option (List ℕ)) → List RawToken → List ℕ → Option (List ℕ)
resulting_contents sources contents tokens text =
    slice_get (present (map (contents_among sources contents text) tokens)) 0

-- the sources that tokens use, each once, in the order of first use
abbrev pub sources_used : List (List ℕ) → List RawToken → List (List ℕ)
sources_used sources tokens = texts_in_use sources (map (λ t. t.src_id) tokens)

-- the names that tokens use, each once, in the order of first use
abbrev pub names_used : List (List ℕ) → List RawToken → List (List ℕ)
names_used names tokens = texts_in_use names (map (λ t. t.name_id) tokens)

-- for each source in `sources_used`, in the same order: the source id of the first token that uses the source
abbrev pub first_ids_used : List (List ℕ) → List RawToken → List ℕ
first_ids_used sources tokens = firsts_of sources (map (λ t. t.src_id) tokens)

-- the contents that the sources in use have before loading; `None` for each if contents are not kept
abbrev pub contents_before : Removal → List (List ℕ) → List (Option (List ℕ)) → List RawToken → List (Option (List ℕ))
contents_before removal sources contents tokens =
    map (λ text. cond removal.with_contents (resulting_contents sources contents tokens text) None)
    (sources_used sources tokens)

-- the contents of the result: the kept contents, and loaded contents if the options ask for loading; an empty list if
-- contents are neither kept nor loaded
abbrev pub AreResultingContents : RewriteOptions → List (List ℕ) → (contents : List (Option (List ℕ))) → List RawToken
    → (after : List (Option (List ℕ))) → Type 0
AreResultingContents options sources contents tokens after =
    MatchBool options.load_local_source_contents
    (AreLoaded options (sources_used sources tokens)
    (contents_before (removal_of options) sources contents tokens) after)
    (after ≡ cond options.with_source_contents (map (resulting_contents sources contents tokens)
    (sources_used sources tokens)) [])

pub record AreRewritten (sources names paths : List (List ℕ)) (contents : List (Option (List ℕ)))
    (options : RewriteOptions) (tokens : List RawToken) (p : RewrittenParts) : Type 0 where
  pub tokens_are : p.tokens
      ≡ map (numbered_by sources names (sources_used sources tokens) (names_used names tokens)) tokens
  pub names_are : texts_of p.names ≡ names_used names tokens
  pub sources_are : texts_of p.sources
      ≡ map (without_prefix (all_prefixes (removal_of options).prefixes paths)) (sources_used sources tokens)
  pub first_ids_are : p.first_ids.items ≡ first_ids_used sources tokens
  pub contents_are : AreResultingContents options sources contents tokens p.contents.items

-- the lists of names, sources and contents have at most 4294967295 items each, so every index is less than `no_id`
pub record AreFew (p : RewrittenParts) : Type 0 where
  pub names : vec_len p.names ≤ 4294967295
  pub sources : vec_len p.sources ≤ 4294967295
  pub contents : vec_len p.contents ≤ 4294967295
