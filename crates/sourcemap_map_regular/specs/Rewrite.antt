-- The rewritten map: without the sources and names that no token uses, without root and ignore list, and without what
-- the options remove. Sources without contents may get contents from files.
use Rattle.std.specs.Prelude.{length, ◌≤◌, ◌≡◌, ℕ, true, cond, MatchBool, List, [], map, slice_get, Option, None}
use Rattle.std.specs.Prelude.{option_map, option_and_then, Result, Ok, Err}
use Rattle.std.specs.Str.{bytes_eq}
use Rattle.sourcemap_errors.specs.declared.errors.Error.{Error}
use Rattle.sourcemap_tokens.specs.declared.tokens.RawToken.{RawToken}
use Rattle.sourcemap_tokens.specs.Tokens.{destination}
use Rattle.sourcemap_texts.specs.Prefixes.{without_prefix}
use Rattle.sourcemap_map_rewrite.specs.declared.options.RewriteOptions.{RewriteOptions}
use Rattle.sourcemap_map_regular.specs.Map.{MapValue, Meaning, resolved_sources, source_of, name_of, contents_of}
use Rattle.sourcemap_map_regular.specs.Map.{meaning, meaning_of}
pub use Rattle.sourcemap_map_rewrite.specs.CutSources.{common_if, all_prefixes}
pub use Rattle.sourcemap_map_rewrite.specs.FirstIds.{firsts_of}
pub use Rattle.sourcemap_map_rewrite.specs.Kept.{present, kept_once, number_in}
pub use Rattle.sourcemap_map_rewrite.specs.Loaded.{AreLoaded, LacksFolder}
pub use Rattle.sourcemap_map_rewrite.specs.Options.{Removal, removal_of, IsDefault, no_removal, options_folder}

-- The parts of the result.

-- the resolved sources that tokens use, each once, in the order of first use
abbrev pub used_sources : MapValue → List (List ℕ)
used_sources m = kept_once (present (map (λ t. source_of m t.src_id) m.tokens))

-- the names that tokens use, each once, in the order of first use
abbrev pub used_names : MapValue → List (List ℕ)
used_names m = kept_once (present (map (λ t. name_of m t.name_id) m.tokens))

-- for each source in use, the source id of the first token that uses it
abbrev pub first_ids : MapValue → List ℕ
first_ids m = firsts_of (resolved_sources m) (map (λ t. t.src_id) m.tokens)

abbrev pub kept_names : Removal → MapValue → List (List ℕ)
kept_names removal m = cond removal.with_names (used_names m) []

-- the contents of the source of token `t`, if this source resolves to `text`. `None` if `t` has no source, if the
-- source resolves to another text, or if the map has no contents for the source id
abbrev pub contents_if : MapValue → List ℕ → RawToken → Option (List ℕ)
contents_if m text t =
    option_and_then (λ source. cond (bytes_eq source text) (contents_of m t.src_id) None) (source_of m t.src_id)

-- the contents for the resolved source `text`: the first result of `contents_if` that is not `None`, in the order of
-- the tokens. `None` if `contents_if` is `None` for every token
abbrev pub contents_for : MapValue → List ℕ → Option (List ℕ)
contents_for m text = slice_get (present (map (contents_if m text) m.tokens)) 0

-- the prefixes to remove. `~` means the common prefix of all sources that are absolute paths. The common prefix is
-- computed before sources are resolved against the root. It is the last prefix of the list, and is left out if it is
-- empty or `/`
abbrev pub cuts : Removal → MapValue → List (List ℕ)
cuts removal m = all_prefixes removal.prefixes m.sources

-- the token with the new ids of its source and its name
abbrev pub renumbered : Removal → MapValue → RawToken → RawToken
renumbered removal m t = record t {
  src_id = number_in (used_sources m) (source_of m t.src_id);
  name_id = number_in (kept_names removal m) (name_of m t.name_id);
}

-- the rewritten map, with one token for each old token
abbrev pub rewritten : Removal → MapValue → MapValue
rewritten removal m = record {
  file = m.file;
  root = None;
  tokens = map (renumbered removal m) m.tokens;
  names = kept_names removal m;
  sources = map (without_prefix (cuts removal m)) (used_sources m);
  contents = cond removal.with_contents (map (contents_for m) (used_sources m)) [];
  ignored = [];
  debug_id = m.debug_id;
}

-- The result of `rewrite`.

-- the maps differ at most in their contents
abbrev pub SameButContents : (m n : MapValue) → Type 0
SameButContents m n = record m { contents = n.contents } ≡ n

-- the contents that the sources in use have before loading; `None` for each if contents are not kept
abbrev pub contents_before : Removal → MapValue → List (Option (List ℕ))
contents_before removal m = map (λ text. cond removal.with_contents (contents_for m text) None) (used_sources m)

-- the rewritten map; only sources that have no contents before loading may have loaded contents
pub record IsLoaded (options : RewriteOptions) (m new : MapValue) : Type 0 where
  pub others : SameButContents new (rewritten (removal_of options) m)
  pub contents : AreLoaded options (used_sources m) (contents_before (removal_of options) m) new.contents

-- the possible results of `rewrite`, besides `OutOfMemory`. `Ok` holds the rewritten map. If contents are to be loaded,
-- the rewritten map may also have contents from files (`IsLoaded`). `Err` holds the error for a folder that is not
-- absolute (`LacksFolder`)
abbrev pub Rewrites : RewriteOptions → MapValue → Result MapValue Error → Type 0
Rewrites options m (Ok new) =
    MatchBool options.load_local_source_contents (IsLoaded options m new) (new ≡ rewritten (removal_of options) m)
Rewrites options m (Err e) = LacksFolder options e

-- Meaning.

-- the meaning `says`, with two changes: the first matching prefix of `cuts removal m` is removed from the source
-- (`without_prefix`), and the name is removed if names are not kept
abbrev pub without_removed : Removal → MapValue → Meaning → Meaning
without_removed removal m says = record says {
  source = option_map (without_prefix (cuts removal m)) says.source;
  name = cond removal.with_names says.name None;
}

-- the options leave every meaning unchanged: names are kept, and the options list no prefix
abbrev pub LeavesMeaning : Removal → Type 0
LeavesMeaning removal = (removal.with_names ≡ true) × (removal.prefixes ≡ [])

-- at each generated position, the new map has the meaning of the old map, changed by `without_removed`. If the old map
-- has no meaning at the position, the new map has none
abbrev pub MeansLess : Removal → (old new : MapValue) → Type 0
MeansLess removal old new = (p : ℕ × ℕ) → meaning new p ≡ option_map (without_removed removal old) (meaning old p)

-- the generated position and the meaning of each token
abbrev pub token_meanings : MapValue → List ((ℕ × ℕ) × Meaning)
token_meanings m = map (λ t. (destination t, meaning_of m t 0)) m.tokens

-- the new map has one token for each old token, in the same order. The new token has the generated position of the old
-- token, and the meaning of the old token, changed by `without_removed`
abbrev pub TokensMeanLess : Removal → (old new : MapValue) → Type 0
TokensMeanLess removal old new =
    token_meanings new ≡ map (λ entry. (entry.0, without_removed removal old entry.1)) (token_meanings old)

-- if `m` has at most 4294967295 sources and at most 4294967295 names, rewriting `m` twice by the default options gives
-- the same map as rewriting `m` once
abbrev pub IsFinal : MapValue → Type 0
IsFinal m = length m.sources ≤ 4294967295 → length m.names ≤ 4294967295
    → rewritten no_removal (rewritten no_removal m) ≡ rewritten no_removal m
