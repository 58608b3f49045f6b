-- A builder of maps: sources and names are interned, and a source may be replaced later.
use Rattle.std.specs.Prelude.{ℕ, ◌<◌, ◌≢◌, ◌⊎◌, IsSome, length, Bool, cond, is_some, List, [], ◌∷◌, ◌++◌, Option, Some}
use Rattle.std.specs.Prelude.{None, unwrap_or, Result, Ok, Err}
use Rattle.sourcemap_errors.specs.declared.errors.Error.{Error}
use Rattle.sourcemap_tokens.specs.declared.tokens.RawToken.{RawToken}
use Rattle.sourcemap_tokens.specs.Tokens.{in_order, no_id}
use Rattle.sourcemap_interning.specs.Interner.{id_of, with_text, id_for}
use Rattle.sourcemap_map_parts.specs.Contents.{fitted}
use Rattle.sourcemap_source_files.specs.Loading.{Fills}
use Rattle.sourcemap_map_regular.specs.Map.{MapValue, Meaning}

-- the parts of a builder. `interned` are the sources as they were added; adding a source looks up its id in this list.
-- `sources` are the sources of the map. After a source is replaced, `sources` has the new text, and `interned` still
-- has the text with which the source was added
pub record BuilderValue : Type 0 where
  pub file : Option (List ℕ)
  pub root : Option (List ℕ)
  pub tokens : List RawToken
  pub names : List (List ℕ)
  pub interned : List (List ℕ)
  pub sources : List (List ℕ)
  pub contents : List (Option (List ℕ))
  pub ignored : List ℕ
  pub debug_id : Option (List ℕ)

-- a new builder with the name of the generated file
abbrev pub empty_builder : Option (List ℕ) → BuilderValue
empty_builder file = record {
  file = file;
  root = None;
  tokens = [];
  names = [];
  interned = [];
  sources = [];
  contents = [];
  ignored = [];
  debug_id = None;
}

-- the texts, each replaced by its change if there is one
abbrev pub with_changes : List (Option (List ℕ)) → List (List ℕ) → List (List ℕ)
with_changes changes [] = []
with_changes [] (text ∷ texts) = text ∷ texts
with_changes (change ∷ changes) (text ∷ texts) = unwrap_or change text ∷ with_changes changes texts

-- the builder after a source is added. If `interned` has the source already, the builder is unchanged. Otherwise the
-- source is appended to `interned` and to `sources`
abbrev pub with_source : BuilderValue → List ℕ → BuilderValue
with_source b text = record b {
  interned = with_text b.interned text;
  sources = cond (is_some (id_of text b.interned)) b.sources (b.sources ++ text ∷ []);
}

abbrev pub with_name : BuilderValue → List ℕ → BuilderValue
with_name b text = record b { names = with_text b.names text }

-- the builder after an optional source is added; `None` leaves the builder unchanged
abbrev pub with_source_if : BuilderValue → Option (List ℕ) → BuilderValue
with_source_if b None = b
with_source_if b (Some text) = with_source b text

-- the builder after an optional name is added; `None` leaves the builder unchanged
abbrev pub with_name_if : BuilderValue → Option (List ℕ) → BuilderValue
with_name_if b None = b
with_name_if b (Some text) = with_name b text

-- the builder after an optional source and then an optional name are added
abbrev pub with_texts : BuilderValue → Option (List ℕ) → Option (List ℕ) → BuilderValue
with_texts b source name = with_name_if (with_source_if b source) name

-- for `Some text`, the id of `text` after `text` is added to `texts`, or the error of `id_for`; for `None`, `no_id`
abbrev pub id_if : List (List ℕ) → Option (List ℕ) → Result ℕ Error
id_if texts None = Ok no_id
id_if texts (Some text) = id_for texts text

-- a token with these positions, without a source and without a name
abbrev pub token_without_ids : ℕ → ℕ → ℕ → ℕ → Bool → RawToken
token_without_ids dst_line dst_col src_line src_col is_range = record {
  dst_line = dst_line;
  dst_col = dst_col;
  src_line = src_line;
  src_col = src_col;
  src_id = no_id;
  name_id = no_id;
  is_range = is_range;
}

-- the token with this source id and this name id. If an id is an error, the result is the error. If both ids are
-- errors, the result is the error of the source id
abbrev pub token_with_ids : RawToken → Result ℕ Error → Result ℕ Error → Result RawToken Error
token_with_ids token (Err e) name = Err e
token_with_ids token (Ok source) (Err e) = Err e
token_with_ids token (Ok source) (Ok name) = Ok (record token { src_id = source; name_id = name })

-- the name that a copy of a token gets: the name of the token if `with_name` is true, otherwise `None`. `says` is the
-- meaning of the token
abbrev pub name_if : Bool → Meaning → Option (List ℕ)
name_if with_name says = cond with_name says.name None

-- If `text` is `Some`, `id` is an index of `texts`. If `text` is `None`, `id` is `no_id` or an index of `texts`.
abbrev pub IsOptionalId : List (List ℕ) → Option (List ℕ) → ℕ → Type 0
IsOptionalId texts text id = (IsSome text ⊎ (id ≢ no_id)) → id < length texts

-- If the token was added with a source, its source id is an index of `sources`. If it was added without a source, its
-- source id is an index of `sources` or `no_id`.
abbrev pub HasSource : List (List ℕ) → Option (List ℕ) → RawToken → Type 0
HasSource sources source token = IsOptionalId sources source token.src_id

-- the builder after a token is appended
abbrev pub with_token : BuilderValue → RawToken → BuilderValue
with_token b token = record b { tokens = b.tokens ++ token ∷ [] }

-- how loading from files changes contents. First the list of contents gets exactly one item for each source (`fitted`).
-- Then only a source without contents may get contents, and only if its text in `interned` has a path (`file_of`)
abbrev pub Loads : (folder : List ℕ) → (old new : BuilderValue) → Type 0
Loads folder old new = Fills folder old.interned (fitted (length old.sources) old.contents) new.contents

-- the map of the builder
abbrev pub built : BuilderValue → MapValue
built b = record {
  file = b.file;
  root = b.root;
  tokens = in_order b.tokens;
  names = b.names;
  sources = b.sources;
  contents = b.contents;
  ignored = b.ignored;
  debug_id = b.debug_id;
}
