-- Contents that `rewrite` loads from files.
use Rattle.std.specs.Prelude.{◌≡◌, ℕ, Bool, true, MatchBool, List, Option, None, replicate}
use Rattle.std.specs.Option.{IsSomeAnd}
use Rattle.sourcemap_errors.specs.declared.errors.Error.{Error}
use Rattle.sourcemap_source_files.specs.Loading.{Fills, IsNoFolder}
use Rattle.sourcemap_map_rewrite.specs.KeptContents.{AreKept}
use Rattle.sourcemap_map_rewrite.specs.Options.{options_folder}
use Rattle.sourcemap_map_rewrite.specs.declared.options.RewriteOptions.{RewriteOptions}

-- the options give a folder, and loading turns the contents `before` into the contents `after`. Existing contents stay.
-- Each source that gets contents resolves to the path of a file
abbrev pub AreLoaded : RewriteOptions → List (List ℕ) → (before after : List (Option (List ℕ))) → Type 0
AreLoaded options sources before after =
    IsSomeAnd (options_folder options) (λ folder. Fills folder sources before after)

-- the error if `load_local_source_contents` is true and neither `base_path` nor `current_dir` is absolute: `Io` of
-- kind `InvalidInput`
pub record LacksFolder (options : RewriteOptions) (e : Error) : Type 0 where
  pub loads : options.load_local_source_contents ≡ true
  pub none : options_folder options ≡ None
  pub error : IsNoFolder e

-- the contents of `count` sources before loading: the kept contents, or `None` for each source if contents are not kept
abbrev pub AreKeptOrNone : Bool → (numbers order : List ℕ) → (contents : List (Option (List ℕ))) → ℕ
    → (unloaded : List (Option (List ℕ))) → Type 0
AreKeptOrNone with_contents numbers order contents count unloaded =
    MatchBool with_contents (AreKept numbers order contents count unloaded) (unloaded ≡ replicate count None)

-- the contents of these sources after loading. `before` are their contents before loading; loading may add contents to
-- sources that had none
pub record AreKeptAndLoaded (options : RewriteOptions) (sources : List (List ℕ)) (numbers order : List ℕ)
    (contents : List (Option (List ℕ))) (count : ℕ) (after : List (Option (List ℕ))) : Type 0 where
  pub before : List (Option (List ℕ))
  pub unloaded : AreKeptOrNone options.with_source_contents numbers order contents count before
  pub loaded : AreLoaded options sources before after
