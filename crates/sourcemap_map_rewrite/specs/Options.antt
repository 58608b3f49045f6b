-- The meaning of the options of `rewrite`.
use Rattle.std.specs.Prelude.{◌≡◌, ℕ, Bool, true, false, List, [], map, Option, None, unwrap_or}
use Rattle.std.specs.Option.{option_copied}
use Rattle.sourcemap_source_files.specs.Loading.{folder_of}
use Rattle.sourcemap_map_rewrite.specs.declared.options.RewriteOptions.{RewriteOptions}

-- what `rewrite` keeps, and which prefixes it removes from sources
pub record Removal : Type 0 where
  pub with_names : Bool
  pub with_contents : Bool
  pub prefixes : List (List ℕ)

abbrev pub removal_of : RewriteOptions → Removal
removal_of options = record {
  with_names = options.with_names;
  with_contents = options.with_source_contents;
  prefixes = map (λ prefix. prefix.now) options.strip_prefixes.now;
}

-- the default options: names and contents are kept, no file is read, no prefix is removed, and no folder is given
pub record IsDefault (options : RewriteOptions) : Type 0 where
  pub names : options.with_names ≡ true
  pub contents : options.with_source_contents ≡ true
  pub no_files : options.load_local_source_contents ≡ false
  pub no_base : options.base_path ≡ None
  pub no_prefixes : options.strip_prefixes.now ≡ []
  pub no_folder : options.current_dir ≡ None

abbrev pub no_removal : Removal
no_removal = record { with_names = true; with_contents = true; prefixes = [] }

-- the folder of the sources: `base_path`, joined to `current_dir`; one that is missing counts as empty; `None` if the
-- joined path is not absolute
abbrev pub options_folder : RewriteOptions → Option (List ℕ)
options_folder options = folder_of (unwrap_or (option_copied options.current_dir) []) (option_copied options.base_path)
