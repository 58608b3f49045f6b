-- Contents of sources, loaded from files: the folder, the paths of the files, and what may change.
use Rattle.std.specs.Prelude.{◌≡◌, ℕ, zero, suc, ◌+◌, true, ◌&&◌, if◌then◌else◌, List, [], length}
use Rattle.std.specs.Prelude.{slice_get, Option, Some, None, is_none, is_some, IsSome, option_and_then, unwrap_or}
use Rattle.std.specs.IoError.{error_kind}
use Rattle.std.specs.Path.{path_join}
use Rattle.std.specs.declared.io.ErrorKind.TheVariants.{InvalidInput}
use Rattle.sourcemap_errors.specs.declared.errors.Error.{Error}
use Rattle.sourcemap_errors.specs.declared.errors.Error.TheVariants.{Io}
use Rattle.sourcemap_tokens.specs.Items.{item_at}
use Rattle.sourcemap_file_urls.specs.Places.{starts_at_root, resolved_file_path}

-- the folder against which sources are resolved: the base path, joined to the current directory; a missing base path
-- counts as empty; `None` if the joined path is not absolute
abbrev pub folder_of : (current : List ℕ) (base : Option (List ℕ)) → Option (List ℕ)
folder_of current base =
    let folder = path_join current (unwrap_or base []) in if starts_at_root folder then Some folder else None

-- the path of a source's file. `source` is an entry of the list of sources. The entry is resolved against the `file`
-- URL of `folder`. The result is the path of the resolved URL, with escapes decoded. The result is `None` if `folder`
-- is not absolute, if the URL of `folder` or the entry is rejected, if the resolved URL is no `file` URL or has a host,
-- or if the decoded path is not UTF-8
abbrev pub file_of : (folder source : List ℕ) → Option (List ℕ)
file_of folder source = resolved_file_path folder true source

-- the number of ids below `n` for which `before` has no item and `after` has an item; `n` is the first argument
abbrev pub newly : {X : Type 0} → ℕ → (before after : List (Option X)) → ℕ
newly zero before after = 0
newly (suc n) before after =
    newly n before after + (if is_none (item_at before n) && is_some (item_at after n) then 1 else 0)

-- how loading changes contents: the length and the existing contents stay, and each source with new contents has a
-- path (`file_of`)
pub record Fills (folder : List ℕ) (sources : List (List ℕ)) (before after : List (Option (List ℕ))) : Type 0 where
  pub many : length after ≡ length before
  pub kept : (id : ℕ) → IsSome (item_at before id) → item_at after id ≡ item_at before id
  pub from_file : (id : ℕ) → item_at before id ≡ None → IsSome (item_at after id)
      → IsSome (option_and_then (file_of folder) (slice_get sources id))

-- the error if neither the base path nor the current directory is absolute: `Io` of kind `InvalidInput`
abbrev pub IsNoFolder : Error → Type 0
IsNoFolder (Io cause) = error_kind cause ≡ InvalidInput
IsNoFolder _ = ⊥
