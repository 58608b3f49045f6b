-- Maps that are decoded into a handle, and the errors of decoding.
use Rattle.std.specs.Prelude.{◌≡◌, ◌≢◌, ◌⊎◌, ℕ, List, Option, Some, None, Result, Ok, Err}
use Rattle.std.specs.Str.{IsUtf8}
use Rattle.sourcemap_errors.specs.declared.errors.Error.{Error}
use Rattle.sourcemap_index.specs.Decode.{UrlDecodes}
use Rattle.sourcemap_index_model.specs.MapTree.{MapTree}
use Rattle.sourcemap_index_model.specs.WellFormed.{IsWellFormed}
use Rattle.sourcemap_c_handles.specs.declared.held.Held.{Held}
use Rattle.sourcemap_c.specs.Codes.{IsNoText}
use Rattle.sourcemap_c.specs.Kinds.{Shareable, tree_in}

-- the handle has the decoded map, which is well-formed
abbrev pub Holds : (Result MapTree Error → Type 0) → Option Held → Type 0
Holds Decodes held = (t : MapTree) × (tree_in held ≡ Some t) × Decodes (Ok t) × IsWellFormed t

-- the error `e` of decoding a data URL: `Utf8` if the bytes are not UTF-8, otherwise an error that `UrlDecodes` allows
abbrev pub AreNoUrl : List ℕ → Error → Type 0
AreNoUrl url e = IsNoText url e ⊎ (IsUtf8 url × UrlDecodes url (Err e))

-- there is something to share, and the other handle has the same
abbrev pub IsShared : Option Shareable → (other : Option Shareable) → Type 0
IsShared held other = (held ≢ None) × (other ≡ held)
