-- Options of rewriting.
use Rattle.std.specs.Prelude.{◌⊎◌, ℕ, List, Bool}
use Rattle.std.specs.List.{Contains}
use Rattle.sourcemap_errors.specs.declared.errors.Error.{Error}
use Rattle.sourcemap_map_regular.specs.Rewrite.{Removal}
use Rattle.sourcemap_c_handles.specs.declared.errors.Failure.{Failure}
use Rattle.sourcemap_c.specs.Codes.{IsNoText, OfLibrary}

abbrev pub removal : (with_names with_contents : Bool) → List (List ℕ) → Removal
removal with_names with_contents prefixes =
    record { with_names = with_names; with_contents = with_contents; prefixes = prefixes }

-- the error is that one of the texts is not UTF-8
abbrev pub HasNoText : List (List ℕ) → Error → Type 0
HasNoText texts e = (bytes : List ℕ) × Contains texts bytes × IsNoText bytes e

-- either the failure is that a prefix is not UTF-8, or `Due` allows the failure
abbrev pub OrNoPrefix : List (List ℕ) → (Failure → Type 0) → Failure → Type 0
OrNoPrefix prefixes Due failure = OfLibrary (HasNoText prefixes) failure ⊎ Due failure
