-- The URL of the first reference in a text says where the map of the text is: in the URL itself, in a file, or nowhere.
use Rattle.std.proofs.Common.{◌≡◌, refl, sym, subst, inl, ℕ, List, Option, Some, None, Result, Ok, Err}
use Rattle.sourcemap.specs.Answer.{UnlessMemory, IsAnswer}
use Rattle.sourcemap.specs.Embedded.{EmbeddedAnswer}
use Rattle.sourcemap.specs.Reference.{Reference}
use Rattle.sourcemap.specs.References.{reference, url_of}
use Rattle.sourcemap.specs.declared.detector.SourceMapRef.{SourceMapRef}
use Rattle.sourcemap.specs.declared.detector.SourceMapRef.TheVariants.{Ref, LegacyRef}
use Rattle.sourcemap.specs.declared.errors.Error.{Error}
use Rattle.sourcemap_uses.specs.declared.finding.FoundMap.{FoundMap}
use Rattle.sourcemap_uses.specs.Finding.{found_value, FileOfUrl, MapOfUrl, MapByReference, url_in}
use Rattle.sourcemap_uses.proofs.RefusalLemmas.{unless_memory}

-- the map of a URL that does not start with `data:` is in the file that the URL resolves to, or nowhere
pub no_map_held : (url path : List ℕ) → EmbeddedAnswer url (Ok None)
    → (r : Result FoundMap Error) → IsAnswer found_value (FileOfUrl url path) r
    → IsAnswer found_value (MapOfUrl url path) r
no_map_held url path none (Ok found) file = inl (None, none, file)
no_map_held url path none (Err e) file =
    unless_memory e (FileOfUrl url path (Err e)) (MapOfUrl url path (Err e)) (λ due. inl (None, none, due)) file

same_url : (r : SourceMapRef) → url_in (reference r) ≡ url_of r
same_url (Ref url) = refl
same_url (LegacyRef url) = refl

-- if the first reference in the text is `named`, an answer for the URL of `named` is an answer for the text
pub by_reference : (found : Option (Option Reference)) (named : SourceMapRef) → found ≡ Some (Some (reference named))
    → (path : List ℕ) (r : Result FoundMap Error) → IsAnswer found_value (MapOfUrl (url_of named) path) r
    → IsAnswer found_value (MapByReference found path) r
by_reference found named is path r h =
    subst (λ (f : Option (Option Reference)). IsAnswer found_value (MapByReference f path) r) (sym is)
    (subst (λ (u : List ℕ). IsAnswer found_value (MapOfUrl u path) r) (sym (same_url named)) h)
