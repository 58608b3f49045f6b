-- For a URL in UTF-8, the contract of `open_text` implies the contract of `open_url`.
use Rattle.std.proofs.Common.{◌≡◌, ℕ, List, Option, Result, Err, inr, subst}
use Rattle.std.specs.Str.{IsUtf8}
use Rattle.sourcemap_c_handles.specs.declared.errors.Failure.{Failure}
use Rattle.sourcemap_c_handles.specs.declared.errors.Failure.TheVariants.{Library, Absent, WrongKind, PastLimit}
use Rattle.sourcemap_c_handles.specs.declared.held.Held.{Held}
use Rattle.sourcemap_index.specs.Decode.{UrlDecodes}
use Rattle.sourcemap_c.proofs.CodesLemmas.{weaker}
use Rattle.sourcemap_c.specs.Codes.{Does, OfLibrary}
use Rattle.sourcemap_c.specs.Opening.{AreNoUrl, Holds}

or_no_url : (url : List ℕ) → IsUtf8 url → (failure : Failure) → OfLibrary (λ e. UrlDecodes url (Err e)) failure → OfLibrary (AreNoUrl url) failure
or_no_url url is (Library e) due = inr (is, due)
or_no_url url is Absent due = due
or_no_url url is WrongKind due = due
or_no_url url is PastLimit due = due

pub no_url : {T : Type 0} (result : Result T Failure) (text url : List ℕ) (held : Option Held) (Kept : Type 0) → text ≡ url → IsUtf8 url
    → Does result (Holds (UrlDecodes text) held) (OfLibrary (λ e. UrlDecodes text (Err e))) Kept
    → Does result (IsUtf8 url × Holds (UrlDecodes url) held) (OfLibrary (AreNoUrl url)) Kept
no_url result text url held Kept same is does =
    let P : List ℕ → Type 0 = λ u. Does result (Holds (UrlDecodes u) held) (OfLibrary (λ e. UrlDecodes u (Err e))) Kept in
    weaker result _ _ _ _ Kept Kept (λ h. (is, h)) (or_no_url url is) (λ k. k) (subst P same does)
