-- Data URLs of maps, the files of references, and records of JSON values.
use Rattle.std.proofs.Common.{◌≡◌, ◌↔◌, refl, sym, ap, subst, ℕ, List, Bool, IsTrue, Option, Some, None, option_map}
use Rattle.std.proofs.Common.{Result, Ok, Err, String, string_bytes}
use Rattle.std.specs.declared.alloc.Global.{Global}
use Rattle.sourcemap_json.specs.Answer.{IsAnswer, UnlessMemory}
use Rattle.sourcemap_json.specs.DataUrl.{DataUrlAnswer, Holds}
use Rattle.sourcemap_json.specs.Detection.{AreMap}
use Rattle.sourcemap_json.specs.Field.{due}
use Rattle.sourcemap_json.specs.Reference.{Reference}
use Rattle.sourcemap_json.specs.References.{reference, url_of}
use Rattle.sourcemap_json.specs.declared.detector.SourceMapRef.{SourceMapRef}
use Rattle.sourcemap_json.specs.declared.detector.SourceMapRef.TheVariants.{Ref, LegacyRef}
use Rattle.sourcemap_json.specs.declared.errors.Error.{Error}
use Rattle.sourcemap_json.specs.declared.errors.Error.TheVariants.{BadJson}
use Rattle.sourcemap_json.specs.declared.errors.JsonFault.TheVariants.{Shape}
use Rattle.sourcemap_uses.specs.Records.{FileOfReference, PathOfUrl}
use Rattle.sourcemap_uses.proofs.RefusalLemmas.{unless_memory}

bytes_in : List ℕ → Result (List ℕ) Error → List ℕ
bytes_in other (Ok bytes) = bytes
bytes_in other (Err e) = other

-- the bytes of a data URL are a map exactly if the URL holds a map
pub held_map : (url bytes : List ℕ) → ((a b : Result (List ℕ) Error) → DataUrlAnswer url a → DataUrlAnswer url b → a ≡ b)
    → Holds url bytes → (is : Bool) → IsTrue is ↔ AreMap bytes
    → IsTrue is ↔ ((bytes : List ℕ) × Holds url bytes × AreMap bytes)
unfolding bytes_in
held_map url bytes one holds is decides = (
  λ yes. (bytes, holds, decides.0 yes),
  λ held. decides.1 (subst AreMap (ap (bytes_in bytes) (one (Ok held.0) (Ok bytes) held.1 holds)) held.2),
)

-- if the first reference in the text is `named`, an answer for the URL of `named` is an answer for the text
pub by_reference : (found : Option (Option Reference)) (named : SourceMapRef) → found ≡ Some (Some (reference named))
    → (path : List ℕ) (r : Result (Option (String Global)) Error)
    → IsAnswer (option_map string_bytes) (PathOfUrl (url_of named) path) r
    → IsAnswer (option_map string_bytes) (FileOfReference found path) r
by_reference found (Ref url) is path r h =
    subst (λ (f : Option (Option Reference)). IsAnswer (option_map string_bytes) (FileOfReference f path) r) (sym is) h
by_reference found (LegacyRef url) is path r h =
    subst (λ (f : Option (Option Reference)). IsAnswer (option_map string_bytes) (FileOfReference f path) r) (sym is) h

pub due-Ok : {X : Type 0} (reading : Option X) (x : X) → due reading ≡ Ok x → reading ≡ Some x
due-Ok None x is = absurd (let no = is in cc)
due-Ok (Some y) x is = (let both = is in cc)

due-Err : {X : Type 0} (reading : Option X) (e : Error) → due reading ≡ Err e → (e ≡ BadJson Shape) × (reading ≡ None)
due-Err None e is = ((let both = is in cc), refl)
due-Err (Some y) e is = absurd (let no = is in cc)

pub no_record : {X : Type 0} (reading : Option X) (e : Error) → UnlessMemory e (due reading ≡ Err e)
    → UnlessMemory e ((e ≡ BadJson Shape) × (reading ≡ None))
no_record reading e = unless_memory e (due reading ≡ Err e) ((e ≡ BadJson Shape) × (reading ≡ None)) (due-Err reading e)
