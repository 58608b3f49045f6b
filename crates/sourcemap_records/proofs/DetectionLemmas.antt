-- Bytes with an invalid header or invalid JSON are not a map.
use Rattle.std.proofs.Common.{◌≡◌, ◌≢◌, ◌↔◌, refl, ℕ, List, Bool, true, false, IsTrue, Option, Some, None, Result, Ok, Err, IfOk, MatchOption, MatchResult}
use Rattle.serde_json.specs.Data.{Data}
use Rattle.sourcemap_errors.specs.declared.errors.Error.{Error}
use Rattle.sourcemap_errors.specs.declared.errors.Error.TheVariants.{BadJson, OutOfMemory}
use Rattle.sourcemap_errors.specs.declared.errors.JsonFault.TheVariants.{Parse}
use Rattle.sourcemap_errors.specs.Answer.{UnlessMemory}
use Rattle.sourcemap_headers.specs.Header.{after_header}
use Rattle.sourcemap_records.specs.Bytes.{IsJson, IsHeaderError, HoldNoJson}
use Rattle.sourcemap_records.specs.Detection.{AreMap}

no_value : (found : Option (List ℕ)) (e : Error)
    → MatchOption found (IsHeaderError e) (λ text. ((d : Data) → ¬ IsJson text d) × (e ≡ BadJson Parse))
    → (d : Data) → (text : List ℕ) × (found ≡ Some text) × IsJson text d → ⊥
no_value None e why d held = cc
no_value (Some text) e why d held = let same : text ≡ held.0 = cc in why.0 d (rw same held.2)

unless_memory : (e : Error) (P : Type 0) → e ≢ OutOfMemory → UnlessMemory e P → P
unless_memory OutOfMemory P not_memory h = absurd (not_memory refl)
unless_memory _ P not_memory h = h

pub not_a_map : (bytes : List ℕ) (e : Error) → UnlessMemory e (HoldNoJson bytes e) → (result : Result Bool Error)
    → MatchResult result (λ is. (is ≡ false) × (e ≢ OutOfMemory)) (λ f. (f ≡ OutOfMemory) × (e ≡ OutOfMemory))
    → IfOk result (λ is. IsTrue is ↔ AreMap bytes)
not_a_map bytes e why (Ok true) is = cc
not_a_map bytes e why (Ok false) is = (
  λ h. cc,
  λ are. absurd (no_value (after_header bytes) e (unless_memory e (HoldNoJson bytes e) is.1 why) are.0 are.1),
)
not_a_map bytes e why (Err f) is = tt
