-- Maps that read back give the answers of the written map.
use Rattle.std.proofs.Common.{◌≡◌, subst, ℕ, List, Result, Ok, Err, String, string_bytes}
use Rattle.std.specs.declared.alloc.Global.{Global}
use Rattle.sourcemap.specs.Answer.{Gives, IsAnswer}
use Rattle.sourcemap.specs.AnyMap.{map_tree}
use Rattle.sourcemap.specs.Decoder.{AreSame}
use Rattle.sourcemap.specs.Encoder.{ReadsBack}
use Rattle.sourcemap.specs.TreeEncoder.{Restores}
use Rattle.sourcemap.specs.Trees.{IsWellFormed, MapTree, MeansTheSame, meaning}
use Rattle.sourcemap.specs.declared.errors.Error.{Error}
use Rattle.sourcemap.specs.declared.types.DecodedMap.{DecodedMap}
use Rattle.sourcemap_trace.specs.Trace.{trace_of}
use Rattle.sourcemap_uses.proofs.RefusalLemmas.{due_refused, unless_memory}

module _ (Answers : Result MapTree Error → Type 0) (positions : List ℕ) where
  -- Of a JSON value: the map that was read gives the answers of the map that was written.
  pub value_alike : (map : DecodedMap) (r : Result (String Global) Error)
      → ((t back : MapTree) → ReadsBack Answers (Restores t) → Answers (Ok back)
      → trace_of (meaning back) positions ≡ trace_of (meaning t) positions)
      → Answers (Ok (map_tree map)) → Gives string_bytes r (Ok (trace_of (meaning (map_tree map)) positions))
      → (t : MapTree) → ReadsBack Answers (Restores t) → Gives string_bytes r (Ok (trace_of (meaning t) positions))
  value_alike map r law answer gives t written =
      subst (λ text. Gives string_bytes r (Ok text)) (law t (map_tree map) written answer) gives

  -- the only error is out of memory
  pub value_refused : (e : Error) → ((due : Result MapTree Error) → Answers due → Gives {X = DecodedMap} map_tree (Err e) due)
      → (t : MapTree) → ReadsBack Answers (Restores t)
      → Gives {X = String Global} string_bytes (Err e) (Ok (trace_of (meaning t) positions))
  value_refused e only t written = due_refused written.0 e _ (only (Ok written.0) written.1)

  -- Of bytes: the same.
  pub bytes_alike : (map : DecodedMap) (r : Result (String Global) Error)
      → ((s t : MapTree) (positions : List ℕ) → MeansTheSame s t
      → trace_of (meaning s) positions ≡ trace_of (meaning t) positions)
      → ((due : Result MapTree Error) → Answers due → IsAnswer map_tree (AreSame due) (Ok map))
      → Gives string_bytes r (Ok (trace_of (meaning (map_tree map)) positions))
      → (t : MapTree) → ReadsBack Answers (Restores t) → Gives string_bytes r (Ok (trace_of (meaning t) positions))
  bytes_alike map r law only gives t written =
      let same : written.0 ≡ map_tree map = only (Ok written.0) written.1 in
      let restored : Restores t (map_tree map) = subst (Restores t) same written.2 in
      subst (λ text. Gives string_bytes r (Ok text)) (law (map_tree map) t positions restored.0) gives

  pub bytes_refused : (e : Error)
      → ((due : Result MapTree Error) → Answers due → IsAnswer {X = DecodedMap} map_tree (AreSame due) (Err e))
      → (t : MapTree) → ReadsBack Answers (Restores t)
      → Gives {X = String Global} string_bytes (Err e) (Ok (trace_of (meaning t) positions))
  bytes_refused e only t written = unless_memory e ⊥ _ (λ no. absurd no) (only (Ok written.0) written.1)

-- what holds of a map that reads back holds of a well-formed map
pub if_well_formed : (t : MapTree) (Answers : Result MapTree Error → Type 0) (Q : Type 0)
    → (ReadsBack Answers (Restores t) → Q) → (IsWellFormed t → ReadsBack Answers (Restores t)) → IsWellFormed t → Q
if_well_formed t Answers Q holds written well = holds (written well)
