-- What follows from the answer of `compile`.
use Rattle.std.proofs.Common.{◌≡◌, refl, sym, ap, subst, ◌∙◌, ℕ, zero, suc, List, [], Some, None, Option, option_map, IfOk, IfSome}
use Rattle.std.proofs.Common.{Result, Ok, Err, Vec, Global}
use Rattle.sourcemap_errors.specs.declared.errors.Error.TheVariants.{OutOfMemory}
use Rattle.sourcemap_compiled.specs.Layout.{IsAccepted}
use Rattle.sourcemap_compiled.specs.Lookup.{compiled_meaning}
use Rattle.sourcemap_compiled.specs.Soundness.{IsSound}
use Rattle.sourcemap_compiled_write.specs.File.{file_bytes}
use Rattle.sourcemap_compiled_write.specs.Meaning.{parts_meaning, scope_in}
use Rattle.sourcemap_compiled_write.specs.Parts.{Parts}
use Rattle.sourcemap_compiled_write.proofs.ReadBack.{accepted as file_accepted, meaning_back}
use Rattle.sourcemap_index_model.specs.Flat.{AnswersLike as FlatAnswersLike, flat}
use Rattle.sourcemap_index_model.specs.FlatList.{IsOrderly}
use Rattle.sourcemap_index_model.specs.MapTree.{LeafMap, held, hermes, index, leaf, regular, MapTree}
use Rattle.sourcemap_index_model.specs.Meaning.{meaning as meaning_any}
use Rattle.sourcemap_map_regular.specs.Map.{MapValue, Meaning, meaning}
use Rattle.sourcemap_tokens.specs.Tokens.{closest_token}
use Rattle.sourcemap_tokens.specs.declared.tokens.RawToken.{RawToken}
use Rattle.sourcemap_cache.specs.Compile.{ArePartsOf, CompileAnswer, FileAnswer, IsCompiled, IsFileOf, bytes_in, parts_with, regular_parts}
use Rattle.sourcemap_cache.specs.Meaning.{AnswersLike, HasScopesInOrder, MeansLike, MeansTheSame, closest_scope, compiled, without_scope}
use Rattle.sourcemap_hermes.specs.Map.{HermesValue}
use Rattle.sourcemap_cache.specs.Scopes.{AreScopesInOrder, scope_names, scope_numbers}
use Rattle.sourcemap_cache.specs.declared.errors.CompileError.{CompileError}
use Rattle.sourcemap_cache.specs.declared.errors.CompileError.TheVariants.{Map, TooLarge}
use Rattle.sourcemap_cache.specs.declared.parts.WithContents.{WithContents}
use Rattle.sourcemap_cache.proofs.SoundLemmas.{sound_file}
use Rattle.sourcemap_cache.proofs.MeaningLemmas.{hermes_mean, parts_mean, parts_say, said}

-- the file means what equal parts mean
read_parts : (p q : Parts) (bytes : List ℕ) (at : ℕ × ℕ) → p ≡ q → IsFileOf p bytes
    → compiled_meaning bytes at ≡ parts_meaning q at
read_parts p q bytes at same file =
    ap (λ all. compiled_meaning all at) file.file ∙ meaning_back p file.writable at ∙ ap (λ r. parts_meaning r at) same

no_scope : (choice : WithContents) (m : MapValue) (i : ℕ) → scope_in (regular_parts choice m) i ≡ None
no_scope choice m zero = refl
no_scope choice m (suc i) = refl

regular_mean : (choice : WithContents) (m : MapValue) (at : ℕ × ℕ)
    → parts_meaning (regular_parts choice m) at ≡ option_map (compiled None) (meaning m at)
regular_mean choice m at = parts_say choice m [] [] at ∙ by_case (closest_token m.tokens at) refl
  where
    by_case : (o : Option (ℕ × RawToken)) → closest_token m.tokens at ≡ o
        → option_map (said choice m [] [] at) (closest_token m.tokens at) ≡ option_map (compiled None) (meaning m at)
    by_case None e = rw e refl
    by_case (Some found) e = rw (e, no_scope choice m found.0) refl

-- the file of a map without scopes
plain_file : (choice : WithContents) (t : MapTree) (m : MapValue) (p : Parts) (bytes : List ℕ)
    → ((at : ℕ × ℕ) → closest_scope t at ≡ None) → p ≡ regular_parts choice m → IsFileOf p bytes → MeansLike t m bytes
plain_file choice t m p bytes none same file = record {
  meaning = λ at. ap (option_map without_scope) (read_parts p (regular_parts choice m) bytes at same file)
      ∙ parts_mean choice m [] [] at;
  scope = λ order at. read_parts p (regular_parts choice m) bytes at same file ∙ regular_mean choice m at
      ∙ ap (λ scope. option_map (compiled scope) (meaning m at)) (sym (none at));
}

pub same_meaning : (choice : WithContents) (t : MapTree) (bytes : List ℕ) → IsCompiled choice t bytes
    → MeansTheSame t bytes
same_meaning choice (leaf (regular m)) bytes (p, is, file) =
    (m, refl, plain_file choice (leaf (regular m)) m p bytes (λ at. refl) is file)
same_meaning choice (leaf (hermes h)) bytes (p, (scopes, names, is, sorted), file) = (
  h.map,
  refl,
  record {
    meaning = λ at. ap (option_map without_scope) (read_parts p _ bytes at is file) ∙ parts_mean choice h.map scopes names at;
    scope = λ order at. read_parts p _ bytes at (sorted order) file ∙ hermes_mean choice h at;
  },
)
same_meaning choice (index parts ss) bytes (p, (m, flattened, is), file) =
    (m, flattened, plain_file choice (index parts ss) m p bytes (λ at. refl) is file)

pub like_flat : (choice : WithContents) (t : MapTree) (m : MapValue) (bytes : List ℕ) → IsCompiled choice t bytes
    → flat t ≡ Ok m → FlatAnswersLike t m → AnswersLike t bytes
like_flat choice t m bytes is flattened alike at =
    let means = same_meaning choice t bytes is in
    let one : means.0 ≡ m = same_map means.1 flattened in
    by_case (meaning_any t at) (alike at)
    (means.2.meaning at ∙ ap (λ n. option_map (compiled None) (meaning n at)) one)
  where
    same_map : {m n : MapValue} → flat t ≡ Ok m → flat t ≡ Ok n → m ≡ n
    same_map a b = let same = sym a ∙ b in cc

    by_case : (o : Option Meaning) → IfSome o (λ says. meaning m at ≡ Some says)
        → option_map without_scope (compiled_meaning bytes at) ≡ option_map (compiled None) (meaning m at)
        → IfSome o (λ says. option_map without_scope (compiled_meaning bytes at) ≡ Some (compiled None says))
    by_case None h e = tt
    by_case (Some says) h e = e ∙ ap (option_map (compiled None)) h

-- one map has one list of parts
one_parts : (choice : WithContents) (t : MapTree) (p q : Parts) → HasScopesInOrder t → ArePartsOf choice t p
    → ArePartsOf choice t q → p ≡ q
one_parts choice (leaf (regular m)) p q order a b = a ∙ sym b
one_parts choice (leaf (hermes h)) p q order a b = a.3 order ∙ sym (b.3 order)
one_parts choice (index parts ss) p q order a b =
    let same : Ok a.0 ≡ Ok b.0 = sym a.1 ∙ b.1 in
    let one : a.0 ≡ b.0 = cc in
    a.2 ∙ ap (regular_parts choice) one ∙ sym b.2

pub one_file : (choice : WithContents) (t : MapTree) (a b : List ℕ) → HasScopesInOrder t → IsCompiled choice t a
    → IsCompiled choice t b → a ≡ b
one_file choice t a b order of_a of_b =
    of_a.2.file ∙ ap file_bytes (one_parts choice t of_a.0 of_b.0 order of_a.1 of_b.1) ∙ sym of_b.2.file

pub accepted : (choice : WithContents) (t : MapTree) (bytes : List ℕ) → IsCompiled choice t bytes → IsAccepted bytes
accepted choice t bytes (p, is, file) = subst IsAccepted (sym file.file) (file_accepted p file.writable)

-- Sound files.

pub sound : (choice : WithContents) (t : MapTree) (bytes : List ℕ) → IsCompiled choice t bytes → IsSound bytes
sound choice t bytes (p, is, file) = subst IsSound (sym file.file) (sound_file p file.writable file.sound)

-- Answers.

pub answer_of : (choice : WithContents) (t : MapTree) (p : Parts) (answer : Result (List ℕ) CompileError)
    → ArePartsOf choice t p → FileAnswer p answer → CompileAnswer choice t answer
answer_of choice t p (Ok bytes) is file = (p, is, file)
answer_of choice t p (Err TooLarge) is large = (p, is, large)
answer_of choice t p (Err (Map OutOfMemory)) is memory = tt
answer_of choice t p (Err (Map _)) is other = absurd other

pub hermes_answer : (choice : WithContents) (h : HermesValue) (m : MapValue) (numbers : List ℕ) (names : List (List ℕ))
    (answer : Result (List ℕ) CompileError) → m ≡ h.map
    → (AreScopesInOrder h → (numbers ≡ scope_numbers h) × (names ≡ scope_names h))
    → FileAnswer (parts_with choice m numbers names) answer → CompileAnswer choice (leaf (hermes h)) answer
hermes_answer choice h m numbers names answer same scopes file =
    let plain = ap (λ n. parts_with choice n numbers names) same in
    answer_of choice (leaf (hermes h)) (parts_with choice m numbers names) answer (
      numbers,
      names,
      plain,
      λ order. plain ∙ ap (λ ns. parts_with choice h.map ns names) (scopes order).0
          ∙ ap (parts_with choice h.map (scope_numbers h)) (scopes order).1,
    ) file

-- `u` is the tree of the map, in other words than `t`
module _ (choice : WithContents) (t u : MapTree) (result : Result (Vec ℕ Global) CompileError) (same : u ≡ t)
    (answer : CompileAnswer choice t (bytes_in result)) where
  if_ok : (P : List ℕ → Type 0) → ((bytes : List ℕ) → IsCompiled choice t bytes → P bytes)
      → IfOk result (λ bytes. P bytes.items)
  if_ok P holds = by_case result answer
    where
      by_case : (r : Result (Vec ℕ Global) CompileError) → CompileAnswer choice t (bytes_in r)
          → IfOk r (λ bytes. P bytes.items)
      by_case (Ok bytes) is = holds bytes.items is
      by_case (Err e) is = tt

  pub answer_means : IfOk result (λ bytes. MeansTheSame u bytes.items)
  answer_means = rw same (if_ok (MeansTheSame t) (same_meaning choice t))

  pub answer_accepted : IfOk result (λ bytes. IsAccepted bytes.items)
  answer_accepted = if_ok IsAccepted (accepted choice t)

  pub answer_sound : IfOk result (λ bytes. IsSound bytes.items)
  answer_sound = if_ok IsSound (sound choice t)

  pub answer_like : (m : MapValue) → flat t ≡ Ok m → (IsOrderly t → FlatAnswersLike t m)
      → IfOk result (λ bytes. IsOrderly u → AnswersLike u bytes.items)
  answer_like m flattened alike =
      rw same (if_ok (λ bytes. IsOrderly t → AnswersLike t bytes)
      (λ bytes is orderly. like_flat choice t m bytes is flattened (alike orderly)))

-- a map without sections answers like itself
pub leaf_like : (l : LeafMap) → FlatAnswersLike (leaf l) (held l)
leaf_like l at = by_case (meaning (held l) at) refl
  where
    by_case : (o : Option Meaning) → meaning (held l) at ≡ o
        → IfSome (meaning_any (leaf l) at) (λ says. meaning (held l) at ≡ Some says)
    by_case None e = rw e tt
    by_case (Some says) e = rw e refl
