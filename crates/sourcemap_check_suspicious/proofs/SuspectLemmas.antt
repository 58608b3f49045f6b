-- What looks wrong, as it is added to a list.
use Rattle.std.proofs.Common.{◌≡◌, ℕ, ◌+◌, ◌<◌, ◌≤◌, List, [], ◌∷◌, ◌++◌, map, take, length, flat_map, get_or, min, Option}
use Rattle.std.proofs.Common.{◌≢◌, Result, Ok, Err, IfOk, MatchResult, sym, ap, ◌∙◌, refl, append_assoc, length-append, arith}
use Rattle.std.proofs.lemmas.List.{map_more, take_more, take-map, length-map, take_all, flat_map_more, append-nil}
use Rattle.sourcemap_errors.specs.Answer.{UnlessMemory}
use Rattle.sourcemap_errors.specs.declared.errors.Error.{Error}
use Rattle.sourcemap_errors.specs.declared.errors.Error.TheVariants.{OutOfMemory}
use Rattle.sourcemap_records.specs.Bytes.{BytesHaveResult}
use Rattle.sourcemap_check_suspicious.specs.Reading.{TextMapDecodes, TextMapValue}
use Rattle.sourcemap_check_suspicious.specs.declared.suspects.Suspect.{Suspect}
use Rattle.sourcemap_check_suspicious.specs.declared.suspects.Suspects.{Suspects}
use Rattle.sourcemap_check_suspicious.specs.declared.suspects.Suspicious.{Suspicious}
use Rattle.sourcemap_check_suspicious.specs.declared.suspects.Suspicion.{Suspicion}
use Rattle.sourcemap_check_suspicious.specs.declared.suspects.TheConstants.{SUSPICIONS}
use Rattle.sourcemap_check_suspicious.specs.Suspects.{Adds, AreSuspects, Files, HasNone, LooksWrong, LooksWrongOf, suspects_of}

-- let `now` be `old` and the images of the first items, and `new` be `now` and the image of the next item
pub one_more : {X Y : Type 0} (f : X → Y) (items : List X) (i : ℕ) (d : X) (old now new : List Y)
    → i < length items → now ≡ old ++ map f (take i items) → new ≡ now ++ f (get_or items i d) ∷ []
    → new ≡ old ++ map f (take (i + 1) items)
one_more f items i d old now new within is more =
    more ∙ ap (λ xs. xs ++ f (get_or items i d) ∷ []) is
    ∙ append_assoc old (map f (take i items)) (f (get_or items i d) ∷ [])
    ∙ ap (λ xs. old ++ xs) (sym (map_more f items i d within))

-- the same for lists of images
one_list_more : {X Y : Type 0} (f : X → List Y) (items : List X) (i : ℕ) (d : X) → i < length items
    → flat_map f (take i items) ++ f (get_or items i d) ≡ flat_map f (take (i + 1) items)
one_list_more f items i d within =
    flat_map_more f [] (take i items) (get_or items i d) ∙ ap (flat_map f) (sym (take_more items i d within))

-- a count that stops, raised by a count that stops
pub stopped_sum : (a b : ℕ) → min (a + min b 18446744073709551615) 18446744073709551615
    ≡ min (a + b) 18446744073709551615
stopped_sum a b = omega arith

stopped_sum_left : (a b : ℕ) → min (min a 18446744073709551615 + b) 18446744073709551615
    ≡ min (a + b) 18446744073709551615
stopped_sum_left a b = omega arith

-- the images of the items that are shown are added, and all items are counted
pub adds_images : {X : Type 0} (f : X → Suspect) (most : ℕ) (all shown : List X) (old new : Suspects)
    → shown ≡ take most all → new.first.items ≡ old.first.items ++ map f shown
    → (old.count ≤ 18446744073709551615 → new.count ≡ min (old.count + length all) 18446744073709551615)
    → Adds most (map f all) old new
adds_images f most all shown old new are first count = record {
  first = first ∙ ap (λ xs. old.first.items ++ map f xs) are ∙ ap (λ xs. old.first.items ++ xs) (sym (take-map f most all));
  count = λ small. count small ∙ ap (λ n. min (old.count + n) 18446744073709551615) (sym (length-map all f));
}

pub adds_nothing : (most : ℕ) (found : Suspects) → Adds most [] found found
adds_nothing most found = record {
  first = sym (append-nil found.first.items)
      ∙ ap (λ xs. found.first.items ++ xs) (sym (take_all most [] (omega arith)));
  count = λ small. omega (arith, small);
}

-- the first kinds
pub record SuspectsSoFar (most : ℕ) (m : TextMapValue) (generated name : Option (List ℕ)) (files : Files) (i : ℕ) (found : Suspects) : Type 0 where
  pub first : found.first.items
      ≡ flat_map (λ suspicion. take most (suspects_of suspicion m generated name files)) (take i SUSPICIONS)
  pub count : found.count
      ≡ min (length (flat_map (λ suspicion. suspects_of suspicion m generated name files) (take i SUSPICIONS))) 18446744073709551615

pub SuspectsSoFar-none : (most : ℕ) (m : TextMapValue) (generated name : Option (List ℕ)) (files : Files) (found : Suspects)
    → found.first.items ≡ [] → found.count ≡ 0 → SuspectsSoFar most m generated name files 0 found
SuspectsSoFar-none most m generated name files found items count = record { first = items; count = count }

pub SuspectsSoFar-more : (most : ℕ) (m : TextMapValue) (generated name : Option (List ℕ)) (files : Files) (i : ℕ) (suspicion : Suspicion)
    (old new : Suspects) → i < length SUSPICIONS → suspicion ≡ get_or SUSPICIONS i suspicion
    → SuspectsSoFar most m generated name files i old → Adds most (suspects_of suspicion m generated name files) old new
    → SuspectsSoFar most m generated name files (i + 1) new
SuspectsSoFar-more most m generated name files i suspicion old new within at so_far adds =
    let all : Suspicion → List Suspect = λ s. suspects_of s m generated name files in
    let shown : Suspicion → List Suspect = λ s. take most (suspects_of s m generated name files) in
    let counted = so_far.count in
    let small : old.count ≤ 18446744073709551615 = omega (arith, counted) in
    record {
      first = adds.first ∙ ap (λ xs. xs ++ shown suspicion) so_far.first
          ∙ ap (λ s. flat_map shown (take i SUSPICIONS) ++ shown s) at
          ∙ one_list_more shown SUSPICIONS i suspicion within;
      count = adds.count small ∙ ap (λ n. min (n + length (all suspicion)) 18446744073709551615) so_far.count
          ∙ stopped_sum_left (length (flat_map all (take i SUSPICIONS))) (length (all suspicion))
          ∙ ap (λ n. min n 18446744073709551615) (sym (length-append (flat_map all (take i SUSPICIONS)) (all suspicion)))
          ∙ ap (λ s. min (length (flat_map all (take i SUSPICIONS) ++ all s)) 18446744073709551615) at
          ∙ ap (λ xs. min (length xs) 18446744073709551615) (one_list_more all SUSPICIONS i suspicion within);
    }

pub SuspectsSoFar-all : (most : ℕ) (m : TextMapValue) (generated name : Option (List ℕ)) (files : Files) (i : ℕ) (found : Suspects)
    → SuspectsSoFar most m generated name files i found → length SUSPICIONS ≤ i → AreSuspects most m generated name files found
SuspectsSoFar-all most m generated name files i found so_far past =
    let whole = take_all i SUSPICIONS past in
    record {
      first = so_far.first
          ∙ ap (flat_map (λ suspicion. take most (suspects_of suspicion m generated name files))) whole;
      count = so_far.count
          ∙ ap (λ ks. min (length (flat_map (λ suspicion. suspects_of suspicion m generated name files) ks)) 18446744073709551615) whole;
    }

with_memory : (e : Error) (P : Type 0) → e ≢ OutOfMemory → UnlessMemory e P → P
with_memory OutOfMemory P is h = absurd (is refl)
with_memory _ P is h = h

-- what looks wrong in a decoded map does so in its bytes
pub read : (most : ℕ) (bytes : List ℕ) (generated name : Option (List ℕ)) (files : Files) (m : TextMapValue) (r : Result Suspicious Error)
    → BytesHaveResult TextMapDecodes bytes (Ok m) → IfOk r (LooksWrong most m generated name files)
    → IfOk r (LooksWrongOf most bytes generated name files)
read most bytes generated name files m (Ok found) decodes wrong = (Ok m, decodes, wrong)
read most bytes generated name files m (Err e) decodes wrong = tt

-- and nothing does in bytes that are not decoded
pub unread : (most : ℕ) (bytes : List ℕ) (generated name : Option (List ℕ)) (files : Files) (e : Error) (r : Result Suspicious Error)
    → UnlessMemory e (BytesHaveResult TextMapDecodes bytes (Err e))
    → MatchResult r (λ found. (e ≢ OutOfMemory) × HasNone found) (λ f. f ≡ OutOfMemory)
    → IfOk r (LooksWrongOf most bytes generated name files)
unread most bytes generated name files e (Ok found) fails (other, none) =
    (Err e, with_memory e (BytesHaveResult TextMapDecodes bytes (Err e)) other fails, none)
unread most bytes generated name files e (Err f) fails is = tt
