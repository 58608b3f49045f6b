-- Lists that are cut or filled to a length.
use Rattle.std.proofs.Common.{◌≡◌, ℕ, zero, suc, ◌+◌, ◌≤◌, List, [], ◌∷◌, ◌++◌, length, take, replicate, map, refl, ap}
use Rattle.std.proofs.Common.{sym, ◌∙◌, append_assoc, add_comm, arith, length-append, Option, None, option_map}
use Rattle.std.proofs.Common.{slice_set}
use Rattle.std.proofs.lemmas.List.{replicate-append-replicate, take-append-le, take-map, map-append, map-set}
use Rattle.std.proofs.lemmas.List.{length-replicate}
use Rattle.sourcemap_map_parts.specs.Contents.{fitted}

-- once a list is filled to `n` items or more, further fill does not change its first `n`
filled : {X : Type 0} (n k m : ℕ) (xs : List X) (x : X) → n ≤ length xs + k
    → take n (xs ++ replicate (k + m) x) ≡ take n (xs ++ replicate k x)
filled n k m xs x h =
    let enough : n ≤ length (xs ++ replicate k x) =
    omega (arith, length-append xs (replicate k x), length-replicate k x) in
    rw (← (replicate-append-replicate k m x), ← append_assoc)
    (take-append-le n (xs ++ replicate k x) (replicate m x) enough)

either_filled : {X : Type 0} (n k : ℕ) (xs : List X) (x : X) → n ≤ length xs + k
    → take n (xs ++ replicate k x) ≡ take n (xs ++ replicate n x)
either_filled n k xs x h =
    sym (filled n k n xs x h) ∙ ap (λ c. take n (xs ++ replicate c x)) (add_comm k n) ∙ filled n n k xs x (omega arith)

pub fitted-filled : {X : Type 0} (count k : ℕ) (old new : List (Option X)) → count ≤ length old + k
    → new ≡ take count (old ++ replicate k None) → new ≡ fitted count old
fitted-filled count k old new h e = e ∙ either_filled count k old None h

-- let `now` be `old` with `k` `None` items appended. If `next` is `now` with one more `None` appended, then `next` is
-- `old` with `k + 1` `None` items appended
pub filled-push : {X : Type 0} (k : ℕ) (old now next : List (Option X)) → now ≡ old ++ replicate k None
    → next ≡ now ++ None ∷ []
    → next ≡ old ++ replicate (k + 1) None
filled-push k old now next e f =
    rw (f, e, append_assoc) (ap (λ rest. old ++ rest) (replicate-append-replicate k 1 None))

-- a function can be applied to each item before or after the list is cut or filled, with the same result

map-replicate : {X Y : Type 0} (g : X → Y) (n : ℕ) → map (option_map g) (replicate n None) ≡ replicate n None
map-replicate g zero = refl
map-replicate g (suc n) = ap (λ rest. None ∷ rest) (map-replicate g n)

pub map-fitted : {X Y : Type 0} (g : X → Y) (count : ℕ) (items : List (Option X))
    → map (option_map g) (fitted count items) ≡ fitted count (map (option_map g) items)
map-fitted g count items =
    sym (take-map (option_map g) count (items ++ replicate count None))
    ∙ ap (take count) (map-append (option_map g) items (replicate count None)
    ∙ ap (λ rest. map (option_map g) items ++ rest) (map-replicate g count))

pub map-put : {X Y : Type 0} (g : X → Y) (count index : ℕ) (item : Option X) (old new : List (Option X))
    → new ≡ slice_set (fitted count old) index item
    → map (option_map g) new ≡ slice_set (fitted count (map (option_map g) old)) index (option_map g item)
map-put g count index item old new e =
    ap (map (option_map g)) e
    ∙ map-set (option_map g) (fitted count old) index item
    ∙ ap (λ items. slice_set items index (option_map g item)) (map-fitted g count old)
