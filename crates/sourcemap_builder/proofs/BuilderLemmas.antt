-- Texts of which some are replaced.
use Rattle.std.proofs.Common.{◌≡◌, ℕ, zero, suc, ◌+◌, ◌<◌, ◌≤◌, List, [], ◌∷◌, ◌++◌, length, take, replicate, map}
use Rattle.std.proofs.Common.{Option, Some, None, unwrap_or, slice_get, slice_set, refl, ap, arith, option_and_then}
use Rattle.std.proofs.Common.{is_some, cond, true, false, Result, Ok, Err, IfOk, OnOk, add-one, sym, ◌∙◌}
use Rattle.std.proofs.lemmas.List.{length-map, take_all}
use Rattle.std.proofs.lemmas.Option.{slice_get_within}
use Rattle.std.specs.Option.{option_or}
use Rattle.sourcemap_errors.specs.declared.errors.Error.{Error}
use Rattle.sourcemap_interning.specs.Interner.{id_of, with_text}
use Rattle.sourcemap_builder.specs.Builder.{with_changes}
use Rattle.sourcemap_map_parts.specs.Contents.{fitted}
use Rattle.sourcemap_map_parts.proofs.ContentsLemmas.{length-fitted}

-- if `cs` is not longer than `ts`, no change applies to the texts `us` that are appended to `ts`
pub with_changes-append : (cs : List (Option (List ℕ))) (ts us : List (List ℕ)) → length cs ≤ length ts
    → with_changes cs (ts ++ us) ≡ with_changes cs ts ++ us
with_changes-append [] [] [] h = refl
with_changes-append [] [] (u ∷ us) h = refl
with_changes-append [] (t ∷ ts) us h = refl
with_changes-append (c ∷ cs) [] us h = absurd (omega arith)
with_changes-append (c ∷ cs) (t ∷ ts) us h =
    ap (λ rest. unwrap_or c t ∷ rest) (with_changes-append cs ts us (omega arith))

pub length-with_changes : (cs : List (Option (List ℕ))) (ts : List (List ℕ)) → length (with_changes cs ts) ≡ length ts
length-with_changes cs [] = refl
length-with_changes [] (t ∷ ts) = refl
length-with_changes (c ∷ cs) (t ∷ ts) = ap suc (length-with_changes cs ts)

with_changes-filled : (cs : List (Option (List ℕ))) (ts : List (List ℕ)) (n k : ℕ) → length ts ≤ n → n ≤ k
    → with_changes (take n (cs ++ replicate k None)) ts ≡ with_changes cs ts
with_changes-filled cs [] n k h g = refl
with_changes-filled cs (t ∷ ts) zero k h g = absurd (omega arith)
with_changes-filled [] (t ∷ ts) (suc n) zero h g = absurd (omega arith)
with_changes-filled [] (t ∷ []) (suc n) (suc k) h g = refl
with_changes-filled [] (t ∷ u ∷ us) (suc n) (suc k) h g =
    ap (λ rest. t ∷ rest) (with_changes-filled [] (u ∷ us) n k (omega arith) (omega arith))
with_changes-filled (c ∷ cs) (t ∷ ts) (suc n) k h g =
    ap (λ rest. unwrap_or c t ∷ rest) (with_changes-filled cs ts n k (omega arith) (omega arith))

pub with_changes-set : (cs : List (Option (List ℕ))) (ts : List (List ℕ)) (i : ℕ) (x : List ℕ) → i < length cs
    → with_changes (slice_set cs i (Some x)) ts ≡ slice_set (with_changes cs ts) i x
with_changes-set [] ts i x h = absurd (omega arith)
with_changes-set (c ∷ cs) [] i x h = refl
with_changes-set (c ∷ cs) (t ∷ ts) zero x h = refl
with_changes-set (c ∷ cs) (t ∷ ts) (suc i) x h =
    ap (λ rest. unwrap_or c t ∷ rest) (with_changes-set cs ts i x (omega arith))

-- let `i` be an index of `ts`. If the list of changes `cs` is cut or filled to the length of `ts`, and the change at
-- `i` is then set to `x`, the changed texts are `with_changes cs ts` with the text at `i` set to `x`
pub with_changes-put : (cs : List (Option (List ℕ))) (ts : List (List ℕ)) (i : ℕ) (x : List ℕ) → i < length ts
    → length (fitted (length ts) cs) ≡ length ts
    → with_changes (slice_set (fitted (length ts) cs) i (Some x)) ts ≡ slice_set (with_changes cs ts) i x
with_changes-put cs ts i x h full =
    with_changes-set (fitted (length ts) cs) ts i x (omega (arith, full))
    ∙ ap (λ current. slice_set current i x)
    (with_changes-filled cs ts (length ts) (length ts) (omega arith) (omega arith))

-- if `cs` is not longer than `ts`: the text of `with_changes cs ts` at `i` is the text of `cs` at `i`, if `cs` has one,
-- otherwise the text of `ts` at `i`
pub slice_get-with_changes : (cs : List (Option (List ℕ))) (ts : List (List ℕ)) (i : ℕ) → length cs ≤ length ts
    → slice_get (with_changes cs ts) i ≡ option_or (option_and_then (λ text. text) (slice_get cs i)) (slice_get ts i)
slice_get-with_changes [] [] zero h = refl
slice_get-with_changes [] [] (suc i) h = refl
slice_get-with_changes [] (t ∷ ts) zero h = refl
slice_get-with_changes [] (t ∷ ts) (suc i) h = refl
slice_get-with_changes (c ∷ cs) [] i h = absurd (omega arith)
slice_get-with_changes (None ∷ cs) (t ∷ ts) zero h = refl
slice_get-with_changes (Some x ∷ cs) (t ∷ ts) zero h = refl
slice_get-with_changes (c ∷ cs) (t ∷ ts) (suc i) h = slice_get-with_changes cs ts i (omega arith)

-- if there are at most as many changes as texts: adding a new text appends it to the changed texts, and no change
-- applies to it. Adding a text that is already one of the texts has no effect
pub with_changes-with_text : (cs : List (Option (List ℕ))) (ts : List (List ℕ)) (t : List ℕ) → length cs ≤ length ts
    → with_changes cs (with_text ts t) ≡ cond (is_some (id_of t ts)) (with_changes cs ts) (with_changes cs ts ++ t ∷ [])
with_changes-with_text cs ts t h =
    elim (is_some (id_of t ts))
    as (λ b. with_changes cs (cond b ts (ts ++ t ∷ [])) ≡ cond b (with_changes cs ts) (with_changes cs ts ++ t ∷ []))
    [ true ↦ refl | false ↦ with_changes-append cs ts (t ∷ []) h ]

pub on_ok : {X E P Q : Type 0} (r : Result X E) → (P → Q) → OnOk r P → OnOk r Q
on_ok (Ok x) f h = f h
on_ok (Err e) f h = h

-- an id of a text is below the number of texts
pub below-count : (r : Result ℕ Error) (texts : List (List ℕ)) (text : List ℕ)
    → IfOk r (λ id. slice_get texts id ≡ Some text)
    → IfOk r (λ id. id < length texts)
below-count (Ok id) texts text h = slice_get_within texts id text h
below-count (Err e) texts text h = h

-- a `None` at the end of the changes replaces nothing
pub with_changes-kept : (cs : List (Option (List ℕ))) (ts : List (List ℕ))
    → with_changes cs ts ≡ with_changes (cs ++ None ∷ []) ts
with_changes-kept cs [] = refl
with_changes-kept [] (t ∷ []) = refl
with_changes-kept [] (t ∷ u ∷ us) = refl
with_changes-kept (c ∷ cs) (t ∷ ts) = ap (λ rest. unwrap_or c t ∷ rest) (with_changes-kept cs ts)

-- if `i` is the length of `cs` and an index of `ts`: appending `Some x` to `cs` acts like setting `ts` at `i` to `x`
pub with_changes-last : (cs : List (Option (List ℕ))) (ts : List (List ℕ)) (i : ℕ) (x : List ℕ) → length cs ≡ i
    → i < length ts
    → with_changes cs (slice_set ts i x) ≡ with_changes (cs ++ Some x ∷ []) ts
with_changes-last cs [] i x e h = absurd (omega arith)
with_changes-last [] (t ∷ []) zero x e h = refl
with_changes-last [] (t ∷ u ∷ us) zero x e h = refl
with_changes-last [] (t ∷ ts) (suc i) x e h = absurd (omega arith)
with_changes-last (c ∷ cs) (t ∷ ts) zero x e h = absurd (omega arith)
with_changes-last (c ∷ cs) (t ∷ ts) (suc i) x e h =
    ap (λ rest. unwrap_or c t ∷ rest) (with_changes-last cs ts i x (omega arith) (omega arith))

pub with_changes-nothing : (ts : List (List ℕ)) → with_changes [] ts ≡ ts
with_changes-nothing [] = refl
with_changes-nothing (t ∷ ts) = refl

pub current-put : (cs new : List (Option (List ℕ))) (ts : List (List ℕ)) (i count : ℕ) (x y : List ℕ)
    → count ≡ length ts → x ≡ y → i < length ts
    → new ≡ slice_set (fitted count cs) i (Some x) → with_changes new ts ≡ slice_set (with_changes cs ts) i y
current-put cs new ts i count x y ec ex h e =
    ap (λ n. with_changes n ts) e
    ∙ ap (λ n. with_changes (slice_set (fitted n cs) i (Some x)) ts) ec
    ∙ with_changes-put cs ts i x h (length-fitted cs (length ts))
    ∙ ap (λ z. slice_set (with_changes cs ts) i z) ex

pub contents-put : (cs new : List (Option (List ℕ))) (count n i : ℕ) (x : Option (List ℕ)) → count ≡ n
    → new ≡ slice_set (fitted count cs) i x → new ≡ slice_set (fitted n cs) i x
contents-put cs new count n i x ec e = cc

pub here-too : (cs : List (Option (List ℕ))) (ts : List (List ℕ)) (i count : ℕ) → i < length (with_changes cs ts)
    → count ≡ length ts → i < count
here-too cs ts i count h e = omega (arith, length-with_changes cs ts)

pub nothing-changed : (cs : List (Option (List ℕ))) (ts : List (List ℕ)) → length cs ≡ 0 → with_changes cs ts ≡ ts
nothing-changed [] ts e = with_changes-nothing ts
nothing-changed (c ∷ cs) ts e = absurd (omega arith)

-- if `ts` has `t` at `i`: the text of `with_changes cs ts` at `i` is the text of `cs` at `i`, or `t` if `cs` has none
current-at : (cs : List (Option (List ℕ))) (ts : List (List ℕ)) (i : ℕ) (t : List ℕ) → slice_get ts i ≡ Some t
    → slice_get (with_changes cs ts) i ≡ Some (unwrap_or (option_and_then (λ text. text) (slice_get cs i)) t)
current-at cs [] i t e = cc
current-at [] (u ∷ us) zero t e = e
current-at [] (u ∷ us) (suc i) t e = e
current-at (c ∷ cs) (u ∷ us) zero t e = let same : u ≡ t = cc in rw same refl
current-at (c ∷ cs) (u ∷ us) (suc i) t e = current-at cs us i t e

module _ (f : List ℕ → List ℕ) where
  further : (news : List (Option (List ℕ))) (ts current : List (List ℕ)) (i : ℕ) (new : Option (List ℕ)) (t s : List ℕ)
      → length news ≡ i → slice_get ts i ≡ Some t → slice_get current i ≡ Some s → unwrap_or new t ≡ f s
      → with_changes news (take i ts) ≡ take i (map f current)
      → with_changes (news ++ new ∷ []) (take (suc i) ts) ≡ take (suc i) (map f current)
  further news [] current i new t s many at here is h = cc
  further news (u ∷ us) [] i new t s many at here is h = cc
  further [] (u ∷ us) (v ∷ vs) zero new t s many at here is h =
      let a : u ≡ t = cc in
      let b : v ≡ s = cc in
      rw (a, b) (ap (λ x. x ∷ []) is)
  further [] (u ∷ us) (v ∷ vs) (suc i) new t s many at here is h = absurd (omega arith)
  further (c ∷ cs) (u ∷ us) (v ∷ vs) zero new t s many at here is h = absurd (omega arith)
  further (c ∷ cs) (u ∷ us) (v ∷ vs) (suc i) new t s many at here is h =
      let first : unwrap_or c u ≡ f v = cc in
      let rest : with_changes cs (take i us) ≡ take i (map f vs) = cc in
      let more = further cs us vs i new t s (omega arith) at here is rest in
      cc

  -- the wanted texts are the results of `f` for the texts of `with_changes olds ts`. If the `i` changes `news` make the
  -- first `i` wanted texts from `ts`, and `new` makes the wanted text at `i`, then `news` and `new` together make the
  -- first `i + 1` wanted texts
  pub with_changes-further : (news olds : List (Option (List ℕ))) (ts : List (List ℕ)) (i : ℕ) (new : Option (List ℕ))
      (t : List ℕ)
      → length news ≡ i → slice_get ts i ≡ Some t
      → unwrap_or new t ≡ f (unwrap_or (option_and_then (λ text. text) (slice_get olds i)) t)
      → with_changes news (take i ts) ≡ take i (map f (with_changes olds ts))
      → with_changes (news ++ new ∷ []) (take (i + 1) ts) ≡ take (i + 1) (map f (with_changes olds ts))
  with_changes-further news olds ts i new t many at is h =
      rw add-one (further news ts (with_changes olds ts) i new t _ many at (current-at olds ts i t at) is h)

  -- if `ts` has at most `i` texts, and the changes `news` make the first `i` wanted texts from `ts`, then `news` makes
  -- all wanted texts from `ts`
  pub with_changes-through : (news olds : List (Option (List ℕ))) (ts : List (List ℕ)) (i : ℕ) → length ts ≤ i
      → with_changes news (take i ts) ≡ take i (map f (with_changes olds ts))
      → map f (with_changes olds ts) ≡ with_changes news ts
  with_changes-through news olds ts i past h =
      let many : length (map f (with_changes olds ts)) ≤ i = rw (length-map, length-with_changes olds ts) past in
      rw (take_all i ts past, take_all i (map f (with_changes olds ts)) many) at (sym h)
