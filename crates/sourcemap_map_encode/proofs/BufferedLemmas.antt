-- Composing consecutive writes.
use Rattle.std.proofs.Common.{OnOk, Result, Ok, Err, ◌≡◌, ℕ, ◌+◌, suc, zero, List, [], ◌∷◌, ◌++◌, Option, Some, None}
use Rattle.std.proofs.Common.{replicate, sym, ap, subst, ◌∙◌, append_assoc, append-nil, zero-add, refl, arith}
use Rattle.std.specs.Io.KnownBytes.{Appends, append_known}
use Rattle.std.proofs.KnownBytes.{Appends-nil, Appends-trans}
use Rattle.sourcemap_map_encode.specs.Buffered.{Grows, GrowsBy}

pub append_known-none : (known : Option (List ℕ)) → append_known known [] ≡ known
append_known-none None = refl
append_known-none (Some xs) = ap Some (append-nil xs)

pub Grows-none : (held : Option (List ℕ)) (gathered : List ℕ) → Grows held gathered held gathered []
Grows-none held gathered = Appends-nil (append_known held gathered)

pub Grows-join : (h i j : Option (List ℕ)) (a b c s t : List ℕ) → Grows h a i b s → Grows i b j c t
    → Grows h a j c (s ++ t)
Grows-join h i j a b c s t x y = Appends-trans (append_known h a) (append_known i b) (append_known j c) s t x y

-- if `text` is appended to the buffer `a` and the writer does not change, both together grow by `text`
pub Grows-push : (held : Option (List ℕ)) (a text : List ℕ) → Grows held a held (a ++ text) text
Grows-push None a text = tt
Grows-push (Some xs) a text = sym (append_assoc xs a text)

-- if the writer grows by `text` and the buffer stays empty, both together grow by `text`
pub Grows-written : (h i : Option (List ℕ)) (text : List ℕ) → Appends h i text → Grows h [] i [] text
Grows-written None i text x = tt
Grows-written (Some xs) None text x = absurd x
Grows-written (Some xs) (Some ys) text x = append-nil ys ∙ x ∙ ap (λ r. r ++ text) (sym (append-nil xs))

next_of : (m n : ℕ) → suc (m + n) ≡ suc m + n
next_of m n = omega arith

pub more_copies : (m n x : ℕ) → replicate m x ++ replicate n x ≡ replicate (m + n) x
more_copies zero n x = ap (λ (k : ℕ). replicate k x) (sym (zero-add n))
more_copies (suc m) n x = ap (λ r. x ∷ r) (more_copies m n x) ∙ ap (λ (k : ℕ). replicate k x) (next_of m n)

pub OnOk-then : {T E : Type 0} (result : Result T E) (P Q : Type 0) → (P → Q) → OnOk result P → OnOk result Q
OnOk-then (Ok x) P Q f p = f p
OnOk-then (Err e) P Q f p = tt

-- if a write adds `text` and a flush then adds nothing, both steps together add `text`
pub Grows-flushed : (h i j : Option (List ℕ)) (a b c text : List ℕ) → Grows h a i b text → Grows i b j c []
    → Grows h a j c text
Grows-flushed h i j a b c text x y =
    subst (λ (t : List ℕ). Grows h a j c t) (append-nil text) (Grows-join h i j a b c text [] x y)

-- as `Grows-push`, for a new buffer `b` that equals `a ++ text`
pub Grows-into : (held : Option (List ℕ)) (a b text : List ℕ) → b ≡ a ++ text → Grows held a held b text
Grows-into held a b text is = subst (λ (r : List ℕ). Grows held a held r text) (sym is) (Grows-push held a text)

pub OnOk-any : {T E : Type 0} (result : Result T E) (P : Type 0) → P → OnOk result P
OnOk-any (Ok x) P p = p
OnOk-any (Err e) P p = tt

-- if the writer and the buffer together grow by `s`, then by `t`, and then by `u`, the three steps together append `s
-- ++ (t ++ (u ++ []))`. `parts_text` joins the texts of three entries in this form
pub Grows-three : (h i j k : Option (List ℕ)) (a b c d s t u : List ℕ) → Grows h a i b s → Grows i b j c t
    → Grows j c k d u → Grows h a k d (s ++ (t ++ (u ++ [])))
Grows-three h i j k a b c d s t u x y z =
    subst (λ (r : List ℕ). Grows h a k d (s ++ (t ++ r))) (sym (append-nil u))
    (Grows-join h i k a b d s (t ++ u) x (Grows-join i j k b c d t u y z))

-- if the buffer is empty before and after, the writer itself grew by the text
pub Grows-bare : (h i : Option (List ℕ)) (b text : List ℕ) → b ≡ [] → Grows h [] i b text → Appends h i text
Grows-bare h i b text empty x =
    let none : Grows h [] i [] text = subst (λ (r : List ℕ). Grows h [] i r text) empty x in
    subst (λ (known : Option (List ℕ)). Appends known i text) (append_known-none h)
    (subst (λ (known : Option (List ℕ)). Appends (append_known h []) known text) (append_known-none i) none)

pub OnOk-both : {T E : Type 0} (result : Result T E) (P Q R : Type 0) → (P → Q → R) → OnOk result P → OnOk result Q
    → OnOk result R
OnOk-both (Ok x) P Q R f p q = f p q
OnOk-both (Err e) P Q R f p q = tt

-- bytes that wait behind the buffer do not change what a write adds
pub Grows-behind : (h i : Option (List ℕ)) (a b behind : List ℕ) → Grows h a i b []
    → Grows h (a ++ behind) i (b ++ behind) []
Grows-behind None i a b behind x = tt
Grows-behind (Some xs) None a b behind x = absurd x
Grows-behind (Some xs) (Some ys) a b behind x =
    sym (append_assoc ys b behind) ∙ ap (λ r. r ++ behind) (x ∙ append-nil (xs ++ a)) ∙ append_assoc xs a behind
    ∙ sym (append-nil (xs ++ (a ++ behind)))

-- as `Grows-flushed`, for some text that satisfies `IsText`
pub GrowsBy-flushed : (IsText : List ℕ → Type 0) (h i j : Option (List ℕ)) (a b c : List ℕ) → GrowsBy IsText h a i b
    → Grows i b j c [] → GrowsBy IsText h a j c
GrowsBy-flushed IsText h i j a b c (text, is, x) y = (text, is, Grows-flushed h i j a b c text x y)
