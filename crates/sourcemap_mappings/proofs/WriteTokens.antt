-- How a token that is appended changes the tokens of each line, and the list without repeats.
use Rattle.std.proofs.Common.{◌≡◌, ◌≢◌, ℕ, ◌+◌, ◌<◌, ◌≤◌, Bool, true, false, cond, List, [], ◌∷◌, ◌++◌}
use Rattle.std.proofs.Common.{filter, Option, Some, None, refl, sym, ap, subst, ◌∙◌, ⊎_elim, append-nil, arith}
use Rattle.std.specs.List.{last_or, AllByRecursion}
use Rattle.std.specs.Option.{option_map_or}
use Rattle.std.proofs.lemmas.List.Elements.{filter-append}
use Rattle.std.proofs.lemmas.Bool.{cases_lt, cases_eq, lt-ltb, le-ltb, eq-eqb, ne_eqb}
use Rattle.std.proofs.lemmas.Bool.Decides.{nat_tests}
use Rattle.sourcemap_tokens.specs.declared.tokens.RawToken.{RawToken}
use Rattle.sourcemap_tokens.specs.Tokens.{are_same, changes_after, without_repeats}
use Rattle.sourcemap_mappings.specs.Write.{is_on, is_above, last_field}
use Rattle.sourcemap_mappings.specs.WriteSteps.{repeats}

-- Ends of lists.

pub last_or-push : {A : Type 0} (o : Option A) (xs : List A) (x : A) → last_or o (xs ++ x ∷ []) ≡ Some x
last_or-push o [] x = refl
last_or-push o (y ∷ ys) x = last_or-push (Some y) ys x

pub filter_push : {A : Type 0} (p : A → Bool) (xs : List A) (x : A)
    → filter p (xs ++ x ∷ []) ≡ filter p xs ++ cond (p x) (x ∷ []) []
filter_push p xs x = filter-append p xs (x ∷ [])

pub filter_push_no : {A : Type 0} (p : A → Bool) (xs : List A) (x : A) → p x ≡ false
    → filter p (xs ++ x ∷ []) ≡ filter p xs
filter_push_no p xs x e = filter_push p xs x ∙ ap (λ b. filter p xs ++ cond b (x ∷ []) []) e ∙ append-nil (filter p xs)

pub filter_push_yes : {A : Type 0} (p : A → Bool) (xs : List A) (x : A) → p x ≡ true
    → filter p (xs ++ x ∷ []) ≡ filter p xs ++ x ∷ []
filter_push_yes p xs x e = filter_push p xs x ∙ ap (λ b. filter p xs ++ cond b (x ∷ []) []) e

pub last_field-push_no : (p : RawToken → Bool) (f : RawToken → ℕ) (xs : List RawToken) (x : RawToken) → p x ≡ false
    → last_field p f (xs ++ x ∷ []) ≡ last_field p f xs
last_field-push_no p f xs x e = ap (λ ys. option_map_or f (last_or None ys) 0) (filter_push_no p xs x e)

pub last_field-push_yes : (p : RawToken → Bool) (f : RawToken → ℕ) (xs : List RawToken) (x : RawToken) → p x ≡ true
    → last_field p f (xs ++ x ∷ []) ≡ f x
last_field-push_yes p f xs x e =
    ap (λ ys. option_map_or f (last_or None ys) 0) (filter_push_yes p xs x e)
    ∙ ap (λ o. option_map_or f o 0) (last_or-push None (filter p xs) x)

-- Lists without repeats.

last_from : RawToken → List RawToken → RawToken
last_from p [] = p
last_from p (x ∷ xs) = last_from x xs

last_or_from : (p : RawToken) (xs : List RawToken) → last_or (Some p) xs ≡ Some (last_from p xs)
unfolding last_from
last_or_from p [] = refl
last_or_from p (x ∷ xs) = last_or_from x xs

cons_unless : (b : Bool) (x : RawToken) (xs ys : List RawToken)
    → cond b (xs ++ ys) (x ∷ (xs ++ ys)) ≡ cond b xs (x ∷ xs) ++ ys
cons_unless true x xs ys = refl
cons_unless false x xs ys = refl

changes_after-push : (p : RawToken) (xs : List RawToken) (t : RawToken)
    → changes_after p (xs ++ t ∷ []) ≡ changes_after p xs ++ cond (are_same t (last_from p xs)) [] (t ∷ [])
unfolding last_from
changes_after-push p [] t = refl
changes_after-push p (x ∷ xs) t =
    let more = cond (are_same t (last_from x xs)) [] (t ∷ []) in
    ap (λ ys. cond (are_same x p) ys (x ∷ ys)) (changes_after-push x xs t)
    ∙ cons_unless (are_same x p) x (changes_after x xs) more

without_repeats-push : (xs : List RawToken) (t : RawToken)
    → without_repeats (xs ++ t ∷ []) ≡ without_repeats xs ++ cond (repeats (last_or None xs) t) [] (t ∷ [])
without_repeats-push [] t = refl
without_repeats-push (x ∷ xs) t =
    ap (λ ys. x ∷ ys) (changes_after-push x xs t)
    ∙ ap (λ o. x ∷ (changes_after x xs ++ cond (repeats o t) [] (t ∷ []))) (sym (last_or_from x xs))

pub without_repeats-repeat : (xs : List RawToken) (t : RawToken) → repeats (last_or None xs) t ≡ true
    → without_repeats (xs ++ t ∷ []) ≡ without_repeats xs
without_repeats-repeat xs t e =
    without_repeats-push xs t ∙ ap (λ b. without_repeats xs ++ cond b [] (t ∷ [])) e ∙ append-nil (without_repeats xs)

pub without_repeats-more : (xs : List RawToken) (t : RawToken) → repeats (last_or None xs) t ≡ false
    → without_repeats (xs ++ t ∷ []) ≡ without_repeats xs ++ t ∷ []
without_repeats-more xs t e = without_repeats-push xs t ∙ ap (λ b. without_repeats xs ++ cond b [] (t ∷ [])) e

pub same_line : (t p : RawToken) → are_same t p ≡ true → t.dst_line ≡ p.dst_line
same_line t p e = grind (arith, nat_tests)

-- Lines.

-- no token is after line n
abbrev pub UpTo : ℕ → List RawToken → Type 0
UpTo n ts = AllByRecursion (λ t. t.dst_line ≤ n) ts

-- no token is above line n
abbrev pub From : ℕ → List RawToken → Type 0
From n ts = AllByRecursion (λ t. n ≤ t.dst_line) ts

-- lines never decrease
abbrev pub Rises : List RawToken → Type 0
Rises [] = Unit {0}
Rises (t ∷ ts) = From t.dst_line ts × Rises ts

pub all_push : (P : RawToken → Type 0) (xs : List RawToken) (x : RawToken) → AllByRecursion P xs → P x
    → AllByRecursion P (xs ++ x ∷ [])
all_push P [] x all px = (px, tt)
all_push P (y ∷ ys) x all px = (all.0, all_push P ys x all.1 px)

pub all_weaker : (P Q : RawToken → Type 0) → ((t : RawToken) → P t → Q t) → (xs : List RawToken) → AllByRecursion P xs
    → AllByRecursion Q xs
all_weaker P Q f [] all = tt
all_weaker P Q f (x ∷ xs) all = (f x all.0, all_weaker P Q f xs all.1)

pub Rises-push : (xs : List RawToken) (t : RawToken) → Rises xs → UpTo t.dst_line xs → Rises (xs ++ t ∷ [])
Rises-push [] t r u = (tt, tt)
Rises-push (x ∷ xs) t r u = (all_push (λ s. x.dst_line ≤ s.dst_line) xs t r.0 u.0, Rises-push xs t r.1 u.1)

keeps : (p : RawToken → Bool) (t : RawToken) (ts : List RawToken) → p t ≡ true → filter p (t ∷ ts) ≡ t ∷ filter p ts
keeps p t ts e = ap (λ b. cond b (t ∷ filter p ts) (filter p ts)) e

drops : (p : RawToken → Bool) (t : RawToken) (ts : List RawToken) → p t ≡ false → filter p (t ∷ ts) ≡ filter p ts
drops p t ts e = ap (λ b. cond b (t ∷ filter p ts) (filter p ts)) e

pub none_on : (n m : ℕ) (ts : List RawToken) → UpTo n ts → n < m → filter (is_on m) ts ≡ []
none_on n m [] all h = refl
none_on n m (t ∷ ts) all h =
    let line : t.dst_line ≤ n = all.0 in
    ap (λ b. cond b (t ∷ filter (is_on m) ts) (filter (is_on m) ts)) (ne_eqb t.dst_line m (λ e. omega arith))
    ∙ none_on n m ts all.1 h

none_above : (n : ℕ) (ts : List RawToken) → From n ts → filter (is_above n) ts ≡ []
none_above n [] all = refl
none_above n (t ∷ ts) all =
    ap (λ b. cond b (t ∷ filter (is_above n) ts) (filter (is_above n) ts)) (le-ltb t.dst_line n all.0)
    ∙ none_above n ts all.1

pub all_above : (n : ℕ) (ts : List RawToken) → UpTo n ts → filter (is_above (n + 1)) ts ≡ ts
all_above n [] all = refl
all_above n (t ∷ ts) all =
    let line : t.dst_line ≤ n = all.0 in
    ap (λ b. cond b (t ∷ filter (is_above (n + 1)) ts) (filter (is_above (n + 1)) ts))
    (lt-ltb t.dst_line (n + 1) (omega arith))
    ∙ ap (λ us. t ∷ us) (all_above n ts all.1)

-- the step of `above_more` from `ts` to `t ∷ ts`, in three cases: `t` is above, on or after line `n`
above_more_at : (n : ℕ) (t : RawToken) (ts : List RawToken) → From t.dst_line ts
    → filter (is_above (n + 1)) ts ≡ filter (is_above n) ts ++ filter (is_on n) ts
    → filter (is_above (n + 1)) (t ∷ ts) ≡ filter (is_above n) (t ∷ ts) ++ filter (is_on n) (t ∷ ts)
above_more_at n t ts from more = ⊎_elim
    (λ (below : t.dst_line < n).
    keeps (is_above (n + 1)) t ts (lt-ltb t.dst_line (n + 1) (omega arith))
    ∙ ap (λ us. t ∷ us) more
    ∙ ap (λ us. t ∷ (filter (is_above n) ts ++ us))
    (sym (drops (is_on n) t ts (ne_eqb t.dst_line n (λ e. omega arith))))
    ∙ ap (λ us. us ++ filter (is_on n) (t ∷ ts)) (sym (keeps (is_above n) t ts (lt-ltb t.dst_line n below))))
    (λ (past : n ≤ t.dst_line). ⊎_elim
    (λ (on : t.dst_line ≡ n).
    let none : filter (is_above n) ts ≡ [] = none_above n ts (subst (λ (m : ℕ). From m ts) on from) in
    keeps (is_above (n + 1)) t ts (lt-ltb t.dst_line (n + 1) (omega arith))
    ∙ ap (λ us. t ∷ us) more
    ∙ ap (λ us. t ∷ (us ++ filter (is_on n) ts)) none
    ∙ sym (keeps (is_on n) t ts (eq-eqb t.dst_line n on))
    ∙ ap (λ us. us ++ filter (is_on n) (t ∷ ts)) (sym (drops (is_above n) t ts (le-ltb t.dst_line n past) ∙ none)))
    (λ (off : t.dst_line ≢ n).
    drops (is_above (n + 1)) t ts (le-ltb t.dst_line (n + 1) (omega arith))
    ∙ more
    ∙ ap (λ us. filter (is_above n) ts ++ us) (sym (drops (is_on n) t ts (ne_eqb t.dst_line n off)))
    ∙ ap (λ us. us ++ filter (is_on n) (t ∷ ts)) (sym (drops (is_above n) t ts (le-ltb t.dst_line n past))))
    (cases_eq t.dst_line n))
    (cases_lt t.dst_line n)

pub above_more : (n : ℕ) (ts : List RawToken) → Rises ts
    → filter (is_above (n + 1)) ts ≡ filter (is_above n) ts ++ filter (is_on n) ts
above_more n [] r = refl
above_more n (t ∷ ts) r = above_more_at n t ts r.0 (above_more n ts r.1)

-- if the lines of `ts` never decrease and no token is after line `n`, `ts` consists of the tokens above line `n`,
-- followed by the tokens on line `n`
pub cut_at : (n : ℕ) (ts : List RawToken) → Rises ts → UpTo n ts → filter (is_above n) ts ++ filter (is_on n) ts ≡ ts
cut_at n ts r u = sym (above_more n ts r) ∙ all_above n ts u
