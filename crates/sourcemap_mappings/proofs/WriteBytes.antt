-- The bytes of encoded texts: digits contain no `,` and no `;`. If one or more parts lack a separator and are joined by
-- this separator, a split at the separator gives the same parts.
use Rattle.std.proofs.Common.{◌≡◌, ◌≢◌, ℕ, ◌==◌, false, cond, is_none, List, [], ◌∷◌, ◌++◌, Option, Some, None, ℤ}
use Rattle.std.proofs.Common.{refl, sym, ap, subst, ◌∙◌, ◌⊎◌, ⊎_elim, arith}
use Rattle.std.specs.List.{join_with_byte, slice_split, AllByRecursion}
use Rattle.std.proofs.lemmas.Bool.{cases_eq, eq-eqb}
use Rattle.std.proofs.lemmas.Bool.Decides.{nat_tests}
use Rattle.std.proofs.lemmas.List.Elements.{All-from_recursion}
use Rattle.std.proofs.lemmas.List.Splits.{slice_split_none, slice_split_at}
use Rattle.sourcemap_vlq.specs.Vlq.{digit_value, IsChain, Spells}
use Rattle.sourcemap_vlq.specs.Bits.{first_non_digit}
use Rattle.sourcemap_vlq.proofs.VlqLemmas.{IsGroup-nonempty}
use Rattle.sourcemap_mappings.specs.Segment.{comma, semicolon}

-- the byte is not in the text
abbrev pub IsFree : ℕ → List ℕ → Type 0
IsFree c text = AllByRecursion (λ x. (x == c) ≡ false) text

pub IsFree-append : (c : ℕ) (xs ys : List ℕ) → IsFree c xs → IsFree c ys → IsFree c (xs ++ ys)
IsFree-append c [] ys fx fy = fy
IsFree-append c (x ∷ xs) ys fx fy = (fx.0, IsFree-append c xs ys fx.1 fy)

-- a separator, `,` or `;`
abbrev pub IsMark : ℕ → Type 0
IsMark c = (c ≡ comma) ⊎ (c ≡ semicolon)

comma_is_none : digit_value comma ≡ None
unfolding digit_value
comma_is_none = refl

semicolon_is_none : digit_value semicolon ≡ None
unfolding digit_value
semicolon_is_none = refl

no_mark : (c x v : ℕ) → IsMark c → digit_value x ≡ Some v → (x == c) ≡ false
no_mark c x v mark digit = ⊎_elim
    (λ (same : x ≡ c). absurd (⊎_elim
    (λ (e : c ≡ comma). let no : digit_value x ≡ None = ap digit_value (same ∙ e) ∙ comma_is_none in cc)
    (λ (e : c ≡ semicolon). let no : digit_value x ≡ None = ap digit_value (same ∙ e) ∙ semicolon_is_none in cc)
    mark))
    (λ (off : x ≢ c). grind (arith, nat_tests))
    (cases_eq x c)

pub chain_free : (c : ℕ) (digits : List ℕ) → IsMark c → IsChain digits → IsFree c digits
chain_free c [] mark chain = absurd chain
chain_free c (x ∷ []) mark chain = (no_mark c x chain.0 mark chain.1, tt)
chain_free c (x ∷ y ∷ ys) mark chain = (no_mark c x chain.0.0 mark chain.0.1, chain_free c (y ∷ ys) mark chain.1)

pub Spells-free : (c : ℕ) (numbers : List ℤ) (text : List ℕ) → IsMark c → Spells numbers text → IsFree c text
Spells-free c [] text mark spelled = subst (λ (t : List ℕ). IsFree c t) (sym spelled) tt
Spells-free c (n ∷ ns) text mark spelled =
    subst (λ (t : List ℕ). IsFree c t) (sym spelled.3)
    (IsFree-append c spelled.0 spelled.1 (chain_free c spelled.0 mark spelled.2.is_group.chain)
    (Spells-free c ns spelled.1 mark spelled.4))

pub Spells-nonempty : (n : ℤ) (ns : List ℤ) → Spells (n ∷ ns) [] → ⊥
Spells-nonempty n ns ([], rest, short, is, more) = (let h = IsGroup-nonempty [] n short.is_group in omega arith)
Spells-nonempty n ns (c ∷ cs, rest, short, is, more) = cc

non_digit_free : (c x : ℕ) (xs : List ℕ) (o : Option ℕ) → IsMark c → digit_value x ≡ o
    → cond (is_none o) (Some x) (first_non_digit xs) ≡ None
    → ((x == c) ≡ false) × (first_non_digit xs ≡ None)
non_digit_free c x xs None mark digit h = absurd cc
non_digit_free c x xs (Some v) mark digit h = (no_mark c x v mark digit, h)

pub digits_free : (c : ℕ) (text : List ℕ) → IsMark c → first_non_digit text ≡ None → IsFree c text
digits_free c [] mark h = tt
digits_free c (x ∷ xs) mark h =
    let both = non_digit_free c x xs (digit_value x) mark refl h in
    (both.0, digits_free c xs mark both.1)

-- Joined parts.

pub join_free : (c d : ℕ) (parts : List (List ℕ)) → (d == c) ≡ false → AllByRecursion (IsFree c) parts
    → IsFree c (join_with_byte d parts)
join_free c d [] off free = tt
join_free c d (p ∷ []) off free = free.0
join_free c d (p ∷ q ∷ ps) off free =
    IsFree-append c p (d ∷ join_with_byte d (q ∷ ps)) free.0 (off, join_free c d (q ∷ ps) off free.1)

pub split_join : (c : ℕ) (p : List ℕ) (ps : List (List ℕ)) → AllByRecursion (IsFree c) (p ∷ ps)
    → slice_split (λ b. b == c) (join_with_byte c (p ∷ ps)) ≡ p ∷ ps
split_join c p [] free = slice_split_none (λ b. b == c) p (All-from_recursion (λ x. (x == c) ≡ false) p free.0)
split_join c p (q ∷ ps) free =
    slice_split_at (λ b. b == c) p c (join_with_byte c (q ∷ ps))
    (All-from_recursion (λ x. (x == c) ≡ false) p free.0) (eq-eqb c c refl)
    ∙ ap (λ parts. p ∷ parts) (split_join c q ps free.1)
