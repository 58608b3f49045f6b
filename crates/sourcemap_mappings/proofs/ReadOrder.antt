-- Tokens that are decoded one after the other are sorted as long as no column decreases.
use Rattle.std.proofs.Common.{◌≡◌, ℕ, ◌+◌, ◌≤◌, List, [], ◌∷◌, ◌++◌, Bool, false, arith, subst, sym}
use Rattle.std.specs.List.{AllByRecursion}
use Rattle.std.specs.Ordering.{is_lt}
use Rattle.std.proofs.lemmas.Bool.Decides.{nat_tests}
use Rattle.std.proofs.lemmas.List.Sorted.{ranks_by}
use Rattle.sourcemap_tokens.specs.declared.tokens.RawToken.{RawToken}
use Rattle.sourcemap_tokens.specs.Tokens.{AreInOrder, position_cmp, destination}
use Rattle.sourcemap_tokens.proofs.SortLemmas.{Rises, Rises-from_sorted, sorted_from_Rises}
use Rattle.sourcemap_tokens.proofs.TokensLemmas.{position_cmp_total}
use Rattle.sourcemap_mappings.proofs.WriteTokens.{all_push}

-- no token of `tokens` has a generated position after the position `index`
abbrev pub NonePast : ℕ × ℕ → List RawToken → Type 0
NonePast index tokens = AllByRecursion (λ t. is_lt (position_cmp index (destination t)) ≡ false) tokens

-- let (`m`, `n`) not be after (`l`, `c`). If `c ≤ d`, then (`m`, `n`) is not after (`l`, `d`). In any case, (`m`, `n`)
-- is not after (`l + 1`, 0)
later_column : (l c d m n : ℕ) → c ≤ d → is_lt (position_cmp (l, c) (m, n)) ≡ false
    → is_lt (position_cmp (l, d) (m, n)) ≡ false
later_column l c d m n le h = grind (arith, nat_tests)

later_line : (l c m n : ℕ) → is_lt (position_cmp (l, c) (m, n)) ≡ false → is_lt (position_cmp (l + 1, 0) (m, n)) ≡ false
later_line l c m n h = grind (arith, nat_tests)

at_position : (l c : ℕ) → is_lt (position_cmp (l, c) (l, c)) ≡ false
at_position l c = grind (arith, nat_tests)

NonePast-column : (l c d : ℕ) (tokens : List RawToken) → c ≤ d → NonePast (l, c) tokens → NonePast (l, d) tokens
NonePast-column l c d [] le h = tt
NonePast-column l c d (t ∷ ts) le h = (later_column l c d t.dst_line t.dst_col le h.0, NonePast-column l c d ts le h.1)

NonePast-line : (l c : ℕ) (tokens : List RawToken) → NonePast (l, c) tokens → NonePast (l + 1, 0) tokens
NonePast-line l c [] h = tt
NonePast-line l c (t ∷ ts) h = (later_line l c t.dst_line t.dst_col h.0, NonePast-line l c ts h.1)

-- if no item of `xs` is greater than `t`, then `xs` with `t` appended still rises
Rises-push : (lt : RawToken → RawToken → Bool) (xs : List RawToken) (t : RawToken) → Rises lt xs
    → AllByRecursion (λ x. lt t x ≡ false) xs → Rises lt (xs ++ t ∷ [])
Rises-push lt [] t r h = (tt, tt)
Rises-push lt (x ∷ xs) t r h = (all_push (λ y. lt y x ≡ false) xs t r.0 h.0, Rises-push lt xs t r.1 h.1)

AreInOrder-push : (xs : List RawToken) (t : RawToken) → AreInOrder xs → NonePast (destination t) xs
    → AreInOrder (xs ++ t ∷ [])
AreInOrder-push xs t up h =
    let lt : RawToken → RawToken → Bool = λ a b. is_lt (position_cmp (destination a) (destination b)) in
    sorted_from_Rises lt (xs ++ t ∷ [])
    (Rises-push lt xs t (Rises-from_sorted lt (ranks_by position_cmp_total destination) xs up) h)

-- let the tokens be sorted, and none of them after (`l`, `c`). If a token at (`l`, `d`) with `c ≤ d` is appended, the
-- tokens stay sorted, and none of them is after (`l`, `d`)
pub order_push : (l c d : ℕ) (tokens : List RawToken) (t : RawToken) → destination t ≡ (l, d) → c ≤ d
    → AreInOrder tokens × NonePast (l, c) tokens
    → AreInOrder (tokens ++ t ∷ []) × NonePast (l, d) (tokens ++ t ∷ [])
order_push l c d tokens t at le h =
    let past : NonePast (l, d) tokens = NonePast-column l c d tokens le h.1 in (
      AreInOrder-push tokens t h.0 (subst (λ p. NonePast p tokens) (sym at) past),
      all_push (λ x. is_lt (position_cmp (l, d) (destination x)) ≡ false) tokens t past
          (subst (λ p. is_lt (position_cmp (l, d) p) ≡ false) (sym at) (at_position l d)),
    )

-- if no token is after a position on line `l`, then no token is after the start of line `l + 1`
pub order_line : (l c : ℕ) (tokens : List RawToken) → AreInOrder tokens × NonePast (l, c) tokens
    → AreInOrder tokens × NonePast (l + 1, 0) tokens
order_line l c tokens h = (h.0, NonePast-line l c tokens h.1)

pub order_none : (index : ℕ × ℕ) → AreInOrder [] × NonePast index []
order_none index = (λ k d low high. absurd (omega arith), tt)
