-- Binary searches: their window, and a bound for their comparisons.
use Rattle.std.proofs.Common.{◌≡◌, sym, subst, ◌∙◌, ℕ, suc, ◌<◌, ◌≤◌, ◌+◌, ◌-◌, ◌*◌, ◌/◌, ◌^◌, arith, inl, inr, min}
use Rattle.std.proofs.Common.{true, false, nat_lt, if◌then◌else◌}
use Rattle.std.specs.Ordering.{nat_cmp, is_eq}
use Rattle.std.proofs.Math.Nat.{pow-succ'}
use Rattle.std.proofs.lemmas.Bool.{cases_eq, cases_lt}
use Rattle.std.proofs.lemmas.Bool.Decides.{nat_tests}
use Rattle.sourcemap_line_index.specs.LineIndex.{Rises}

-- a binary search made `made` comparisons, and `size` indices are left. The total will be at most `most` comparisons
pub record Remains (most made size : ℕ) : Type 0 where
  pub left : ℕ
  pub small : size < 2 ^ left
  pub enough : made + left ≤ most

half_small : (size half power : ℕ) → size < 2 * power → half ≤ size / 2 → half < power
half_small size half power l h = omega arith

fewer_left : (most made next left : ℕ) → made + left ≤ most → 0 < left → next ≤ made + 1 → next + (left - 1) ≤ most
fewer_left most made next left l some n = omega arith

saturated : (made next : ℕ) → next ≡ min (made + 1) 4294967295 → next ≤ made + 1
saturated made next e = omega arith

-- let `size` be above 0, and let `Remains most made size` hold. Let one more comparison leave `half` indices, at most
-- half of `size`. Let `next`, the new number of comparisons, be `made + 1`, but at most 4294967295. Then the total will
-- still be at most `most` comparisons (`Remains most next half`)
pub Remains-half : (most made size next half : ℕ) → 0 < size → next ≡ min (made + 1) 4294967295 → half ≤ size / 2
    → Remains most made size → Remains most next half
Remains-half most made size next half some counted halved r =
    elim (cases_eq r.left 0) [
      | inl none ↦ let one : size < 2 ^ 0 = subst (λ k. size < 2 ^ k) none r.small in absurd (omega arith)
      | inr other ↦
          let back : suc (r.left - 1) ≡ r.left = omega arith in
          let twice : 2 ^ suc (r.left - 1) ≡ 2 * 2 ^ (r.left - 1) = pow-succ' 2 (r.left - 1) in
          let doubled : size < 2 ^ suc (r.left - 1) = subst (λ k. size < 2 ^ k) (sym back) r.small in
          record {
            left = r.left - 1;
            small = half_small size half (2 ^ (r.left - 1)) (subst (λ k. size < k) twice doubled) halved;
            enough = fewer_left most made next r.left r.enough (omega arith) (saturated made next counted);
          }
    ]

-- a binary search in the numbers from `first` up to, not including, `end` still has to search `left` numbers, from
-- `index` on. Let the numbers not fall, and let `first ≤ index ≤ end`. Then the numbers are below `key` before `index`,
-- and at least `key` from `index + left` on
pub record IsWindow (number : ℕ → ℕ) (key first index left end : ℕ) : Type 0 where
  pub before : first < index → number (index - 1) < key
  pub from : index + left < end → key ≤ number (index + left)

pub if_less : (a b n : ℕ) → a < b → (if nat_lt a b then n else 0) ≡ n
if_less a b n l = grind (arith, nat_tests)

pub if_not_less : (a b n : ℕ) → b ≤ a → (if nat_lt a b then n else 0) ≡ 0
if_not_less a b n ge = grind (arith, nat_tests)

-- the last number of the first half decides whether that half is skipped
pub window_halved : (number : ℕ → ℕ) (key first index left end half rest skipped : ℕ) → 0 < left → half ≡ left / 2
    → rest ≡ left - half → first ≤ index → Rises number first end → IsWindow number key first index left end
    → skipped ≡ (if nat_lt (number (index + rest - 1)) key then rest else 0)
    → IsWindow number key first (index + skipped) half end
window_halved number key first index left end half rest skipped some halved others low rises w is =
    elim (cases_lt (number (index + rest - 1)) key) [
      | inl l ↦
          let all : skipped ≡ rest = is ∙ if_less (number (index + rest - 1)) key rest l in
          let whole : index + rest + half ≡ index + left = omega arith in
          rw all (record {
            before = λ m. l;
            from = λ m. rw whole (w.from (omega arith));
          })
      | inr ge ↦
          let none : skipped ≡ 0 = is ∙ if_not_less (number (index + rest - 1)) key rest ge in
          let same : index + skipped ≡ index = omega arith in
          rw same (record {
            before = w.before;
            from = λ m. elim (cases_eq half rest) [
              | inl even ↦
                  let next : index + rest - 1 + 1 ≡ index + half = omega arith in
                  let up : number (index + rest - 1) ≤ number (index + rest - 1 + 1) =
                  rises (index + rest - 1) (omega arith) (omega arith) in
                  let up' : number (index + rest - 1) ≤ number (index + half) =
                  subst (λ k. number (index + rest - 1) ≤ number k) next up in
                  omega arith
              | inr odd ↦
                  let here : index + rest - 1 ≡ index + half = omega arith in
                  subst (λ k. key ≤ number k) here ge
            ];
          })
    ]

-- at most the first half is skipped
pub skipped_at_most : (a b n skipped : ℕ) → skipped ≡ (if nat_lt a b then n else 0) → skipped ≤ n
skipped_at_most a b n skipped is =
    elim (cases_lt a b) [
      | inl l ↦ let all = is ∙ if_less a b n l in omega arith
      | inr ge ↦ let none = is ∙ if_not_less a b n ge in omega arith
    ]

-- a saturated count does not fall
pub raised_on : (old now next : ℕ) → min old 4294967295 ≤ now → next ≡ min (now + 1) 4294967295
    → min old 4294967295 ≤ next
raised_on old now next l e = omega arith

pub raised_once : (old now next : ℕ) → min old 4294967295 ≤ now → next ≡ min (now + 1) 4294967295
    → min (old + 1) 4294967295 ≤ next
raised_once old now next l e = omega arith

-- what the result of comparing `p` with `x` says about `p` and `x`
pub eq_from_is_eq : (p x : ℕ) → is_eq (nat_cmp p x) ≡ true → p ≡ x
eq_from_is_eq p x e = grind (arith, nat_tests)

pub lt_from_not_eq : (p x : ℕ) → p ≤ x → is_eq (nat_cmp p x) ≡ false → p < x
lt_from_not_eq p x l e = grind (arith, nat_tests)
