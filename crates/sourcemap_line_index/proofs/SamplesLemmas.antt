-- Searches in samples of columns. Each search leaves a range of tokens, which is then searched token by token.
use Rattle.std.proofs.Common.{◌≡◌, refl, sym, subst, ◌∙◌, ℕ, zero, suc, ◌<◌, ◌≤◌, ◌+◌, ◌-◌, ◌*◌, ◌^◌, arith, inl, inr}
use Rattle.std.proofs.Common.{List, [], ◌∷◌, length, false, max, min, nat_lt, slice_index, ◌==◌, if◌then◌else◌}
use Rattle.std.proofs.Math.Nat.{pow-succ'}
use Rattle.std.proofs.lemmas.Bool.{cases_eq, cases_lt}
use Rattle.std.proofs.lemmas.Bool.Decides.{nat_tests}
use Rattle.sourcemap_tokens.specs.declared.tokens.RawToken.{RawToken}
use Rattle.sourcemap_line_index.specs.LineIndex.{Rises, col_at}
use Rattle.sourcemap_line_index.specs.Samples.{AreColumns, AreSamples, HasRisingColumns}
use Rattle.sourcemap_line_index.proofs.LineIndexLemmas.{if_less, if_not_less}

-- a list with samples is not empty, and has at least 32 tokens per line on average
pub sampled_some : (tokens : List RawToken) (lines : ℕ) (columns : List ℕ) → AreSamples tokens lines columns
    → 0 < length columns → (0 < length tokens) × (32 * lines ≤ length tokens)
sampled_some tokens lines columns sampled some = let is = sampled some in
    (let first = is.0.inside 0 some in omega arith, is.1)

pub some_from_test : (n : ℕ) → false ≡ (n == 0) → 0 < n
some_from_test n e = grind (arith, nat_tests)

-- if numbers do not fall from one index to the next, the number at `i + n` is not less than the number at `i`
rises_far : (number : ℕ → ℕ) (low high i n : ℕ) → Rises number low high → low ≤ i → i + n < high
    → number i ≤ number (i + n)
rises_far number low high i zero rises l h = let same : i + 0 ≡ i = omega arith in rw same (omega arith)
rises_far number low high i (suc n) rises l h =
    let next : i + suc n ≡ i + n + 1 = omega arith in
    let far : number i ≤ number (i + n) = rises_far number low high i n rises l (omega arith) in
    let near : number (i + n) ≤ number (i + n + 1) = rises (i + n) (omega arith) (omega arith) in
    rw next (omega arith)

some_token : (tokens : List RawToken) → 0 < length tokens → RawToken
some_token [] l = absurd (omega arith)
some_token (t ∷ ts) l = t

-- if the columns of some tokens do not fall, the samples of these columns do not fall
pub samples_rise : (tokens : List RawToken) (columns : List ℕ) (first end low high : ℕ) → AreColumns tokens columns
    → ((d : RawToken) → Rises (col_at tokens d) first end)
    → first ≤ 8 * low → 8 * high < end + 8 → high ≤ length columns → Rises (slice_index columns) low high
samples_rise tokens columns first end low high are rises l h within k lk hk =
    let inside = are.inside k (omega arith) in
    let d = some_token tokens (omega arith) in
    let next : 8 * (k + 1) ≡ 8 * k + 8 = omega arith in
    let far : col_at tokens d (8 * k) ≤ col_at tokens d (8 * k + 8) =
    rises_far (col_at tokens d) first end (8 * k) 8 (rises d) (omega arith) (omega arith) in
    let far' : col_at tokens d (8 * k) ≤ col_at tokens d (8 * (k + 1)) =
    subst (λ n. col_at tokens d (8 * k) ≤ col_at tokens d n) (sym next) far in
    rw (are.own k d (omega arith), are.own (k + 1) d (omega arith)) far'

pub narrowed : (tokens : List RawToken) (first end from to : ℕ) → HasRisingColumns tokens first end → first ≤ from
    → from ≤ to → to ≤ end → HasRisingColumns tokens from to
narrowed tokens first end from to rising l m h =
    let within = rising.within in
    record {
      ordered = m;
      within = omega arith;
      rises = λ d index least most. rising.rises d index (omega arith) (omega arith);
    }

-- a search in the samples ended at `sample`, and a search in the tokens between the samples `sample - 1` and `sample`
-- ended at `index`. Then `index` is also the result for all tokens from `first` up to, not including, `end`
module _ (tokens : List RawToken) (columns : List ℕ) (first end low high sample key : ℕ)
    (are : AreColumns tokens columns) (start : 8 * low < first + 8) (past : end ≤ 8 * high)
    (within : high ≤ length columns) (at_least : low ≤ sample) (at_most : sample ≤ high) where
  pub narrowed_before : (low < sample → slice_index columns (sample - 1) < key) → (from index : ℕ)
      → from ≡ max first (8 * sample - 7) → from ≤ index
      → (d : RawToken) → (from < index → col_at tokens d (index - 1) < key) → first < index
      → col_at tokens d (index - 1) < key
  narrowed_before before from index is l d later some =
      elim (cases_eq from index) [
        | inl here ↦
            let own : slice_index columns (sample - 1) ≡ col_at tokens d (8 * (sample - 1)) =
            are.own (sample - 1) d (omega arith) in
            let same : 8 * (sample - 1) ≡ index - 1 = omega arith in
            subst (λ k. col_at tokens d k < key) same (subst (λ n. n < key) own (before (omega arith)))
        | inr other ↦ later (omega arith)
      ]

  pub narrowed_from : (sample < high → key ≤ slice_index columns sample) → (to index : ℕ) → to ≡ min end (8 * sample)
      → index ≤ to
      → (d : RawToken) → (index < to → key ≤ col_at tokens d index) → index < end → key ≤ col_at tokens d index
  narrowed_from from to index is l d later some =
      elim (cases_eq index to) [
        | inl here ↦
            let own : slice_index columns sample ≡ col_at tokens d (8 * sample) = are.own sample d (omega arith) in
            let same : 8 * sample ≡ index = omega arith in
            subst (λ k. key ≤ col_at tokens d k) same (subst (λ n. key ≤ n) own (from (omega arith)))
        | inr other ↦ later (omega arith)
      ]

eight_times : (d : ℕ) → 2 ^ suc (suc (suc d)) ≡ 2 * (2 * (2 * 2 ^ d))
eight_times d = rw (pow-succ' 2 (suc (suc d)), pow-succ' 2 (suc d), pow-succ' 2 d) refl

-- a search in the samples, and then token by token between two samples, makes at most five comparisons more
-- than the bound for a search in all tokens
pub count_by_samples : (d count end low high from to start found left : ℕ) → count < 2 ^ d → 8 ≤ end → end ≤ count
    → 8 * high < end + 8 → to - from < 8
    → ((e : ℕ) → high - low < 2 ^ e → found ≤ start + e) → left ≤ found + (to - from) → left ≤ start + (d + 5)
count_by_samples zero count end low high from to start found left small many inside near short f l =
    absurd (omega arith)
count_by_samples (suc zero) count end low high from to start found left small many inside near short f l =
    absurd (omega arith)
count_by_samples (suc (suc zero)) count end low high from to start found left small many inside near short f l =
    absurd (omega arith)
count_by_samples (suc (suc (suc d))) count end low high from to start found left small many inside near short f l =
    let all : count < 2 * (2 * (2 * 2 ^ d)) = subst (λ n. count < n) (eight_times d) small in
    let few : high - low < 2 * 2 ^ d = omega arith in
    let among : found ≤ start + suc d = f (suc d) (subst (λ n. high - low < n) (sym (pow-succ' 2 d)) few) in
    omega arith

-- a linear search compared `key` with the numbers from `first` up to, not including, `at`. Let these numbers not fall,
-- and let `first ≤ index ≤ at`. Then the compared numbers are below `key` before `index`, and at least `key` from
-- `index` on
pub record IsPassed (number : ℕ → ℕ) (key first index at : ℕ) : Type 0 where
  pub before : first < index → number (index - 1) < key
  pub from : index < at → key ≤ number index

-- `IsPassed` still holds after the number at `at` is compared. If this number is below `key`, `index` grows by 1
pub passed_one : (number : ℕ → ℕ) (key first end index at skipped : ℕ) → Rises number first end → first ≤ index
    → index ≤ at → at < end
    → skipped ≡ (if nat_lt (number at) key then 1 else 0) → IsPassed number key first index at
    → IsPassed number key first (index + skipped) (at + 1)
passed_one number key first end index at skipped rises least l inside is p =
    elim (cases_lt (number at) key) [
      | inl less ↦
          let one : skipped ≡ 1 = is ∙ if_less (number at) key 1 less in
          elim (cases_eq index at) [
            | inl here ↦
                let back : index + 1 - 1 ≡ at = omega arith in
                rw one (record {
                  before = λ m. rw back less;
                  from = λ m. absurd (omega arith);
                })
            | inr after ↦
                let from : key ≤ number index = p.from (omega arith) in
                let there : index + (at - index) ≡ at = omega arith in
                let up : number index ≤ number at = subst (λ k. number index
                ≤ number k) there (rises_far number first end index (at - index) rises least (omega arith)) in
                absurd (omega arith)
          ]
      | inr ge ↦
          let none : skipped ≡ 0 = is ∙ if_not_less (number at) key 1 ge in
          let same : index + skipped ≡ index = omega arith in
          rw same (record {
            before = p.before;
            from = λ m. elim (cases_eq index at) [
              | inl here ↦ subst (λ k. key ≤ number k) (sym here) ge
              | inr after ↦ p.from (omega arith)
            ];
          })
    ]
