-- The formats of `rangeMappings`, digit by digit and line by line.
use Rattle.std.proofs.Common.{◌≡◌, ℕ, zero, suc, ◌+◌, ◌-◌, ◌^◌, ◌<◌, ◌≤◌, Bool, true, false, List, [], ◌∷◌, ◌++◌}
use Rattle.std.proofs.Common.{map, drop, length, get_or, slice_index, sym, ◌∙◌, ap, refl, arith, append_assoc}
use Rattle.std.specs.Prelude.{◌&&◌}
use Rattle.std.proofs.lemmas.List.{at_drop_more, at_drop_all, append-nil}
use Rattle.sourcemap_check_segments.specs.Segments.{segments_of}
use Rattle.sourcemap_check_order.specs.declared.ranges.Format.{Format}
use Rattle.sourcemap_check_order.specs.Ranges.{digit_fits, fits_bits, line_fits, lines_fit}

-- Bits.

and_assoc : (a b c : Bool) → ((a && b) && c) ≡ (a && (b && c))
and_assoc true b c = refl
and_assoc false b c = refl

and_true : (b : Bool) → (b && true) ≡ b
and_true true = refl
and_true false = refl

pub limit_is : (n : ℕ) → n ≤ 6 → get_or (1 ∷ 2 ∷ 4 ∷ 8 ∷ 16 ∷ 32 ∷ 64 ∷ []) n 0 ≡ 2 ^ n
limit_is zero h = refl
limit_is (suc zero) h = refl
limit_is (suc (suc zero)) h = refl
limit_is (suc (suc (suc zero))) h = refl
limit_is (suc (suc (suc (suc zero)))) h = refl
limit_is (suc (suc (suc (suc (suc zero))))) h = refl
limit_is (suc (suc (suc (suc (suc (suc zero)))))) h = refl
limit_is (suc (suc (suc (suc (suc (suc (suc n))))))) h = absurd (omega arith)

pub record BitsSoFar (count : ℕ) (line : List ℕ) (k left : ℕ) (fits : Bool) : Type 0 where
  pub rest : (fits && fits_bits left (drop k line)) ≡ fits_bits count line

pub BitsSoFar-more : (count : ℕ) (line : List ℕ) (k left byte : ℕ) (fits digit : Bool)
    → BitsSoFar count line k left fits → k < length line → byte ≡ get_or line k 0 → digit ≡ digit_fits left byte
    → BitsSoFar count line (k + 1) (left - 6) (fits && digit)
BitsSoFar-more count line k left byte fits digit so_far within at is =
    let step : fits_bits left (drop k line) ≡ (digit && fits_bits (left - 6) (drop (k + 1) line)) =
    at_drop_more (fits_bits left) line k 0 within
    ∙ ap (λ b. b && fits_bits (left - 6) (drop (k + 1) line)) (sym (is ∙ ap (digit_fits left) at)) in
    record {
      rest = and_assoc fits digit (fits_bits (left - 6) (drop (k + 1) line)) ∙ (ap (λ b. fits && b) (sym step)
          ∙ so_far.rest);
    }

pub BitsSoFar-all : (count : ℕ) (line : List ℕ) (k left : ℕ) (fits : Bool) → BitsSoFar count line k left fits
    → length line ≤ k → fits ≡ fits_bits count line
BitsSoFar-all count line k left fits so_far past =
    sym (and_true fits) ∙ (ap (λ b. fits && b) (sym (at_drop_all (fits_bits left) line k past)) ∙ so_far.rest)

-- Lines.

pub record LinesFitSoFar (format : Format) (counts : List ℕ) (lines : List (List ℕ)) (k : ℕ) (fits : Bool) : Type 0
  where
    pub rest : (fits && lines_fit format counts k (drop k lines)) ≡ lines_fit format counts 0 lines

pub LinesFitSoFar-more : (format : Format) (counts : List ℕ) (lines : List (List ℕ)) (k : ℕ) (line : List ℕ)
    (fits here : Bool) → LinesFitSoFar format counts lines k fits
    → k < length lines → line ≡ get_or lines k line → here ≡ line_fits format (slice_index counts k) line
    → LinesFitSoFar format counts lines (k + 1) (fits && here)
LinesFitSoFar-more format counts lines k line fits here so_far within at is =
    let step : lines_fit format counts k (drop k lines)
    ≡ (here && lines_fit format counts (k + 1) (drop (k + 1) lines)) =
    at_drop_more (lines_fit format counts k) lines k line within
    ∙ (ap (λ l. line_fits format (slice_index counts k) l && lines_fit format counts (k + 1) (drop (k + 1) lines)) (sym at)
    ∙ ap (λ b. b && lines_fit format counts (k + 1) (drop (k + 1) lines)) (sym is)) in
    record {
      rest = and_assoc fits here (lines_fit format counts (k + 1) (drop (k + 1) lines))
          ∙ (ap (λ b. fits && b) (sym step) ∙ so_far.rest);
    }

pub LinesFitSoFar-all : (format : Format) (counts : List ℕ) (lines : List (List ℕ)) (k : ℕ) (fits : Bool)
    → LinesFitSoFar format counts lines k fits → length lines ≤ k → fits ≡ lines_fit format counts 0 lines
LinesFitSoFar-all format counts lines k fits so_far past =
    sym (and_true fits)
    ∙ (ap (λ b. fits && b) (sym (at_drop_all (lines_fit format counts k) lines k past)) ∙ so_far.rest)

pub record CountsSoFar (lines : List (List ℕ)) (k : ℕ) (counts : List ℕ) : Type 0 where
  pub rest : counts ++ map length (map segments_of (drop k lines)) ≡ map length (map segments_of lines)

pub CountsSoFar-none : (lines : List (List ℕ)) (counts : List ℕ) → counts ≡ [] → CountsSoFar lines 0 counts
CountsSoFar-none lines counts is = record { rest = ap (λ cs. cs ++ map length (map segments_of lines)) is }

pub CountsSoFar-more : (lines : List (List ℕ)) (k : ℕ) (line : List ℕ) (count : ℕ) (old new : List ℕ)
    → CountsSoFar lines k old → k < length lines → line ≡ get_or lines k line → count ≡ length (segments_of line)
    → new ≡ old ++ count ∷ [] → CountsSoFar lines (k + 1) new
CountsSoFar-more lines k line count old new so_far within at is pushed =
    let step : map length (map segments_of (drop k lines))
    ≡ count ∷ map length (map segments_of (drop (k + 1) lines)) =
    at_drop_more (λ ls. map length (map segments_of ls)) lines k line within
    ∙ (ap (λ l. length (segments_of l) ∷ map length (map segments_of (drop (k + 1) lines))) (sym at)
    ∙ ap (λ n. n ∷ map length (map segments_of (drop (k + 1) lines))) (sym is)) in
    record {
      rest = ap (λ cs. cs ++ map length (map segments_of (drop (k + 1) lines))) pushed
          ∙ (append_assoc old (count ∷ []) (map length (map segments_of (drop (k + 1) lines)))
          ∙ (ap (λ cs. old ++ cs) (sym step) ∙ so_far.rest));
    }

pub CountsSoFar-all : (lines : List (List ℕ)) (k : ℕ) (counts : List ℕ) → CountsSoFar lines k counts
    → length lines ≤ k → counts ≡ map length (map segments_of lines)
CountsSoFar-all lines k counts so_far past =
    sym (append-nil counts)
    ∙ (ap (λ cs. counts ++ cs) (sym (at_drop_all (λ ls. map length (map segments_of ls)) lines k past)) ∙ so_far.rest)
