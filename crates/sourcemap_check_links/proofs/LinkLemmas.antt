-- The lines of a text with the mark of a debug id.
use Rattle.std.proofs.Common.{◌≡◌, ℕ, ◌+◌, ◌-◌, ◌<◌, ◌≤◌, true, false, List, take, drop, length, get_or}
use Rattle.std.proofs.Common.{length-drop, not, ◌==◌, Bool, codes, min, nat_eq, sym, ◌∙◌, ap, refl, arith, IsUtf8, Option, Some, None, option_map}
use Rattle.std.specs.Cmp.Lexicographic.{same_text}
use Rattle.std.specs.List.{starts_with, before_first, after_last, suffix_len}
use Rattle.std.specs.Option.{option_or}
use Rattle.std.specs.Str.{IsCharBoundary}
use Rattle.std.proofs.lemmas.List.{get_or-take, length-take, at_drop_more, at_drop_all, take_all}
use Rattle.std.proofs.lemmas.List.Sums.{position_or_len_is, suffix_len_is}
use Rattle.std.proofs.lemmas.Str.{IsCharBoundary-after_ascii}
use Rattle.sourcemap_check_links.specs.Links.{id_text_on, last_id_text}

-- in a UTF-8 text the mark ends at a char boundary
pub mark_boundary : (line : List ℕ) → starts_with nat_eq line (codes "//# debugId=") ≡ true → IsUtf8 line
    → IsCharBoundary line 12
mark_boundary line starts text =
    let same : codes "//# debugId=" ≡ take 12 line = same_text (codes "//# debugId=") (take 12 line) (sym starts) in
    let fits : min 12 (length line) ≡ 12 = sym (length-take 12 line) ∙ ap length (sym same) in
    let equals : get_or line 11 0 ≡ 61 =
    sym (get_or-take 12 line 11 0 (omega arith)) ∙ ap (λ xs. get_or xs 11 0) (sym same) in
    IsCharBoundary-after_ascii line 11 text (omega arith) (omega arith)

option_or-none : {X : Type 0} (o : Option X) → option_or o None ≡ o
option_or-none None = refl
option_or-none (Some x) = refl

option_or-assoc : {X : Type 0} (a b c : Option X) → option_or (option_or a b) c ≡ option_or a (option_or b c)
option_or-assoc None b c = refl
option_or-assoc (Some x) b c = refl

option_map-or : {X Y : Type 0} (f : X → Y) (a b : Option X) → option_map f (option_or a b)
    ≡ option_or (option_map f a) (option_map f b)
option_map-or f None b = refl
option_map-or f (Some x) b = refl

-- the last text among the first k lines, behind that of the lines that are left
pub record LinesSoFar (lines : List (List ℕ)) (k : ℕ) (found : Option (List ℕ)) : Type 0 where
  pub rest : option_or (last_id_text (drop k lines)) found ≡ last_id_text lines

pub LinesSoFar-none : (lines : List (List ℕ)) → LinesSoFar lines 0 None
LinesSoFar-none lines = record { rest = option_or-none (last_id_text lines) }

pub LinesSoFar-more : {X : Type 0} (see : X → List ℕ) (lines : List (List ℕ)) (k : ℕ) (line : List ℕ)
    (here found : Option X) → LinesSoFar lines k (option_map see found) → k < length lines → line ≡ get_or lines k line
    → option_map see here ≡ id_text_on line → LinesSoFar lines (k + 1) (option_map see (option_or here found))
LinesSoFar-more see lines k line here found so_far within at is =
    let step : last_id_text (drop k lines) ≡ option_or (last_id_text (drop (k + 1) lines)) (id_text_on line) =
    at_drop_more last_id_text lines k line within
    ∙ ap (λ l. option_or (last_id_text (drop (k + 1) lines)) (id_text_on l)) (sym at) in
    record {
      rest = ap (option_or (last_id_text (drop (k + 1) lines))) (option_map-or see here found
          ∙ ap (λ o. option_or o (option_map see found)) is)
          ∙ (sym (option_or-assoc (last_id_text (drop (k + 1) lines)) (id_text_on line) (option_map see found))
          ∙ (ap (λ o. option_or o (option_map see found)) (sym step) ∙ so_far.rest));
    }

pub LinesSoFar-all : (lines : List (List ℕ)) (k : ℕ) (found : Option (List ℕ)) → LinesSoFar lines k found
    → length lines ≤ k → found ≡ last_id_text lines
LinesSoFar-all lines k found so_far past =
    ap (λ o. option_or o found) (sym (at_drop_all last_id_text lines k past)) ∙ so_far.rest

-- Parts of a URL.

pub before_first_is : (test : ℕ → Bool) (xs : List ℕ) (n : ℕ) → n ≤ length xs
    → ((k : ℕ) → k < n → test (get_or xs k 0) ≡ false) → (n < length xs → test (get_or xs n 0) ≡ true)
    → take n xs ≡ before_first test xs
before_first_is test xs n within before at =
    ap (λ i. take i xs) (sym (position_or_len_is test xs n 0 within before at))

pub after_last_is : (xs : List ℕ) (n : ℕ) → n ≤ length xs
    → ((k : ℕ) → n ≤ k → k < length xs → (get_or xs k 0 == 47) ≡ false) → (0 < n → (get_or xs (n - 1) 0 == 47) ≡ true)
    → drop n xs ≡ after_last (λ b. b == 47) xs
after_last_is xs n within after at =
    let behind : suffix_len (λ b. not (b == 47)) xs ≡ length xs - n =
    suffix_len_is (λ b. not (b == 47)) xs n 0 within (λ k a b. ap not (after k a b)) (λ h. ap not (at h)) in
    ap (λ i. drop i xs) (omega (arith, behind))

-- a slice to the end of a list
pub tail_is : (xs : List ℕ) (n : ℕ) → take (length xs - n) (drop n xs) ≡ drop n xs
tail_is xs n = take_all (length xs - n) (drop n xs) (omega (arith, length-drop n xs))
