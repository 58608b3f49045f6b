-- A loop over sorted tokens that skips repeats.
use Rattle.std.proofs.Common.{◌≡◌, ℕ, ◌+◌, ◌<◌, ◌≤◌, suc, zero, true, false, List, [], ◌∷◌, ◌++◌, length, take, get_or}
use Rattle.std.proofs.Common.{filter, Option, Some, None, refl, sym, ap, subst, ◌∙◌, add-one, arith}
use Rattle.std.specs.List.{last_or}
use Rattle.std.specs.Option.{option_map_or}
use Rattle.std.specs.Ordering.{is_lt}
use Rattle.std.proofs.lemmas.List.{take_more}
use Rattle.std.proofs.lemmas.Bool.Decides.{nat_tests}
use Rattle.std.proofs.lemmas.Bool.{eq-eqb}
use Rattle.sourcemap_tokens.specs.declared.tokens.RawToken.{RawToken}
use Rattle.sourcemap_tokens.specs.Tokens.{AreInOrder, position_cmp, destination, without_repeats}
use Rattle.sourcemap_mappings.specs.Write.{is_on, is_above, line_count}
use Rattle.sourcemap_mappings.specs.WriteSteps.{repeats}
use Rattle.sourcemap_mappings.proofs.WriteTokens.{UpTo, Rises, Rises-push, all_push, all_weaker, all_above}
use Rattle.sourcemap_mappings.proofs.WriteTokens.{filter_push_yes, last_or-push, without_repeats-repeat}
use Rattle.sourcemap_mappings.proofs.WriteTokens.{without_repeats-more, same_line}

-- `ts` are the written tokens. If there is a previous token, this token and at least one written token are on line
-- `line`. If there is no previous token, `line` is 0 and no token was written
abbrev pub IsAtLine : ℕ → List RawToken → Option RawToken → Type 0
IsAtLine line ts None = (line ≡ 0) × (ts ≡ [])
IsAtLine line ts (Some p) =
    (p.dst_line ≡ line) × ((u : RawToken) × (us : List RawToken) × (filter (is_on line) ts ≡ u ∷ us))

-- the loop has reached line `line`. `done` are the tokens so far, and `previous` is the last of these tokens, or `None`
-- if there are none
pub record Walked (line : ℕ) (done : List RawToken) (previous : Option RawToken) : Type 0 where
  pub rises : Rises (without_repeats done)
  pub upto : UpTo line (without_repeats done)
  pub is_at_line : IsAtLine line (without_repeats done) previous
  pub last : previous ≡ last_or None done

pub Walked-none : Walked 0 [] None
Walked-none = record { rises = tt; upto = tt; is_at_line = (refl, refl); last = refl }

-- a repeat does not change the list `without_repeats done`; any other token is appended to this list (`more_list`)
pub same_list : (line : ℕ) (done : List RawToken) (previous : Option RawToken) (t : RawToken)
    → repeats previous t ≡ true → Walked line done previous
    → without_repeats done ≡ without_repeats (done ++ t ∷ [])
same_list line done previous t e w =
    sym (without_repeats-repeat done t (subst (λ (o : Option RawToken). repeats o t ≡ true) w.last e))

pub more_list : (line : ℕ) (done : List RawToken) (previous : Option RawToken) (t : RawToken)
    → repeats previous t ≡ false → Walked line done previous
    → without_repeats done ++ t ∷ [] ≡ without_repeats (done ++ t ∷ [])
more_list line done previous t e w =
    sym (without_repeats-more done t (subst (λ (o : Option RawToken). repeats o t ≡ false) w.last e))

is_at_line_repeat : (line : ℕ) (ts : List RawToken) (previous : Option RawToken) (t : RawToken)
    → repeats previous t ≡ true
    → IsAtLine line ts previous → IsAtLine line ts (Some t)
is_at_line_repeat line ts None t e s = absurd cc
is_at_line_repeat line ts (Some p) t e s = (same_line t p e ∙ s.0, s.1)

pub Walked-repeat : (line : ℕ) (done : List RawToken) (previous : Option RawToken) (t : RawToken)
    → repeats previous t ≡ true
    → Walked line done previous → Walked line (done ++ t ∷ []) (Some t)
Walked-repeat line done previous t e w =
    let same = same_list line done previous t e w in
    record {
      rises = subst (λ (ts : List RawToken). Rises ts) same w.rises;
      upto = subst (λ (ts : List RawToken). UpTo line ts) same w.upto;
      is_at_line = subst (λ (ts : List RawToken). IsAtLine line ts (Some t)) same (is_at_line_repeat line
          (without_repeats done) previous t e w.is_at_line);
      last = sym (last_or-push None done t);
    }

pub upto_next : (line n : ℕ) (ts : List RawToken) → line ≤ n → UpTo line ts → UpTo n ts
upto_next line n ts h u = all_weaker (λ v. v.dst_line ≤ line) (λ v. v.dst_line ≤ n) (λ v k. omega arith) ts u

some_last : (ts : List RawToken) (t : RawToken) → (u : RawToken) × (us : List RawToken) × (ts ++ t ∷ [] ≡ u ∷ us)
some_last [] t = (t, [], refl)
some_last (u ∷ us) t = (u, us ++ t ∷ [], refl)

pub Walked-more : (line : ℕ) (done : List RawToken) (previous : Option RawToken) (t : RawToken)
    → repeats previous t ≡ false → line ≤ t.dst_line
    → Walked line done previous → Walked t.dst_line (done ++ t ∷ []) (Some t)
Walked-more line done previous t e h w =
    let ts = without_repeats done in
    let n = t.dst_line in
    let more = more_list line done previous t e w in
    let upto = upto_next line n ts h w.upto in
    let full = some_last (filter (is_on n) ts) t in
    record {
      rises = subst (λ (us : List RawToken). Rises us) more (Rises-push ts t w.rises upto);
      upto = subst (λ (us : List RawToken). UpTo n us) more (all_push (λ v. v.dst_line ≤ n) ts t upto (omega arith));
      is_at_line = (
        refl,
        subst (λ (us : List RawToken). (u : RawToken) × (vs : List RawToken) × (filter (is_on n) us ≡ u ∷ vs)) more
            (full.0, full.1, filter_push_yes (is_on n) ts t (eq-eqb n n refl) ∙ full.2),
      );
      last = sym (last_or-push None done t);
    }

line_from_order : (p q : ℕ × ℕ) → is_lt (position_cmp q p) ≡ false → p.0 ≤ q.0
line_from_order p q e = grind (arith, nat_tests)

some_inj : (p q : RawToken) → Some p ≡ Some q → p ≡ q
some_inj p q e = cc

-- the next token is on the line that the loop has reached, or on a later one
pub next_line : (i line : ℕ) (tokens : List RawToken) (previous : Option RawToken) (t d : RawToken)
    → AreInOrder tokens → i < length tokens → t ≡ get_or tokens i d → Walked line (take i tokens) previous
    → line ≤ t.dst_line
next_line i line tokens None t d order h at w = (let zero_line = w.is_at_line.0 in omega arith)
next_line zero line tokens (Some p) t d order h at w = absurd (let last = w.last in cc)
next_line (suc k) line tokens (Some p) t d order h at w =
    let before = get_or tokens k d in
    let last : last_or None (take (suc k) tokens) ≡ Some before =
    ap (λ (n : ℕ). last_or None (take n tokens)) (sym (add-one k))
    ∙ ap (last_or None) (take_more tokens k d (omega arith)) ∙ last_or-push None (take k tokens) before in
    let is : p ≡ before = some_inj p before (w.last ∙ last) in
    let sorted = line_from_order (destination before) (destination (get_or tokens (k + 1) d)) (order k d (omega arith)
    (omega arith)) in
    let here : get_or tokens (k + 1) d ≡ t = ap (λ (n : ℕ). get_or tokens n d) (add-one k) ∙ sym at in
    let on : p.dst_line ≡ line = w.is_at_line.0 in
    let its_row : p.dst_line ≡ before.dst_line = ap (λ (u : RawToken). u.dst_line) is in
    let its_line : (get_or tokens (k + 1) d).dst_line ≡ t.dst_line = ap (λ (u : RawToken). u.dst_line) here in
    omega arith

-- after all tokens, the loop has reached the last line
pub count_is : (line : ℕ) (tokens : List RawToken) (p : RawToken) → Walked line tokens (Some p)
    → line + 1 ≡ line_count tokens
count_is line tokens p w =
    ap (λ n. n + 1) (sym w.is_at_line.0) ∙ ap (λ o. option_map_or (λ t. t.dst_line + 1) o 0) w.last

pub all_lines : (line : ℕ) (tokens : List RawToken) (previous : Option RawToken) → Walked line tokens previous
    → filter (is_above (line_count tokens)) (without_repeats tokens) ≡ without_repeats tokens
all_lines line tokens None w = ap (filter (is_above (line_count tokens))) w.is_at_line.1 ∙ sym w.is_at_line.1
all_lines line tokens (Some p) w =
    ap (λ n. filter (is_above n) (without_repeats tokens)) (sym (count_is line tokens p w))
    ∙ all_above line (without_repeats tokens) w.upto

pub Walked-repeat_here : (line : ℕ) (done : List RawToken) (previous : Option RawToken) (t : RawToken)
    → repeats previous t ≡ true
    → Walked line done previous → Walked t.dst_line (done ++ t ∷ []) (Some t)
Walked-repeat_here line done previous t e w =
    let walked = Walked-repeat line done previous t e w in
    subst (λ (n : ℕ). Walked n (done ++ t ∷ []) (Some t)) (sym walked.is_at_line.0) walked
