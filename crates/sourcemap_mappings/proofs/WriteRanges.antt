-- The encoded range flags after one more token.
use Rattle.std.proofs.Common.{◌≡◌, ℕ, ◌+◌, ◌-◌, ◌%◌, ◌<◌, ◌==◌, Bool, true, false, List, [], ◌∷◌, ◌++◌, map, filter}
use Rattle.std.proofs.Common.{replicate, Option, Some, None, refl, sym, ap, subst, ◌∙◌, arith}
use Rattle.std.specs.Option.{option_map_or}
use Rattle.std.proofs.lemmas.List.{map-append}
use Rattle.std.proofs.lemmas.Nat.Bits.{bit_at-zero}
use Rattle.std.proofs.lemmas.Bool.{eq-eqb, ne_eqb}
use Rattle.sourcemap_tokens.specs.declared.tokens.RawToken.{RawToken}
use Rattle.sourcemap_vlq.specs.Bits.{bit_of, IsBitText}
use Rattle.sourcemap_tokens.specs.Tokens.{without_repeats}
use Rattle.sourcemap_mappings.specs.Segment.{semicolon}
use Rattle.sourcemap_mappings.specs.Write.{is_on, IsRangeLine, LineByLine}
use Rattle.sourcemap_mappings.specs.WriteSteps.{repeats}
use Rattle.sourcemap_vlq.proofs.BitLemmas.{IsBitText-same}
use Rattle.sourcemap_mappings.proofs.WriteTokens.{UpTo, none_on, filter_push_no, filter_push_yes}
use Rattle.sourcemap_mappings.proofs.WriteWalk.{Walked, same_list, more_list, count_is}
use Rattle.sourcemap_mappings.proofs.WriteLines.{Ended, Ended-none, Ended-map, Ended-turn, Ended-last, Ended-zero}

pub no_bit : (j : ℕ) → bit_of [] j ≡ false
no_bit j = ap (λ n. n == 1) (bit_at-zero (j % 6))

IsBitText-nil : IsBitText [] []
IsBitText-nil = record { digits = refl; each = no_bit; short = λ k e. absurd (omega arith) }

IsRangeLine-blank : (line m : ℕ) (ts : List RawToken) → UpTo line ts → line < m → IsRangeLine ts m []
IsRangeLine-blank line m ts u h =
    subst (λ (us : List RawToken). IsBitText (map (λ t. t.is_range) us) []) (sym (none_on line m ts u h)) IsBitText-nil

IsRangeLine-kept : (m : ℕ) (ts : List RawToken) (t : RawToken) (bits : List ℕ) → m < t.dst_line → IsRangeLine ts m bits
    → IsRangeLine (ts ++ t ∷ []) m bits
IsRangeLine-kept m ts t bits h is =
    subst (λ (us : List RawToken). IsBitText (map (λ u. u.is_range) us) bits)
    (sym (filter_push_no (is_on m) ts t (ne_eqb t.dst_line m (λ e. omega arith)))) is

-- `text` holds the range bits of `ts` for each line above line `line`, with a `;` after each of these lines. `flags`
-- are the range flags of the tokens of `ts` on line `line`
pub record Ranging (line : ℕ) (ts : List RawToken) (text : List ℕ) (flags : List Bool) : Type 0 where
  pub ended : Ended (IsRangeLine ts) line text
  pub flags_are : flags ≡ map (λ t. t.is_range) (filter (is_on line) ts)

pub Ranging-none : Ranging 0 [] [] []
Ranging-none = record { ended = Ended-none (IsRangeLine []); flags_are = refl }

-- let `line < n`, and let no token of `ts` be after line `line`. Let `text` hold the range bits of the lines above line
-- `line`, let `flags` be the range flags of line `line` (`Ranging`), and let `bits` be the encoding of `flags`. If
-- `bits` and then `n - line` semicolons are appended to `text`, the new text holds the range bits of the lines above
-- line `n`, and line `n` has no flags
pub Ranging-turn : (line n : ℕ) (ts : List RawToken) (text bits : List ℕ) (flags : List Bool) → line < n → UpTo line ts
    → IsBitText flags bits → Ranging line ts text flags
    → Ranging n ts ((text ++ bits) ++ replicate (n - line) semicolon) []
Ranging-turn line n ts text bits flags h u is r = record {
  ended = Ended-turn (IsRangeLine ts) line n text bits h (λ m k. IsRangeLine-blank line m ts u k) r.ended
      (subst (λ (fs : List Bool). IsBitText fs bits) r.flags_are is);
  flags_are = ap (map (λ t. t.is_range)) (sym (none_on line n ts u h));
}

pub Ranging-repeat : (line : ℕ) (done : List RawToken) (previous : Option RawToken) (t : RawToken) (n : ℕ)
    (text : List ℕ) (flags : List Bool)
    → repeats previous t ≡ true → Walked line done previous → Ranging n (without_repeats done) text flags
    → Ranging n (without_repeats (done ++ t ∷ [])) text flags
Ranging-repeat line done previous t n text flags e w r =
    subst (λ (ts : List RawToken). Ranging n ts text flags) (same_list line done previous t e w) r

pub Ranging-more : (line : ℕ) (done : List RawToken) (previous : Option RawToken) (t : RawToken) (text : List ℕ)
    (flags : List Bool)
    → repeats previous t ≡ false → Walked line done previous → Ranging t.dst_line (without_repeats done) text flags
    → Ranging t.dst_line (without_repeats (done ++ t ∷ [])) text (flags ++ t.is_range ∷ [])
Ranging-more line done previous t text flags e w r =
    let ts = without_repeats done in
    let n = t.dst_line in
    let grown : Ranging n (ts ++ t ∷ []) text (flags ++ t.is_range ∷ []) = record {
      ended = Ended-map (IsRangeLine ts) (IsRangeLine (ts ++ t ∷ [])) n text (λ m bits k is.
          IsRangeLine-kept m ts t bits k is) r.ended;
      flags_are =
          ap (λ fs. fs ++ t.is_range ∷ []) r.flags_are
          ∙ sym (map-append (λ u. u.is_range) (filter (is_on n) ts) (t ∷ []))
          ∙ ap (map (λ u. u.is_range)) (sym (filter_push_yes (is_on n) ts t (eq-eqb n n refl)));
    } in
    subst (λ (us : List RawToken). Ranging n us text (flags ++ t.is_range ∷ []))
    (more_list line done previous t e w) grown

pub Ranging-end : (line : ℕ) (tokens : List RawToken) (previous : Option RawToken) (text bits : List ℕ)
    (flags : List Bool)
    → IsBitText flags bits → Walked line tokens previous → Ranging line (without_repeats tokens) text flags
    → LineByLine (IsRangeLine (without_repeats tokens)) tokens (text ++ bits)
Ranging-end line tokens None text bits flags is w r =
    let no_flags : flags ≡ [] =
    r.flags_are ∙ ap (λ ts. map (λ t. t.is_range) (filter (is_on line) ts)) w.is_at_line.1 in
    let no_bits : bits ≡ [] =
    IsBitText-same [] bits [] (subst (λ (fs : List Bool). IsBitText fs bits) no_flags is) IsBitText-nil in (
      [],
      sym (ap (λ o. option_map_or (λ t. t.dst_line + 1) o 0) (sym w.last)),
      tt,
      ap (λ t. t ++ bits) (Ended-zero (IsRangeLine (without_repeats tokens)) line text w.is_at_line.0 r.ended)
          ∙ no_bits,
    )
Ranging-end line tokens (Some p) text bits flags is w r =
    Ended-last (IsRangeLine (without_repeats tokens)) line text bits tokens (count_is line tokens p w) r.ended
    (subst (λ (fs : List Bool). IsBitText fs bits) r.flags_are is)
