-- Digits of base 64 and their values.
use Rattle.std.proofs.Common.{◌≡◌, ℕ, ◌<◌, ◌≤◌, ◌==◌, Bool, true, slice_index, Option, Some, None, unwrap_or, refl, ap}
use Rattle.std.proofs.Common.{arith}
use Rattle.std.proofs.lemmas.Bool.{agree_below_at, eqb-true}
use Rattle.std.proofs.lemmas.Bool.Decides.{nat_tests}
use Rattle.sourcemap_vlq.specs.declared.vlq.TheConstants.{VALUES, GLYPHS}
use Rattle.sourcemap_vlq.specs.Vlq.{digit_value, glyph}

pub digit_value-below : (c v : ℕ) → digit_value c ≡ Some v → v < 64
unfolding digit_value
digit_value-below c v e = grind (arith, nat_tests)

pub glyph-digit_value : (c v : ℕ) → digit_value c ≡ Some v → glyph v ≡ c
unfolding digit_value glyph
glyph-digit_value c v e = grind (arith, nat_tests)

pub digit_value-glyph : (v : ℕ) → v < 64 → digit_value (glyph v) ≡ Some v
unfolding digit_value glyph
digit_value-glyph v h = grind (arith, nat_tests)

pub glyph-ascii : (v : ℕ) → v < 64 → glyph v < 128
unfolding glyph
glyph-ascii v h = grind (arith, nat_tests)

-- the table `VALUES` agrees with `digit_value` (64 stands for `None`), and the table `GLYPHS` agrees with `glyph`
holds_value : ℕ → Bool
holds_value c = slice_index VALUES c == unwrap_or (digit_value c) 64

holds_glyph : ℕ → Bool
holds_glyph v = slice_index GLYPHS v == glyph v

pub values-at : (c : ℕ) → c < 256 → slice_index VALUES c ≡ unwrap_or (digit_value c) 64
unfolding holds_value digit_value
values-at c h = eqb-true _ _ (agree_below_at holds_value (λ _. true) 256 c refl h)

pub glyphs-at : (v : ℕ) → v < 64 → slice_index GLYPHS v ≡ glyph v
unfolding holds_glyph glyph
glyphs-at v h = eqb-true _ _ (agree_below_at holds_glyph (λ _. true) 64 v refl h)

some_found : (o : Option ℕ) (v : ℕ) → v ≡ unwrap_or o 64 → v < 64 → Some v ≡ o
some_found (Some w) v e h = ap Some e
some_found None v e h = absurd (omega arith)

none_found : (o : Option ℕ) (v : ℕ) → ((w : ℕ) → o ≡ Some w → w < 64) → v ≡ unwrap_or o 64 → 64 ≤ v → None ≡ o
none_found (Some w) v below e h = let lt : w < 64 = below w refl in absurd (omega arith)
none_found None v below e h = refl

pub value_found : (c : ℕ) → c < 256 → slice_index VALUES c < 64 → Some (slice_index VALUES c) ≡ digit_value c
value_found c small h = some_found (digit_value c) (slice_index VALUES c) (values-at c small) h

pub value_missing : (c : ℕ) → c < 256 → 64 ≤ slice_index VALUES c → None ≡ digit_value c
value_missing c small h = none_found (digit_value c) (slice_index VALUES c) (digit_value-below c) (values-at c small) h
