-- Tokens and a count of names have at most one encoding as `mappings`. Tokens have at most one encoding as
-- `rangeMappings`.
use Rattle.std.proofs.Common.{◌≡◌, ℕ, ◌+◌, List, [], ◌∷◌, ◌++◌, length, filter, map, Option, Some, None, refl, sym, ap}
use Rattle.std.proofs.Common.{◌∙◌, arith}
use Rattle.std.specs.List.{join_with_byte}
use Rattle.sourcemap_tokens.specs.declared.tokens.RawToken.{RawToken}
use Rattle.sourcemap_tokens.specs.Tokens.{without_repeats}
use Rattle.sourcemap_mappings.specs.Segment.{comma, semicolon}
use Rattle.sourcemap_mappings.specs.Write.{is_on, is_above, base, numbers, AreSegments, IsLine, IsRangeLine, EachLine}
use Rattle.sourcemap_mappings.specs.Write.{LineByLine, IsWritten, IsRangeText}
use Rattle.sourcemap_vlq.proofs.VlqLemmas.{Spells-same}
use Rattle.sourcemap_vlq.proofs.BitLemmas.{IsBitText-same}

EachLine-same : (P : ℕ → List ℕ → Type 0) → ((m : ℕ) (a b : List ℕ) → P m a → P m b → a ≡ b)
    → (n : ℕ) (xs ys : List (List ℕ)) → length xs ≡ length ys → EachLine P n xs → EachLine P n ys → xs ≡ ys
EachLine-same P one n [] [] len ex ey = refl
EachLine-same P one n [] (y ∷ ys) len ex ey = absurd (omega arith)
EachLine-same P one n (x ∷ xs) [] len ex ey = absurd (omega arith)
EachLine-same P one n (x ∷ xs) (y ∷ ys) len ex ey =
    ap (λ t. t ∷ xs) (one n x y ex.0 ey.0)
    ∙ ap (λ ts. y ∷ ts) (EachLine-same P one (n + 1) xs ys (omega arith) ex.1 ey.1)

LineByLine-same : (P : ℕ → List ℕ → Type 0) → ((m : ℕ) (a b : List ℕ) → P m a → P m b → a ≡ b)
    → (tokens : List RawToken) (a b : List ℕ) → LineByLine P tokens a → LineByLine P tokens b → a ≡ b
LineByLine-same P one tokens a b x y =
    x.3 ∙ ap (join_with_byte semicolon) (EachLine-same P one 0 x.0 y.0 (x.1 ∙ sym y.1) x.2 y.2) ∙ sym y.3

AreSegments-same : (names : ℕ) (before ts : List RawToken) (xs ys : List (List ℕ)) → AreSegments names before ts xs
    → AreSegments names before ts ys → xs ≡ ys
AreSegments-same names before [] xs ys ax ay = ax ∙ sym ay
AreSegments-same names before (t ∷ ts) [] ys ax ay = absurd ax
AreSegments-same names before (t ∷ ts) (x ∷ xs) [] ax ay = absurd ay
AreSegments-same names before (t ∷ ts) (x ∷ xs) (y ∷ ys) ax ay =
    ap (λ s. s ∷ xs) (Spells-same (numbers names (base names t.dst_line before) t) x y ax.0 ay.0)
    ∙ ap (λ ss. y ∷ ss) (AreSegments-same names (before ++ t ∷ []) ts xs ys ax.1 ay.1)

pub IsWritten-same : (names : ℕ) (tokens : List RawToken) (a b : List ℕ) → IsWritten names tokens a
    → IsWritten names tokens b → a ≡ b
IsWritten-same names tokens a b x y =
    let ts = without_repeats tokens in
    LineByLine-same (IsLine names ts)
    (λ m s t ls lt. ls.2 ∙ ap (join_with_byte comma) (AreSegments-same names (filter (is_above m) ts)
    (filter (is_on m) ts) ls.0 lt.0 ls.1 lt.1) ∙ sym lt.2)
    tokens a b x y

pub IsRangeText-same : (tokens : List RawToken) (a b : Option (List ℕ)) → IsRangeText tokens a
    → IsRangeText tokens b → a ≡ b
IsRangeText-same tokens None None x y = refl
IsRangeText-same tokens None (Some b) x y = absurd (let no = sym x ∙ y.0 in cc)
IsRangeText-same tokens (Some a) None x y = absurd (let no = sym y ∙ x.0 in cc)
IsRangeText-same tokens (Some a) (Some b) x y =
    ap Some (LineByLine-same (IsRangeLine (without_repeats tokens))
    (λ m s t ls lt. IsBitText-same
    (map (λ u. u.is_range) (filter (is_on m) (without_repeats tokens))) s t ls lt) tokens a b x.1 y.1)
