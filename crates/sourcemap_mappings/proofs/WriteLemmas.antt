-- Lemmas that combine the steps of encoding.
use Rattle.std.proofs.Common.{◌≡◌, ℕ, List, [], ◌∷◌, ◌++◌, ℤ, Bool, true, false, cond, refl, sym, ap, subst, ◌∙◌}
use Rattle.std.proofs.Common.{append_assoc, append-nil}
use Rattle.sourcemap_vlq.specs.Vlq.{Spells, IsShortest}
use Rattle.sourcemap_tokens.specs.declared.tokens.RawToken.{RawToken}
use Rattle.sourcemap_mappings.specs.Write.{has_source, has_name, difference, numbers}
use Rattle.sourcemap_mappings.specs.Buffer.{Adds}

pub Spells-append : (ms ns : List ℤ) (a b : List ℕ) → Spells ms a → Spells ns b → Spells (ms ++ ns) (a ++ b)
Spells-append [] ns a b sa sb = let P : List ℕ → Type 0 = λ t. Spells ns (t ++ b) in subst P (sym sa) sb
Spells-append (m ∷ ms) ns a b sa sb =
    (sa.0, sa.1 ++ b, sa.2, ap (λ t. t ++ b) sa.3 ∙ append_assoc sa.0 sa.1 b, Spells-append ms ns sa.1 b sa.4 sb)

pub Adds-join : (ms ns : List ℤ) (s t u : List ℕ) → Adds ms s t → Adds ns t u → Adds (ms ++ ns) s u
Adds-join ms ns s t u x y = record {
  digits = x.digits ++ y.digits;
  spelled = Spells-append ms ns x.digits y.digits x.spelled y.spelled;
  added = y.added ∙ ap (λ r. r ++ y.digits) x.added ∙ append_assoc s x.digits y.digits;
}

pub Spells-one : (n : ℤ) (digits : List ℕ) → IsShortest digits n → Spells (n ∷ []) digits
Spells-one n digits short = (digits, [], short, sym (append-nil digits), refl)

-- the numbers of a token with a source, without the number for the name
source_numbers : RawToken → RawToken → List ℤ
source_numbers against t =
    difference t.dst_col against.dst_col
    ∷ difference t.src_id against.src_id
    ∷ difference t.src_line against.src_line
    ∷ difference t.src_col against.src_col
    ∷ []

source_added : (against t : RawToken) (s a b c d : List ℕ)
    → Adds (difference t.dst_col against.dst_col ∷ []) s a
    → Adds (difference t.src_id against.src_id ∷ []) a b
    → Adds (difference t.src_line against.src_line ∷ []) b c
    → Adds (difference t.src_col against.src_col ∷ []) c d
    → Adds (source_numbers against t) s d
unfolding source_numbers
source_added against t s a b c d x y z w = Adds-join _ _ s c d (Adds-join _ _ s b c (Adds-join _ _ s a b x y) z) w

-- the numbers of the token `t`, relative to `against`. `source` says whether `t` has a source, and `name` says whether
-- `t` has a name. If `source` is false, `name` has no effect
unfoldable pub numbers_by : RawToken → RawToken → Bool → Bool → List ℤ
numbers_by against t source name =
    difference t.dst_col against.dst_col
    ∷ cond source
    (difference t.src_id against.src_id
    ∷ difference t.src_line against.src_line
    ∷ difference t.src_col against.src_col
    ∷ cond name (difference t.name_id against.name_id ∷ []) [])
    []

pub numbers_are : (names : ℕ) (against t : RawToken) (p q : Bool) → has_source t ≡ p → has_name names t ≡ q
    → numbers names against t ≡ numbers_by against t p q
unfolding numbers_by
numbers_are names against t p q source name =
    ap (λ b. numbers_by against t b (has_name names t)) source ∙ ap (numbers_by against t p) name

pub unnamed_added : (names : ℕ) (against t : RawToken) (s a b c d : List ℕ)
    → has_source t ≡ true → has_name names t ≡ false
    → Adds (difference t.dst_col against.dst_col ∷ []) s a
    → Adds (difference t.src_id against.src_id ∷ []) a b
    → Adds (difference t.src_line against.src_line ∷ []) b c
    → Adds (difference t.src_col against.src_col ∷ []) c d
    → Adds (numbers names against t) s d
unfolding source_numbers numbers_by
unnamed_added names against t s a b c d source name x y z w =
    let is = numbers_are names against t true false source name in
    subst (λ (ns : List ℤ). Adds ns s d) (sym is) (source_added against t s a b c d x y z w)

pub named_added : (names : ℕ) (against t : RawToken) (s a b c d e : List ℕ)
    → has_source t ≡ true → has_name names t ≡ true
    → Adds (difference t.dst_col against.dst_col ∷ []) s a
    → Adds (difference t.src_id against.src_id ∷ []) a b
    → Adds (difference t.src_line against.src_line ∷ []) b c
    → Adds (difference t.src_col against.src_col ∷ []) c d
    → Adds (difference t.name_id against.name_id ∷ []) d e
    → Adds (numbers names against t) s e
unfolding source_numbers numbers_by
named_added names against t s a b c d e source name x y z w v =
    let is = numbers_are names against t true true source name in
    subst (λ (ns : List ℤ). Adds ns s e) (sym is) (Adds-join _ _ s d e (source_added against t s a b c d x y z w) v)
