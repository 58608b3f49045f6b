-- A column looked up from an offset of its line.
use Rattle.std.proofs.Common.{◌≡◌, ℕ, ◌+◌, ◌-◌, ◌≤◌, nat_le, nat_lt, Bool, true, false, not, cond, List, take, drop}
use Rattle.std.proofs.Common.{Option, Some, None, option_map, sym, ◌∙◌, ap, refl, arith, IsUtf8, chars}
use Rattle.std.specs.Prelude.{is_none}
use Rattle.std.specs.Option.{option_map_or}
use Rattle.std.proofs.lemmas.Bool.Decides.{nat_tests}
use Rattle.std.proofs.lemmas.Str.{IsCharBoundary-from_rest}
use Rattle.sourcemap_source_views.specs.Columns.{IsOffset, column_offset, reached_offset, width}
use Rattle.sourcemap_source_views.proofs.ColumnsLemmas.{offset-further, offset-own, offset-ahead}
use Rattle.sourcemap_check_texts.specs.Doubts.{is_past_line, splits_pair}

less_far : (col units more : ℕ) → units ≤ col → nat_le (col - units) more ≡ nat_le col (units + more)
less_far col units more l = grind (arith, nat_tests)

moved_offset : (b : Bool) (from off : ℕ)
    → option_map (λ n. from + n) (cond b (Some off) None) ≡ cond b (Some (from + off)) None
moved_offset true from off = refl
moved_offset false from off = refl

pub found-further : (line : List ℕ) (col from units : ℕ) (found : Option ℕ) → IsUtf8 line → IsOffset line from units
    → units ≤ col → found ≡ column_offset (drop from line) (col - units)
    → option_map (λ n. from + n) found ≡ column_offset line col
found-further line col from units found u p l e =
    let sum : units + (col - units) ≡ col = omega arith in
    let further = offset-further line units (col - units) from units u (offset-own line from units u p) p.1 in
    ap (option_map (λ n. from + n)) e
    ∙ ap (λ n. option_map (λ k. from + k) (column_offset (drop from line) (n - units))) (sym sum) ∙ sym further
    ∙ ap (column_offset line) sum

pub reached-further : (line : List ℕ) (col from units off more : ℕ) → IsUtf8 line → IsOffset line from units → units ≤ col
    → reached_offset (col - units) off more ≡ column_offset (drop from line) (col - units)
    → reached_offset col (from + off) (units + more) ≡ column_offset line col
reached-further line col from units off more u p l e =
    ap (λ b. cond b (Some (from + off)) None) (sym (less_far col units more l))
    ∙ sym (moved_offset (nat_le (col - units) more) from off) ∙ found-further line col from units _ u p l e

pub offset-sum : (line : List ℕ) (from units off more : ℕ) → IsUtf8 line → IsOffset line from units
    → IsOffset (drop from line) off more → IsOffset line (from + off) (units + more)
offset-sum line from units off more u p q =
    let between : off ≡ from + off - from = omega arith in
    offset-ahead line from units (from + off) more u p (IsCharBoundary-from_rest line from off p.0.0 q.0) (omega arith)
    (q.1 ∙ ap (λ n. width (chars (take n (drop from line)))) between)

-- ---- what an offset says of its column

none_if : (b : Bool) (offset : ℕ) → is_none (cond b (Some offset) None) ≡ not b
none_if true offset = refl
none_if false offset = refl

before : (col units : ℕ) → nat_lt units col ≡ not (nat_le col units)
before col units = grind (arith, nat_tests)

pub past_line_at : (line : List ℕ) (col offset units : ℕ) → reached_offset col offset units ≡ column_offset line col
    → nat_lt units col ≡ is_past_line line col
past_line_at line col offset units e = before col units ∙ sym (none_if (nat_le col units) offset) ∙ ap is_none e

test_if : (b : Bool) (f : ℕ → Bool) (offset : ℕ) → option_map_or f (cond b (Some offset) None) false ≡ cond b (f offset) false
test_if true f offset = refl
test_if false f offset = refl

after : (col units : ℕ) → nat_lt col units ≡ cond (nat_le col units) (nat_lt col units) false
after col units = grind (arith, nat_tests)

pub splits_pair_at : (line : List ℕ) (col offset units : ℕ) → reached_offset col offset units ≡ column_offset line col
    → IsOffset line offset units → nat_lt col units ≡ splits_pair line col
splits_pair_at line col offset units e p =
    let test = λ (n : ℕ). nat_lt col (width (chars (take n line))) in
    after col units ∙ ap (λ n. cond (nat_le col units) (nat_lt col n) false) p.1
    ∙ sym (test_if (nat_le col units) test offset) ∙ ap (λ o. option_map_or test o false) e
