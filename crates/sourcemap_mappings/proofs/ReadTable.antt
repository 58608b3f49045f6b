-- How the line table grows with each line.
use Rattle.std.proofs.Common.{◌≡◌, sym, ap, subst, ◌∙◌, ℕ, ◌<◌, ◌≤◌, ◌+◌, List, [], ◌∷◌, ◌++◌, length, get_or, Some}
use Rattle.std.proofs.Common.{arith}
use Rattle.std.specs.List.{AllByRecursion}
use Rattle.std.proofs.lemmas.List.{append_assoc, append-nil, length-append}
use Rattle.sourcemap_tokens.proofs.AllLemmas.{All-append, All-weaker}
use Rattle.sourcemap_tokens.specs.declared.tokens.RawToken.{RawToken}
use Rattle.sourcemap_line_index.specs.LineIndex.{IsLineTable, LineTable, line_at, with_row}
use Rattle.sourcemap_line_index.proofs.TableLemmas.{line_at_more, table_of_line, token_line}
use Rattle.sourcemap_mappings.specs.ReadSteps.{AddsOnLine}

with_none : {X : Type 0} (xs ys : List X) → length ys ≡ 0 → xs ++ ys ≡ xs
with_none xs [] e = append-nil xs
with_none xs (y ∷ ys) e = absurd (omega arith)

-- a line without tokens has no row
pub no_row : (tokens before more : List RawToken) (table : LineTable) → tokens ≡ before ++ more
    → length tokens ≤ length before
    → IsLineTable before (length before) table → IsLineTable tokens (length tokens) table
no_row tokens before more table is none t =
    let many = ap length is ∙ length-append before more in
    subst (λ ts. IsLineTable ts (length ts) table) (sym (is ∙ with_none before more (omega arith))) t

-- a line with tokens adds a row with the index of its first token
pub row_added : (tokens before more : List RawToken) (line first : ℕ) (d : RawToken) (old new : LineTable)
    → tokens ≡ before ++ more → first ≡ length before
    → AllByRecursion (λ t. t.dst_line < line) before → AllByRecursion (λ t. t.dst_line ≡ line) more
    → IsLineTable before (length before) old → first < length tokens
    → new ≡ with_row old (get_or tokens first d).dst_line first
    → IsLineTable tokens (length tokens) new
row_added tokens before more line first d old new is at below all t some row =
    let many = ap length is ∙ length-append before more in
    let more_than_none : 0 < length more = omega arith in
    let none : length before + 0 ≡ length before = omega arith in
    let here : line_at (before ++ more) (length before) ≡ Some line =
    subst (λ n. line_at (before ++ more) n ≡ Some line) none (line_at_more before more line all 0 more_than_none) in
    let own : (get_or tokens first d).dst_line ≡ line =
    ap (λ ts. (get_or ts first d).dst_line) is ∙ ap (λ n. (get_or (before ++ more) n d).dst_line) at
    ∙ token_line (before ++ more) (length before) line d here in
    let same : new ≡ with_row old line (length before) = row ∙ (λ i. with_row old (own i) (at i)) in
    let made = table_of_line before more line all old below more_than_none t in
    subst (λ ts. IsLineTable ts (length ts) new) (sym is)
    (subst (IsLineTable (before ++ more) (length (before ++ more))) (sym same) made)

-- Appending tokens that are all on one line.

pub adds_none : (line : ℕ) (old : List RawToken) → AddsOnLine line old old
adds_none line old = ([], sym (append-nil old), tt)

pub adds_one : (line : ℕ) (old new : List RawToken) (t : RawToken) → new ≡ old ++ t ∷ [] → t.dst_line ≡ line
    → AddsOnLine line old new
adds_one line old new t is on = (t ∷ [], is, (on, tt))

pub adds_both : (line : ℕ) (old now new : List RawToken) → AddsOnLine line old now → AddsOnLine line now new
    → AddsOnLine line old new
adds_both line old now new a b = (
  a.0 ++ b.0,
  b.1 ∙ ap (λ ts. ts ++ b.0) a.1 ∙ append_assoc old a.0 b.0,
  All-append (λ t. t.dst_line ≡ line) a.0 b.0 a.2 b.2,
)

-- all tokens are before the next line
pub below_next : (line : ℕ) (old new : List RawToken) → AllByRecursion (λ t. t.dst_line < line) old
    → AddsOnLine line old new → AllByRecursion (λ t. t.dst_line < line + 1) new
below_next line old new below a =
    subst (AllByRecursion (λ t. t.dst_line < line + 1)) (sym a.1)
    (All-append (λ t. t.dst_line < line + 1) old a.0
    (All-weaker (λ t. t.dst_line < line) (λ t. t.dst_line < line + 1) (λ t l. omega (arith, l)) old below)
    (All-weaker (λ t. t.dst_line ≡ line) (λ t. t.dst_line < line + 1) (λ t e. omega (arith, e)) a.0 a.2))
