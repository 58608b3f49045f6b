-- Two searches find the tokens in a module's text. The first search drops the tokens before the start of the text. From
-- the rest, the second search keeps the tokens before the end of the text.
use Rattle.std.proofs.Common.{◌≡◌, ◌∙◌, refl, sym, ap, subst, ℕ, zero, suc, ◌+◌, ◌-◌, ◌<◌, ◌≤◌, List, [], ◌∷◌, length}
use Rattle.std.proofs.Common.{get_or, take, drop, map, filter, All, Bool, true, false, cond, not, ◌&&◌, ltb, arith}
use Rattle.std.specs.List.{AllByRecursion}
use Rattle.std.specs.List.Sorted.{IsPartitionPoint, IsPartitionedBy}
use Rattle.std.specs.Ordering.{is_lt, ordering_index, ordering_then, nat_cmp}
use Rattle.std.specs.declared.cmp.Ordering.{Ordering}
use Rattle.std.specs.declared.cmp.Ordering.TheVariants.{Less, Equal, Greater}
use Rattle.std.proofs.lemmas.List.Elements.{All-head, All-tail, All-weaker, filter_passes}
use Rattle.std.proofs.lemmas.List.Sorted.{IsPartitionedBy-ltb, ranks_by, searchable_from_sorted}
use Rattle.sourcemap_tokens.specs.Tokens.{AreInOrder, destination, position_cmp}
use Rattle.sourcemap_tokens.specs.declared.tokens.RawToken.{RawToken}
use Rattle.sourcemap_tokens.proofs.SortLemmas.{Rises, Rises-from_sorted, sorted_from_Rises}
use Rattle.sourcemap_tokens.proofs.TokensLemmas.{position_cmp_total}
use Rattle.sourcemap_bundle_split.specs.ModuleMap.{moved_by}
use Rattle.sourcemap_bundle_split.proofs.LoweredLemmas.{cmp-relative_position, not_before-line}

-- Lists in which the items that pass a test come first.

point_parts : {X : Type 0} (p : X → Bool) (xs : List X) (i : ℕ) → i ≤ length xs
    → IsPartitionPoint (λ y. p y ≡ true) (λ y. p y ≡ false) xs i
    → (take i xs ≡ filter p xs) × (drop i xs ≡ filter (λ x. not (p x)) xs)
point_parts p [] zero bound point = (refl, refl)
point_parts p [] (suc i) bound point = absurd (omega arith)
point_parts p (x ∷ xs) zero bound point =
    let fails : p x ≡ false = point.1 0 x (omega arith) (omega arith) in
    let rest = point_parts p xs 0 (omega arith) (
      (λ k d l m. absurd (omega arith)),
      (λ k d l m. point.1 (suc k) d (omega arith) (omega arith)),
    ) in
    ((rw fails rest.0), (rw fails (ap (λ ys. x ∷ ys) rest.1)))
point_parts p (x ∷ xs) (suc i) bound point =
    let passes : p x ≡ true = point.0 0 x (omega arith) (omega arith) in
    let rest = point_parts p xs i (omega arith) (
      (λ k d l m. point.0 (suc k) d (omega arith) (omega arith)),
      (λ k d l m. point.1 (suc k) d (omega arith) (omega arith)),
    ) in
    ((rw passes (ap (λ ys. x ∷ ys) rest.0)), (rw passes rest.1))

abbrev pub stands_before : ℕ × ℕ → RawToken → Bool
stands_before b t = is_lt (position_cmp (destination t) b)

pub before_first : (tokens : List RawToken) (b : ℕ × ℕ) (i : ℕ) → i ≤ length tokens
    → IsPartitionPoint (λ t. stands_before b t ≡ true) (λ t. stands_before b t ≡ false) tokens i
    → take i tokens ≡ filter (stands_before b) tokens
before_first tokens b i bound point = (point_parts (stands_before b) tokens i bound point).0

pub not_before_later : (tokens : List RawToken) (b : ℕ × ℕ) (i : ℕ) → i ≤ length tokens
    → IsPartitionPoint (λ t. stands_before b t ≡ true) (λ t. stands_before b t ≡ false) tokens i
    → drop i tokens ≡ filter (λ t. not (stands_before b t)) tokens
not_before_later tokens b i bound point = (point_parts (stands_before b) tokens i bound point).1

rank_less : (o : Ordering) → is_lt o ≡ ltb (ordering_index o) 1
rank_less Less = refl
rank_less Equal = refl
rank_less Greater = refl

-- if `tokens` are in order, the tokens before the position `b` come first
pub parted : (tokens : List RawToken) (b : ℕ × ℕ) → AreInOrder tokens → IsPartitionedBy (stands_before b) tokens
parted tokens b up i j d l m passes =
    let rises = searchable_from_sorted position_cmp_total destination tokens b up in
    let later : ltb (ordering_index (position_cmp (destination (get_or tokens j d)) b)) 1 ≡ true =
    sym (rank_less (position_cmp (destination (get_or tokens j d)) b)) ∙ passes in
    rank_less (position_cmp (destination (get_or tokens i d)) b)
    ∙ IsPartitionedBy-ltb (λ t. ordering_index (position_cmp (destination t) b)) tokens 1 rises i j d l m later

-- Filtering by `p`, and then by `q`, keeps the items that pass both tests.

pub filter-both : {X : Type 0} (p q : X → Bool) (xs : List X) → filter q (filter p xs) ≡ filter (λ x. p x && q x) xs
filter-both p q [] = refl
filter-both {X} p q (x ∷ xs) = by_cases (p x) (q x) refl refl (filter-both p q xs)
  where
    by_cases : (a b : Bool) → p x ≡ a → q x ≡ b → filter q (filter p xs) ≡ filter (λ x. p x && q x) xs
        → filter q (filter p (x ∷ xs)) ≡ filter (λ x. p x && q x) (x ∷ xs)
    by_cases true true a b rest = rw (a, b) (ap (λ ys. x ∷ ys) rest)
    by_cases true false a b rest = rw (a, b) rest
    by_cases false b' a b rest = rw a rest

-- If tokens are in order, the tokens that a filter keeps are in order too. If tokens are in order, and all of them are
-- on `line` or on later lines, they stay in order when `moved_by` counts their lines from `line`.

all-filter : {X : Type 0} (P : X → Type 0) (p : X → Bool) (xs : List X) → AllByRecursion P xs
    → AllByRecursion P (filter p xs)
all-filter P p [] all = tt
all-filter {X} P p (x ∷ xs) all = by_cases (p x) refl (all-filter P p xs all.1)
  where
    by_cases : (b : Bool) → p x ≡ b → AllByRecursion P (filter p xs) → AllByRecursion P (filter p (x ∷ xs))
    by_cases true b rest = rw b (all.0, rest)
    by_cases false b rest = rw b rest

rises-filter : {X : Type 0} (lt : X → X → Bool) (p : X → Bool) (xs : List X) → Rises lt xs → Rises lt (filter p xs)
rises-filter lt p [] up = tt
rises-filter {X} lt p (x ∷ xs) up = by_cases (p x) refl (rises-filter lt p xs up.1)
  where
    by_cases : (b : Bool) → p x ≡ b → Rises lt (filter p xs) → Rises lt (filter p (x ∷ xs))
    by_cases true b rest = rw b (all-filter (λ y. lt y x ≡ false) p xs up.0, rest)
    by_cases false b rest = rw b rest

abbrev stands_less : RawToken → RawToken → Bool
stands_less a b = is_lt (position_cmp (destination a) (destination b))

rising : (tokens : List RawToken) → AreInOrder tokens → Rises stands_less tokens
rising tokens up = Rises-from_sorted stands_less (ranks_by position_cmp_total destination) tokens up

less-moved : (line : ℕ) (sources names : List ℕ) (a b : RawToken) → line ≤ a.dst_line → line ≤ b.dst_line
    → stands_less (moved_by line sources names a) (moved_by line sources names b) ≡ stands_less a b
less-moved line sources names a b la lb = ap (λ o. is_lt
    (ordering_then o (nat_cmp a.dst_col b.dst_col))) (cmp-relative_position a.dst_line b.dst_line line la lb)

all-moved : (line : ℕ) (sources names : List ℕ) (x : RawToken) (xs : List RawToken) → line ≤ x.dst_line
    → All (λ t. line ≤ t.dst_line) xs
    → AllByRecursion (λ y. stands_less y x ≡ false) xs
    → AllByRecursion (λ y. stands_less y (moved_by line sources names x) ≡ false) (map (moved_by line sources names) xs)
all-moved line sources names x [] lx later all = tt
all-moved line sources names x (y ∷ ys) lx later all = (
  less-moved line sources names y x (All-head (λ (t : RawToken). line ≤ t.dst_line) y ys later) lx ∙ all.0,
  all-moved line sources names x ys lx (All-tail (λ (t : RawToken). line ≤ t.dst_line) y ys later) all.1,
)

rises-moved : (line : ℕ) (sources names : List ℕ) (xs : List RawToken) → All (λ t. line ≤ t.dst_line) xs
    → Rises stands_less xs
    → Rises stands_less (map (moved_by line sources names) xs)
rises-moved line sources names [] later up = tt
rises-moved line sources names (x ∷ xs) later up = (
  all-moved line sources names x xs (All-head (λ (t : RawToken). line ≤ t.dst_line) x xs later)
      (All-tail (λ (t : RawToken). line ≤ t.dst_line) x xs later) up.0,
  rises-moved line sources names xs (All-tail (λ (t : RawToken). line ≤ t.dst_line) x xs later) up.1,
)

pub in_order-moved : (line : ℕ) (sources names : List ℕ) (tokens : List RawToken) → All (λ t. line ≤ t.dst_line) tokens
    → AreInOrder tokens
    → AreInOrder (map (moved_by line sources names) tokens)
in_order-moved line sources names tokens later up =
    sorted_from_Rises stands_less (map (moved_by line sources names) tokens)
    (rises-moved line sources names tokens later (rising tokens up))

-- the tokens that are not before the start of `line` are on `line` or on a later line
pub later-from : (line : ℕ) (tokens : List RawToken)
    → All (λ t. line ≤ t.dst_line) (filter (λ t. not (stands_before (line, 0) t)) tokens)
later-from line tokens =
    All-weaker (λ (t : RawToken). not (stands_before (line, 0) t) ≡ true) (λ (t : RawToken). line ≤ t.dst_line)
    (λ t passes. not_before-line line (destination t) passes) (filter (λ t. not (stands_before (line, 0) t)) tokens)
    (filter_passes (λ (t : RawToken). not (stands_before (line, 0) t)) tokens)
