-- The item of a list that is closest to a key.
use Rattle.std.specs.Prelude.{◌≡◌, ℕ, Bool, cond, List, [], ◌∷◌, Option, Some, None, find}
use Rattle.std.specs.List.{enumerate_from}
use Rattle.std.specs.Option.{option_or}
use Rattle.std.specs.Ordering.{is_eq, is_lt}
use Rattle.std.specs.declared.cmp.Ordering.{Ordering}
use denote.Ref.{Bor}

-- the last item that satisfies the test
abbrev pub find_last : {X : Type 0} → (X → Bool) → List X → Option X
find_last test [] = None
find_last test (x ∷ xs) = option_or (find_last test xs) (cond (test x) (Some x) None)

-- the first item with key p, otherwise the last item with a smaller key
abbrev pub closest_item : {X K : Type 0} → (X → K) → (K → K → Ordering) → List X → K → Option X
closest_item key cmp xs p = option_or (find (λ x. is_eq (cmp (key x) p)) xs) (find_last (λ x. is_lt (cmp (key x) p)) xs)

-- the closest item with its index
unfoldable pub closest : {X K : Type 0} → (X → K) → (K → K → Ordering) → List X → K → Option (ℕ × X)
closest key cmp xs p = closest_item (λ entry. key entry.1) cmp (enumerate_from 0 xs) p

-- a closure returns the `key` of its argument
abbrev pub GivesKey : {X K : Type 0} → (Bor X → K → Type 0) → (X → K) → Type 0
GivesKey {X} {K} gives key = (x : Bor X) (k : K) → gives x k → k ≡ key x.now
