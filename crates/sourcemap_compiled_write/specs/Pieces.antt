-- Lists that are joined end to end.
use Rattle.std.specs.Prelude.{ℕ, zero, suc, List, [], ◌++◌}

-- the lists that f gives for the numbers below n, in order
unfoldable pub pieces : (ℕ → List ℕ) → ℕ → List ℕ
pieces f zero = []
pieces f (suc n) = pieces f n ++ f n
