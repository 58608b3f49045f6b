-- The bytes of a writer and of its buffer.
use Rattle.std.specs.Prelude.{ℕ, List, Option}
use Rattle.std.specs.Io.KnownBytes.{Appends, append_known}

-- `held` are the bytes of the writer before a write, and `gathered` are the bytes of its buffer. `held'` and
-- `gathered'` are the bytes of both after the write. If `held` is known, then `held'` is known, and
-- `held' ++ gathered'` is `held ++ gathered ++ text`. If `held` is `None`, nothing is said.
abbrev pub Grows : Option (List ℕ) → List ℕ → Option (List ℕ) → List ℕ → List ℕ → Type 0
Grows held gathered held' gathered' text = Appends (append_known held gathered) (append_known held' gathered') text

-- some text satisfies `IsText`, and `Grows` holds for this text
abbrev pub GrowsBy : (List ℕ → Type 0) → Option (List ℕ) → List ℕ → Option (List ℕ) → List ℕ → Type 0
GrowsBy IsText held gathered held' gathered' = (text : List ℕ) × IsText text × Grows held gathered held' gathered' text
