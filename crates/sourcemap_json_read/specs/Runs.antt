-- Runs of plain bytes: bytes that a JSON string may contain without an escape.
use Rattle.std.specs.Prelude.{ℕ, Bool, not, ◌||◌, ◌==◌, nat_lt}
use Rattle.json.specs.Ascii as ascii

-- a byte that ends a run: a quote, a backslash or a control byte
abbrev pub is_stop : ℕ → Bool
is_stop x = (x == ascii.quote) || (x == ascii.backslash) || nat_lt x ascii.space

abbrev pub is_plain : ℕ → Bool
is_plain x = not (is_stop x)

-- a byte that ends a run of plain ASCII bytes
abbrev pub is_bare_stop : ℕ → Bool
is_bare_stop x = is_stop x || nat_lt 127 x

abbrev pub is_bare : ℕ → Bool
is_bare x = not (is_bare_stop x)
