-- The bytes after a junk header. Some servers put a junk header before JSON, so that a browser cannot execute
-- the JSON as a script. There is a header if the first byte is `)`, `]`, `}` or `'`. The header ends directly before
-- the first newline, or at the end of the bytes if there is no newline.
use Rattle.std.specs.Prelude.{ℕ, List, [], ◌∷◌, Option, Some, None, Bool, false, not, ◌&&◌, ◌||◌, ◌==◌, if◌then◌else◌}

abbrev pub begins_junk : List ℕ → Bool
begins_junk [] = false
begins_junk (b ∷ _) = (b == 41) || (b == 93) || (b == 125) || (b == 39)

-- there is a next byte, and it is not a newline
abbrev pub continues_line : List ℕ → Bool
continues_line [] = false
continues_line (b ∷ _) = not (b == 10)

-- the bytes from the first newline to the end, or no bytes if there is no newline; `None` if a carriage return in the
-- junk is followed by a byte other than a newline
abbrev pub after_junk : List ℕ → Option (List ℕ)
after_junk [] = Some []
after_junk (b ∷ bs) =
    if b == 10 then Some (b ∷ bs)
    else if (b == 13) && continues_line bs then None
    else after_junk bs

-- the bytes without the junk header, if there is one; `None` if the header is invalid
abbrev pub after_header : List ℕ → Option (List ℕ)
after_header bytes = if begins_junk bytes then after_junk bytes else Some bytes
