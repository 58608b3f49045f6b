-- The relative path from one file to another, by the parts of both paths.
use Rattle.std.specs.Prelude.{ℕ, ◌-◌, ◌==◌, Bool, not, ◌&&◌, ◌||◌, if◌then◌else◌, List, [], ◌∷◌, ◌++◌, length, take}
use Rattle.std.specs.Prelude.{filter, flat_map, codes, bytes_eq}
use Rattle.std.specs.List.{slice_split, join_with_byte}

-- `/` or `\`
abbrev pub is_separator : ℕ → Bool
is_separator byte = (byte == 47) || (byte == 92)

abbrev pub is_nonempty : List ℕ → Bool
is_nonempty part = not (length part == 0)

-- the nonempty parts between the separators of a path
abbrev pub parts : List ℕ → List (List ℕ)
parts path = filter is_nonempty (slice_split is_separator path)

-- the parts of a file's folder: all parts of the file's path but the last
abbrev pub folder_parts : List ℕ → List (List ℕ)
folder_parts path = take (length (parts path) - 1) (parts path)

-- both lists without their longest common prefix
abbrev pub after_common : List (List ℕ) → List (List ℕ) → List (List ℕ) × List (List ℕ)
after_common [] ys = ([], ys)
after_common (a ∷ xs) [] = (a ∷ xs, [])
after_common (a ∷ xs) (b ∷ ys) = if bytes_eq a b then after_common xs ys else (a ∷ xs, b ∷ ys)

-- `../` for each part
abbrev pub steps_up : List (List ℕ) → List ℕ
steps_up above = flat_map (λ part. codes "../") above

-- `.` for an empty text, otherwise the text itself
abbrev pub or_dot : List ℕ → List ℕ
or_dot text = if length text == 0 then codes "." else text

-- the path of a target relative to the folder of a base. Both paths should be absolute, or both relative, and no part
-- of the folder should be `.` or `..`. Otherwise the result may lead to another file
abbrev pub relative_path : List ℕ → List ℕ → List ℕ
relative_path base target =
    let apart = after_common (folder_parts base) (parts target) in
    or_dot (steps_up apart.0 ++ join_with_byte 47 apart.1)

-- the folder that a path leads to from `folder`: `.` changes nothing, `..` drops the last part of the folder, and any
-- other part is appended to the folder
abbrev pub followed : List (List ℕ) → List (List ℕ) → List (List ℕ)
followed folder [] = folder
followed folder (part ∷ rest) =
    if bytes_eq part (codes ".") then followed folder rest
    else (if bytes_eq part (codes "..") then followed (take (length folder - 1) folder) rest
    else followed (folder ++ part ∷ []) rest)

-- a part that is neither `.` nor `..`
abbrev pub is_plain : List ℕ → Bool
is_plain part = not (bytes_eq part (codes ".")) && not (bytes_eq part (codes ".."))
