-- The relative path leads from the folder of the base to the target, if no part of the target is `.` or `..`.
use Rattle.std.proofs.Common.{◌≡◌, ◌∙◌, ℕ, suc, ◌-◌, ◌<◌, ◌==◌, Bool, true, false, cond, not, ◌&&◌, List, [], ◌∷◌, ◌++◌}
use Rattle.std.proofs.Common.{length, take, filter, map, codes, refl, ap, sym, subst, arith, inl, inr}
use Rattle.std.specs.List.{slice_split, onto_first, join_with_byte, list_all}
use Rattle.std.specs.Str.{bytes_eq}
use Rattle.std.proofs.lemmas.Bool.{cases_Bool, ne_eqb, and_parts}
use Rattle.std.proofs.lemmas.List.{append-nil, append_assoc, length-append, length-take-le}
use Rattle.std.proofs.lemmas.List.Folds.{list_all-append}
use Rattle.std.proofs.lemmas.List.Splits.{slice_split-cons_yes, slice_split-cons_no}
use Rattle.std.proofs.lemmas.Slice.Eq.{bytes_eq-Decides}
use Rattle.sourcemap_file_urls.specs.RelativePaths.{is_separator, is_nonempty, parts, folder_parts, after_common}
use Rattle.sourcemap_file_urls.specs.RelativePaths.{steps_up, or_dot, relative_path, followed, is_plain}

-- ---- parts are not empty and have no separator

abbrev IsWhole : List ℕ → Type 0
IsWhole [] = Unit {0}
IsWhole (byte ∷ part) = (is_separator byte ≡ false) × IsWhole part

abbrev AreWhole : List (List ℕ) → Type 0
AreWhole [] = Unit {0}
AreWhole (part ∷ later) = IsWhole part × AreWhole later

abbrev AreParts : List (List ℕ) → Type 0
AreParts [] = Unit {0}
AreParts (part ∷ later) = IsWhole part × (is_nonempty part ≡ true) × AreParts later

AreWhole-onto_first : (byte : ℕ) (later : List (List ℕ)) → is_separator byte ≡ false → AreWhole later
    → AreWhole (onto_first byte later)
AreWhole-onto_first byte [] e whole = ((e, tt), tt)
AreWhole-onto_first byte (part ∷ later) e whole = ((e, whole.0), whole.1)

AreWhole-slice_split : (path : List ℕ) → AreWhole (slice_split is_separator path)
AreWhole-slice_split [] = (tt, tt)
AreWhole-slice_split (byte ∷ path) =
    let later : AreWhole (slice_split is_separator path) = AreWhole-slice_split path in
    elim (cases_Bool (is_separator byte)) [
      | inl e ↦ subst AreWhole (sym (slice_split-cons_yes is_separator byte path e)) (tt, later)
      | inr e ↦ subst AreWhole (sym (slice_split-cons_no is_separator byte path e)) (AreWhole-onto_first byte
          (slice_split is_separator path) e later)
    ]

AreParts-filter : (pieces : List (List ℕ)) → AreWhole pieces → AreParts (filter is_nonempty pieces)
AreParts-filter [] whole = tt
AreParts-filter (piece ∷ pieces) whole =
    let later : AreParts (filter is_nonempty pieces) = AreParts-filter pieces whole.1 in
    elim (cases_Bool (is_nonempty piece)) [
      | inl e ↦ subst (λ b. AreParts (cond b (piece ∷ filter is_nonempty pieces) (filter is_nonempty pieces))) (sym e) (
        whole.0,
        e,
        later,
      )
      | inr e ↦
          subst (λ b. AreParts (cond b (piece ∷ filter is_nonempty pieces) (filter is_nonempty pieces))) (sym e) later
    ]

AreParts-parts : (path : List ℕ) → AreParts (parts path)
AreParts-parts path = AreParts-filter (slice_split is_separator path) (AreWhole-slice_split path)

AreParts-later : (xs ys : List (List ℕ)) → AreParts (xs ++ ys) → AreParts ys
AreParts-later [] ys are = are
AreParts-later (x ∷ xs) ys are = AreParts-later xs ys are.2

-- ---- a path that is joined from parts has these parts

split-whole : (part : List ℕ) → IsWhole part → slice_split is_separator part ≡ part ∷ []
split-whole [] whole = refl
split-whole (byte ∷ part) whole =
    slice_split-cons_no is_separator byte part whole.0 ∙ ap (onto_first byte) (split-whole part whole.1)

split-slash : (part rest : List ℕ) → IsWhole part
    → slice_split is_separator (part ++ 47 ∷ rest) ≡ part ∷ slice_split is_separator rest
split-slash [] rest whole = refl
split-slash (byte ∷ part) rest whole = slice_split-cons_no is_separator byte (part ++ 47 ∷ rest) whole.0
    ∙ ap (onto_first byte) (split-slash part rest whole.1)

kept : (part : List ℕ) (later : List (List ℕ)) → is_nonempty part ≡ true
    → filter is_nonempty (part ∷ later) ≡ part ∷ filter is_nonempty later
kept part later e = ap (λ b. cond b (part ∷ filter is_nonempty later) (filter is_nonempty later)) e

parts-joined : (ps : List (List ℕ)) → AreParts ps → parts (join_with_byte 47 ps) ≡ ps
parts-joined [] are = refl
parts-joined (p ∷ []) are = ap (filter is_nonempty) (split-whole p are.0) ∙ kept p [] are.1
parts-joined (p ∷ q ∷ ps) are =
    ap (filter is_nonempty) (split-slash p (join_with_byte 47 (q ∷ ps)) are.0)
    ∙ kept p (slice_split is_separator (join_with_byte 47 (q ∷ ps))) are.1
    ∙ ap (λ later. p ∷ later) (parts-joined (q ∷ ps) are.2)

parts-steps : (above : List (List ℕ)) (text : List ℕ)
    → parts (steps_up above ++ text) ≡ map (λ part. codes "..") above ++ parts text
parts-steps [] text = refl
parts-steps (a ∷ above) text = ap (λ later. codes ".." ∷ later) (parts-steps above text)

-- ---- where parts lead

-- if `ys` is not empty, removing the last item of `xs ++ ys` gives `xs ++ zs`, where `zs` is `ys` without its last item
but_last-append : (xs ys : List (List ℕ)) → 0 < length ys
    → take (length (xs ++ ys) - 1) (xs ++ ys) ≡ xs ++ take (length ys - 1) ys
but_last-append [] ys l = refl
but_last-append (x ∷ xs) ys l =
    let both = length-append xs ys in
    let size : length (x ∷ (xs ++ ys)) - 1 ≡ suc (length (xs ++ ys) - 1) = omega arith in
    ap (λ n. take n (x ∷ (xs ++ ys))) size ∙ ap (λ later. x ∷ later) (but_last-append xs ys l)

-- let `ks` and `ys` have the same length. From the folder `xs ++ ys`, one `..` for each item of `ks` leads to `xs`, and
-- `rest` is then followed from `xs`
followed-up : (ks ys xs rest : List (List ℕ)) → length ks ≡ length ys
    → followed (xs ++ ys) (map (λ part. codes "..") ks ++ rest) ≡ followed xs rest
followed-up [] [] xs rest e = ap (λ from. followed from rest) (append-nil xs)
followed-up [] (y ∷ ys) xs rest e = absurd (omega arith)
followed-up (k ∷ ks) [] xs rest e = absurd (omega arith)
followed-up (k ∷ ks) (y ∷ ys) xs rest e =
    let fewer : length (take (length (y ∷ ys) - 1) (y ∷ ys)) ≡ length (y ∷ ys) - 1 =
    length-take-le _ (y ∷ ys) (omega arith) in
    ap (λ from. followed from (map (λ part. codes "..") ks ++ rest)) (but_last-append xs (y ∷ ys) (omega arith))
    ∙ followed-up ks (take (length (y ∷ ys) - 1) (y ∷ ys)) xs rest (omega arith)

-- a part that is neither `.` nor `..` is appended
enters : (at : List (List ℕ)) (p : List ℕ) (rest : List (List ℕ)) → is_plain p ≡ true
    → followed at (p ∷ rest) ≡ followed (at ++ p ∷ []) rest
enters at p rest e = go (bytes_eq p (codes ".")) (bytes_eq p (codes "..")) e
  where
    go : (dot dots : Bool) → (not dot && not dots) ≡ true
        → cond dot (followed at rest) (cond dots (followed (take (length at - 1) at) rest)
        (followed (at ++ p ∷ []) rest)) ≡ followed (at ++ p ∷ []) rest
    go false false h = refl
    go true _ h = absurd (let no = h in cc)
    go false true h = absurd (let no = h in cc)

followed-plain : (at ps : List (List ℕ)) → list_all is_plain ps ≡ true → followed at ps ≡ at ++ ps
followed-plain at [] e = sym (append-nil at)
followed-plain at (p ∷ ps) e =
    let both = and_parts (is_plain p) (list_all is_plain ps) e in
    enters at p ps both.0 ∙ followed-plain (at ++ p ∷ []) ps both.1 ∙ append_assoc at (p ∷ []) ps

-- `.` leads where the empty path does
followed-or_dot : (at : List (List ℕ)) (text : List ℕ) → followed at (parts (or_dot text)) ≡ followed at (parts text)
followed-or_dot at [] = refl
followed-or_dot at (byte ∷ text) =
    let some : (length (byte ∷ text) == 0) ≡ false = ne_eqb _ _ (λ h. absurd (omega arith)) in
    ap (λ empty. followed at (parts (cond empty (codes ".") (byte ∷ text)))) some

-- ---- both lists continue after their common start

record IsApart (xs ys : List (List ℕ)) (rest : List (List ℕ) × List (List ℕ)) : Type 0 where
  common : List (List ℕ)
  left : xs ≡ common ++ rest.0
  right : ys ≡ common ++ rest.1

IsApart-after_common : (xs ys : List (List ℕ)) → IsApart xs ys (after_common xs ys)
IsApart-after_common [] ys = record { common = []; left = refl; right = refl }
IsApart-after_common (x ∷ xs) [] = record { common = []; left = refl; right = refl }
IsApart-after_common (x ∷ xs) (y ∷ ys) =
    let later = IsApart-after_common xs ys in
    elim (cases_Bool (bytes_eq x y)) [
      | inl e ↦
          let same : x ≡ y = (bytes_eq-Decides x y).0 e in
          subst (λ b. IsApart (x ∷ xs) (y ∷ ys) (cond b (after_common xs ys) (x ∷ xs, y ∷ ys))) (sym e) (record {
            common = x ∷ later.common;
            left = ap (λ l. x ∷ l) later.left;
            right = ap (λ l. y ∷ l) later.right ∙ ap (λ l. l ∷ (later.common ++ (after_common xs ys).1)) (sym same);
          })
      | inr e ↦
          subst (λ b. IsApart (x ∷ xs) (y ∷ ys) (cond b (after_common xs ys) (x ∷ xs, y ∷ ys))) (sym e)
          (record { common = []; left = refl; right = refl })
    ]

-- ---- the relative path leads to the target

leads : (at : List (List ℕ)) (ps : List (List ℕ)) (above below : List (List ℕ)) (common : List (List ℕ))
    → at ≡ common ++ above → ps ≡ common ++ below → AreParts ps
    → list_all is_plain ps ≡ true → followed at (parts (or_dot (steps_up above ++ join_with_byte 47 below))) ≡ ps
leads at ps above below common left right are plain =
    let later : AreParts below = AreParts-later common below (subst AreParts right are) in
    let plainer = and_parts (list_all is_plain common) (list_all is_plain below)
    (sym (list_all-append is_plain common below) ∙ ap (list_all is_plain) (sym right) ∙ plain) in
    followed-or_dot at (steps_up above ++ join_with_byte 47 below)
    ∙ ap (followed at) (parts-steps above (join_with_byte 47 below)
    ∙ ap (λ l. map (λ part. codes "..") above ++ l) (parts-joined below later))
    ∙ ap (λ from. followed from (map (λ part. codes "..") above ++ below)) left
    ∙ followed-up above above common below refl
    ∙ followed-plain common below plainer.1
    ∙ sym right

pub relative_path-leads : (base target : List ℕ) → list_all is_plain (parts target) ≡ true
    → followed (folder_parts base) (parts (relative_path base target)) ≡ parts target
relative_path-leads base target plain =
    let apart = IsApart-after_common (folder_parts base) (parts target) in
    leads (folder_parts base) (parts target) _ _ apart.common apart.left apart.right (AreParts-parts target) plain
