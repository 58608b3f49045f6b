-- Files that are read one after another, and copies of what was read.
use Rattle.std.proofs.Common.{◌≡◌, ℕ, ◌+◌, ◌<◌, ◌≤◌, List, [], ◌∷◌, ◌++◌, length, map, refl, ap, sym, ◌∙◌, vec_len, string_bytes, take, get_or, subst, Ordering, Less, Equal, Greater, Option, Some, None, option_map, Bool, cond, true, false, IsSome, arith}
use Rattle.std.specs.BTreeMap.{get, insert_entry}
use Rattle.std.specs.BTreeMap.Range.{IsRangeOf}
use Rattle.std.specs.List.{AllZip}
use Rattle.std.specs.Ordering.{is_eq, is_gt, match_ordering, nat_cmp}
use Rattle.std.specs.Map.{lookup}
use Rattle.std.specs.declared.alloc.Global.{Global}
use Rattle.std.specs.declared.ops.Bound.TheVariants.{Included, Unbounded}
use Rattle.std.specs.declared.string.String.{String}
use Rattle.std.specs.declared.vec.Vec.{Vec}
use Rattle.std.proofs.lemmas.List.{map-append, take_more}
use Rattle.std.proofs.lemmas.List.Elements.{same_from_all_zip}
use Rattle.std.proofs.lemmas.Cmp.{by_ranked, ranked}
use Rattle.std.proofs.lemmas.List.Sums.{fold_push}
use Rattle.std.proofs.lemmas.Map.Keys.{le_from_not_gt}
use Rattle.sourcemap_bundles.specs.Folder.{AreNumbered, IsNumbered, IsReadBy, no_modules, with_file}
use Rattle.sourcemap_bundles.specs.Modules.{FilesValue, file_module}
use Rattle.sourcemap_bundles.specs.Stored.{files_value, numbered_file_value}
use Rattle.sourcemap_bundles.specs.declared.unbundle.UnbundleRamBundle.{UnbundleRamBundle}

-- if `n` was copied from `m` entry by entry and byte by byte, both lists contain the same files
pub same_entries : (m n : List (ℕ × Vec ℕ Global))
    → AllZip (λ p q. (q.0 ≡ p.0) × (AllZip (λ x y. y ≡ x) p.1.items q.1.items × (vec_len q.1 ≡ vec_len p.1))) m n
    → map numbered_file_value n ≡ map numbered_file_value m
same_entries [] [] h = refl
same_entries [] (q ∷ n) h = absurd h
same_entries (p ∷ m) [] h = absurd h
same_entries (p ∷ m) (q ∷ n) h =
    let rest : map numbered_file_value n ≡ map numbered_file_value m = same_entries m n h.1 in
    let number : q.0 ≡ p.0 = h.0.0 in
    let text : q.1.items ≡ p.1.items = same_from_all_zip (λ x y. y ≡ x) p.1.items q.1.items h.0.1.0 (λ x y e. e) in cc

-- `match_ordering` selects one of three lists of stored entries. It makes no difference whether `numbered_file_value`
-- converts the entries before or after this selection
match_ordering-map : (o : Ordering) (a b c : List (ℕ × Vec ℕ Global))
    → map numbered_file_value (match_ordering o a b c)
    ≡ match_ordering o (map numbered_file_value a) (map numbered_file_value b) (map numbered_file_value c)
match_ordering-map Less a b c = refl
match_ordering-map Equal a b c = refl
match_ordering-map Greater a b c = refl

pub entries_insert : (entries : List (ℕ × Vec ℕ Global)) (id : ℕ) (text : Vec ℕ Global)
    → map numbered_file_value (insert_entry nat_cmp entries id text)
    ≡ insert_entry nat_cmp (map numbered_file_value entries) id text.items
entries_insert [] id text = refl
entries_insert (e ∷ entries) id text =
    match_ordering-map (nat_cmp id e.0) ((id, text) ∷ e ∷ entries) ((e.0, text) ∷ entries)
    (e ∷ insert_entry nat_cmp entries id text)
    ∙ ap (λ rest.
    match_ordering (nat_cmp id e.0) ((id, text.items) ∷ numbered_file_value e ∷ map numbered_file_value entries)
    ((e.0, text.items) ∷ map numbered_file_value entries) (numbered_file_value e ∷ rest))
    (entries_insert entries id text)

are_numbered-push : (names : List (List ℕ)) (found : List (ℕ × List ℕ)) (name : List ℕ) (id : ℕ) (text : List ℕ)
    → AreNumbered names found → IsNumbered name id → AreNumbered (names ++ name ∷ []) (found ++ (id, text) ∷ [])
are_numbered-push [] [] name id text h n = (n, tt)
are_numbered-push [] (f ∷ found) name id text h n = absurd h
are_numbered-push (x ∷ names) [] name id text h n = absurd h
are_numbered-push (x ∷ names) (f ∷ found) name id text h n = (h.0, are_numbered-push names found name id text h.1 n)

IsReadBy-push : (names : List (List ℕ)) (startup : List ℕ) (folder : FilesValue) (name : List ℕ) (id : ℕ)
    (text : List ℕ)
    → IsReadBy names startup folder → IsNumbered name id
    → IsReadBy (names ++ name ∷ []) startup (with_file folder (id, text))
IsReadBy-push names startup folder name id text (found, numbered, read) n = (
  found ++ (id, text) ∷ [],
  are_numbered-push names found name id text numbered n,
  ap (λ f. with_file f (id, text)) read ∙ sym (fold_push with_file (no_modules startup) found (id, text)),
)

-- `cond` selects `Some text` or `rest`. It makes no difference whether vectors are converted to lists of bytes before
-- or after this selection
lookup-cond : (b : Bool) (text : Vec ℕ Global) (rest : Option (Vec ℕ Global))
    → option_map (λ v. v.items) (cond b (Some text) rest) ≡ cond b (Some text.items) (option_map (λ v. v.items) rest)
lookup-cond true text rest = refl
lookup-cond false text rest = refl

pub found_by_number : (entries : List (ℕ × Vec ℕ Global)) (test : ℕ → Bool)
    → lookup test (map numbered_file_value entries) ≡ option_map (λ v. v.items) (lookup test entries)
found_by_number [] test = refl
found_by_number (e ∷ entries) test =
    ap (λ rest. cond (test e.0) (Some e.1.items) rest) (found_by_number entries test)
    ∙ sym (lookup-cond (test e.0) e.1 (lookup test entries))

-- if `folder` was read from the files of the first `i` names, and a file of the next name is added, the result
-- `folder'` was read from the files of the first `i + 1` names
pub IsReadBy-more : (names : List (String Global)) (i : ℕ) (item : String Global) (name startup : List ℕ) (id : ℕ)
    (text : List ℕ)
    (folder folder' : FilesValue) → i < length names → item ≡ get_or names i item → name ≡ string_bytes item
    → folder' ≡ with_file folder (id, text) → IsNumbered name id
    → IsReadBy (map string_bytes (take i names)) startup folder
    → IsReadBy (map string_bytes (take (i + 1) names)) startup folder'
IsReadBy-more names i item name startup id text folder folder' below is same added numbered before =
    let first : List (List ℕ) = map string_bytes (take i names) in
    let more : take (i + 1) names ≡ take i names ++ item ∷ [] =
    take_more names i item below ∙ ap (λ x. take i names ++ x ∷ []) (sym is) in
    let names_more : map string_bytes (take (i + 1) names) ≡ first ++ string_bytes item ∷ [] =
    ap (map string_bytes) more ∙ map-append string_bytes (take i names) (item ∷ []) in
    subst (λ ns. IsReadBy ns startup folder') (sym names_more)
    (subst (λ f. IsReadBy (first ++ string_bytes item ∷ []) startup f) (sym added)
    (IsReadBy-push first startup folder (string_bytes item) id text before
    (subst (λ n. IsNumbered n id) same numbered)))

not_gt_from_le : (a b : ℕ) → a ≤ b → is_gt (nat_cmp a b) ≡ false
not_gt_from_le a b le =
    by_ranked (a < b) (a ≡ b) (b < a) (nat_cmp a b) (ranked a b _ refl) (λ e _. ap is_gt e) (λ e _. ap is_gt e)
    (λ _ l. absurd (omega (arith, le, l)))

none_below : (found : Option (Vec ℕ Global)) (a b : ℕ) → a < b → (IsSome found → b ≤ a) → found ≡ None
none_below None a b below least = refl
none_below (Some text) a b below least = let past : b ≤ a = least refl in absurd (omega (arith, below, past))

-- a number without a stored entry has no file
pub no_file : (folder : UnbundleRamBundle) (id : ℕ) → get nat_cmp folder.modules id ≡ None
    → file_module (files_value folder) id ≡ None
no_file folder id none =
    ap (option_map (λ text. record { id = id; text = text }))
    (found_by_number folder.modules.entries (λ k. is_eq (nat_cmp id k)) ∙ ap (option_map (λ v. v.items)) none)

-- the first stored entry `e` from number `from` on is a file, and no smaller number from `from` on has a file
pub first_file : (folder : UnbundleRamBundle) (from : ℕ) (part : List (ℕ × Vec ℕ Global)) (e : ℕ × Vec ℕ Global)
    (rest : List (ℕ × Vec ℕ Global))
    → part ≡ e ∷ rest → IsRangeOf nat_cmp (Included from) Unbounded folder.modules part
    → (from ≤ e.0) × (file_module (files_value folder) e.0 ≡ Some (record { id = e.0; text = e.1.items }))
    × ((id : ℕ) → from ≤ id → id < e.0 → file_module (files_value folder) id ≡ None)
first_file folder from part e rest is range =
    let first : IsRangeOf nat_cmp (Included from) Unbounded folder.modules (e ∷ rest) =
    subst (λ es. IsRangeOf nat_cmp (Included from) Unbounded folder.modules es) is range in (
      le_from_not_gt from e.0 first.1.0.0,
      ap (option_map (λ text. record { id = e.0; text = text }))
          (found_by_number folder.modules.entries (λ k. is_eq (nat_cmp e.0 k))
          ∙ ap (option_map (λ v. v.items)) first.1.1),
      λ id at below. no_file folder id (none_below (get nat_cmp folder.modules id) id e.0 below
          (λ has. le_from_not_gt e.0 id (first.2 id (not_gt_from_le from id at, tt) has))),
    )

pub no_more_files : (folder : UnbundleRamBundle) (from : ℕ) (part : List (ℕ × Vec ℕ Global))
    → part ≡ [] → IsRangeOf nat_cmp (Included from) Unbounded folder.modules part
    → (id : ℕ) → from ≤ id → file_module (files_value folder) id ≡ None
no_more_files folder from part is range id at =
    no_file folder id (range.5 is id (not_gt_from_le from id at, tt))
