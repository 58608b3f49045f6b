-- The parts of a path, one by one.
use Rattle.std.proofs.Common.{◌≡◌, ◌∙◌, ℕ, ◌+◌, ◌<◌, ◌≤◌, ◌==◌, true, false, cond, not, List, [], ◌∷◌, ◌++◌, length}
use Rattle.std.proofs.Common.{Option, None, Some, unwrap_or}
use Rattle.std.proofs.Common.{filter, flat_map, ap, sym, subst, arith, ◌≢◌, get_or, inl, inr}
use Rattle.std.specs.List.{All, slice_split, position_or_len, before_first, after_first, join_with_byte}
use Rattle.std.specs.Str.{IsUtf8, IsCharBoundary}
use Rattle.std.proofs.Math.ListN.{drop_of_length-le}
use Rattle.std.proofs.lemmas.List.{take_all, append-nil}
use Rattle.std.proofs.lemmas.Bool.{cases_lt, or_cases, eqb-true, false_from_ne_true}
use Rattle.std.proofs.lemmas.Str.{IsCharBoundary-before_ascii, IsCharBoundary-after_ascii}
use Rattle.std.proofs.lemmas.List.Elements.{filter-append}
use Rattle.std.proofs.lemmas.List.Splits.{slice_split_first, slice_split_none}
use Rattle.std.proofs.lemmas.List.Sums.{passes_at_first, fails_before_first, prefix_len-le-length, position_or_len_is}
use Rattle.sourcemap_file_urls.specs.RelativePaths.{is_separator, is_nonempty, parts}
use Rattle.memchr.specs.Find.{IsFirstByte, is_byte2}

-- ---- a path is split at its first separator

-- let `first` be the text of `path` before the first separator, and `rest` the text after this separator. If there is
-- no separator, `first` is `path`, and `rest` is empty. If `first` is empty, the parts of `path` are the parts of
-- `rest`. Otherwise they are `first`, followed by the parts of `rest`
pub parts-cut : (path : List ℕ)
    → parts path ≡ filter is_nonempty (before_first is_separator path ∷ []) ++ parts (after_first is_separator path)
parts-cut path =
    elim (cases_lt (position_or_len is_separator path) (length path)) [
      | inl l ↦
          ap (filter is_nonempty) (slice_split_first is_separator path 0 l)
          ∙ filter-append is_nonempty (before_first is_separator path ∷ [])
          (slice_split is_separator (after_first is_separator path))
      | inr l ↦
          let none : All (λ byte. is_separator byte ≡ false) path =
          λ k d m. fails_before_first is_separator path k d (omega arith) in
          let before : before_first is_separator path ≡ path = take_all _ path l in
          let after : after_first is_separator path ≡ [] = drop_of_length-le path (omega arith) in
          let rest : parts (after_first is_separator path) ≡ [] = ap parts after in
          ap (filter is_nonempty) (slice_split_none is_separator path none ∙ ap (λ part. part ∷ []) (sym before))
          ∙ filter-append is_nonempty (before_first is_separator path ∷ []) []
          ∙ ap (λ later. filter is_nonempty (before_first is_separator path ∷ []) ++ later) (sym rest)
    ]

pub parts-next : (path part later : List ℕ) → part ≡ before_first is_separator path
    → later ≡ after_first is_separator path → (length part == 0) ≡ false
    → parts path ≡ part ∷ parts later
parts-next path part later before after e =
    parts-cut path
    ∙ ap (λ first. filter is_nonempty (first ∷ []) ++ parts (after_first is_separator path)) (sym before)
    ∙ ap (λ empty. cond (not empty) (part ∷ []) [] ++ parts (after_first is_separator path)) e
    ∙ ap (λ rest. part ∷ parts rest) (sym after)

-- let `at` be the index of the first separator of `path`, or the length of `path` if there is no separator
-- (`position_or_len`). If `at` is not this length, `at` is less than this length, and the byte at `at` is a separator
-- the index that `memchr2` finds, or the length of the path
pub separator_found : (path : List ℕ) (found : Option ℕ) → IsFirstByte (is_byte2 47 92) path found
    → unwrap_or found (length path) ≡ position_or_len is_separator path
separator_found path None none =
    sym (position_or_len_is is_separator path (length path) 0 (omega arith)
    (λ k l. false_from_ne_true _ (none k (omega arith) l)) (λ l. absurd (omega arith)))
separator_found path (Some at) (first, passes) =
    sym (position_or_len_is is_separator path at 0 (let high = first.high in omega arith)
    (λ k l. false_from_ne_true _ (first.before k (omega arith) l)) (λ _. passes))

pub separator-first : (path : List ℕ) (at : ℕ) → at ≡ position_or_len is_separator path → at ≢ length path
    → (at < length path) × (is_separator (get_or path at 0) ≡ true)
separator-first path at e differ =
    let le : position_or_len is_separator path ≤ length path = prefix_len-le-length _ path in
    let within : at < length path = omega arith in (
      within,
      subst (λ n. is_separator (get_or path n 0) ≡ true) (sym e)
          (passes_at_first is_separator path 0 (subst (λ n. n < length path) e within)),
    )

separator-ascii : (byte : ℕ) → is_separator byte ≡ true → byte < 128
separator-ascii byte e =
    elim (or_cases (byte == 47) (byte == 92) e) [
      | inl h ↦ (let is : byte ≡ 47 = eqb-true byte 47 h in omega arith)
      | inr h ↦ (let is : byte ≡ 92 = eqb-true byte 92 h in omega arith)
    ]

-- a text may be split on both sides of a separator
pub boundary-before : (path : List ℕ) (at : ℕ) → at < length path → is_separator (get_or path at 0) ≡ true
    → IsCharBoundary path at
boundary-before path at l e = IsCharBoundary-before_ascii path at l (separator-ascii _ e)

pub boundary-after : (path : List ℕ) (at : ℕ) → IsUtf8 path → at < length path → is_separator (get_or path at 0) ≡ true
    → IsCharBoundary path (at + 1)
boundary-after path at utf8 l e = IsCharBoundary-after_ascii path at utf8 l (separator-ascii _ e)

-- ---- parts with a byte between them

pub join-cons : (byte : ℕ) (part : List ℕ) (later : List (List ℕ))
    → join_with_byte byte (part ∷ later) ≡ part ++ flat_map (λ p. byte ∷ p) later
join-cons byte part [] = sym (append-nil part)
join-cons byte part (next ∷ later) = ap (λ t. part ++ byte ∷ t) (join-cons byte next later)
