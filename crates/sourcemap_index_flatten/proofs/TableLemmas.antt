-- One more text is entered into a table.
use Rattle.std.proofs.Common.{◌≡◌, ◌≢◌, refl, sym, ap, subst, ◌∙◌, ℕ, suc, ◌+◌, ◌<◌, ◌≤◌, List, [], ◌∷◌, ◌++◌, append_assoc, length, map, fold, Bool, true, false, ◌&&◌, cond, nat_lt, Some, None, Option, arith, inl, inr, slice_get, slice_set, get_or, is_some, option_map, option_and_then, take, drop, vec_len, Bor}
use Rattle.std.specs.List.{AllByRecursion}
use Rattle.std.specs.Option.{option_or, option_copied}
use Rattle.std.specs.Str.{bytes_eq}
use Rattle.std.proofs.lemmas.Bool.{cases_Bool, cases_eq, ltb-true, lt-ltb}
use Rattle.std.proofs.lemmas.Slice.Eq.{bytes_eq-Decides}
use Rattle.std.proofs.lemmas.List.Sums.{fold-append}
use Rattle.std.proofs.lemmas.List.{map_push, map_more, map-set, length_push, map-append, length-map, take-append-drop}
use Rattle.std.proofs.lemmas.Option.{slice_get_within, slice_get-map}
use Rattle.sourcemap_interning.specs.Interner.{id_of, with_text, AreDistinct}
use Rattle.sourcemap_tokens.specs.Search.{find_last}
use Rattle.sourcemap_interning.proofs.InternerLemmas.{id_of-last, slice_get-id_of}
use Rattle.sourcemap_map_rewrite.specs.Kept.{kept_once, number_in}
use Rattle.sourcemap_interning.proofs.ItemLemmas.{slice_get-set_same, slice_get-set_other}
use Rattle.sourcemap_map_rewrite.proofs.NumberingLemmas.{IsListedIfAny, option_or-None, id_of-fold, id_of-added}
use Rattle.sourcemap_map_rewrite.proofs.NumberingLemmas.{distinct-kept_once}
use Rattle.sourcemap_index_flatten.specs.Table.{TextEntry, texts_entered, contents_entered, entries_kept, numbers_among, are_too_many, with_entry, entry_value, entry_values, IsTable, IsEntered, AreEntered}
use Rattle.sourcemap_index_flatten.specs.declared.table.Entry.{Entry}
use Rattle.sourcemap_index_flatten.specs.declared.table.Table.{Table}

-- Lists.

module _ {X Y : Type 0} where
  pub map-same : (P : X → Type 0) (f g : X → Y) → ((x : X) → P x → f x ≡ g x) → (xs : List X) → AllByRecursion P xs
      → map f xs ≡ map g xs
  map-same P f g same [] all = refl
  map-same P f g same (x ∷ xs) all = λ i. same x all.0 i ∷ map-same P f g same xs all.1 i

pub ext : {X : Type 0} (xs ys : List X) → ((k : ℕ) → slice_get xs k ≡ slice_get ys k) → xs ≡ ys
ext [] [] same = refl
ext [] (y ∷ ys) same = let e : None ≡ Some y = same 0 in cc
ext (x ∷ xs) [] same = let e : Some x ≡ None = same 0 in cc
ext (x ∷ xs) (y ∷ ys) same =
    let e : Some x ≡ Some y = same 0 in
    let here : x ≡ y = cc in
    λ i. here i ∷ ext xs ys (λ k. same (suc k)) i

pub not_lt : (m n : ℕ) → ¬ (m < n) → nat_lt m n ≡ false
not_lt m n never = elim (cases_Bool (nat_lt m n)) [ inl less ↦ absurd (never (ltb-true m n less)) | inr is ↦ is ]

-- Texts.

pub texts-more : (entered more : List TextEntry)
    → texts_entered (entered ++ more) ≡ fold with_text (texts_entered entered) (map (λ e. e.0) more)
texts-more entered more = ap kept_once (map-append (λ (e : TextEntry). e.0) entered more)
    ∙ fold-append with_text [] (map (λ e. e.0) entered) (map (λ e. e.0) more)

pub texts-push : (entered : List TextEntry) (e : TextEntry)
    → texts_entered (entered ++ e ∷ []) ≡ with_text (texts_entered entered) e.0
texts-push entered e = texts-more entered (e ∷ [])

-- a text keeps its number
pub text_id-more : (entered more : List TextEntry) (text : List ℕ) (n : ℕ) → id_of text (texts_entered entered) ≡ Some n
    → id_of text (texts_entered (entered ++ more)) ≡ Some n
text_id-more entered more text n e =
    ap (id_of text) (texts-more entered more) ∙ id_of-fold (map (λ e. e.0) more) (texts_entered entered) text n e

abbrev pub IsAmong : List TextEntry → TextEntry → Type 0
IsAmong entered e = IsListedIfAny (texts_entered entered) (Some e.0)

-- each text that was entered has a number
pub all-among : (before entries : List TextEntry) → AllByRecursion (IsAmong (before ++ entries)) entries
all-among before [] = tt
all-among before (e ∷ es) =
    let here = id_of-added (texts_entered before) e.0 in
    let at : id_of e.0 (texts_entered (before ++ e ∷ [])) ≡ Some here.0 =
    ap (id_of e.0) (texts-push before e) ∙ here.1 in
    let again : (before ++ e ∷ []) ++ es ≡ before ++ e ∷ es = append_assoc before (e ∷ []) es in
    subst (λ all. AllByRecursion (IsAmong all) (e ∷ es)) again
    ((here.0, text_id-more (before ++ e ∷ []) es e.0 here.0 at), all-among (before ++ e ∷ []) es)

length-with_text : (texts : List (List ℕ)) (text : List ℕ) → length texts ≤ length (with_text texts text)
length-with_text texts text = by_case (id_of text texts) refl
  where
    by_case : (o : Option ℕ) → id_of text texts ≡ o → length texts ≤ length (with_text texts text)
    by_case None e = rw e (let more = length_push texts text in omega arith)
    by_case (Some n) e = rw e (omega arith)

pub length-fold : (texts us : List (List ℕ)) → length texts ≤ length (fold with_text texts us)
length-fold texts [] = omega arith
length-fold texts (u ∷ us) =
    let here = length-with_text texts u in
    let rest = length-fold (with_text texts u) us in
    omega arith

pub too_many-more : (entered more : List TextEntry) → are_too_many (texts_entered entered) ≡ true
    → are_too_many (texts_entered (entered ++ more)) ≡ true
too_many-more entered more many =
    let less = length-fold (texts_entered entered) (map (λ e. e.0) more) in
    let same : length (texts_entered (entered ++ more))
    ≡ length (fold with_text (texts_entered entered) (map (λ e. e.0) more)) = ap length (texts-more entered more) in
    let past : 4294967295 < length (texts_entered entered) =
    ltb-true 4294967295 (length (texts_entered entered)) many in
    lt-ltb 4294967295 (length (texts_entered (entered ++ more))) (omega (arith, less, same, past))

-- Contents.

find_last-push : {X : Type 0} (test : X → Bool) (xs : List X) (x : X)
    → find_last test (xs ++ x ∷ []) ≡ option_or (cond (test x) (Some x) None) (find_last test xs)
find_last-push test [] x = sym (option_or-None (cond (test x) (Some x) None))
find_last-push test (y ∷ ys) x =
    ap (λ o. option_or o (cond (test y) (Some y) None)) (find_last-push test ys x)
    ∙ assoc (cond (test x) (Some x) None) (find_last test ys) (cond (test y) (Some y) None)
  where
    assoc : {Y : Type 0} (a b c : Option Y) → option_or (option_or a b) c ≡ option_or a (option_or b c)
    assoc None b c = refl
    assoc (Some z) b c = refl

abbrev gives : List ℕ → TextEntry → Bool
gives text e = bytes_eq e.0 text && is_some e.1

-- a text keeps its contents if the new entry has another text or no contents
contents-other : (entered : List TextEntry) (e : TextEntry) (text : List ℕ) → gives text e ≡ false
    → contents_entered (entered ++ e ∷ []) text ≡ contents_entered entered text
contents-other entered e text none =
    ap (option_and_then (λ (e : TextEntry). e.1))
    (find_last-push (gives text) entered e
    ∙ ap (λ b. option_or (cond b (Some e) None) (find_last (gives text) entered)) none)

contents-given : (entered : List TextEntry) (e : TextEntry) (text : List ℕ) → gives text e ≡ true
    → contents_entered (entered ++ e ∷ []) text ≡ e.1
contents-given entered e text some =
    ap (option_and_then (λ (e : TextEntry). e.1))
    (find_last-push (gives text) entered e
    ∙ ap (λ b. option_or (cond b (Some e) None) (find_last (gives text) entered)) some)

and_false : (b : Bool) → (b && false) ≡ false
and_false true = refl
and_false false = refl

-- a text that was not entered has no contents
pub contents-none : (all : List TextEntry) (text : List ℕ) → id_of text (texts_entered all) ≡ None
    → (entered : List TextEntry) → AllByRecursion (IsAmong all) entered → contents_entered entered text ≡ None
contents-none all text new entered among = ap (option_and_then (λ (e : TextEntry). e.1)) (none entered among)
  where
    apart : (e : TextEntry) → IsAmong all e → bytes_eq e.0 text ≡ false
    apart e is =
        elim (cases_Bool (bytes_eq e.0 text)) [
          | inl same ↦
              let alike : e.0 ≡ text = (bytes_eq-Decides e.0 text).0 same in
              let here : id_of text (texts_entered all) ≡ Some is.0 =
              ap (λ t. id_of t (texts_entered all)) (sym alike) ∙ is.1 in
              let never : None ≡ Some is.0 = sym new ∙ here in
              cc
          | inr other ↦ other
        ]

    none : (entered : List TextEntry) → AllByRecursion (IsAmong all) entered → find_last (gives text) entered ≡ None
    none [] among = refl
    none (e ∷ es) among = rw (none es among.1, apart e among.0) refl

-- Entries.

abbrev with_contents : List TextEntry → List ℕ → TextEntry
with_contents entered text = (text, contents_entered entered text)

apart-from_new : (texts : List (List ℕ)) (text : List ℕ) → id_of text texts ≡ None → (k : ℕ) (other : List ℕ)
    → slice_get texts k ≡ Some other → AreDistinct texts → bytes_eq text other ≡ false
apart-from_new texts text new k other at distinct =
    elim (cases_Bool (bytes_eq text other)) [
      | inl same ↦
          let alike : text ≡ other = (bytes_eq-Decides text other).0 same in
          let here : id_of text texts ≡ Some k = ap (λ t. id_of t texts) alike ∙ distinct other k at in
          let never : None ≡ Some k = sym new ∙ here in
          cc
      | inr apart ↦ apart
    ]

module _ (before : List TextEntry) (e : TextEntry) where
  abbrev T : List (List ℕ)
  T = texts_entered before

  abbrev after : List TextEntry
  after = before ++ e ∷ []

  distinct : AreDistinct T
  distinct = distinct-kept_once (map (λ e. e.0) before)

  -- if `e` gives contents to no text in `T`, each text in `T` has the same contents in `after` as in `before`
  kept-same : ((k : ℕ) (text : List ℕ) → slice_get T k ≡ Some text → gives text e ≡ false)
      → map (with_contents after) T ≡ map (with_contents before) T
  kept-same apart = ext (map (with_contents (before ++ e ∷ [])) T) (map (with_contents before) T) at
    where
      by_item : (k : ℕ) (o : Option (List ℕ)) → slice_get T k ≡ o
          → option_map (with_contents (before ++ e ∷ [])) o ≡ option_map (with_contents before) o
      by_item k None is = refl
      by_item k (Some text) is = ap (λ contents. Some (text, contents)) (contents-other before e text (apart k text is))

      at : (k : ℕ) → slice_get (map (with_contents (before ++ e ∷ [])) T) k ≡ slice_get (map (with_contents before) T) k
      at k = slice_get-map (with_contents (before ++ e ∷ [])) T k ∙ by_item k (slice_get T k) refl
          ∙ sym (slice_get-map (with_contents before) T k)

  contents-here : id_of e.0 T ≡ None → contents_entered after e.0 ≡ e.1
  contents-here new = by_case e.1 refl
    where
      same : bytes_eq e.0 e.0 ≡ true
      same = (bytes_eq-Decides e.0 e.0).1 refl

      by_case : (o : Option (List ℕ)) → e.1 ≡ o → contents_entered (before ++ e ∷ []) e.0 ≡ e.1
      by_case (Some c) is = contents-given before e e.0 (rw (same, is) refl)
      by_case None is =
          contents-other before e e.0 (rw is (and_false (bytes_eq e.0 e.0)))
          ∙ contents-none before e.0 new before (all-among [] before) ∙ sym is

  module _ (n : ℕ) (found : id_of e.0 (texts_entered after) ≡ Some n) where
    texts_after : texts_entered after ≡ with_text T e.0
    texts_after = texts-push before e

    many : length (entries_kept before) ≡ length T
    many = length-map (texts_entered before) (with_contents before)

    kept_there : id_of e.0 T ≡ None → map (with_contents after) T ≡ entries_kept before
    kept_there new = kept-same (λ k text at. rw (apart-from_new (texts_entered before) e.0 new k text at distinct) refl)

    put-new : id_of e.0 T ≡ None → with_entry n e (entries_kept before) ≡ entries_kept after
    put-new new =
        let texts : texts_entered after ≡ T ++ e.0 ∷ [] = texts_after ∙ rw new refl in
        let last : id_of e.0 (T ++ e.0 ∷ []) ≡ Some (length T) = id_of-last T e.0 (length T) refl new in
        let here : Some n ≡ Some (length T) = sym found ∙ ap (id_of e.0) texts ∙ last in
        let same : n ≡ length T = cc in
        let appended : nat_lt n (length (entries_kept before)) ≡ false =
        not_lt n (length (entries_kept before)) (λ less. omega (arith, less, many, same)) in
        let put : with_entry n e (entries_kept before) ≡ entries_kept before ++ e ∷ [] = rw appended refl in
        let kept : map (with_contents after) T ≡ entries_kept before = kept_there new in
        let it : with_contents after e.0 ≡ e = λ i. (e.0, contents-here new i) in
        put ∙ sym
        (ap (map (with_contents after)) texts ∙ map_push (with_contents after) T e.0 ∙ (λ i. kept i ++ it i ∷ []))

    set-numbered : slice_get T n ≡ Some e.0 → n < length T → (c : List ℕ) → e.1 ≡ Some c
        → slice_set (entries_kept before) n e ≡ map (with_contents after) T
    set-numbered at within c is =
        ext (slice_set (entries_kept before) n e) (map (with_contents after) (texts_entered before)) each
      where
        same_text : bytes_eq e.0 e.0 ≡ true
        same_text = (bytes_eq-Decides e.0 e.0).1 refl

        here : slice_get (map (with_contents after) (texts_entered before)) n ≡ Some e
        here =
            slice_get-map (with_contents after) (texts_entered before) n ∙ ap (option_map (with_contents after)) at
            ∙ (λ i. Some (e.0, contents-given before e e.0 (rw (same_text, is) refl) i))

        apart : (k : ℕ) (text : List ℕ) → k ≢ n → slice_get (texts_entered before) k ≡ Some text
            → bytes_eq e.0 text ≡ false
        apart k text other there =
            elim (cases_Bool (bytes_eq e.0 text)) [
              | inl same ↦
                  let alike : e.0 ≡ text = (bytes_eq-Decides e.0 text).0 same in
                  let one : id_of e.0 (texts_entered before) ≡ Some n = distinct e.0 n at in
                  let two : id_of e.0 (texts_entered before) ≡ Some k =
                  ap (λ t. id_of t (texts_entered before)) alike ∙ distinct text k there in
                  let both : Some n ≡ Some k = sym one ∙ two in
                  absurd (other (let k_is : k ≡ n = cc in k_is))
              | inr differ ↦ differ
            ]

        by_item : (k : ℕ) → k ≢ n → (o : Option (List ℕ)) → slice_get (texts_entered before) k ≡ o
            → option_map (with_contents before) o ≡ option_map (with_contents after) o
        by_item k other None is_none = refl
        by_item k other (Some text) there = ap (λ contents. Some (text, contents))
            (sym (contents-other before e text (rw (apart k text other there) refl)))

        each : (k : ℕ) → slice_get (slice_set (entries_kept before) n e) k
            ≡ slice_get (map (with_contents after) (texts_entered before)) k
        each k =
            elim (cases_eq k n) [
              | inl same ↦
                  ap (slice_get (slice_set (entries_kept before) n e)) same
                  ∙ slice_get-set_same (entries_kept before) n e
                  (subst (λ m. n < m) (sym (length-map (texts_entered before) (with_contents before))) within)
                  ∙ sym here ∙ ap (slice_get (map (with_contents after) (texts_entered before))) (sym same)
              | inr other ↦
                  slice_get-set_other (entries_kept before) n k e other
                  ∙ slice_get-map (with_contents before) (texts_entered before) k
                  ∙ by_item k other (slice_get (texts_entered before) k) refl
                  ∙ sym (slice_get-map (with_contents after) (texts_entered before) k)
            ]

    by_contents : slice_get T n ≡ Some e.0 → n < length T → (o : Option (List ℕ)) → e.1 ≡ o
        → cond (is_some e.1) (slice_set (entries_kept before) n e) (entries_kept before) ≡ map (with_contents after) T
    by_contents at within None is =
        ap (λ o. cond (is_some o) (slice_set (entries_kept before) n e) (entries_kept before)) is
        ∙ sym (kept-same (λ k text there. ap (λ o. bytes_eq e.0 text && is_some o) is ∙ and_false (bytes_eq e.0 text)))
    by_contents at within (Some c) is =
        ap (λ o. cond (is_some o) (slice_set (entries_kept before) n e) (entries_kept before)) is
        ∙ set-numbered at within c is

    put-numbered : (m : ℕ) → id_of e.0 T ≡ Some m → with_entry n e (entries_kept before) ≡ entries_kept after
    put-numbered m numbered =
        let texts : texts_entered after ≡ T = texts_after ∙ rw numbered refl in
        let here : Some n ≡ Some m = sym found ∙ ap (id_of e.0) texts ∙ numbered in
        let same : n ≡ m = cc in
        let at : slice_get T n ≡ Some e.0 = slice_get-id_of e.0 T n (numbered ∙ ap Some (sym same)) in
        let within : n < length T = slice_get_within T n e.0 at in
        let inside : nat_lt n (length (entries_kept before)) ≡ true =
        lt-ltb n (length (entries_kept before)) (subst (λ k. n < k) (sym many) within) in
        let put : with_entry n e (entries_kept before)
        ≡ cond (is_some e.1) (slice_set (entries_kept before) n e) (entries_kept before) = rw inside refl in
        put ∙ by_contents at within e.1 refl ∙ sym (ap (map (with_contents after)) texts)

    put-entered : with_entry n e (entries_kept before) ≡ entries_kept after
    put-entered = by_case (id_of e.0 T) refl
      where
        by_case : (o : Option ℕ) → id_of e.0 T ≡ o → with_entry n e (entries_kept before) ≡ entries_kept after
        by_case None new = put-new new
        by_case (Some m) numbered = put-numbered m numbered

-- A table.

-- let `old` be the table after `before` was entered. Let `old` contain the text of `e`, or have fewer than 4294967295
-- texts. Let `new.ids` be `with_text old.ids e.0`, and let `with_entry number e` turn the entries of `old` into the
-- entries of `new`. Let `number` be the id of the text of `e` in `new`. Then `new` is the table after `before` and `e`
-- were entered, and `new` contains the text of `e` at the index `number` (`IsEntered`)
pub entered-more : (before : List TextEntry) (e : TextEntry) (number : ℕ) (old new : Table) → IsTable before old
    → (id_of e.0 old.ids ≡ None → length old.ids < 4294967295)
    → id_of e.0 new.ids ≡ Some number
    → new.ids ≡ with_text old.ids e.0
    → entry_values new.entries.items ≡ with_entry number e (entry_values old.entries.items)
    → IsEntered (before ++ e ∷ []) e.0 number new
entered-more before e number old new is free found index put =
    let texts = texts-push before e in
    let indexed : new.ids ≡ texts_entered (before ++ e ∷ []) =
    index ∙ ap (λ us. with_text us e.0) is.index ∙ sym texts in
    let text_id : id_of e.0 (texts_entered (before ++ e ∷ [])) ≡ Some number = ap (id_of e.0) (sym indexed) ∙ found in
    record {
      table = record {
        index = indexed;
        kept = put ∙ ap (with_entry number e) is.kept ∙ put-entered before e number text_id;
        few = subst (λ texts. length texts ≤ 4294967295) (sym texts) (few (id_of e.0 (texts_entered before)) refl);
      };
      text_id = text_id;
    }
  where
    few : (o : Option ℕ) → id_of e.0 (texts_entered before) ≡ o
        → length (with_text (texts_entered before) e.0) ≤ 4294967295
    few None new =
        let less : length old.ids < 4294967295 = free (ap (id_of e.0) is.index ∙ new) in
        rw new (let more = length_push (texts_entered before) e.0 in omega (arith, less, more, ap length is.index))
    few (Some n) numbered = rw numbered is.few

-- Several entries.

numbers-push : (before entries : List TextEntry) (e : TextEntry) (number : ℕ)
    → id_of e.0 (texts_entered (before ++ (entries ++ e ∷ []))) ≡ Some number
    → numbers_among (before ++ (entries ++ e ∷ [])) (entries ++ e ∷ [])
    ≡ numbers_among (before ++ entries) entries ++ number ∷ []
numbers-push before entries e number found =
    map_push asks entries e
    ∙ (λ i. map-same (IsAmong (before ++ entries)) asks (λ x. number_in (texts_entered (before ++ entries)) (Some x.0))
    stays entries (all-among before entries) i ++ it i ∷ [])
  where
    asks : TextEntry → ℕ
    asks x = number_in (texts_entered (before ++ (entries ++ e ∷ []))) (Some x.0)

    it : asks e ≡ number
    it = rw found refl

    stays : (x : TextEntry) → IsAmong (before ++ entries) x
        → asks x ≡ number_in (texts_entered (before ++ entries)) (Some x.0)
    stays x among =
        let later : id_of x.0 (texts_entered (before ++ (entries ++ e ∷ []))) ≡ Some among.0 =
        subst (λ all. id_of x.0 (texts_entered all) ≡ Some among.0) (append_assoc before entries (e ∷ []))
        (text_id-more (before ++ entries) (e ∷ []) x.0 among.0 among.1) in
        rw (later, among.1) refl

pub all-entered-more : (before entries : List TextEntry) (e : TextEntry) (numbers numbers' : List ℕ) (number : ℕ)
    (old new : Table)
    → AreEntered (before ++ entries) entries numbers old → IsEntered ((before ++ entries) ++ e ∷ []) e.0 number new
    → numbers' ≡ numbers ++ number ∷ []
    → AreEntered (before ++ (entries ++ e ∷ [])) (entries ++ e ∷ []) numbers' new
all-entered-more before entries e numbers numbers' number old new so_far entered pushed =
    let again = append_assoc before entries (e ∷ []) in
    record {
      table = subst (λ all. IsTable all new) again entered.table;
      each = pushed ∙ ap (λ xs. xs ++ number ∷ []) so_far.each
          ∙ sym (numbers-push before entries e number
          (subst (λ all. id_of e.0 (texts_entered all) ≡ Some number) again entered.text_id));
    }

-- Entries at their numbers.

is_some-copied : (e : Entry) → is_some (option_copied e.contents) ≡ is_some e.contents
is_some-copied e = by_case e.contents
  where
    by_case : (o : Option (Bor (List ℕ))) → is_some (option_copied o) ≡ is_some o
    by_case None = refl
    by_case (Some c) = refl

module _ (entries : List Entry) (number : ℕ) (e : Entry) where
  many_values : length (entry_values entries) ≡ length entries
  many_values = length-map entries entry_value

  pub put-appended : (put : List Entry) → length entries ≤ number → put ≡ entries ++ e ∷ []
      → entry_values put ≡ with_entry number (entry_value e) (entry_values entries)
  put-appended put past is =
      let no : nat_lt number (length (entry_values entries)) ≡ false =
      not_lt number (length (entry_values entries)) (λ less. omega (arith, less, many_values, past)) in
      ap entry_values is ∙ map_push entry_value entries e ∙ sym (rw no refl)

  inside : number < length entries → nat_lt number (length (entry_values entries)) ≡ true
  inside within = lt-ltb number (length (entry_values entries)) (omega (arith, within, many_values))

  pub put-over : (put : List Entry) → number < length entries → is_some e.contents ≡ true
      → put ≡ slice_set entries number e → entry_values put ≡ with_entry number (entry_value e) (entry_values entries)
  put-over put within some is =
      ap entry_values is ∙ map-set entry_value entries number e ∙ sym (rw (inside within, is_some-copied e, some) refl)

  pub put-kept : (put : List Entry) → number < length entries → is_some e.contents ≡ false → put ≡ entries
      → entry_values put ≡ with_entry number (entry_value e) (entry_values entries)
  put-kept put within none is = ap entry_values is ∙ sym (rw (inside within, is_some-copied e, none) refl)

-- if entering the first `i + 1` of `entries` gives too many texts, entering all of `entries` gives too many texts
pub too_many-at : (before : List TextEntry) (entries : List Entry) (i : ℕ) (d : Entry) → i < length entries
    → are_too_many (texts_entered ((before ++ entry_values (take i entries)) ++ entry_value (get_or entries i d) ∷ []))
    ≡ true
    → are_too_many (texts_entered (before ++ entry_values entries)) ≡ true
too_many-at before entries i d within many =
    let front : (before ++ entry_values (take i entries)) ++ entry_value (get_or entries i d) ∷ []
    ≡ before ++ entry_values (take (i + 1) entries) =
    append_assoc before (entry_values (take i entries)) (entry_value (get_or entries i d) ∷ [])
    ∙ ap (λ xs. before ++ xs) (sym (map_more entry_value entries i d within)) in
    let whole : (before ++ entry_values (take (i + 1) entries)) ++ entry_values (drop (i + 1) entries)
    ≡ before ++ entry_values entries =
    append_assoc before (entry_values (take (i + 1) entries)) (entry_values (drop (i + 1) entries))
    ∙ ap (λ xs. before ++ xs) (sym (map-append entry_value (take (i + 1) entries) (drop (i + 1) entries))
    ∙ ap entry_values (take-append-drop (i + 1) entries)) in
    ap (λ xs. are_too_many (texts_entered xs)) (sym whole)
    ∙ too_many-more (before ++ entry_values (take (i + 1) entries)) (entry_values (drop (i + 1) entries))
    (ap (λ xs. are_too_many (texts_entered xs)) (sym front) ∙ many)

-- `AreEntered` for the first `i` entries and `IsEntered` for the entry at `i` give `AreEntered` for `i + 1` entries
pub entered-next : (before : List TextEntry) (entries : List Entry) (i : ℕ) (d : Entry) → i < length entries
    → (numbers numbers' : List ℕ) (number : ℕ) (old new : Table)
    → AreEntered (before ++ entry_values (take i entries)) (entry_values (take i entries)) numbers old
    → IsEntered ((before ++ entry_values (take i entries)) ++ entry_value (get_or entries i d) ∷ [])
    (get_or entries i d).text.now number new
    → numbers' ≡ numbers ++ number ∷ []
    → AreEntered (before ++ entry_values (take (i + 1) entries)) (entry_values (take (i + 1) entries)) numbers' new
entered-next before entries i d within numbers numbers' number old new so_far entered pushed =
    subst (λ xs. AreEntered (before ++ xs) xs numbers' new) (sym (map_more entry_value entries i d within))
    (all-entered-more before (entry_values (take i entries)) (entry_value (get_or entries i d)) numbers numbers' number
    old new so_far entered pushed)

-- a table has at most 4294967295 entries
pub table-few : (entered : List TextEntry) (t : Table) → IsTable entered t → vec_len t.entries ≤ 4294967295
table-few entered t is =
    let values : length (entry_values t.entries.items) ≡ length t.entries.items = length-map t.entries.items _ in
    let texts : length (entries_kept entered) ≡ length (texts_entered entered) = length-map (texts_entered entered) _ in
    let kept = ap length is.kept in
    let few = is.few in
    omega arith
