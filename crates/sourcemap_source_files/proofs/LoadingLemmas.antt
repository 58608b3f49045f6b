-- The effect of loading: items that are set one by one, and the number of new ones.
use Rattle.std.proofs.Common.{◌≡◌, ◌≢◌, ℕ, zero, suc, ◌+◌, ◌-◌, ◌≤◌, ◌<◌, ◌==◌, Bool, true, false, ◌&&◌, ◌||◌}
use Rattle.std.proofs.Common.{if◌then◌else◌, List, [], ◌∷◌, ◌++◌, length, refl, ap, sym, ◌∙◌, subst, arith, ◌⊎◌, inl, inr}
use Rattle.std.proofs.Common.{Option, Some, None, IsSome, IfSome, Result, Ok, Err, is_none, is_some, get_or, add-one}
use Rattle.std.proofs.Common.{slice_get, slice_index, slice_set, option_and_then, option_map, map}
use Rattle.std.specs.Bool.{MatchBool}
use Rattle.std.specs.Path.{IsRelative, path_join, slash, with_separator}
use Rattle.std.specs.Result.{result_ok}
use Rattle.std.proofs.lemmas.Bool.{cases_eq, eqb-true, eq-eqb}
use Rattle.std.proofs.lemmas.List.{length-set}
use Rattle.std.proofs.lemmas.Option.{slice_get-get_or, slice_get-map}
use Rattle.std.proofs.lemmas.Paths.{path_join_absolute, path_join_relative}
use Rattle.url.specs.Parts.{Parts}
use Rattle.sourcemap_tokens.specs.Items.{item_at}
use Rattle.url.specs.Parser.{and_then, parse_url}
use Rattle.sourcemap_errors.specs.Answer.{Gives}
use Rattle.sourcemap_errors.specs.declared.errors.Error.{Error}
use Rattle.sourcemap_file_urls.specs.Places.{starts_at_root, url_text, PathUrl, path_of, named_path, joined}
use Rattle.sourcemap_source_files.specs.Loading.{newly, file_of, Fills}

pub item_at-set_same : {X : Type 0} (items : List (Option X)) (id : ℕ) (item : Option X) → id < length items
    → item_at (slice_set items id item) id ≡ item
item_at-set_same [] id item within = absurd (omega arith)
item_at-set_same (x ∷ items) zero item within = refl
item_at-set_same (x ∷ items) (suc id) item within = item_at-set_same items id item (omega arith)

pub item_at-set_other : {X : Type 0} (items : List (Option X)) (id other : ℕ) (item : Option X) → other ≢ id
    → item_at (slice_set items id item) other ≡ item_at items other
item_at-set_other [] id other item apart = refl
item_at-set_other (x ∷ items) zero zero item apart = absurd (apart refl)
item_at-set_other (x ∷ items) zero (suc other) item apart = refl
item_at-set_other (x ∷ items) (suc id) zero item apart = refl
item_at-set_other (x ∷ items) (suc id) (suc other) item apart =
    item_at-set_other items id other item (λ e. apart (ap suc e))

-- setting an item at index `n` or later does not change the count of new items before `n`
pub newly-set_later : {X : Type 0} (n : ℕ) (before after : List (Option X)) (id : ℕ) (item : Option X) → n ≤ id
    → newly n before (slice_set after id item) ≡ newly n before after
newly-set_later zero before after id item h = refl
newly-set_later (suc n) before after id item h =
    let apart : n ≢ id = omega arith in
    rw (newly-set_later n before after id item (omega arith), item_at-set_other after id n item apart) refl

-- if nothing changed, nothing is new
pub newly-same : {X : Type 0} (n : ℕ) (items : List (Option X)) → newly n items items ≡ 0
newly-same zero items = refl
newly-same (suc n) items = rw (newly-same n items) (by_item (item_at items n)) where
  by_item : {X : Type 0} (item : Option X) → 0 + (if is_none item && is_some item then 1 else 0) ≡ 0
  by_item None = refl
  by_item (Some _) = refl

-- let `Fills` hold, let `id` be below the length of `after`, and let `before` and `after` have the same item at `id`.
-- If `before` has an item at `id`, let `item` be this item. If `before` has no item at `id`, and `item` is not `None`,
-- let source `id` have a path (`file_of`). Then `Fills` still holds if `item` is set at `id` in `after`
pub Fills-set : (folder : List ℕ) (sources : List (List ℕ)) (before after : List (Option (List ℕ))) (id : ℕ)
    (item : Option (List ℕ))
    → Fills folder sources before after → id < length after → item_at after id ≡ item_at before id
    → (IsSome (item_at before id) → item ≡ item_at before id)
    → (item_at before id ≡ None → IsSome item → IsSome (option_and_then (file_of folder) (slice_get sources id)))
    → Fills folder sources before (slice_set after id item)
Fills-set folder sources before after id item is within same kept from_file = record {
  many = length-set after id item ∙ is.many;
  kept = λ other there. kept_at other there (cases_eq other id);
  from_file = λ other none some. from_file_at other none some (cases_eq other id);
} where
  here : item_at (slice_set after id item) id ≡ item
  here = item_at-set_same after id item within

  kept_at : (other : ℕ) → IsSome (item_at before other) → (other ≡ id) ⊎ (other ≢ id)
      → item_at (slice_set after id item) other ≡ item_at before other
  kept_at other there (inl e) =
      rw e (here ∙ kept (let P : ℕ → Type 0 = λ k. IsSome (item_at before k) in subst P e there))
  kept_at other there (inr apart) = item_at-set_other after id other item apart ∙ is.kept other there

  from_file_at : (other : ℕ) → item_at before other ≡ None → IsSome (item_at (slice_set after id item) other)
      → (other ≡ id) ⊎ (other ≢ id)
      → IsSome (option_and_then (file_of folder) (slice_get sources other))
  from_file_at other none some (inl e) =
      let came : IsSome item = let P : Option (List ℕ) → Type 0 = IsSome in
      subst P (ap (item_at (slice_set after id item)) e ∙ here) some in
      rw e (from_file (ap (item_at before) (sym e) ∙ none) came)
  from_file_at other none some (inr apart) =
      let P : Option (List ℕ) → Type 0 = IsSome in
      is.from_file other none (subst P (item_at-set_other after id other item apart) some)

-- the sources below `id` are done, and `loaded` of them have new contents; items from `id` on are unchanged
pub record IsLoaded (before after : List (Option (List ℕ))) (id loaded : ℕ) : Type 0 where
  pub count : loaded ≡ newly id before after
  pub few : loaded ≤ id
  pub many : length after ≡ length before
  pub later : (other : ℕ) → id ≤ other → item_at after other ≡ item_at before other

pub item_at-read : (items : List (Option (List ℕ))) (id : ℕ) (item : Option (List ℕ)) → id < length items
    → item ≡ get_or items id item → item_at items id ≡ item
item_at-read items id item within e = ap (option_and_then (λ x. x)) (slice_get-get_or items id item within) ∙ sym e

pub named_by : {X : Type 0} (view : X → List ℕ) (sources : List X) (id : ℕ) (source : X) (text : List ℕ)
    → id < length sources → source ≡ get_or sources id source → text ≡ view source
    → slice_get (map view sources) id ≡ Some text
named_by view sources id source text within e f =
    slice_get-map view sources id ∙ ap (option_map view) (slice_get-get_or sources id source within ∙ ap Some (sym e))
    ∙ ap Some (sym f)

-- one more source: its item is replaced by what was loaded
module _ (before after : List (Option (List ℕ))) (id loaded : ℕ) (old new : Option (List ℕ))
    (is : IsLoaded before after id loaded) (within : id < length after) (held : item_at after id ≡ old) where
  pub IsLoaded-set : (is_new : Bool) (loaded' : ℕ) → is_new ≡ is_none old && is_some new
      → loaded' ≡ (if is_new then loaded + 1 else loaded)
      → IsLoaded before (slice_set after id new) (id + 1) loaded'
  IsLoaded-set is_new loaded' e f = record {
    count = f ∙ counted is_new e;
    few = at_most is_new f;
    many = length-set after id new ∙ is.many;
    later = λ other h. let apart : other ≢ id = omega arith in
        item_at-set_other after id other new apart ∙ is.later other (omega arith);
  } where
    was : item_at before id ≡ old
    was = sym (is.later id (omega arith)) ∙ held

    counted : (is_new : Bool) → is_new ≡ is_none old && is_some new
        → (if is_new then loaded + 1 else loaded) ≡ newly (id + 1) before (slice_set after id new)
    counted is_new e = rw (
      add-one id,
      newly-set_later id before after id new (omega arith),
      was,
      item_at-set_same after id new within,
      ← e,
    ) (by_case is_new) where
      by_case : (is_new : Bool)
          → (if is_new then loaded + 1 else loaded) ≡ newly id before after + (if is_new then 1 else 0)
      by_case true = omega (arith, is.count)
      by_case false = omega (arith, is.count)

    at_most : (is_new : Bool) → loaded' ≡ (if is_new then loaded + 1 else loaded) → loaded' ≤ id + 1
    at_most true f = omega (arith, is.few)
    at_most false f = omega (arith, is.few)

  pub Fills-load : (base : Parts) (folder : List ℕ) (sources : List (List ℕ)) (text : List ℕ)
      → Fills folder sources before after
      → ((source : List ℕ) → file_of folder source ≡ named_path base source)
      → slice_get sources id ≡ Some text
      → (IsSome old → new ≡ old) → (old ≡ None → IsSome new → IsSome (named_path base text))
      → Fills folder sources before (slice_set after id new)
  Fills-load base folder sources text fills agree named kept from_file =
      Fills-set folder sources before after id new fills within (is.later id (omega arith))
      (λ there. kept (let P : Option (List ℕ) → Type 0 = IsSome in subst P was there) ∙ sym was)
      (λ none some. let P : Option (List ℕ) → Type 0 = IsSome in
      subst P (ap (option_and_then (file_of folder)) (sym named))
      (subst P (sym (agree text)) (from_file (sym was ∙ none) some))) where
        was : item_at before id ≡ old
        was = sym (is.later id (omega arith)) ∙ held

-- a joined path is absolute if the path that is joined is, or the path that it is joined to
pub join_at_root : (base path : List ℕ)
    → starts_at_root (path_join base path) ≡ starts_at_root path || starts_at_root base
join_at_root base path = by_case (starts_at_root path) refl
  where
    after : (base : List ℕ) → starts_at_root path ≡ false
        → starts_at_root (with_separator base ++ path) ≡ starts_at_root base
    after [] relative = relative
    after (byte ∷ bytes) relative =
        by_end (length (byte ∷ bytes) == 0 || slice_index (byte ∷ bytes) (length (byte ∷ bytes) - 1) == slash) where
          by_end : (ends : Bool)
              → starts_at_root ((if ends then byte ∷ bytes else (byte ∷ bytes) ++ slash ∷ []) ++ path)
              ≡ starts_at_root (byte ∷ bytes)
          by_end true = refl
          by_end false = refl

    by_case : (absolute : Bool) → starts_at_root path ≡ absolute
        → starts_at_root (path_join base path) ≡ absolute || starts_at_root base
    by_case true is = ap starts_at_root (path_join_absolute base path (eqb-true (slice_index path 0) slash is)) ∙ is
    by_case false is =
        let relative : IsRelative path =
        λ e. (let no : true ≡ false = sym (eq-eqb (slice_index path 0) slash e) ∙ is in cc) in
        ap starts_at_root (path_join_relative base path relative) ∙ after base is

-- the URL of a folder resolves sources to the same files as the path of the folder
pub same_files : (folder : List ℕ) (base : Parts) → PathUrl folder true (Ok (Some base)) → (source : List ℕ)
    → file_of folder source ≡ named_path base source
same_files folder base h source = by_case (starts_at_root folder) refl h where
  url : Result (Option Parts) Error
  url = Ok (Some base)

  by_case : (b : Bool) → starts_at_root folder ≡ b → MatchBool b (parse_url None (url_text folder true) ≡ Ok base) (url
      ≡ Ok None) → file_of folder source ≡ named_path base source
  by_case true e h =
      ap (λ b. if b then option_and_then path_of (result_ok (joined folder true source)) else None) e
      ∙ ap (λ parsed. option_and_then path_of (result_ok (and_then parsed (λ url. parse_url (Some url) source)))) h
  by_case false e h = cc

abbrev ok_or_none : Result (Option (List ℕ)) Error → Option (List ℕ)
ok_or_none (Ok folder) = folder
ok_or_none (Err _) = None

-- if the result of a call must be `due`, and the call found `folder`, then `due` is the text of `folder`
pub folder_is_due : {X : Type 0} (view : X → List ℕ) (due : Option (List ℕ)) (found : Option X) (folder : X)
    (text : List ℕ) → Gives (option_map view) (Ok found) (Ok due) → found ≡ Some folder → text ≡ view folder
    → due ≡ Some text
folder_is_due view due found folder text e f t = ap ok_or_none e ∙ ap (option_map view) f ∙ ap Some (sym t)

pub in_folder : (due : Option (List ℕ)) (folder : List ℕ) (sources : List (List ℕ))
    (before after : List (Option (List ℕ))) → due ≡ Some folder → Fills folder sources before after
    → IfSome due (λ folder. Fills folder sources before after)
in_folder due folder sources before after e fills =
    let P : Option (List ℕ) → Type 0 = λ due. IfSome due (λ folder. Fills folder sources before after) in
    subst P (sym e) fills
