-- Lemmas for adding one more map to a `Gathering`: the new ids, the moved tokens, the ignored ids and the errors.
use Rattle.std.proofs.Common.{◌≡◌, refl, sym, ap, subst, ◌∙◌, ℕ, ◌+◌, ◌≤◌, List, [], ◌∷◌, ◌++◌, append_assoc, length, map, fold, filter, flat_map, Bool, true, false, ◌||◌, nat_eq, codes, Some, None, Option, Ok, Err, arith, slice_get, option_map, unwrap_or}
use Rattle.std.specs.List.{AllByRecursion, enumerate_from, list_any}
use Rattle.std.specs.BTreeSet.{insert_key}
use Rattle.std.specs.Ordering.{nat_cmp}
use Rattle.std.proofs.lemmas.List.{map-append, flat_map_more, append-nil}
use Rattle.std.proofs.lemmas.List.Concat.{flat_map-cons}
use Rattle.std.proofs.lemmas.List.Sums.{fold-append}
use Rattle.std.proofs.lemmas.Option.{slice_get-map}
use Rattle.sourcemap_errors.specs.declared.errors.Error.{Error}
use Rattle.sourcemap_errors.proofs.AnswerLemmas.{UnlessMemory-weaker}
use Rattle.sourcemap_interning.specs.Interner.{id_of}
use Rattle.sourcemap_tokens.specs.Tokens.{destination}
use Rattle.sourcemap_tokens.specs.declared.tokens.RawToken.{RawToken}
use Rattle.sourcemap_map_conversions.specs.FromRecord.{rising}
use Rattle.sourcemap_map_rewrite.specs.Kept.{kept_once, number_in}
use Rattle.sourcemap_map_rewrite.proofs.NumberingLemmas.{IsListedIfAny}
use Rattle.sourcemap_tokens.proofs.AllLemmas.{All-at}
use Rattle.sourcemap_map_regular.specs.Map.{MapValue, resolved_sources, source_of, name_of, contents_of}
use Rattle.sourcemap_index_model.specs.Flat.{Piece, sources_in, names_in, source_entries, token_in, ignored_in, passes_the_end, with_piece}
use Rattle.sourcemap_index_model.specs.FlatList.{absolute_position}
use Rattle.sourcemap_index_flatten.specs.Errors.{RefusesBy}
use Rattle.sourcemap_index_flatten.specs.Table.{TextEntry, entry_values, texts_entered, numbers_among, are_too_many, IsTable, AreEntered}
use Rattle.sourcemap_index_flatten.specs.Moving.{AreMoved, moved_by, new_number, ignored_numbers, is_past_end}
use Rattle.sourcemap_index_flatten.specs.Gathering.{name_entries, all_source_entries, all_name_entries, all_moved_tokens, all_ignored_ids, Gathers, GathersMore, IsPartOf, RefusesPiece}
use Rattle.sourcemap_index_flatten.specs.declared.gathering.Gathering.{Gathering}
use Rattle.sourcemap_index_flatten.specs.declared.gathering.Part.{Part}
use Rattle.sourcemap_index_flatten.specs.declared.moving.Move.{Move}
use Rattle.sourcemap_index_flatten.specs.declared.table.Table.{Table}
use Rattle.sourcemap_index_flatten.proofs.TableLemmas.{text_id-more, IsAmong, all-among, not_lt}

-- Lists.

flat_map-push : {X Y : Type 0} (f : X → List Y) (xs : List X) (x : X) → flat_map f (xs ++ x ∷ []) ≡ flat_map f xs ++ f x
flat_map-push f xs x = sym (flat_map_more f [] xs x)

flat_map-same : {X Y : Type 0} (P : X → Type 0) (f g : X → List Y) → ((x : X) → P x → f x ≡ g x) → (xs : List X)
    → AllByRecursion P xs → flat_map f xs ≡ flat_map g xs
flat_map-same P f g same [] all = refl
flat_map-same P f g same (x ∷ xs) all =
    flat_map-cons f x xs ∙ (λ i. same x all.0 i ++ flat_map-same P f g same xs all.1 i) ∙ sym (flat_map-cons g x xs)

pub map-each : {X Y : Type 0} (f g : X → Y) → ((x : X) → f x ≡ g x) → (xs : List X) → map f xs ≡ map g xs
map-each f g same [] = refl
map-each f g same (x ∷ xs) = λ i. same x i ∷ map-each f g same xs i

any-same : {X : Type 0} (p q : X → Bool) → ((x : X) → p x ≡ q x) → (xs : List X) → list_any p xs ≡ list_any q xs
any-same p q same [] = refl
any-same p q same (x ∷ xs) = λ i. same x i || any-same p q same xs i

-- New ids for the texts in the entries of a map.

module _ (given : MapValue → List TextEntry) where
  -- the entries of pieces
  abbrev entered : List Piece → List TextEntry
  entered pieces = flat_map (λ piece. given piece.1) pieces

  abbrev text_of : MapValue → ℕ → Option (List ℕ)
  text_of m id = option_map (λ e. e.0) (slice_get (given m) id)

  -- the new id for an id of a map
  abbrev number : List Piece → MapValue → ℕ → ℕ
  number pieces m id = number_in (texts_entered (entered pieces)) (text_of m id)

  -- each text in the entries of `piece` has an id among the texts in the entries of `pieces`
  abbrev HasNumber : List Piece → Piece → Type 0
  HasNumber pieces piece = (id : ℕ) → IsListedIfAny (texts_entered (entered pieces)) (text_of piece.1 id)

  has_text_id : (all entries : List TextEntry) → AllByRecursion (IsAmong all) entries → (id : ℕ)
      → IsListedIfAny (texts_entered all) (option_map (λ e. e.0) (slice_get entries id))
  has_text_id all entries among id = by_item (slice_get entries id) refl
    where
      by_item : (o : Option TextEntry) → slice_get entries id ≡ o
          → IsListedIfAny (texts_entered all) (option_map (λ e. e.0) o)
      by_item None is = tt
      by_item (Some e) is = All-at (IsAmong all) entries id e is among

  text_id-stays : (all more : List TextEntry) (o : Option (List ℕ)) → IsListedIfAny (texts_entered all) o
      → IsListedIfAny (texts_entered (all ++ more)) o
  text_id-stays all more None h = tt
  text_id-stays all more (Some text) h = (h.0, text_id-more all more text h.0 h.1)

  numbered-more : (pieces : List Piece) (next piece : Piece) → HasNumber pieces piece
      → HasNumber (pieces ++ next ∷ []) piece
  numbered-more pieces next piece numbered id =
      subst (λ all. IsListedIfAny (texts_entered all) (text_of piece.1 id))
      (sym (flat_map-push (λ (p : Piece). given p.1) pieces next))
      (text_id-stays (entered pieces) (given next.1) (text_of piece.1 id) (numbered id))

  numbered-last : (before : List Piece) (piece : Piece) → HasNumber (before ++ piece ∷ []) piece
  numbered-last before piece id =
      subst (λ all. IsListedIfAny (texts_entered all) (text_of piece.1 id))
      (sym (flat_map-push (λ (p : Piece). given p.1) before piece))
      (has_text_id (entered before ++ given piece.1) (given piece.1) (all-among (entered before) (given piece.1)) id)

  numbered-front : (front back : List Piece) (piece : Piece) → HasNumber front piece → HasNumber (front ++ back) piece
  numbered-front front [] piece numbered = subst (λ all. HasNumber all piece) (sym (append-nil front)) numbered
  numbered-front front (p ∷ ps) piece numbered =
      subst (λ all. HasNumber all piece) (append_assoc front (p ∷ []) ps)
      (numbered-front (front ++ p ∷ []) ps piece (numbered-more front p piece numbered))

  numbered-appended : (front back : List Piece) → AllByRecursion (HasNumber (front ++ back)) back
  numbered-appended front [] = tt
  numbered-appended front (p ∷ ps) =
      subst (λ all. AllByRecursion (HasNumber all) (p ∷ ps)) (append_assoc front (p ∷ []) ps)
      (numbered-front (front ++ p ∷ []) ps p (numbered-last front p), numbered-appended (front ++ p ∷ []) ps)

  -- each text in the entries of each piece has an id among the texts in the entries of all pieces. This id stays the
  -- same when another piece is appended (`number-stays`)
  pub all-numbered : (pieces : List Piece) → AllByRecursion (HasNumber pieces) pieces
  all-numbered pieces = numbered-appended [] pieces

  pub number-stays : (before : List Piece) (next piece : Piece) → HasNumber before piece → (id : ℕ)
      → number (before ++ next ∷ []) piece.1 id ≡ number before piece.1 id
  number-stays before next piece numbered id = by_text (text_of piece.1 id) (numbered id) ∙ refl
    where
      all : entered (before ++ next ∷ []) ≡ entered before ++ given next.1
      all = flat_map-push (λ (p : Piece). given p.1) before next

      by_text : (o : Option (List ℕ)) → IsListedIfAny (texts_entered (entered before)) o
          → number_in (texts_entered (entered (before ++ next ∷ []))) o ≡ number_in (texts_entered (entered before)) o
      by_text None h = refl
      by_text (Some text) h =
          let later : id_of text (texts_entered (entered (before ++ next ∷ []))) ≡ Some h.0 =
          ap (λ all. id_of text (texts_entered all)) all ∙ text_id-more (entered before) (given next.1) text h.0 h.1 in
          rw (later, h.1) refl

  -- the new ids of the added map are the numbers that were returned when its texts were entered
  pub number-new : (before : List Piece) (piece : Piece) (numbers : List ℕ)
      → numbers ≡ numbers_among (entered before ++ given piece.1) (given piece.1)
      → (id : ℕ) → number (before ++ piece ∷ []) piece.1 id ≡ new_number numbers id
  number-new before piece numbers are id =
      ap (λ all. number_in (texts_entered all) (text_of piece.1 id))
      (flat_map-push (λ (p : Piece). given p.1) before piece)
      ∙ by_item (slice_get (given piece.1) id) refl
      ∙ sym (ap (λ ns. new_number ns id) are)
    where
      all : List TextEntry
      all = entered before ++ given piece.1

      asks : TextEntry → ℕ
      asks e = number_in (texts_entered (entered before ++ given piece.1)) (Some e.0)

      by_item : (o : Option TextEntry) → slice_get (given piece.1) id ≡ o
          → number_in (texts_entered (entered before ++ given piece.1)) (option_map (λ e. e.0) o)
          ≡ new_number (map asks (given piece.1)) id
      by_item None is =
          sym (ap (λ n. unwrap_or n 4294967295) (slice_get-map asks (given piece.1) id ∙ ap (option_map asks) is))
      by_item (Some e) is =
          sym (ap (λ n. unwrap_or n 4294967295) (slice_get-map asks (given piece.1) id ∙ ap (option_map asks) is))

-- The sources and names of a map are the texts of its entries.

texts_back : (contents : ℕ → Option (List ℕ)) (n : ℕ) (texts : List (List ℕ))
    → map (λ (e : TextEntry). e.0) (map (λ (s : ℕ × List ℕ). (s.1, contents s.0)) (enumerate_from n texts)) ≡ texts
texts_back contents n [] = refl
texts_back contents n (t ∷ ts) = ap (λ rest. t ∷ rest) (texts_back contents (n + 1) ts)

names_back : (names : List (List ℕ))
    → map (λ (e : TextEntry). e.0) (map (λ (name : List ℕ). (name, None)) names) ≡ names
names_back [] = refl
names_back (n ∷ ns) = ap (λ rest. n ∷ rest) (names_back ns)

sources_texts : (m : MapValue) → map (λ (e : TextEntry). e.0) (source_entries m) ≡ resolved_sources m
sources_texts m = texts_back (contents_of m) 0 (resolved_sources m)

names_texts : (m : MapValue) → map (λ (e : TextEntry). e.0) (name_entries m) ≡ m.names
names_texts m = names_back m.names

map_flat : (given : MapValue → List TextEntry) (texts : MapValue → List (List ℕ))
    → ((m : MapValue) → map (λ (e : TextEntry). e.0) (given m) ≡ texts m)
    → (pieces : List Piece) → map (λ (e : TextEntry). e.0) (flat_map (λ (p : Piece). given p.1) pieces)
    ≡ flat_map (λ (p : Piece). texts p.1) pieces
map_flat given texts back [] = refl
map_flat given texts back (p ∷ ps) =
    ap (map (λ (e : TextEntry). e.0)) (flat_map-cons (λ (p : Piece). given p.1) p ps)
    ∙ map-append (λ (e : TextEntry). e.0) (given p.1) (flat_map (λ (p : Piece). given p.1) ps)
    ∙ (λ i. back p.1 i ++ map_flat given texts back ps i)
    ∙ sym (flat_map-cons (λ (p : Piece). texts p.1) p ps)

pub texts_of_sources : (pieces : List Piece) → texts_entered (all_source_entries pieces) ≡ sources_in pieces
texts_of_sources pieces = ap kept_once (map_flat source_entries resolved_sources sources_texts pieces)

pub texts_of_names : (pieces : List Piece) → texts_entered (all_name_entries pieces) ≡ names_in pieces
texts_of_names pieces = ap kept_once (map_flat name_entries (λ m. m.names) names_texts pieces)

-- Tokens.

source_number : (pieces : List Piece) (m : MapValue) (id : ℕ)
    → number_in (sources_in pieces) (source_of m id) ≡ number source_entries pieces m id
source_number pieces m id =
    let text : source_of m id ≡ text_of source_entries m id =
    ap (λ texts. slice_get texts id) (sym (sources_texts m))
    ∙ slice_get-map (λ (e : TextEntry). e.0) (source_entries m) id in
    λ i. number_in (sym (texts_of_sources pieces) i) (text i)

name_number : (pieces : List Piece) (m : MapValue) (id : ℕ)
    → number_in (names_in pieces) (name_of m id) ≡ number name_entries pieces m id
name_number pieces m id =
    let text : name_of m id ≡ text_of name_entries m id =
    ap (λ texts. slice_get texts id) (sym (names_texts m))
    ∙ slice_get-map (λ (e : TextEntry). e.0) (name_entries m) id in
    λ i. number_in (sym (texts_of_names pieces) i) (text i)

abbrev HasNumbers : List Piece → Piece → Type 0
HasNumbers pieces piece = HasNumber source_entries pieces piece × HasNumber name_entries pieces piece

all_both : (P Q : Piece → Type 0) (pieces : List Piece) → AllByRecursion P pieces → AllByRecursion Q pieces
    → AllByRecursion (λ piece. P piece × Q piece) pieces
all_both P Q [] p q = tt
all_both P Q (x ∷ xs) p q = ((p.0, q.0), all_both P Q xs p.1 q.1)

all-numbered-to : (pieces : List Piece) → AllByRecursion (HasNumbers pieces) pieces
all-numbered-to pieces = all_both (HasNumber source_entries pieces) (HasNumber name_entries pieces) pieces
    (all-numbered source_entries pieces) (all-numbered name_entries pieces)

module _ (before : List Piece) (piece : Piece) where
  source-stays : (old : Piece) → HasNumbers before old → (id : ℕ)
      → number_in (sources_in (before ++ piece ∷ [])) (source_of old.1 id)
      ≡ number_in (sources_in before) (source_of old.1 id)
  source-stays old numbered id =
      source_number (before ++ piece ∷ []) old.1 id ∙ number-stays source_entries before piece old numbered.0 id
      ∙ sym (source_number before old.1 id)

  name-stays : (old : Piece) → HasNumbers before old → (id : ℕ)
      → number_in (names_in (before ++ piece ∷ [])) (name_of old.1 id) ≡ number_in (names_in before) (name_of old.1 id)
  name-stays old numbered id =
      name_number (before ++ piece ∷ []) old.1 id ∙ number-stays name_entries before piece old numbered.1 id
      ∙ sym (name_number before old.1 id)

  -- if each text of `old` has an id in `before`, adding `piece` does not change the moved tokens of `old`
  token-stays : (old : Piece) → HasNumbers before old → (t : RawToken)
      → token_in (before ++ piece ∷ []) old t ≡ token_in before old t
  token-stays old numbered t = λ i. record t {
    dst_line = (absolute_position old.0 (destination t)).0;
    dst_col = (absolute_position old.0 (destination t)).1;
    src_id = source-stays old numbered t.src_id i;
    name_id = name-stays old numbered t.name_id i;
  }

  tokens-stay : flat_map (λ old. map (token_in (before ++ piece ∷ []) old) old.1.tokens) before
      ≡ all_moved_tokens before
  tokens-stay = flat_map-same (HasNumbers before) (λ old. map (token_in (before ++ piece ∷ []) old) old.1.tokens)
      (λ old. map (token_in before old) old.1.tokens)
      (λ old numbered. map-each (token_in (before ++ piece ∷ []) old) (token_in before old) (token-stays old numbered)
      old.1.tokens) before (all-numbered-to before)

  ignored-stay : flat_map (ignored_in (before ++ piece ∷ [])) before ≡ flat_map (ignored_in before) before
  ignored-stay = flat_map-same (HasNumbers before) (ignored_in (before ++ piece ∷ [])) (ignored_in before)
      (λ old numbered. map-each (λ t. (token_in (before ++ piece ∷ []) old t).src_id)
      (λ t. (token_in before old t).src_id) (λ t. source-stays old numbered t.src_id)
      (filter (λ t. list_any (nat_eq t.src_id) old.1.ignored) old.1.tokens)) before (all-numbered-to before)

  module _ (to : Move) (at : piece.0 ≡ (to.line, to.column))
      (sources : to.sources.now
      ≡ numbers_among (all_source_entries before ++ source_entries piece.1) (source_entries piece.1))
      (names : to.names.now ≡ numbers_among (all_name_entries before ++ name_entries piece.1) (name_entries piece.1))
    where
      source-new : (id : ℕ)
          → number_in (sources_in (before ++ piece ∷ [])) (source_of piece.1 id) ≡ new_number to.sources.now id
      source-new id = source_number (before ++ piece ∷ []) piece.1 id
          ∙ number-new source_entries before piece to.sources.now sources id

      name-new : (id : ℕ)
          → number_in (names_in (before ++ piece ∷ [])) (name_of piece.1 id) ≡ new_number to.names.now id
      name-new id =
          name_number (before ++ piece ∷ []) piece.1 id ∙ number-new name_entries before piece to.names.now names id

      token-new : (t : RawToken) → token_in (before ++ piece ∷ []) piece t ≡ moved_by to t
      token-new t = λ i. record t {
        dst_line = (absolute_position (at i) (destination t)).0;
        dst_col = (absolute_position (at i) (destination t)).1;
        src_id = source-new t.src_id i;
        name_id = name-new t.name_id i;
      }

      pub tokens-more : (old new : List RawToken) → old ≡ all_moved_tokens before → AreMoved to piece.1.tokens old new
          → new ≡ all_moved_tokens (before ++ piece ∷ [])
      tokens-more old new so_far moved =
          moved.appended
          ∙ (λ i. (so_far ∙ sym tokens-stay) i
          ++ sym (map-each (token_in (before ++ piece ∷ []) piece) (moved_by to) token-new piece.1.tokens) i)
          ∙ sym (flat_map-push (λ old. map (token_in (before ++ piece ∷ []) old) old.1.tokens) before piece)

      pub ignored-more : (old new : List ℕ) → old ≡ all_ignored_ids before
          → new ≡ fold (insert_key nat_cmp) old (ignored_numbers piece.1.ignored to.sources.now piece.1.tokens)
          → new ≡ all_ignored_ids (before ++ piece ∷ [])
      ignored-more old new so_far put =
          put
          ∙ (λ i. fold (insert_key nat_cmp) ((so_far ∙ ap rising (sym ignored-stay)) i)
          (sym (map-each (λ t. (token_in (before ++ piece ∷ []) piece t).src_id)
          (λ t. new_number to.sources.now t.src_id)
          (λ t. source-new t.src_id) (filter (λ t. list_any (nat_eq t.src_id) piece.1.ignored) piece.1.tokens)) i))
          ∙ sym (fold-append (insert_key nat_cmp) [] (flat_map (ignored_in (before ++ piece ∷ [])) before)
          (ignored_in (before ++ piece ∷ []) piece))
          ∙ ap rising (sym (flat_map-push (ignored_in (before ++ piece ∷ [])) before piece))

-- One more piece.

no_more-than : (texts : List (List ℕ)) → length texts ≤ 4294967295 → are_too_many texts ≡ false
no_more-than texts few = not_lt 4294967295 (length texts) (λ less. omega (arith, less, few))

true-or : (a : Bool) → (a || true) ≡ true
true-or true = refl
true-or false = refl

module _ (before : List Piece) (piece : Piece) where
  all_sources : all_source_entries (before ++ piece ∷ []) ≡ all_source_entries before ++ source_entries piece.1
  all_sources = flat_map-push (λ (p : Piece). source_entries p.1) before piece

  all_names : all_name_entries (before ++ piece ∷ []) ≡ all_name_entries before ++ name_entries piece.1
  all_names = flat_map-push (λ (p : Piece). name_entries p.1) before piece

  same_sources : texts_entered (all_source_entries before ++ source_entries piece.1) ≡ sources_in (before ++ piece ∷ [])
  same_sources = ap texts_entered (sym all_sources) ∙ texts_of_sources (before ++ piece ∷ [])

  same_names : texts_entered (all_name_entries before ++ name_entries piece.1) ≡ names_in (before ++ piece ∷ [])
  same_names = ap texts_entered (sym all_names) ∙ texts_of_names (before ++ piece ∷ [])

  -- let `before` and `piece` together have more than 4294967295 distinct sources or more than 4294967295 distinct
  -- names. Let `e` be `CannotFlatten` with the text "too many sources or names". Then `with_piece before piece` is an
  -- error with the same text. If `e` is `OutOfMemory`, the lemmas say nothing about `with_piece`
  pub refused-sources : (reason : List ℕ) (e : Error) → reason ≡ codes "too many sources or names"
      → RefusesBy (are_too_many (texts_entered (all_source_entries before ++ source_entries piece.1))) reason e
      → RefusesPiece before piece e
  refused-sources reason e is refused = UnlessMemory-weaker e (λ h. (reason, due h.0, h.1)) refused
    where
      due : are_too_many (texts_entered (all_source_entries before ++ source_entries piece.1)) ≡ true
          → with_piece before piece ≡ Err reason
      due many = let too : are_too_many (sources_in (before ++ piece ∷ [])) ≡ true =
          ap are_too_many (sym same_sources) ∙ many in rw (too, is) refl

  pub refused-names : (reason : List ℕ) (e : Error) → reason ≡ codes "too many sources or names"
      → RefusesBy (are_too_many (texts_entered (all_name_entries before ++ name_entries piece.1))) reason e
      → RefusesPiece before piece e
  refused-names reason e is refused = UnlessMemory-weaker e (λ h. (reason, due h.0, h.1)) refused
    where
      due : are_too_many (texts_entered (all_name_entries before ++ name_entries piece.1)) ≡ true
          → with_piece before piece ≡ Err reason
      due many =
          let too : are_too_many (names_in (before ++ piece ∷ [])) ≡ true = ap are_too_many (sym same_names) ∙ many in
          let either : (are_too_many (sources_in (before ++ piece ∷ [])) || true) ≡ true =
          true-or (are_too_many (sources_in (before ++ piece ∷ []))) in
          rw (too, either, is) refl

  module _ (few_sources : length (texts_entered (all_source_entries before ++ source_entries piece.1)) ≤ 4294967295)
      (few_names : length (texts_entered (all_name_entries before ++ name_entries piece.1)) ≤ 4294967295) where
    sources-fit : are_too_many (sources_in (before ++ piece ∷ [])) ≡ false
    sources-fit = ap are_too_many (sym same_sources)
        ∙ no_more-than (texts_entered (all_source_entries before ++ source_entries piece.1)) few_sources

    names-fit : are_too_many (names_in (before ++ piece ∷ [])) ≡ false
    names-fit = ap are_too_many (sym same_names)
        ∙ no_more-than (texts_entered (all_name_entries before ++ name_entries piece.1)) few_names

    pub refused-tokens : (passes : RawToken → Bool) (reason : List ℕ) (e : Error)
        → reason ≡ codes "a position passes 4294967295"
        → ((t : RawToken) → passes t ≡ passes_the_end (absolute_position piece.0 (destination t)))
        → RefusesBy (list_any passes piece.1.tokens) reason e → RefusesPiece before piece e
    refused-tokens passes reason e is same refused = UnlessMemory-weaker e (λ h. (reason, due h.0, h.1)) refused
      where
        due : list_any passes piece.1.tokens ≡ true → with_piece before piece ≡ Err reason
        due listed =
            let past : list_any (λ t. passes_the_end (absolute_position piece.0 (destination t))) piece.1.tokens
            ≡ true = sym (any-same passes (λ t. passes_the_end (absolute_position piece.0 (destination t))) same
            piece.1.tokens) ∙ listed in
            rw (sources-fit, names-fit, past, is) refl

    pub with_piece-appends : (passes : RawToken → Bool)
        → ((t : RawToken) → passes t ≡ passes_the_end (absolute_position piece.0 (destination t)))
        → list_any passes piece.1.tokens ≡ false → with_piece before piece ≡ Ok (before ++ piece ∷ [])
    with_piece-appends passes same within =
        let inside : list_any (λ t. passes_the_end (absolute_position piece.0 (destination t))) piece.1.tokens ≡ false =
        sym (any-same passes (λ t. passes_the_end (absolute_position piece.0 (destination t))) same piece.1.tokens)
        ∙ within in
        rw (sources-fit, names-fit, inside) refl

-- A `Part` with the lists of a map is added.

abbrev enters : List TextEntry → List TextEntry → List ℕ → Table → Type 0
enters before entries ids t = AreEntered (before ++ entries) entries ids t

module _ (before : List Piece) (m : MapValue) (part : Part) (is : IsPartOf m part) (to : Move)
    (new_sources new_names : Table)
    (sources : enters (all_source_entries before) (entry_values part.sources.now) to.sources.now new_sources)
    (names : enters (all_name_entries before) (entry_values part.names.now) to.names.now new_names) where
  piece : Piece
  piece = ((to.line, to.column), m)

  entered_sources : enters (all_source_entries before) (source_entries m) to.sources.now new_sources
  entered_sources = subst (λ es. enters (all_source_entries before) es to.sources.now new_sources) is.sources sources

  entered_names : enters (all_name_entries before) (name_entries m) to.names.now new_names
  entered_names = subst (λ es. enters (all_name_entries before) es to.names.now new_names) is.names names

  pub part-refused : (reason : List ℕ) (e : Error) → reason ≡ codes "a position passes 4294967295"
      → RefusesBy (list_any (is_past_end to) part.tokens.now) reason e → RefusesPiece before ((to.line, to.column), m) e
  part-refused reason e same refused =
      refused-tokens before ((to.line, to.column), m) entered_sources.table.few entered_names.table.few (is_past_end to)
      reason e same (λ t. refl)
      (subst (λ ts. RefusesBy (list_any (is_past_end to) ts) reason e) is.tokens refused)

  pub part-gathered : (old new : Gathering) → Gathers before old → new.sources ≡ new_sources → new.names ≡ new_names
      → AreMoved to part.tokens.now old.tokens.items new.tokens.items
      → new.ignored.keys ≡ fold (insert_key nat_cmp) old.ignored.keys
      (ignored_numbers part.ignored.now.keys to.sources.now part.tokens.now)
      → GathersMore before ((to.line, to.column), m) new
  part-gathered old new so_far same_s same_n moved_part put =
      let moved : AreMoved to m.tokens old.tokens.items new.tokens.items =
      subst (λ ts. AreMoved to ts old.tokens.items new.tokens.items) is.tokens moved_part in
      let listed : new.ignored.keys
      ≡ fold (insert_key nat_cmp) old.ignored.keys (ignored_numbers m.ignored to.sources.now m.tokens) =
      put ∙ (λ i.
      fold (insert_key nat_cmp) old.ignored.keys (ignored_numbers (is.ignored i) to.sources.now (is.tokens i))) in
      record {
        gathered = record {
          sources = subst (λ t. IsTable (all_source_entries (before ++ ((to.line, to.column), m) ∷ [])) t) (sym same_s)
              (subst (λ es. IsTable es new_sources) (sym (all_sources before ((to.line, to.column), m)))
              entered_sources.table);
          names = subst (λ t. IsTable (all_name_entries (before ++ ((to.line, to.column), m) ∷ [])) t) (sym same_n)
              (subst (λ es. IsTable es new_names) (sym (all_names before ((to.line, to.column), m)))
              entered_names.table);
          tokens = tokens-more before ((to.line, to.column), m) to refl entered_sources.each entered_names.each
              old.tokens.items new.tokens.items so_far.tokens moved;
          ignored = ignored-more before ((to.line, to.column), m) to refl entered_sources.each entered_names.each
              old.ignored.keys new.ignored.keys so_far.ignored listed;
        };
        due = with_piece-appends before ((to.line, to.column), m) entered_sources.table.few entered_names.table.few (is_past_end to)
            (λ t. refl) moved.within;
      }
