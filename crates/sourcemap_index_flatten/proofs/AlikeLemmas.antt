-- Lists of pieces that concatenate to the same map (`AreAlike`). A concatenation that is itself a piece can be replaced
-- by its own pieces, moved by its offset:
-- - The texts that a concatenation keeps get the numbers that all its texts get (`kept-twice`).
-- - The last contents of a text among the kept entries are the last contents among all (`contents-kept-once`).
-- - A token keeps its texts through both numberings. Offsets add up and keep the order of positions, and sorting is
--   stable, so the tokens with their texts are sorted to the same list (`words-merged`, `words-moved`).
-- - The sources that a concatenation ignores are the sources that its pieces ignore (`ignored-in`, `ignored-out`).
-- - Where all pieces together fit, each part of them fits (`few-middle`, `within-unmoved`).
use Rattle.std.proofs.Common.{◌≡◌, refl, sym, ap, subst, ◌∙◌, ℕ, zero, suc, ◌+◌, ◌≤◌, ◌==◌, if◌then◌else◌, List, [], ◌∷◌, ◌++◌, append-nil, length, map, filter, flat_map, fold, Bool, true, false, cond, ◌&&◌, ◌||◌, is_some, nat_eq, nat_lt, Some, None, Option, option_and_then, arith, slice_get, inl, inr, ◌⊎◌}
use Rattle.std.specs.List.{AllByRecursion, list_any}
use Rattle.std.specs.Option.{option_or}
use Rattle.std.specs.Str.{bytes_eq}
use Rattle.std.proofs.lemmas.Bool.Decides.{nat_tests}
use Rattle.std.proofs.lemmas.List.{map-append}
use Rattle.std.proofs.lemmas.List.Concat.{flat_map-append}
use Rattle.std.proofs.lemmas.List.Sums.{fold-append}
use Rattle.std.proofs.lemmas.Slice.Eq.{bytes_eq-Decides}
use Rattle.sourcemap_interning.specs.Interner.{id_of, with_text}
use Rattle.sourcemap_interning.proofs.InternerLemmas.{slice_get-id_of}
use Rattle.sourcemap_tokens.specs.declared.tokens.RawToken.{RawToken}
use Rattle.sourcemap_tokens.specs.Search.{find_last}
use Rattle.sourcemap_tokens.specs.Tokens.{destination, position_cmp, sorted_by, in_order}
use Rattle.sourcemap_tokens.proofs.AllLemmas.{All-at, All-of, All-map, All-flat_map, All-unmapped, All-weaker}
use Rattle.sourcemap_tokens.proofs.SortLemmas.{All-sorted_by, stable-sorted_by}
use Rattle.sourcemap_tokens.proofs.TokensLemmas.{position_cmp_total}
use Rattle.sourcemap_map_parts.proofs.SourcesLemmas.{map-resolved_against_nothing}
use Rattle.sourcemap_map_conversions.specs.FromRecord.{rising}
use Rattle.sourcemap_map_rewrite.specs.Kept.{number_in}
use Rattle.sourcemap_map_rewrite.proofs.NumberingLemmas.{IsListedIfAny, option_or-None, slice_get-number_in}
use Rattle.sourcemap_map_regular.specs.Map.{MapValue, resolved_sources, source_of, name_of}
use Rattle.sourcemap_index_model.specs.Flat.{Piece, sources_in, names_in, source_entries, token_in, ignored_in, merged, passes_the_end}
use Rattle.sourcemap_index_model.specs.FlatList.{absolute_position}
use Rattle.sourcemap_index_model.proofs.FlatLemmas.{AreFew, IsAmong, all_among}
use Rattle.sourcemap_index_model.proofs.PositionLemmas.{absolute_lt}
use Rattle.sourcemap_index_model.proofs.SortLemmas.{sorted_by-change, sorted_by-stable, stable_append}
use Rattle.sourcemap_index_flatten.specs.Table.{TextEntry, texts_entered, contents_entered, entries_kept}
use Rattle.sourcemap_index_flatten.specs.Gathering.{moved_piece, all_source_entries, all_moved_tokens, Gathers, IsFlat}
use Rattle.sourcemap_index_flatten.specs.declared.gathering.FlatMap.{FlatMap}
use Rattle.sourcemap_index_flatten.specs.declared.gathering.Gathering.{Gathering}
use Rattle.sourcemap_index_flatten.proofs.TableLemmas.{all-among, contents-none, length-fold}
use Rattle.sourcemap_index_flatten.proofs.GatheringLemmas.{map-each, texts_of_names, texts_of_sources}
use Rattle.sourcemap_index_flatten.proofs.FlatLemmas.{sources-merged, names-merged}
use Rattle.sourcemap_index_flatten.proofs.MembersLemmas.{IsIn, in-left, in-right, in-parts, in-map, in-unmapped, in-flat_map, in-flat_mapped, in-filter, in-filtered, in-sorted_by, in-unsorted, in-any, any-in, in-rising, in-risen, same-rising, All-in, All-from_in}
use Rattle.sourcemap_index_flatten.proofs.KeptLemmas.{kept-twice, few-after}

-- Positions.

column-twice : (b c d e f : ℕ) → (if e == 0 then f + (if c == 0 then d + b else d) else f)
    ≡ (if e + c == 0 then (if e == 0 then f + d else f) + b else (if e == 0 then f + d else f))
column-twice b c d e f = grind (arith, nat_tests)

line-twice : (a c e : ℕ) → e + (c + a) ≡ e + c + a
line-twice a c e = omega arith

-- offsets inside of offsets add up
pub position-twice : (outer inner p : ℕ × ℕ)
    → absolute_position (absolute_position outer inner) p ≡ absolute_position outer (absolute_position inner p)
position-twice (a, b) (c, d) (e, f) = λ i. (line-twice a c e i, column-twice b c d e f i)

column-none : (e f : ℕ) → (if e == 0 then f + 0 else f) ≡ f
column-none e f = grind (arith, nat_tests)

line-none : (e : ℕ) → e + 0 ≡ e
line-none e = omega arith

pub position-none : (p : ℕ × ℕ) → absolute_position (0, 0) p ≡ p
position-none (e, f) = λ i. (line-none e i, column-none e f i)

none-before : (n : ℕ) → 0 + n ≡ n
none-before n = omega arith

pub position-start : (offset : ℕ × ℕ) → absolute_position offset (0, 0) ≡ offset
position-start (a, b) = λ i. (none-before a i, none-before b i)

below-moved : (most a b e f : ℕ) → nat_lt most (e + a) || nat_lt most (if e == 0 then f + b else f) ≡ false
    → nat_lt most e || nat_lt most f ≡ false
below-moved most a b e f within = grind (arith, nat_tests)

passes-moved : (offset p : ℕ × ℕ) → passes_the_end (absolute_position offset p) ≡ false → passes_the_end p ≡ false
passes-moved (a, b) (e, f) within = below-moved 4294967295 a b e f within

-- A token with the texts of its source and its name.

-- `token` has its generated position in the concatenation, and no ids
pub record Worded : Type 0 where
  pub token : RawToken
  pub source : Option (List ℕ)
  pub name : Option (List ℕ)

abbrev pub place : Worded → ℕ × ℕ
place w = destination w.token

abbrev pub worded : Piece → RawToken → Worded
worded piece t = record {
  token = record t {
    dst_line = (absolute_position piece.0 (destination t)).0;
    dst_col = (absolute_position piece.0 (destination t)).1;
    src_id = 0;
    name_id = 0;
  };
  source = source_of piece.1 t.src_id;
  name = name_of piece.1 t.name_id;
}

abbrev pub words_of : Piece → List Worded
words_of piece = map (worded piece) piece.1.tokens

abbrev pub all_worded : List Piece → List Worded
all_worded pieces = flat_map words_of pieces

abbrev by_place : List Worded → List Worded
by_place ws = sorted_by place position_cmp ws

-- the token with the ids that its texts have in these lists
abbrev numbered : (sources names : List (List ℕ)) → Worded → RawToken
numbered sources names w =
    record w.token { src_id = number_in sources w.source; name_id = number_in names w.name }

abbrev moved_words : ℕ × ℕ → Worded → Worded
moved_words offset w = record w {
  token = record w.token {
    dst_line = (absolute_position offset (place w)).0;
    dst_col = (absolute_position offset (place w)).1;
  };
}

abbrev is_ignored : MapValue → RawToken → Bool
is_ignored m t = list_any (nat_eq t.src_id) m.ignored

-- the sources of the tokens whose source id is on the ignore list
abbrev ignored_sources : MapValue → List (Option (List ℕ))
ignored_sources m =
    map (λ (t : RawToken). source_of m t.src_id) (filter (is_ignored m) m.tokens)

abbrev all_ignored : List Piece → List (Option (List ℕ))
all_ignored pieces = flat_map (λ (piece : Piece). ignored_sources piece.1) pieces

abbrev pub all_sources : List Piece → List (List ℕ)
all_sources pieces = flat_map (λ (piece : Piece). resolved_sources piece.1) pieces

abbrev pub all_names : List Piece → List (List ℕ)
all_names pieces = flat_map (λ (piece : Piece). piece.1.names) pieces

-- the contents of the last of the entries that has the text and any contents
abbrev last_contents : List ℕ → List TextEntry → Option (List ℕ)
last_contents text [] = None
last_contents text (e ∷ es) = option_or (last_contents text es) (cond (bytes_eq e.0 text) e.1 None)

-- after the same pieces, and before the same pieces, `ps` and `qs` give the same concatenation
pub record AreAlike (ps qs : List Piece) : Type 0 where
  pub sources : (kept : List (List ℕ)) → fold with_text kept (all_sources ps) ≡ fold with_text kept (all_sources qs)
  pub names : (kept : List (List ℕ)) → fold with_text kept (all_names ps) ≡ fold with_text kept (all_names qs)
  pub contents : (text : List ℕ)
      → last_contents text (all_source_entries ps) ≡ last_contents text (all_source_entries qs)
  pub tokens : by_place (all_worded ps) ≡ by_place (all_worded qs)
  pub ignored : (o : Option (List ℕ)) → IsIn o (all_ignored ps) → IsIn o (all_ignored qs)
  pub ignored_back : (o : Option (List ℕ)) → IsIn o (all_ignored qs) → IsIn o (all_ignored ps)

pub alike-itself : (ps : List Piece) → AreAlike ps ps
alike-itself ps = record {
  sources = λ kept. refl;
  names = λ kept. refl;
  contents = λ text. refl;
  tokens = refl;
  ignored = λ o h. h;
  ignored_back = λ o h. h;
}

pub alike-through : (ps qs rs : List Piece) → AreAlike ps qs → AreAlike qs rs → AreAlike ps rs
alike-through ps qs rs h k = record {
  sources = λ kept. h.sources kept ∙ k.sources kept;
  names = λ kept. h.names kept ∙ k.names kept;
  contents = λ text. h.contents text ∙ k.contents text;
  tokens = h.tokens ∙ k.tokens;
  ignored = λ o g. k.ignored o (h.ignored o g);
  ignored_back = λ o g. h.ignored_back o (k.ignored_back o g);
}

-- One list of pieces after another.

joined : (f : Piece → List (List ℕ)) (kept : List (List ℕ)) (ps ps' : List Piece)
    → fold with_text kept (flat_map f (ps ++ ps')) ≡ fold with_text (fold with_text kept (flat_map f ps)) (flat_map f ps')
joined f kept ps ps' = ap (fold with_text kept) (flat_map-append f ps ps')
    ∙ fold-append with_text kept (flat_map f ps) (flat_map f ps')

or-assoc : {X : Type 0} (a b c : Option X) → option_or (option_or a b) c ≡ option_or a (option_or b c)
or-assoc None b c = refl
or-assoc (Some x) b c = refl

contents-append : (text : List ℕ) (es es' : List TextEntry)
    → last_contents text (es ++ es') ≡ option_or (last_contents text es') (last_contents text es)
contents-append text [] es' = sym (option_or-None (last_contents text es'))
contents-append text (e ∷ es) es' =
    ap (λ o. option_or o (cond (bytes_eq e.0 text) e.1 None)) (contents-append text es es')
    ∙ or-assoc (last_contents text es') (last_contents text es) (cond (bytes_eq e.0 text) e.1 None)

contents-joined : (text : List ℕ) (ps ps' : List Piece) → last_contents text (all_source_entries (ps ++ ps'))
    ≡ option_or (last_contents text (all_source_entries ps')) (last_contents text (all_source_entries ps))
contents-joined text ps ps' =
    ap (last_contents text) (flat_map-append (λ (p : Piece). source_entries p.1) ps ps')
    ∙ contents-append text (all_source_entries ps) (all_source_entries ps')

sorted-append : (xs ys : List Worded) → by_place (by_place xs ++ by_place ys) ≡ by_place (xs ++ ys)
sorted-append xs ys = sorted_by-stable place position_cmp_total (xs ++ ys) (by_place xs ++ by_place ys)
    (stable_append place position_cmp_total xs (by_place xs) ys (by_place ys)
    (stable-sorted_by place position_cmp_total xs) (stable-sorted_by place position_cmp_total ys))

tokens-joined : (ps ps' : List Piece)
    → by_place (all_worded (ps ++ ps')) ≡ by_place (by_place (all_worded ps) ++ by_place (all_worded ps'))
tokens-joined ps ps' =
    ap by_place (flat_map-append words_of ps ps') ∙ sym (sorted-append (all_worded ps) (all_worded ps'))

in-joined : {X : Type 0} (f : Piece → List X) (ps ps' qs qs' : List Piece) (x : X)
    → (IsIn x (flat_map f ps) → IsIn x (flat_map f qs)) → (IsIn x (flat_map f ps') → IsIn x (flat_map f qs'))
    → IsIn x (flat_map f (ps ++ ps')) → IsIn x (flat_map f (qs ++ qs'))
in-joined f ps ps' qs qs' x to to' h =
    let parts : IsIn x (flat_map f ps ++ flat_map f ps') = subst (IsIn x) (flat_map-append f ps ps') h in
    let there : IsIn x (flat_map f qs ++ flat_map f qs') =
    elim (in-parts x (flat_map f ps) (flat_map f ps') parts) [
      | inl front ↦ in-left x (flat_map f qs) (flat_map f qs') (to front)
      | inr back ↦ in-right x (flat_map f qs) (flat_map f qs') (to' back)
    ] in
    subst (IsIn x) (sym (flat_map-append f qs qs')) there

pub alike-append : (ps qs ps' qs' : List Piece) → AreAlike ps qs → AreAlike ps' qs' → AreAlike (ps ++ ps') (qs ++ qs')
alike-append ps qs ps' qs' h k = record {
  sources = λ kept. joined (λ (p : Piece). resolved_sources p.1) kept ps ps'
      ∙ ap (λ us. fold with_text us (all_sources ps')) (h.sources kept)
      ∙ k.sources (fold with_text kept (all_sources qs))
      ∙ sym (joined (λ (p : Piece). resolved_sources p.1) kept qs qs');
  names = λ kept. joined (λ (p : Piece). p.1.names) kept ps ps'
      ∙ ap (λ us. fold with_text us (all_names ps')) (h.names kept)
      ∙ k.names (fold with_text kept (all_names qs))
      ∙ sym (joined (λ (p : Piece). p.1.names) kept qs qs');
  contents = λ text. contents-joined text ps ps' ∙ (λ i. option_or (k.contents text i) (h.contents text i))
      ∙ sym (contents-joined text qs qs');
  tokens = tokens-joined ps ps' ∙ (λ i. by_place (h.tokens i ++ k.tokens i)) ∙ sym (tokens-joined qs qs');
  ignored = λ o. in-joined (λ (p : Piece). ignored_sources p.1) ps ps' qs qs' o (h.ignored o) (k.ignored o);
  ignored_back = λ o. in-joined (λ (p : Piece). ignored_sources p.1) qs qs' ps ps' o (h.ignored_back o)
      (k.ignored_back o);
}

-- Pieces in an index map at an offset.

same-moved : {Y : Type 0} (f : MapValue → List Y) (offset : ℕ × ℕ) (ps : List Piece)
    → flat_map (λ (p : Piece). f p.1) (map (moved_piece offset) ps) ≡ flat_map (λ (p : Piece). f p.1) ps
same-moved f offset [] = refl
same-moved f offset (p ∷ ps) = ap (λ rest. f p.1 ++ rest) (same-moved f offset ps)

token-moved : (offset : ℕ × ℕ) (piece : Piece) (t : RawToken)
    → worded (moved_piece offset piece) t ≡ moved_words offset (worded piece t)
token-moved offset piece t = λ i. record {
  token = record t {
    dst_line = (position-twice offset piece.0 (destination t) i).0;
    dst_col = (position-twice offset piece.0 (destination t) i).1;
    src_id = 0;
    name_id = 0;
  };
  source = source_of piece.1 t.src_id;
  name = name_of piece.1 t.name_id;
}

tokens-moved : (offset : ℕ × ℕ) (piece : Piece) (ts : List RawToken)
    → map (worded (moved_piece offset piece)) ts ≡ map (moved_words offset) (map (worded piece) ts)
tokens-moved offset piece [] = refl
tokens-moved offset piece (t ∷ ts) = λ i. token-moved offset piece t i ∷ tokens-moved offset piece ts i

words-moved : (offset : ℕ × ℕ) (ps : List Piece)
    → all_worded (map (moved_piece offset) ps) ≡ map (moved_words offset) (all_worded ps)
words-moved offset [] = refl
words-moved offset (p ∷ ps) = (λ i. tokens-moved offset p p.1.tokens i ++ words-moved offset ps i)
    ∙ sym (map-append (moved_words offset) (words_of p) (all_worded ps))

sorted-moved : (offset : ℕ × ℕ) (ws : List Worded)
    → by_place (map (moved_words offset) ws) ≡ map (moved_words offset) (by_place ws)
sorted-moved offset ws = sorted_by-change place position_cmp place position_cmp (moved_words offset)
    (λ v w. absolute_lt offset (place v) (place w)) ws

pub alike-moved : (offset : ℕ × ℕ) (ps qs : List Piece) → AreAlike ps qs
    → AreAlike (map (moved_piece offset) ps) (map (moved_piece offset) qs)
alike-moved offset ps qs h = record {
  sources = λ kept. ap (fold with_text kept) (same-moved resolved_sources offset ps) ∙ h.sources kept
      ∙ sym (ap (fold with_text kept) (same-moved resolved_sources offset qs));
  names = λ kept. ap (fold with_text kept) (same-moved (λ m. m.names) offset ps) ∙ h.names kept
      ∙ sym (ap (fold with_text kept) (same-moved (λ m. m.names) offset qs));
  contents = λ text. ap (last_contents text) (same-moved source_entries offset ps) ∙ h.contents text
      ∙ sym (ap (last_contents text) (same-moved source_entries offset qs));
  tokens = ap by_place (words-moved offset ps) ∙ sorted-moved offset (all_worded ps)
      ∙ ap (map (moved_words offset)) h.tokens ∙ sym (sorted-moved offset (all_worded qs))
      ∙ sym (ap by_place (words-moved offset qs));
  ignored = λ o g. subst (IsIn o) (sym (same-moved ignored_sources offset qs))
      (h.ignored o (subst (IsIn o) (same-moved ignored_sources offset ps) g));
  ignored_back = λ o g. subst (IsIn o) (sym (same-moved ignored_sources offset ps))
      (h.ignored_back o (subst (IsIn o) (same-moved ignored_sources offset qs) g));
}

-- Contents that are kept once.

found-last : {X : Type 0} (test : X → Bool) (xs : List X) (y : X) → find_last test xs ≡ Some y → test y ≡ true
found-last test [] y e = cc
found-last {X} test (x ∷ xs) y e = from (find_last test xs) (test x) refl (λ z. found-last test xs z) e
  where
    from : (o : Option X) (b : Bool) → test x ≡ b → ((z : X) → o ≡ Some z → test z ≡ true)
        → option_or o (cond b (Some x) None) ≡ Some y → test y ≡ true
    from None true passes rest is = let same : x ≡ y = cc in ap test (sym same) ∙ passes
    from None false passes rest is = cc
    from (Some z) b passes rest is = rest y is

contents-last : (text : List ℕ) (es : List TextEntry) → contents_entered es text ≡ last_contents text es
contents-last text [] = refl
contents-last text (e ∷ es) =
    from (find_last (λ (e : TextEntry). bytes_eq e.0 text && is_some e.1) es) (bytes_eq e.0 text) e.1
    (λ f is. second (bytes_eq f.0 text) (is_some f.1) (found-last (λ (e : TextEntry). bytes_eq e.0 text && is_some e.1)
    es f is))
    ∙ ap (λ o. option_or o (cond (bytes_eq e.0 text) e.1 None)) (contents-last text es)
  where
    second : (a b : Bool) → (a && b) ≡ true → b ≡ true
    second true b h = h
    second false b h = cc

    given-or : (a b : Option (List ℕ)) → is_some a ≡ true → a ≡ option_or a b
    given-or None b some = cc
    given-or (Some c) b some = refl

    from : (found : Option TextEntry) (same : Bool) (own : Option (List ℕ))
        → ((f : TextEntry) → found ≡ Some f → is_some f.1 ≡ true)
        → option_and_then (λ (e : TextEntry). e.1) (option_or found (cond (same && is_some own) (Some (e.0, own)) None))
        ≡ option_or (option_and_then (λ (e : TextEntry). e.1) found) (cond same own None)
    from None true None some = refl
    from None true (Some c) some = refl
    from None false own some = refl
    from (Some f) same own some = given-or f.1 (cond same own None) (some f refl)

module _ (f : List ℕ → Option (List ℕ)) (text : List ℕ) where
  abbrev last_of : List (List ℕ) → Option (List ℕ)
  last_of texts = last_contents text (map {B = TextEntry} (λ u. (u, f u)) texts)

  or-itself : (o : Option (List ℕ)) → option_or o o ≡ o
  or-itself None = refl
  or-itself (Some c) = refl

  more-of : (rest own given : Option (List ℕ)) (same : Bool) → (same ≡ true → own ≡ given) → rest ≡ given
      → option_or rest (cond same own None) ≡ given
  more-of rest own given true is h = ap (λ o. option_or o own) h ∙ ap (option_or given) (is refl) ∙ or-itself given
  more-of rest own given false is h = ap (λ o. option_or o None) h ∙ option_or-None given

  -- these entries give the text what `f` gives, or nothing
  either-of : (texts : List (List ℕ)) → (last_of texts ≡ None) ⊎ (last_of texts ≡ f text)
  either-of [] = inl refl
  either-of (u ∷ us) = from (last_of us) (bytes_eq u text) (λ same. ap f ((bytes_eq-Decides u text).0 same))
      (either-of us)
    where
      from : (rest : Option (List ℕ)) (same : Bool) → (same ≡ true → f u ≡ f text)
          → (rest ≡ None) ⊎ (rest ≡ f text)
          → (option_or rest (cond same (f u) None) ≡ None) ⊎ (option_or rest (cond same (f u) None) ≡ f text)
      from rest true is (inl none) = inr (ap (λ o. option_or o (f u)) none ∙ is refl)
      from rest false is (inl none) = inl (ap (λ o. option_or o None) none)
      from rest same is (inr given) = inr (more-of rest (f u) (f text) same is given)

  last-at : (texts : List (List ℕ)) (n : ℕ) → slice_get texts n ≡ Some text → last_of texts ≡ f text
  last-at [] n e = cc
  last-at (u ∷ us) zero e =
      let same : u ≡ text = cc in
      elim (either-of us) [
        | inl none ↦ ap (λ o. option_or o (cond (bytes_eq u text) (f u) None)) none
            ∙ ap (λ b. cond b (f u) None) ((bytes_eq-Decides u text).1 same) ∙ ap f same
        | inr given ↦ more-of (last_of us) (f u) (f text) (bytes_eq u text) (λ h. ap f same) given
      ]
  last-at (u ∷ us) (suc n) e =
      more-of (last_of us) (f u) (f text) (bytes_eq u text) (λ h. ap f ((bytes_eq-Decides u text).0 h))
      (last-at us n e)

contents-kept-once : (text : List ℕ) (es : List TextEntry)
    → last_contents text (entries_kept es) ≡ last_contents text es
contents-kept-once text es = by_case (id_of text (texts_entered es)) refl ∙ contents-last text es
  where
    by_case : (o : Option ℕ) → id_of text (texts_entered es) ≡ o
        → last_contents text (entries_kept es) ≡ contents_entered es text
    by_case None new =
        let none : contents_entered es text ≡ None = contents-none es text new es (all-among [] es) in
        elim (either-of (contents_entered es) text (texts_entered es)) [
          | inl nothing ↦ nothing ∙ sym none
          | inr given ↦ given
        ]
    by_case (Some n) at =
        last-at (contents_entered es) text (texts_entered es) n (slice_get-id_of text (texts_entered es) n at)

-- A concatenation as a piece.

listed-at : (kept texts : List (List ℕ)) (id : ℕ)
    → AllByRecursion (λ text. IsListedIfAny kept (Some text)) texts → IsListedIfAny kept (slice_get texts id)
listed-at kept texts id all = by_case (slice_get texts id) refl
  where
    by_case : (o : Option (List ℕ)) → slice_get texts id ≡ o → IsListedIfAny kept o
    by_case None e = tt
    by_case (Some text) e = All-at (λ text. IsListedIfAny kept (Some text)) texts id text e all

-- the texts of the token have ids among the texts of the pieces
record HasIds (pieces : List Piece) (w : Worded) : Type 0 where
  source : IsListedIfAny (sources_in pieces) w.source
  name : IsListedIfAny (names_in pieces) w.name
  source_id : w.token.src_id ≡ 0
  name_id : w.token.name_id ≡ 0

module _ (pieces : List Piece) where
  ids-of : (piece : Piece) (t : RawToken) → IsAmong pieces piece → HasIds pieces (worded piece t)
  ids-of piece t among = record {
    source = listed-at (sources_in pieces) (resolved_sources piece.1) t.src_id among.0;
    name = listed-at (names_in pieces) piece.1.names t.name_id among.1;
    source_id = refl;
    name_id = refl;
  }

  ids-of_all : (ps : List Piece) → AllByRecursion (IsAmong pieces) ps
      → AllByRecursion (λ p. AllByRecursion (HasIds pieces) (words_of p)) ps
  ids-of_all [] all = tt
  ids-of_all (p ∷ ps) all = (
    All-map (HasIds pieces) (worded p) p.1.tokens
        (All-of (λ t. HasIds pieces (worded p t)) (λ t. ids-of p t all.0) p.1.tokens),
    ids-of_all ps all.1,
  )

  have-ids : AllByRecursion (HasIds pieces) (all_worded pieces)
  have-ids = All-flat_map (HasIds pieces) words_of pieces (ids-of_all pieces (all_among pieces))

  tokens-numbered : (piece : Piece) (ts : List RawToken)
      → map (token_in pieces piece) ts ≡ map (numbered (sources_in pieces) (names_in pieces)) (map (worded piece) ts)
  tokens-numbered piece [] = refl
  tokens-numbered piece (t ∷ ts) = ap (λ rest. token_in pieces piece t ∷ rest) (tokens-numbered piece ts)

  words-numbered : (ps : List Piece) → flat_map (λ piece. map (token_in pieces piece) piece.1.tokens) ps
      ≡ map (numbered (sources_in pieces) (names_in pieces)) (all_worded ps)
  words-numbered [] = refl
  words-numbered (p ∷ ps) = (λ i. tokens-numbered p p.1.tokens i ++ words-numbered ps i)
      ∙ sym (map-append (numbered (sources_in pieces) (names_in pieces)) (words_of p) (all_worded ps))

  -- the tokens of the concatenation
  tokens-sorted : in_order (all_moved_tokens pieces)
      ≡ map (numbered (sources_in pieces) (names_in pieces)) (by_place (all_worded pieces))
  tokens-sorted = ap in_order (words-numbered pieces)
      ∙ sorted_by-change place position_cmp destination position_cmp
      (numbered (sources_in pieces) (names_in pieces)) (λ v w. refl) (all_worded pieces)

  ids-ignored : (ps : List Piece) → flat_map (ignored_in pieces) ps ≡ map (number_in (sources_in pieces)) (all_ignored ps)
  ids-ignored [] = refl
  ids-ignored (p ∷ ps) =
      (λ i. each (filter (is_ignored p.1) p.1.tokens) i ++ ids-ignored ps i)
      ∙ sym (map-append (number_in (sources_in pieces)) (ignored_sources p.1) (all_ignored ps))
    where
      each : (ts : List RawToken) → map (λ (t : RawToken). (token_in pieces p t).src_id) ts
          ≡ map (number_in (sources_in pieces)) (map (λ (t : RawToken). source_of p.1 t.src_id) ts)
      each [] = refl
      each (t ∷ ts) = ap (λ rest. number_in (sources_in pieces) (source_of p.1 t.src_id) ∷ rest) (each ts)

module _ (file : Option (List ℕ)) (pieces : List Piece) (few_sources : length (sources_in pieces) ≤ 4294967295)
    (few_names : length (names_in pieces) ≤ 4294967295) where
  abbrev whole : Piece
  whole = ((0, 0), merged file pieces)

  source-back : (o : Option (List ℕ)) → IsListedIfAny (sources_in pieces) o
      → source_of (merged file pieces) (number_in (sources_in pieces) o) ≡ o
  source-back o h = ap (λ texts. slice_get texts (number_in (sources_in pieces) o))
      (map-resolved_against_nothing [] (sources_in pieces) refl)
      ∙ slice_get-number_in (sources_in pieces) o few_sources h

  word-back : (w : Worded) → HasIds pieces w
      → worded ((0, 0), merged file pieces) (numbered (sources_in pieces) (names_in pieces) w) ≡ w
  word-back w h = λ i. record {
    token = record w.token {
      dst_line = (position-none (place w) i).0;
      dst_col = (position-none (place w) i).1;
      src_id = sym h.source_id i;
      name_id = sym h.name_id i;
    };
    source = source-back w.source h.source i;
    name = slice_get-number_in (names_in pieces) w.name few_names h.name i;
  }

  words-back : (ws : List Worded) → AllByRecursion (HasIds pieces) ws
      → map (worded ((0, 0), merged file pieces)) (map (numbered (sources_in pieces) (names_in pieces)) ws) ≡ ws
  words-back [] all = refl
  words-back (w ∷ ws) all = λ i. word-back w all.0 i ∷ words-back ws all.1 i

  words-merged : words_of ((0, 0), merged file pieces) ≡ by_place (all_worded pieces)
  words-merged = ap (map (worded ((0, 0), merged file pieces))) (tokens-sorted pieces)
      ∙ words-back (by_place (all_worded pieces))
      (All-sorted_by place position_cmp_total (HasIds pieces) (all_worded pieces) (have-ids pieces))

  source-in : (piece : Piece) (t : RawToken) → IsIn piece pieces
      → source_of (merged file pieces) (token_in pieces piece t).src_id ≡ source_of piece.1 t.src_id
  source-in piece t among = source-back (source_of piece.1 t.src_id)
      (ids-of pieces piece t (All-in (IsAmong pieces) piece pieces (all_among pieces) among)).source

  -- an ignored token of a piece is ignored in the concatenation, and its source is the same
  ignored-in : (o : Option (List ℕ)) → IsIn o (ignored_sources (merged file pieces)) → IsIn o (all_ignored pieces)
  ignored-in o h =
      let used = in-unmapped (λ (t : RawToken). source_of (merged file pieces) t.src_id) o
      (filter (is_ignored (merged file pieces)) (merged file pieces).tokens) h in
      let kept = in-filtered (is_ignored (merged file pieces)) used.0 (merged file pieces).tokens used.1 in
      let of = in-flat_mapped (ignored_in pieces) used.0.src_id pieces
      (in-risen used.0.src_id (flat_map (ignored_in pieces) pieces)
      (in-any used.0.src_id (rising (flat_map (ignored_in pieces) pieces)) kept.0)) in
      from_piece used.0.src_id of.0 of.1 used.2 of.2
    where
      from_token : (id : ℕ) (piece : Piece) (t : RawToken) → IsIn piece pieces
          → IsIn t (filter (is_ignored piece.1) piece.1.tokens) → (token_in pieces piece t).src_id ≡ id
          → source_of (merged file pieces) id ≡ o → IsIn o (all_ignored pieces)
      from_token id piece t among listed same says =
          let source : source_of piece.1 t.src_id ≡ o =
          sym (source-in piece t among) ∙ ap (source_of (merged file pieces)) same ∙ says in
          in-flat_map (λ (p : Piece). ignored_sources p.1) o piece pieces among
          (subst (λ o. IsIn o (ignored_sources piece.1)) source
          (in-map (λ (t : RawToken). source_of piece.1 t.src_id) t (filter (is_ignored piece.1) piece.1.tokens) listed))

      from_piece : (id : ℕ) (piece : Piece) → IsIn piece pieces → source_of (merged file pieces) id ≡ o
          → IsIn id (ignored_in pieces piece) → IsIn o (all_ignored pieces)
      from_piece id piece among says listed =
          let found = in-unmapped (λ (t : RawToken). (token_in pieces piece t).src_id) id
          (filter (is_ignored piece.1) piece.1.tokens) listed in
          from_token id piece found.0 among found.1 found.2 says

  ignored-out : (o : Option (List ℕ)) → IsIn o (all_ignored pieces) → IsIn o (ignored_sources (merged file pieces))
  ignored-out o h =
      let of = in-flat_mapped (λ (p : Piece). ignored_sources p.1) o pieces h in
      let found = in-unmapped (λ (t : RawToken). source_of of.0.1 t.src_id) o
      (filter (is_ignored of.0.1) of.0.1.tokens) of.2 in
      to_token of.0 found.0 of.1 found.1 found.2
    where
      to_token : (piece : Piece) (t : RawToken) → IsIn piece pieces
          → IsIn t (filter (is_ignored piece.1) piece.1.tokens) → source_of piece.1 t.src_id ≡ o
          → IsIn o (ignored_sources (merged file pieces))
      to_token piece t among listed source =
          let own = in-filtered (is_ignored piece.1) t piece.1.tokens listed in
          let there : IsIn (token_in pieces piece t) (merged file pieces).tokens =
          in-sorted_by destination position_cmp (token_in pieces piece t) (all_moved_tokens pieces)
          (in-flat_map (λ (p : Piece). map (token_in pieces p) p.1.tokens) (token_in pieces piece t) piece pieces among
          (in-map (token_in pieces piece) t piece.1.tokens own.1)) in
          let id : IsIn (token_in pieces piece t).src_id (rising (flat_map (ignored_in pieces) pieces)) =
          in-rising (token_in pieces piece t).src_id (flat_map (ignored_in pieces) pieces)
          (in-flat_map (ignored_in pieces) (token_in pieces piece t).src_id piece pieces among
          (in-map (λ (t : RawToken). (token_in pieces piece t).src_id) t (filter (is_ignored piece.1) piece.1.tokens)
          listed)) in
          let says : source_of (merged file pieces) (token_in pieces piece t).src_id ≡ o =
          source-in piece t among ∙ source in
          subst (λ o. IsIn o (ignored_sources (merged file pieces))) says
          (in-map (λ (t : RawToken). source_of (merged file pieces) t.src_id) (token_in pieces piece t)
          (filter (is_ignored (merged file pieces)) (merged file pieces).tokens)
          (in-filter (is_ignored (merged file pieces)) (token_in pieces piece t) (merged file pieces).tokens
          (any-in (token_in pieces piece t).src_id (rising (flat_map (ignored_in pieces) pieces)) id) there))

  pub alike-merged : AreAlike (((0, 0), merged file pieces) ∷ []) pieces
  alike-merged = record {
    sources = λ kept. ap (fold with_text kept) (append-nil (resolved_sources (merged file pieces))
        ∙ map-resolved_against_nothing [] (sources_in pieces) refl) ∙ kept-twice kept [] (all_sources pieces);
    names = λ kept. ap (fold with_text kept) (append-nil (names_in pieces)) ∙ kept-twice kept [] (all_names pieces);
    contents = λ text. ap (last_contents text) (append-nil (source_entries (merged file pieces))
        ∙ sym (sources-merged file pieces)) ∙ contents-kept-once text (all_source_entries pieces);
    tokens = ap by_place (append-nil (words_of ((0, 0), merged file pieces)) ∙ words-merged)
        ∙ sorted_by-stable place position_cmp_total (all_worded pieces) (by_place (all_worded pieces))
        (stable-sorted_by place position_cmp_total (all_worded pieces));
    ignored = λ o h. ignored-in o (subst (IsIn o) (append-nil (ignored_sources (merged file pieces))) h);
    ignored_back = λ o h. in-left o (ignored_sources (merged file pieces)) [] (ignored-out o h);
  }

-- Alike pieces have the same concatenation.

module _ (ps qs : List Piece) (alike : AreAlike ps qs) where
  pub sources-alike : sources_in ps ≡ sources_in qs
  sources-alike = alike.sources []

  pub names-alike : names_in ps ≡ names_in qs
  names-alike = alike.names []

  tokens-alike : in_order (all_moved_tokens ps) ≡ in_order (all_moved_tokens qs)
  tokens-alike = tokens-sorted ps
      ∙ (λ i. map (numbered (sources-alike i) (names-alike i)) (alike.tokens i))
      ∙ sym (tokens-sorted qs)

  entries-alike : entries_kept (all_source_entries ps) ≡ entries_kept (all_source_entries qs)
  entries-alike =
      map-each {Y = TextEntry} (λ text. (text, contents_entered (all_source_entries ps) text))
      (λ text. (text, contents_entered (all_source_entries qs) text))
      (λ text i. (
        text,
        (contents-last text (all_source_entries ps) ∙ alike.contents text
            ∙ sym (contents-last text (all_source_entries qs))) i,
      )) (texts_entered (all_source_entries ps))
      ∙ ap (map {B = TextEntry} (λ text. (text, contents_entered (all_source_entries qs) text)))
      (texts_of_sources ps ∙ sources-alike ∙ sym (texts_of_sources qs))

ids-alike : (ps qs : List Piece) → sources_in ps ≡ sources_in qs
    → ((o : Option (List ℕ)) → IsIn o (all_ignored ps) → IsIn o (all_ignored qs)) → (n : ℕ)
    → IsIn n (flat_map (ignored_in ps) ps) → IsIn n (flat_map (ignored_in qs) qs)
ids-alike ps qs same to n h =
    let of = in-unmapped (number_in (sources_in ps)) n (all_ignored ps) (subst (IsIn n) (ids-ignored ps ps) h) in
    subst (IsIn n) (sym (ids-ignored qs qs))
    (subst (λ k. IsIn k (map (number_in (sources_in qs)) (all_ignored qs)))
    (ap (λ texts. number_in texts of.0) (sym same) ∙ of.2)
    (in-map (number_in (sources_in qs)) of.0 (all_ignored qs) (to of.0 of.1)))

-- the concatenation of `qs` is the concatenation of `ps`
pub flat-alike : (ps qs : List Piece) (flat : FlatMap) → AreAlike ps qs → IsFlat qs flat → IsFlat ps flat
flat-alike ps qs flat alike is = record {
  few = is.few;
  tokens = is.tokens ∙ sym (tokens-alike ps qs alike);
  ignored = is.ignored ∙ same-rising (flat_map (ignored_in qs) qs) (flat_map (ignored_in ps) ps)
      (ids-alike qs ps (sym (sources-alike ps qs alike)) alike.ignored_back)
      (ids-alike ps qs (sources-alike ps qs alike) alike.ignored);
  sources = is.sources ∙ sym (entries-alike ps qs alike);
  names = is.names ∙ names-merged None qs
      ∙ ap (map (λ (name : List ℕ). (name, None))) (sym (names-alike ps qs alike)) ∙ sym (names-merged None ps);
}

-- Tokens within the end, and texts that have ids.

-- each token stays within the last line and the last column
abbrev pub AreWithin : List Piece → Type 0
AreWithin pieces = AllByRecursion (λ w. passes_the_end (place w) ≡ false) (all_worded pieces)

pub within-unmoved : (offset : ℕ × ℕ) (ps : List Piece) → AreWithin (map (moved_piece offset) ps) → AreWithin ps
within-unmoved offset ps within =
    All-weaker (λ w. passes_the_end (place (moved_words offset w)) ≡ false) (λ w. passes_the_end (place w) ≡ false)
    (λ w. passes-moved offset (place w)) (all_worded ps)
    (All-unmapped (λ w. passes_the_end (place w) ≡ false) (moved_words offset) (all_worded ps)
    (subst (AllByRecursion (λ w. passes_the_end (place w) ≡ false)) (words-moved offset ps) within))

pub within-alike : (ps qs : List Piece) → AreAlike ps qs → AreWithin qs → AreWithin ps
within-alike ps qs alike within =
    All-from_in (λ w. passes_the_end (place w) ≡ false) (all_worded ps)
    (λ w h. All-in (λ w. passes_the_end (place w) ≡ false) w (all_worded qs) within
    (in-unsorted place position_cmp w (all_worded qs)
    (subst (IsIn w) alike.tokens (in-sorted_by place position_cmp w (all_worded ps) h))))

-- of `xs`, `ys` and `zs`, one after another, the texts of `ys` alone are no more
middle-few : (f : Piece → List (List ℕ)) (xs ys zs : List Piece)
    → length (fold with_text [] (flat_map f ys)) ≤ length (fold with_text [] (flat_map f (xs ++ (ys ++ zs))))
middle-few f xs ys zs =
    let less = few-after (fold with_text [] (flat_map f xs)) (flat_map f ys) in
    let more = length-fold (fold with_text (fold with_text [] (flat_map f xs)) (flat_map f ys)) (flat_map f zs) in
    let all : length (fold with_text [] (flat_map f (xs ++ (ys ++ zs))))
    ≡ length (fold with_text (fold with_text (fold with_text [] (flat_map f xs)) (flat_map f ys)) (flat_map f zs)) =
    ap length (joined f [] xs (ys ++ zs) ∙ joined f (fold with_text [] (flat_map f xs)) ys zs) in
    omega (arith, less, more, all)

pub few-middle : (xs ys zs : List Piece) → AreFew (xs ++ (ys ++ zs)) → AreFew ys
few-middle xs ys zs few = (
  (let less = middle-few (λ (p : Piece). resolved_sources p.1) xs ys zs in
      let most = few.0 in
      omega (arith, less, most)),
  (let less = middle-few (λ (p : Piece). p.1.names) xs ys zs in
      let most = few.1 in
      omega (arith, less, most)),
)

pub few-alike : (ps qs : List Piece) → AreAlike ps qs → AreFew qs → AreFew ps
few-alike ps qs alike few = (
  subst (λ texts. length texts ≤ 4294967295) (sym (sources-alike ps qs alike)) few.0,
  subst (λ texts. length texts ≤ 4294967295) (sym (names-alike ps qs alike)) few.1,
)

pub few-unmoved : (offset : ℕ × ℕ) (ps : List Piece) → AreFew (map (moved_piece offset) ps) → AreFew ps
few-unmoved offset ps few = (
  subst (λ texts. length (fold with_text [] texts) ≤ 4294967295) (same-moved resolved_sources offset ps) few.0,
  subst (λ texts. length (fold with_text [] texts) ≤ 4294967295) (same-moved (λ m. m.names) offset ps) few.1,
)

pub few-gathered : (pieces : List Piece) (g : Gathering) → Gathers pieces g → AreFew pieces
few-gathered pieces g is = (
  subst (λ texts. length texts ≤ 4294967295) (texts_of_sources pieces) is.sources.few,
  subst (λ texts. length texts ≤ 4294967295) (texts_of_names pieces) is.names.few,
)
