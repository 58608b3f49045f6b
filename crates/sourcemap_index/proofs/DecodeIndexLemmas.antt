-- Sections are decoded one by one.
use Rattle.std.proofs.Common.{◌≡◌, refl, sym, ap, subst, ◌∙◌, ℕ, ◌+◌, ◌≤◌, arith, List, [], ◌∷◌, ◌++◌, map, length, Option, Some, None, is_some, Bool, true, false, nat_lt, Result, Ok, Err, IfOk, option_map, ◌<◌, Vec, Global, inl, inr}
use Rattle.std.proofs.lemmas.Bool.Decides.{nat_tests}
use Rattle.std.specs.Bool.{MatchBool}
use Rattle.std.proofs.lemmas.List.{append_assoc}
use Rattle.sourcemap_errors.specs.declared.errors.Error.{Error}
use Rattle.sourcemap_errors.specs.declared.errors.Error.TheVariants.{IncompatibleSourceMap}
use Rattle.sourcemap_errors.specs.Answer.{UnlessMemory, Gives, IsAnswer}
use Rattle.sourcemap_errors.proofs.AnswerLemmas.{UnlessMemory-weaker}
use Rattle.sourcemap_records.specs.Jsontypes.{Fields, Tree, plain, indexed, flat, Section, Sections, no_more, bare, mapped, section_with, section, sections_from, tree, tree_with, fields_view}
use Rattle.sourcemap_records.specs.declared.jsontypes.RawSection.{RawSection}
use Rattle.sourcemap_records.specs.declared.jsontypes.RawSourceMap.{RawSourceMap, out-RawSourceMap, roll-RawSourceMap}
use Rattle.sourcemap_records.proofs.JsontypesLemmas.{flat-roll, flat-tree, tree-out}
use Rattle.sourcemap_map_regular.specs.Decode.{RecordDecodes}
use Rattle.sourcemap_map_regular.specs.Map.{MapValue}
use Rattle.sourcemap_hermes_scopes.specs.ScopeLists.{ScopeEntry}
use Rattle.sourcemap_hermes.specs.Decode.{DecodesWith, HermesDecodes}
use Rattle.sourcemap_hermes.specs.Map.{HermesValue}
use Rattle.sourcemap_index_model.specs.MapTree.{regular, hermes, MapTree, leaf, MapSection, IndexValue, index_tree, section_list, sections_from as maps_from}
use Rattle.sourcemap_index_model.specs.Decode.{Then, LeafDecodes, TreeDecodes, SectionsDecode, count, by_offset, index_parts}
use Rattle.sourcemap_index_model.specs.WellFormed.{IsWellFormed}
use Rattle.sourcemap_index_model.proofs.DecodeLemmas.{tree_decodes_once}
use Rattle.sourcemap_index_model.proofs.MapTreeLemmas.{section_list-from}
use Rattle.sourcemap_index_model.proofs.WellFormedLemmas.{decoded_well}
use Rattle.sourcemap_index.specs.Family.{index_value, map_tree}
use Rattle.sourcemap_index.specs.declared.family.DecodedMap.{DecodedMap}
use Rattle.sourcemap_index.specs.declared.family.SourceMapIndex.{SourceMapIndex}
use Rattle.sourcemap_index.specs.Decode.{SectionDecodes, PartsDecode, IndexDecodes, index_in, index_with}

-- ---- the size of a record: the number of its sections plus the number of its section lists, at all levels

abbrev mutual
  pub sections_below : Tree → ℕ
  sections_below (plain fields) = 0
  sections_below (indexed fields ss) = 1 + sections_among ss

  pub sections_among : Sections → ℕ
  sections_among no_more = 0
  sections_among (bare head rest) = 1 + sections_among rest
  sections_among (mapped head t rest) = 1 + sections_below t + sections_among rest

abbrev pub sections_at : Option Tree → ℕ
sections_at None = 0
sections_at (Some t) = sections_below t

pub among_with : (s : Section) (rest : Sections)
    → sections_among (section_with s.head s.map rest) ≡ 1 + sections_at s.map + sections_among rest
among_with s rest = by_case s.map
  where
    by_case : (m : Option Tree) → sections_among (section_with s.head m rest) ≡ 1 + sections_at m + sections_among rest
    by_case None = refl
    by_case (Some t) = refl

pub count-from : (ss : List Section) → count (sections_from ss) ≡ length ss
count-from [] = refl
count-from (s ∷ ss) = let rest = count-from ss in by_case s.map ∙ omega (arith, rest)
  where
    by_case : (m : Option Tree) → count (section_with s.head m (sections_from ss)) ≡ 1 + count (sections_from ss)
    by_case None = refl
    by_case (Some t) = refl

-- ---- answers

-- the list `done` followed by the list in an `Ok` result. An error is unchanged
abbrev pub prepend : List MapSection → Result (List MapSection) Error → Result (List MapSection) Error
prepend done (Ok ss) = Ok (done ++ ss)
prepend done (Err e) = Err e

-- let the section `s` decode to `v`, and let decoding the sections `rest` give `a`. If `a` is a list, decoding the list
-- of `s` and `rest` gives `a` with `v` at the front. If `a` is an error, decoding the list of `s` and `rest` gives this
-- error
pub section_prepended : (s : Section) (rest : Sections) (v : MapSection) (a : Result (List MapSection) Error)
    → SectionDecodes s (Ok v) → SectionsDecode rest a
    → SectionsDecode (section_with s.head s.map rest) (prepend (v ∷ []) a)
section_prepended s rest v a = by_case s.map a
  where
    by_case : (m : Option Tree) (a : Result (List MapSection) Error)
        → SectionDecodes (record { head = s.head; map = m }) (Ok v) → SectionsDecode rest a
        → SectionsDecode (section_with s.head m rest) (prepend (v ∷ []) a)
    by_case None (Ok ss) h k =
        inl (ss, k, (let same : v ≡ record { head = s.head; map = None } = cc in ap (λ v. Ok (v ∷ ss)) same))
    by_case None (Err e) h k = inr k
    by_case (Some t) (Ok ss) (inl (m, f, n)) k =
        inl (
          m,
          f,
          inl (ss, k, (let same : v ≡ record { head = s.head; map = Some m } = cc in ap (λ v. Ok (v ∷ ss)) same)),
        )
    by_case (Some t) (Err e) (inl (m, f, n)) k = inl (m, f, inr k)
    by_case (Some t) a (inr h) k = absurd h

-- if decoding `s` gives the error `e`, then decoding the list of `s` and `rest` gives `e`
pub one_refused : (s : Section) (rest : Sections) (e : Error) → SectionDecodes s (Err e)
    → SectionsDecode (section_with s.head s.map rest) (Err e)
one_refused s rest e = by_case s.map
  where
    by_case : (m : Option Tree) → SectionDecodes (record { head = s.head; map = m }) (Err e)
        → SectionsDecode (section_with s.head m rest) (Err e)
    by_case None h = cc
    by_case (Some t) (inl (m, f, n)) = cc
    by_case (Some t) (inr h) = inr h

pub prepend-more : (done : List MapSection) (v : MapSection) (a : Result (List MapSection) Error)
    → prepend done (prepend (v ∷ []) a) ≡ prepend (done ++ v ∷ []) a
prepend-more done v (Ok ss) = ap Ok (sym (append_assoc done (v ∷ []) ss))
prepend-more done v (Err e) = refl

-- ---- the kinds

-- a record without sections is decoded to a Hermes map if it has scopes of its sources, otherwise to a regular map
module _ (fields : Fields) where
  hermes_made : (scopes : Option (List ScopeEntry)) (h : HermesValue) → DecodesWith fields scopes (Ok h)
      → LeafDecodes fields scopes (Ok (leaf (hermes h)))
  hermes_made None h k = absurd cc
  hermes_made (Some entries) h k = inl (h, k, refl)

  hermes_error : (scopes : Option (List ScopeEntry)) (e : Error) → is_some scopes ≡ true
      → DecodesWith fields scopes (Err e) → LeafDecodes fields scopes (Err e)
  hermes_error None e there k = cc
  hermes_error (Some entries) e there k = inr k

  regular_made : (scopes : Option (List ScopeEntry)) (m : MapValue) → is_some scopes ≡ false
      → RecordDecodes fields (Ok m) → LeafDecodes fields scopes (Ok (leaf (regular m)))
  regular_made None m there h = inl (m, h, refl)
  regular_made (Some entries) m there h = cc

  regular_error : (scopes : Option (List ScopeEntry)) (e : Error) → is_some scopes ≡ false
      → RecordDecodes fields (Err e) → LeafDecodes fields scopes (Err e)
  regular_error None e there h = inr h
  regular_error (Some entries) e there h = cc

  pub hermes_refused : (e : Error) → is_some fields.x_facebook_sources ≡ true
      → UnlessMemory e (HermesDecodes fields (Err e))
      → UnlessMemory e (LeafDecodes fields fields.x_facebook_sources (Err e))
  hermes_refused e there h = UnlessMemory-weaker e (hermes_error fields.x_facebook_sources e there) h

  pub regular_refused : (e : Error) → is_some fields.x_facebook_sources ≡ false
      → UnlessMemory e (RecordDecodes fields (Err e))
      → UnlessMemory e (LeafDecodes fields fields.x_facebook_sources (Err e))
  regular_refused e none h = UnlessMemory-weaker e (regular_error fields.x_facebook_sources e none) h

is_some-map : {X Y : Type 0} (f : X → Y) (o : Option X) → is_some (option_map f o) ≡ is_some o
is_some-map f None = refl
is_some-map f (Some x) = refl

-- the tree of a record has scopes exactly if the record has scopes
pub scopes_there : (r : RawSourceMap)
    → is_some (flat (tree r)).x_facebook_sources ≡ is_some (out-RawSourceMap r).x_facebook_sources
scopes_there r = ap (λ (fields : Fields). is_some fields.x_facebook_sources) (flat-tree r)
    ∙ is_some-map _ (out-RawSourceMap r).x_facebook_sources

pub index_decodes : (fields : Fields) (ss : Sections) (v : IndexValue) → PartsDecode fields ss (Ok v)
    → TreeDecodes (indexed fields ss) (Ok (index_tree v))
index_decodes fields ss v = by_case (nat_lt 4294967295 (count ss))
  where
    by_case : (b : Bool) → MatchBool b (◌≡◌ {A = Result IndexValue Error} (Ok v) (Err IncompatibleSourceMap))
        (Then (λ a. SectionsDecode ss a) (λ ss a. a ≡ Ok (index_in fields ss)) (Ok v))
        → MatchBool b (◌≡◌ {A = Result MapTree Error} (Ok (index_tree v)) (Err IncompatibleSourceMap))
        (Then (λ a. SectionsDecode ss a) (λ ss a. a ≡ Ok (index_tree (index_in fields ss))) (Ok (index_tree v)))
    by_case true h = cc
    by_case false (inl (xs, f, n)) =
        inl (xs, f, (let same : v ≡ index_in fields xs = cc in ap (λ v. Ok (index_tree v)) same))
    by_case false (inr h) = absurd h

index_error : (fields : Fields) (ss : Sections) (e : Error) → PartsDecode fields ss (Err e)
    → TreeDecodes (indexed fields ss) (Err e)
index_error fields ss e h = by_case (nat_lt 4294967295 (count ss)) h
  where
    by_case : (b : Bool) → MatchBool b (◌≡◌ {A = Result IndexValue Error} (Err e) (Err IncompatibleSourceMap))
        (Then (λ a. SectionsDecode ss a) (λ ss a. a ≡ Ok (index_in fields ss)) (Err e))
        → MatchBool b (◌≡◌ {A = Result MapTree Error} (Err e) (Err IncompatibleSourceMap))
        (Then (λ a. SectionsDecode ss a) (λ ss a. a ≡ Ok (index_tree (index_in fields ss))) (Err e))
    by_case true h = let same : e ≡ IncompatibleSourceMap = cc in ap Err same
    by_case false (inl (xs, f, n)) = cc
    by_case false (inr h) = inr h

pub index_refused : (fields : Fields) (ss : Sections) (e : Error) → UnlessMemory e (PartsDecode fields ss (Err e))
    → UnlessMemory e (TreeDecodes (indexed fields ss) (Err e))
index_refused fields ss e h = UnlessMemory-weaker e (index_error fields ss e) h

-- ---- out of memory

never_refused : {X Y : Type 0} (x : X) (y : Y) (e : Error) → ◌≡◌ {A = Result X Error} (Ok x) (Err e)
    → ◌≡◌ {A = Result Y Error} (Ok y) (Err e)
never_refused x y e h = cc

-- `Ok x` is no error, so the premise holds only if `e` is `OutOfMemory`. Then the conclusion holds too
pub still_due : {X Y : Type 0} (x : X) (y : Y) (e : Error) → UnlessMemory e (◌≡◌ {A = Result X Error} (Ok x) (Err e))
    → UnlessMemory e (◌≡◌ {A = Result Y Error} (Ok y) (Err e))
still_due x y e h = UnlessMemory-weaker e (never_refused x y e) h

-- ---- the steps of the decoder

short : (ss : List Section) → length ss ≤ 4294967295 → nat_lt 4294967295 (count (sections_from ss)) ≡ false
short ss few = rw (count-from ss) (grind (arith, nat_tests))

long : (ss : List Section) → 4294967295 < length ss → nat_lt 4294967295 (count (sections_from ss)) ≡ true
long ss many = rw (count-from ss) (grind (arith, nat_tests))

pub too_many : (fields : Fields) (ss : List Section) → 4294967295 < length ss
    → PartsDecode fields (sections_from ss) (Err IncompatibleSourceMap)
too_many fields ss many =
    subst (λ b. MatchBool b (◌≡◌ {A = Result IndexValue Error} (Err IncompatibleSourceMap) (Err IncompatibleSourceMap))
    (Then (λ a. SectionsDecode (sections_from ss) a) (λ ss a. a ≡ Ok (index_in fields ss))
    (Err IncompatibleSourceMap)))
    (sym (long ss many)) refl

pub parts_refused : (fields : Fields) (ss : List Section) (e : Error) → length ss ≤ 4294967295
    → UnlessMemory e (SectionsDecode (sections_from ss) (Err e))
    → UnlessMemory e (PartsDecode fields (sections_from ss) (Err e))
parts_refused fields ss e few h = UnlessMemory-weaker e (λ h.
    subst (λ b. MatchBool b (◌≡◌ {A = Result IndexValue Error} (Err e) (Err IncompatibleSourceMap))
    (Then (λ a. SectionsDecode (sections_from ss) a) (λ ss a. a ≡ Ok (index_in fields ss)) (Err e)))
    (sym (short ss few)) (inr h)) h

parts_made : (fields : Fields) (ss : List Section) (decoded : List MapSection) (v : IndexValue) → length ss ≤ 4294967295
    → SectionsDecode (sections_from ss) (Ok decoded)
    → v ≡ index_in fields decoded → PartsDecode fields (sections_from ss) (Ok v)
parts_made fields ss decoded v few h is =
    subst (λ b. MatchBool b (◌≡◌ {A = Result IndexValue Error} (Ok v) (Err IncompatibleSourceMap))
    (Then (λ a. SectionsDecode (sections_from ss) a) (λ ss a. a ≡ Ok (index_in fields ss)) (Ok v)))
    (sym (short ss few)) (inl (decoded, h, ap Ok is))

pub parts_decoded : (fields : Fields) (ss : List Section) (decoded sorted : List MapSection)
    (r : Result SourceMapIndex Error) → length ss ≤ 4294967295
    → SectionsDecode (sections_from ss) (Ok decoded) → sorted ≡ by_offset decoded
    → Gives index_value r (Ok (index_with (index_parts fields) sorted))
    → IsAnswer index_value (PartsDecode fields (sections_from ss)) r
parts_decoded fields ss decoded sorted (Ok i) few h up made =
    let same : index_with (index_parts fields) sorted ≡ index_value i = cc in
    parts_made fields ss decoded (index_value i) few h (sym same ∙ ap (index_with (index_parts fields)) up)
parts_decoded fields ss decoded sorted (Err e) few h up made =
    UnlessMemory-weaker e
    (λ (h : ◌≡◌ {A = Result IndexValue Error} (Ok (index_with (index_parts fields) sorted)) (Err e)). cc) made

-- let the record `r` have no sections. Then `TreeDecodes` allows each result for `r` that `LeafDecodes` allows. In the
-- premise on `LeafDecodes`, the field `sections` may have any value `left`, because `LeafDecodes` ignores this field
plain_tree : (r : RawSourceMap) → (out-RawSourceMap r).sections ≡ None
    → tree r ≡ plain (fields_view (out-RawSourceMap r))
plain_tree r none = tree-out r ∙ ap
    (λ v. tree_with (fields_view (out-RawSourceMap r)) (option_map (λ v. sections_from (map section v.items)) v)) none

pub plain_answer : (r : RawSourceMap) (left : Option (Vec RawSection Global)) (result : Result DecodedMap Error)
    → (out-RawSourceMap r).sections ≡ None
    → (let fields : Fields = flat (tree (roll-RawSourceMap (record (out-RawSourceMap r) { sections = left }))) in
    IsAnswer map_tree (LeafDecodes fields fields.x_facebook_sources) result)
    → IsAnswer map_tree (TreeDecodes (tree r)) result
plain_answer r left result none h =
    subst (λ t. IsAnswer map_tree (TreeDecodes t) result) (sym (plain_tree r none))
    (whole result (subst (λ (fields : Fields). IsAnswer map_tree (LeafDecodes fields fields.x_facebook_sources) result)
    (flat-roll (record (out-RawSourceMap r) { sections = left })) h))
  where
    whole : (result : Result DecodedMap Error)
        → (let fields : Fields = fields_view (out-RawSourceMap r) in
        IsAnswer map_tree (LeafDecodes fields fields.x_facebook_sources) result)
        → IsAnswer map_tree (TreeDecodes (plain (fields_view (out-RawSourceMap r)))) result
    whole (Ok m) h = h
    whole (Err e) h = h

-- what is decoded is well-formed
pub well_formed_answer : (t : Tree) (r : Result DecodedMap Error) → IsAnswer map_tree (TreeDecodes t) r
    → IfOk r (λ m. IsWellFormed (map_tree m))
well_formed_answer t (Ok m) h = decoded_well t (map_tree m) h
well_formed_answer t (Err e) h = tt

-- ---- records that are decoded only as index maps

pub index_well_formed : (t : Tree) (r : Result SourceMapIndex Error) → IsAnswer index_value (IndexDecodes t) r
    → IfOk r (λ i. IsWellFormed (index_tree (index_value i)))
index_well_formed (plain fields) (Ok i) h = cc
index_well_formed (indexed fields ss) (Ok i) h =
    decoded_well (indexed fields ss) (index_tree (index_value i)) (index_decodes fields ss (index_value i) h)
index_well_formed t (Err e) h = tt

same_sections : (a b : IndexValue) → index_tree a ≡ index_tree b → a.sections ≡ b.sections
same_sections a b same =
    let trees : maps_from a.sections ≡ maps_from b.sections = cc in
    sym (section_list-from a.sections) ∙ ap section_list trees ∙ section_list-from b.sections

same_index : (a b : IndexValue) → index_tree a ≡ index_tree b → a ≡ b
same_index a b same =
    let parts : a.parts ≡ b.parts = cc in
    ap (λ p. index_with p a.sections) parts ∙ ap (index_with b.parts) (same_sections a b same)

-- a record has at most one result, an index or an error
pub index_decodes_once : (t : Tree) (a b : Result IndexValue Error) → IndexDecodes t a → IndexDecodes t b → a ≡ b
index_decodes_once (plain fields) a b h k = h ∙ sym k
index_decodes_once (indexed fields ss) (Ok v) (Ok w) h k =
    let trees = tree_decodes_once (indexed fields ss) _ _ (index_decodes fields ss v h) (index_decodes fields ss w k) in
    let same : index_tree v ≡ index_tree w = cc in
    ap Ok (same_index v w same)
index_decodes_once (indexed fields ss) (Ok v) (Err f) h k = let trees =
    tree_decodes_once (indexed fields ss) _ _ (index_decodes fields ss v h) (index_error fields ss f k) in cc
index_decodes_once (indexed fields ss) (Err e) (Ok w) h k = let trees =
    tree_decodes_once (indexed fields ss) _ _ (index_error fields ss e h) (index_decodes fields ss w k) in cc
index_decodes_once (indexed fields ss) (Err e) (Err f) h k =
    let trees = tree_decodes_once (indexed fields ss) _ _ (index_error fields ss e h) (index_error fields ss f k) in
    let same : e ≡ f = cc in
    ap Err same
