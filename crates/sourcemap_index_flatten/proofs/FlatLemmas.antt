-- A `Part` or a regular map that is made from the lists of a `FlatMap` represents the concatenation of the pieces. A
-- `Part` that is made from the lists of a map represents that map.
use Rattle.std.proofs.Common.{◌≡◌, refl, sym, ap, subst, ◌∙◌, Bool, true, false, ℕ, suc, ◌+◌, List, [], ◌∷◌, ◌++◌, map, Some, None, Option, option_map, option_and_then, slice_get, string_bytes, arith, ◌&&◌, zero-add, Result, Ok, is_some, cond}
use Rattle.std.specs.List.{AllByRecursion, enumerate_from}
use Rattle.std.specs.Option.{option_or}
use Rattle.std.specs.Str.{bytes_eq}
use Rattle.std.proofs.lemmas.List.Concat.{flat_map-cons}
use Rattle.std.proofs.lemmas.Option.{slice_get-map}
use Rattle.sourcemap_tokens.specs.Search.{find_last}
use Rattle.sourcemap_tokens.specs.Items.{item_at}
use Rattle.sourcemap_map_parts.specs.MapMetadata.{MetadataValue}
use Rattle.sourcemap_map_parts.specs.Sources.{SourcesValue, resolved}
use Rattle.sourcemap_map_regular.specs.Map.{MapValue}
use Rattle.sourcemap_map_regular.specs.MapStored.{map_over}
use Rattle.sourcemap_map_regular.specs.Lists.{AreListsOf}
use Rattle.sourcemap_map_regular.specs.declared.lists.MapLists.{MapLists}
use Rattle.sourcemap_index_model.specs.Flat.{Piece, sources_in, names_in, contents_in, source_entries, merged}
use Rattle.sourcemap_index_flatten.specs.Table.{TextEntry, entry_values, texts_entered, contents_entered, entries_kept}
use Rattle.sourcemap_index_flatten.specs.Entries.{entries_with}
use Rattle.sourcemap_index_flatten.specs.Gathering.{name_entries, all_source_entries, all_name_entries, IsFlat, IsPartOf}
use Rattle.sourcemap_index_flatten.specs.declared.gathering.Part.{Part}
use Rattle.sourcemap_index_flatten.specs.declared.gathering.FlatMap.{FlatMap}
use Rattle.sourcemap_index_flatten.proofs.GatheringLemmas.{map-each, texts_of_sources, texts_of_names}

-- Entries of a concatenation.

resolved-alone : (texts : List (List ℕ)) → map (resolved None) texts ≡ texts
resolved-alone [] = refl
resolved-alone (t ∷ ts) = ap (λ rest. t ∷ rest) (resolved-alone ts)

beside-given : (f : List ℕ → Option (List ℕ)) (g : ℕ → Option (List ℕ)) (n : ℕ) (texts : List (List ℕ))
    → ((k : ℕ) (text : List ℕ) → slice_get texts k ≡ Some text → g (n + k) ≡ f text)
    → map {B = TextEntry} (λ (s : ℕ × List ℕ). (s.1, g s.0)) (enumerate_from n texts)
    ≡ map {B = TextEntry} (λ text. (text, f text)) texts
beside-given f g n [] same = refl
beside-given f g n (t ∷ ts) same =
    let first : n + 0 ≡ n = omega arith in
    let here : g n ≡ f t = ap g (sym first) ∙ same 0 t refl in
    let it : ◌≡◌ {A = TextEntry} (t, g n) (t, f t) = λ i. (t, here i) in
    λ i. it i ∷ beside-given f g (n + 1) ts
    (λ k text at. ap g (let next : n + 1 + k ≡ n + suc k = omega arith in next) ∙ same (suc k) text at) i

given-back : (f : List ℕ → Option (List ℕ)) (texts : List (List ℕ))
    → entries_with (map f texts) texts ≡ map {B = TextEntry} (λ text. (text, f text)) texts
given-back f texts = beside-given f (item_at (map f texts)) 0 texts
    (λ k text at. ap (item_at (map f texts)) (zero-add k)
    ∙ ap (option_and_then (λ o. o)) (slice_get-map f texts k ∙ ap (option_map f) at))

pub sources-merged : (file : Option (List ℕ)) (pieces : List Piece)
    → entries_kept (all_source_entries pieces) ≡ source_entries (merged file pieces)
sources-merged file pieces =
    ap (map {B = TextEntry} (λ text. (text, contents_in pieces text))) (texts_of_sources pieces)
    ∙ sym (given-back (contents_in pieces) (sources_in pieces))
    ∙ ap (entries_with (map (contents_in pieces) (sources_in pieces))) (sym (resolved-alone (sources_in pieces)))

abbrev HasNone : TextEntry → Type 0
HasNone e = e.1 ≡ None

all-append : {X : Type 0} (P : X → Type 0) (xs ys : List X) → AllByRecursion P xs → AllByRecursion P ys
    → AllByRecursion P (xs ++ ys)
all-append P [] ys p q = q
all-append P (x ∷ xs) ys p q = (p.0, all-append P xs ys p.1 q)

names-have_none : (names : List (List ℕ)) → AllByRecursion HasNone (map (λ (name : List ℕ). (name, None)) names)
names-have_none [] = tt
names-have_none (n ∷ ns) = (refl, names-have_none ns)

all-have_none : (pieces : List Piece) → AllByRecursion HasNone (all_name_entries pieces)
all-have_none [] = tt
all-have_none (p ∷ ps) =
    subst (AllByRecursion HasNone) (sym (flat_map-cons (λ (p : Piece). name_entries p.1) p ps))
    (all-append HasNone (name_entries p.1) (all_name_entries ps) (names-have_none p.1.names) (all-have_none ps))

no-contents : (text : List ℕ) (entered : List TextEntry) → AllByRecursion HasNone entered
    → find_last (λ (e : TextEntry). bytes_eq e.0 text && is_some e.1) entered ≡ None
no-contents text [] all = refl
no-contents text (e ∷ es) all =
    (λ i. option_or (no-contents text es all.1 i) (cond (bytes_eq e.0 text && is_some (all.0 i)) (Some e) None))
    ∙ by_case (bytes_eq e.0 text)
  where
    by_case : (b : Bool) → cond {A = Option TextEntry} (b && false) (Some e) None ≡ None
    by_case true = refl
    by_case false = refl

pub names-merged : (file : Option (List ℕ)) (pieces : List Piece)
    → entries_kept (all_name_entries pieces) ≡ name_entries (merged file pieces)
names-merged file pieces =
    map-each {Y = TextEntry} (λ text. (text, contents_entered (all_name_entries pieces) text)) (λ text. (text, None))
    (λ text. ap {B = TextEntry} (λ (o : Option TextEntry). (text, option_and_then (λ e. e.1) o))
    (no-contents text (all_name_entries pieces) (all-have_none pieces))) (texts_entered (all_name_entries pieces))
    ∙ ap (map (λ (name : List ℕ). (name, None))) (texts_of_names pieces)

-- A `Part` made from the lists of a `FlatMap`, or from the lists of a map.

pub same_Ok : {X E : Type 0} (x y : X) → ◌≡◌ {A = Result X E} (Ok x) (Ok y) → x ≡ y
same_Ok x y e = cc

pub part-of_flat : (file : Option (List ℕ)) (pieces : List Piece) (flat : FlatMap) (part : Part) → IsFlat pieces flat
    → part.tokens.now ≡ flat.tokens → part.ignored.now ≡ flat.ignored → part.sources.now ≡ flat.sources.items
    → part.names.now ≡ flat.names.items
    → IsPartOf (merged file pieces) part
part-of_flat file pieces flat part is tokens ignored sources names = record {
  tokens = tokens ∙ is.tokens;
  ignored = ap (λ set. set.keys) ignored ∙ is.ignored;
  sources = ap entry_values sources ∙ is.sources ∙ sources-merged file pieces;
  names = ap entry_values names ∙ is.names ∙ names-merged file pieces;
}

pub part-of_lists : (m : MapValue) (lists : MapLists) (part : Part) → AreListsOf m lists
    → part.tokens.now ≡ lists.tokens.now → part.ignored.now ≡ lists.ignored.now
    → entry_values part.sources.now ≡ entries_with lists.contents.now (map string_bytes lists.sources.now)
    → entry_values part.names.now ≡ map (λ name. (name, None)) (map string_bytes lists.names.now)
    → IsPartOf m part
part-of_lists m lists part are tokens ignored sources names = record {
  tokens = tokens ∙ are.tokens;
  ignored = ap (λ set. set.keys) ignored ∙ are.ignored;
  sources = sources ∙ (λ i. entries_with (are.contents i) (are.sources i));
  names = names ∙ ap (map (λ (name : List ℕ). (name, None))) are.names;
}

-- The texts of the kept entries, and the contents of the kept entries.

pub texts-kept : (entered : List TextEntry)
    → map (λ (e : TextEntry). e.0) (entries_kept entered) ≡ texts_entered entered
texts-kept entered = back (texts_entered entered)
  where
    back : (texts : List (List ℕ))
        → map (λ (e : TextEntry). e.0) (map (λ text. (text, contents_entered entered text)) texts) ≡ texts
    back [] = refl
    back (t ∷ ts) = ap (λ rest. t ∷ rest) (back ts)

pub contents-kept : (entered : List TextEntry)
    → map (λ (e : TextEntry). e.1) (entries_kept entered) ≡ map (contents_entered entered) (texts_entered entered)
contents-kept entered = back (texts_entered entered)
  where
    back : (texts : List (List ℕ)) → map (λ (e : TextEntry). e.1)
        (map (λ text. (text, contents_entered entered text)) texts) ≡ map (contents_entered entered) texts
    back [] = refl
    back (t ∷ ts) = ap (λ rest. contents_entered entered t ∷ rest) (back ts)

-- The map made from the lists of a `FlatMap` is the concatenation of the pieces.

pub map-of_flat : (file : Option (List ℕ)) (pieces : List Piece) (flat : FlatMap) → IsFlat pieces flat
    → (metadata : MetadataValue) (sources : SourcesValue) (names : List (List ℕ)) (contents : List (Option (List ℕ)))
    → metadata ≡ record { file = file; ignored = flat.ignored.keys; debug_id = None }
    → sources ≡ record { root = None; texts = map (λ e. e.0) (entry_values flat.sources.items) }
    → names ≡ map (λ e. e.0) (entry_values flat.names.items)
    → contents ≡ map (λ e. e.1) (entry_values flat.sources.items)
    → map_over metadata flat.tokens names sources contents ≡ merged file pieces
map-of_flat file pieces flat is metadata sources names contents metadata_of_file sourced named given =
    let resolved_sources : map (λ (e : TextEntry). e.0) (entry_values flat.sources.items) ≡ sources_in pieces =
    ap (map (λ (e : TextEntry). e.0)) is.sources ∙ texts-kept (all_source_entries pieces) ∙ texts_of_sources pieces in
    let kept_names : names ≡ names_in pieces =
    named ∙ ap (map (λ (e : TextEntry). e.0)) is.names ∙ texts-kept (all_name_entries pieces) ∙ texts_of_names pieces in
    let kept_contents : contents ≡ map (contents_in pieces) (sources_in pieces) =
    given ∙ ap (map (λ (e : TextEntry). e.1)) is.sources ∙ contents-kept (all_source_entries pieces)
    ∙ ap (map (contents_in pieces)) (texts_of_sources pieces) in
    λ i. record {
      file = (metadata_of_file i).file;
      root = (sourced i).root;
      tokens = is.tokens i;
      names = kept_names i;
      sources = (ap (λ (s : SourcesValue). s.texts) sourced ∙ resolved_sources) i;
      contents = kept_contents i;
      ignored = (ap (λ (h : MetadataValue). h.ignored) metadata_of_file ∙ is.ignored) i;
      debug_id = (metadata_of_file i).debug_id;
    }
