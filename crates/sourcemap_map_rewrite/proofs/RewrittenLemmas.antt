-- The parts of a rewritten map.
use Rattle.std.proofs.Common.{◌≡◌, ◌≢◌, refl, sym, ap, ◌∙◌, ℕ, suc, ◌<◌, ◌≤◌, ◌==◌, List, [], ◌∷◌, length, map, get_or}
use Rattle.std.proofs.Common.{Bool, true, false, cond, Some, None, Option, arith, inl, inr, ◌⊎◌, slice_get, eqb-true}
use Rattle.std.proofs.Common.{eq-eqb, option_map, option_and_then, MatchBool, replicate, Result, Ok, string_bytes}
use Rattle.std.proofs.Common.{String, Vec, vec_len, subst}
use Rattle.std.specs.List.{AllByRecursion}
use Rattle.std.specs.Option.{option_or, IsSomeAnd}
use Rattle.std.specs.Str.{bytes_eq}
use Rattle.std.specs.declared.alloc.Global.{Global}
use Rattle.std.proofs.lemmas.Bool.{cases_eq}
use Rattle.std.proofs.lemmas.List.{length-map}
use Rattle.std.proofs.lemmas.Option.{slice_get-map, slice_get-get_or, slice_get_within}
use Rattle.std.proofs.lemmas.Slice.Eq.{bytes_eq-Decides}
use Rattle.sourcemap_errors.specs.declared.errors.Error.{Error}
use Rattle.sourcemap_source_files.specs.Loading.{Fills}
use Rattle.sourcemap_tokens.specs.declared.tokens.RawToken.{RawToken}
use Rattle.sourcemap_interning.specs.Interner.{id_of, AreDistinct}
use Rattle.sourcemap_interning.proofs.InternerLemmas.{slice_get-id_of}
use Rattle.sourcemap_texts.specs.Texts.{texts_of}
use Rattle.sourcemap_texts.specs.Prefixes.{without_prefix}
use Rattle.sourcemap_map_rewrite.specs.CutSources.{all_prefixes}
use Rattle.sourcemap_map_rewrite.specs.Options.{removal_of, options_folder}
use Rattle.sourcemap_map_rewrite.specs.Loaded.{AreLoaded, AreKeptOrNone, AreKeptAndLoaded}
use Rattle.sourcemap_map_rewrite.specs.Kept.{present}
use Rattle.sourcemap_map_rewrite.specs.Numbering.{first_some, seen_texts, IsSeen, AreNumbered, AreSeen}
use Rattle.sourcemap_tokens.specs.Items.{item_at}
use Rattle.sourcemap_map_rewrite.specs.KeptContents.{contents_with_number, HasNewNumber, AreKept}
use Rattle.sourcemap_map_rewrite.specs.Rewritten.{contents_among, resulting_contents, contents_before}
use Rattle.sourcemap_map_rewrite.specs.Rewritten.{AreResultingContents, sources_used, names_used, AreFew, AreRewritten}
use Rattle.sourcemap_map_rewrite.specs.declared.options.RewriteOptions.{RewriteOptions}
use Rattle.sourcemap_map_rewrite.specs.declared.rewritten.RewrittenParts.{RewrittenParts}
use Rattle.sourcemap_map_rewrite.specs.declared.numbering.NewNumbers.{NewNumbers}
use Rattle.sourcemap_tokens.proofs.AllLemmas.{All-weaker}
use Rattle.sourcemap_map_rewrite.proofs.NumberingLemmas.{kept_once-few, distinct-texts_in_use}

-- let `s` number the texts `S` (`AreNumbered`). Each seen old number has a new number, which is an index of the seen
-- texts
all_have_new_numbers : (S : List (List ℕ)) (s : NewNumbers) → AreNumbered S s
    → AllByRecursion (HasNewNumber s.numbers.items (length (seen_texts S s))) s.order.items
all_have_new_numbers S s is =
    All-weaker (IsSeen S s) (HasNewNumber s.numbers.items (length (seen_texts S s))) has s.order.items is.seen
  where
    has : (id : ℕ) → IsSeen S s id → HasNewNumber s.numbers.items (length (seen_texts S s)) id
    has id seen = (
      seen.number,
      seen.numbered,
      slice_get_within (seen_texts S s) seen.number seen.text
          (slice_get-id_of seen.text (seen_texts S s) seen.number seen.interned),
    )

-- let `s` number the texts `S` (`AreNumbered`), `texts` be the seen texts, and `count` be the length of `texts`. Each
-- seen old number has a new number below `count`
pub numbered_below : (S : List (List ℕ)) (s : NewNumbers) (texts : Vec (String Global) Global) (count : ℕ)
    → AreNumbered S s → texts_of texts ≡ seen_texts S s → count ≡ vec_len texts
    → (count ≡ length (seen_texts S s)) × AllByRecursion (HasNewNumber s.numbers.items count) s.order.items
numbered_below S s texts count is kept many =
    let same : count ≡ length (seen_texts S s) =
    many ∙ texts.ok.0 ∙ sym (length-map texts.items (string_bytes {Z = Global})) ∙ ap length kept in (
      same,
      subst (λ k. AllByRecursion (HasNewNumber s.numbers.items k) s.order.items) (sym same)
          (all_have_new_numbers S s is),
    )

-- Contents.

pub first_present : {X : Type 0} (f : X → Option (List ℕ)) (xs : List X)
    → slice_get (present (map f xs)) 0 ≡ first_some f xs
first_present f [] = refl
first_present f (x ∷ xs) = by_case (f x) (first_present f xs)
  where
    by_case : (o : Option (List ℕ)) → slice_get (present (map f xs)) 0 ≡ first_some f xs
        → slice_get (present (o ∷ map f xs)) 0 ≡ option_or o (first_some f xs)
    by_case None e = e
    by_case (Some t) e = refl

pub first_some-map : {X Y : Type 0} (f : Y → Option (List ℕ)) (g : X → Y) (xs : List X)
    → first_some f (map g xs) ≡ first_some (λ x. f (g x)) xs
first_some-map f g [] = refl
first_some-map f g (x ∷ xs) = ap (option_or (f (g x))) (first_some-map f g xs)

first_some-same : (P : ℕ → Type 0) (f g : ℕ → Option (List ℕ)) → ((x : ℕ) → P x → f x ≡ g x) → (xs : List ℕ)
    → AllByRecursion P xs → first_some f xs ≡ first_some g xs
first_some-same P f g same [] all = refl
first_some-same P f g same (x ∷ xs) all = λ i. option_or (same x all.0 i) (first_some-same P f g same xs all.1 i)

same_results : (xs ys : List (Option (List ℕ))) → length xs ≡ length ys
    → ((k : ℕ) → k < length xs → item_at xs k ≡ item_at ys k) → xs ≡ ys
same_results [] [] many each = refl
same_results [] (y ∷ ys) many each = absurd (omega arith)
same_results (x ∷ xs) [] many each = absurd (omega arith)
same_results (x ∷ xs) (y ∷ ys) many each =
    λ i. each 0 (omega arith) i ∷ same_results xs ys (omega arith) (λ k below. each (suc k) (omega arith)) i

tests_agree : (kept : List (List ℕ)) → AreDistinct kept → (text other : List ℕ) (k n : ℕ) → slice_get kept k ≡ Some text
    → id_of other kept ≡ Some n → (n == k) ≡ bytes_eq other text
tests_agree kept distinct text other k n at interned = by_case (cases_eq n k)
  where
    by_bool : (b c : Bool) → (n == k) ≡ b → bytes_eq other text ≡ c → (b ≡ c → (n == k) ≡ bytes_eq other text)
    by_bool b c e f same = e ∙ same ∙ sym f

    different : n ≢ k → (b c : Bool) → (n == k) ≡ b → bytes_eq other text ≡ c → (n == k) ≡ bytes_eq other text
    different apart true c e f = absurd (apart (eqb-true n k e))
    different apart false true e f =
        let alike : other ≡ text = (bytes_eq-Decides other text).0 f in
        let here : id_of other kept ≡ Some k = ap (λ t. id_of t kept) alike ∙ distinct text k at in
        absurd (apart (let both : Some n ≡ Some k = sym interned ∙ here in cc))
    different apart false false e f = e ∙ sym f

    by_case : (n ≡ k) ⊎ (n ≢ k) → (n == k) ≡ bytes_eq other text
    by_case (inl e) =
        let left_or_moved : slice_get kept k ≡ Some other =
        ap (slice_get kept) (sym e) ∙ slice_get-id_of other kept n interned in
        let alike : other ≡ text = cc in
        eq-eqb n k e ∙ sym ((bytes_eq-Decides other text).1 alike)
    by_case (inr apart) = different apart (n == k) (bytes_eq other text) refl refl

-- the contents of the old number `id`, if the source at `id` is `text`; otherwise `None`
abbrev of_id : List (List ℕ) → List (Option (List ℕ)) → List ℕ → ℕ → Option (List ℕ)
of_id S contents text id =
    option_and_then (λ source. cond (bytes_eq source text) (item_at contents id) None) (slice_get S id)

pub contents-kept : (S N : List (List ℕ)) (ts : List RawToken) (s n : NewNumbers)
    (contents kept : List (Option (List ℕ)))
    → AreSeen S N ts s n → AreNumbered S s
    → AreKept s.numbers.items s.order.items contents (length (seen_texts S s)) kept
    → kept ≡ map (resulting_contents S contents ts) (seen_texts S s)
contents-kept S N ts s n contents kept seen numbered are =
    same_results kept (map (resulting_contents S contents ts) (seen_texts S s))
    (are.many ∙ sym (length-map (seen_texts S s) (resulting_contents S contents ts)))
    (λ k below. each k (omega (arith, are.many)))
  where
    of_none : (text : List ℕ) (id : ℕ) → slice_get S id ≡ None → of_id S contents text id ≡ None
    of_none text id e = rw e refl

    of_seen : (k : ℕ) (text : List ℕ) → slice_get (seen_texts S s) k ≡ Some text → (id : ℕ) → IsSeen S s id
        → contents_with_number s.numbers.items contents k id ≡ of_id S contents text id
    of_seen k text at id is =
        rw (is.numbered, is.named) (ap (λ b. cond b (item_at contents id) None)
        (tests_agree (seen_texts S s) (distinct-texts_in_use S s.order.items) text is.text k is.number at is.interned))

    each : (k : ℕ) → k < length (seen_texts S s)
        → item_at kept k ≡ item_at (map (resulting_contents S contents ts) (seen_texts S s)) k
    each k below =
        let text : List ℕ = get_or (seen_texts S s) k [] in
        let at : slice_get (seen_texts S s) k ≡ Some text = slice_get-get_or (seen_texts S s) k [] below in
        let resulting : item_at (map (resulting_contents S contents ts) (seen_texts S s)) k
        ≡ resulting_contents S contents ts text =
        ap (option_and_then (λ o. o)) (slice_get-map (resulting_contents S contents ts) (seen_texts S s) k
        ∙ ap (option_map (resulting_contents S contents ts)) at) in
        are.each k below
        ∙ first_some-same (IsSeen S s) (contents_with_number s.numbers.items contents k) (of_id S contents text)
        (of_seen k text at) s.order.items numbered.seen
        ∙ seen.first (of_id S contents text) (of_none text)
        ∙ first_some-map (of_id S contents text) (λ (t : RawToken). t.src_id) ts
        ∙ sym (first_present (contents_among S contents text) ts)
        ∙ sym resulting

contents-kept_if : (b : Bool) (S N : List (List ℕ)) (ts : List RawToken) (s n : NewNumbers)
    (contents kept : List (Option (List ℕ)))
    → AreSeen S N ts s n → AreNumbered S s
    → MatchBool b (AreKept s.numbers.items s.order.items contents (length (seen_texts S s)) kept) (kept ≡ [])
    → kept ≡ cond b (map (resulting_contents S contents ts) (seen_texts S s)) []
contents-kept_if true S N ts s n contents kept seen numbered are =
    contents-kept S N ts s n contents kept seen numbered are
contents-kept_if false S N ts s n contents kept seen numbered none = none

-- Before loading.

nothing-each : (f : List ℕ → Option (List ℕ)) (texts : List (List ℕ))
    → replicate (length texts) None ≡ map (λ text. cond false (f text) None) texts
nothing-each f [] = refl
nothing-each f (text ∷ texts) = ap (λ rest. None ∷ rest) (nothing-each f texts)

unloaded-each : (b : Bool) (S N : List (List ℕ)) (ts : List RawToken) (s n : NewNumbers)
    (contents unloaded : List (Option (List ℕ)))
    → AreSeen S N ts s n → AreNumbered S s
    → AreKeptOrNone b s.numbers.items s.order.items contents (length (seen_texts S s)) unloaded
    → unloaded ≡ map (λ text. cond b (resulting_contents S contents ts text) None) (seen_texts S s)
unloaded-each true S N ts s n contents unloaded seen numbered are =
    contents-kept S N ts s n contents unloaded seen numbered are
unloaded-each false S N ts s n contents unloaded seen numbered none =
    none ∙ nothing-each (resulting_contents S contents ts) (seen_texts S s)

-- `after` is the list of contents that `rewrite` returns. If `load_local_source_contents` is true, `after` holds the
-- contents after loading (`AreKeptAndLoaded`). Otherwise, if `with_source_contents` is true, `after` holds the kept
-- contents (`AreKept`). If both options are false, `after` is empty
abbrev AreReturned : RewriteOptions → NewNumbers → List (Option (List ℕ)) → List (List ℕ) → ℕ
    → (after : List (Option (List ℕ))) → Type 0
AreReturned options s contents texts count after =
    MatchBool options.load_local_source_contents
    (AreKeptAndLoaded options texts s.numbers.items s.order.items contents count after)
    (MatchBool options.with_source_contents (AreKept s.numbers.items s.order.items contents count after) (after ≡ []))

pub contents-resulting : (options : RewriteOptions) (S N : List (List ℕ)) (ts : List RawToken) (s n : NewNumbers)
    (contents : List (Option (List ℕ))) (texts : List (List ℕ))
    (count : ℕ) (after : List (Option (List ℕ))) → AreSeen S N ts s n → AreNumbered S s → texts ≡ seen_texts S s
    → count ≡ length (seen_texts S s)
    → AreReturned options s contents texts count after → AreResultingContents options S contents ts after
contents-resulting options S N ts s n contents texts count after seen numbered same many returned =
    by_case options.load_local_source_contents
    (subst (λ k. AreReturned options s contents (seen_texts S s) k after) many
    (subst (λ xs. AreReturned options s contents xs count after) same returned))
  where
    by_case : (b : Bool)
        → MatchBool b (AreKeptAndLoaded options (seen_texts S s) s.numbers.items s.order.items contents
        (length (seen_texts S s)) after)
        (MatchBool options.with_source_contents
        (AreKept s.numbers.items s.order.items contents (length (seen_texts S s)) after) (after ≡ []))
        → MatchBool b (AreLoaded options (sources_used S ts) (contents_before (removal_of options) S contents ts) after)
        (after ≡ cond options.with_source_contents (map (resulting_contents S contents ts) (sources_used S ts)) [])
    by_case true is =
        subst (λ used. AreLoaded options used (map (λ text. cond options.with_source_contents
        (resulting_contents S contents ts text) None) used) after) seen.kept_sources
        (subst (λ before. AreLoaded options (seen_texts S s) before after)
        (unloaded-each options.with_source_contents S N ts s n contents is.before seen numbered is.unloaded) is.loaded)
    by_case false is =
        contents-kept_if options.with_source_contents S N ts s n contents after seen numbered is
        ∙ ap
        (λ used. cond options.with_source_contents (map (resulting_contents S contents ts) used) []) seen.kept_sources

pub same_Ok : {X : Type 0} (x y : X) → ◌≡◌ {A = Result X Error} (Ok x) (Ok y) → x ≡ y
same_Ok x y e = cc

-- Bounds.

few_contents_if : (w : Bool) (contents : List (Option (List ℕ))) → length contents ≤ 4294967295
    → length (cond w contents []) ≤ 4294967295
few_contents_if true contents few = few
few_contents_if false contents few = omega arith

loaded-many : (folder : Option (List ℕ)) (sources : List (List ℕ)) (before after : List (Option (List ℕ)))
    → IsSomeAnd folder (λ folder. Fills folder sources before after) → length after ≡ length before
loaded-many None sources before after none = absurd none
loaded-many (Some folder) sources before after fills = fills.many

few_contents : (options : RewriteOptions) (S : List (List ℕ)) (contents : List (Option (List ℕ)))
    (tokens : List RawToken) (after : List (Option (List ℕ)))
    → length (sources_used S tokens) ≤ 4294967295 → AreResultingContents options S contents tokens after
    → length after ≤ 4294967295
few_contents options S contents tokens after few = by_case options.load_local_source_contents
  where
    by_case : (b : Bool) → MatchBool b (AreLoaded options (sources_used S tokens)
        (contents_before (removal_of options) S contents tokens) after)
        (after
        ≡ cond options.with_source_contents (map (resulting_contents S contents tokens) (sources_used S tokens)) [])
        → length after ≤ 4294967295
    by_case true loaded =
        let many = loaded-many (options_folder options) (sources_used S tokens) (contents_before
        (removal_of options) S contents tokens) after loaded in
        let each = length-map (sources_used S tokens) (λ text. cond options.with_source_contents
        (resulting_contents S contents tokens text) None) in
        omega (arith, many, each, few)
    by_case false is =
        let each = length-map (sources_used S tokens) (resulting_contents S contents tokens) in
        let kept : length (cond options.with_source_contents
        (map (resulting_contents S contents tokens) (sources_used S tokens)) []) ≤ 4294967295 =
        few_contents_if options.with_source_contents
        (map (resulting_contents S contents tokens) (sources_used S tokens)) (omega (arith, each, few)) in
        subst (λ list. length list ≤ 4294967295) (sym is) kept

pub few-rewritten : (S N paths : List (List ℕ)) (contents : List (Option (List ℕ))) (options : RewriteOptions)
    (tokens : List RawToken) (p : RewrittenParts)
    → length S ≤ 4294967295 → length N ≤ 4294967295 → AreRewritten S N paths contents options tokens p → AreFew p
few-rewritten S N paths contents options tokens p few_s few_n are =
    let some_sources : length (sources_used S tokens) ≤ length S = kept_once-few S (map (λ t. t.src_id) tokens) in
    let some_names : length (names_used N tokens) ≤ length N = kept_once-few N (map (λ t. t.name_id) tokens) in
    let names : length (texts_of p.names) ≡ length p.names.items = length-map p.names.items string_bytes in
    let names_are : length (texts_of p.names) ≡ length (names_used N tokens) = ap length are.names_are in
    let sources : length (texts_of p.sources) ≡ length p.sources.items = length-map p.sources.items string_bytes in
    let sources_are : length (texts_of p.sources) ≡ length (sources_used S tokens) =
    ap length are.sources_are
    ∙ length-map (sources_used S tokens) (without_prefix (all_prefixes (removal_of options).prefixes paths)) in
    let contents_few : length p.contents.items ≤ 4294967295 =
    few_contents options S contents tokens p.contents.items (omega (arith, some_sources, few_s)) are.contents_are in
    record {
      names = omega (arith, p.names.ok.0, names, names_are, some_names, few_n);
      sources = omega (arith, p.sources.ok.0, sources, sources_are, some_sources, few_s);
      contents = omega (arith, p.contents.ok.0, contents_few);
    }
