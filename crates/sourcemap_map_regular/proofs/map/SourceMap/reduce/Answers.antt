use Rattle.std.proofs.Common.{◌≡◌, ◌≤◌, ℕ, Bool, true, false, List, [], None, Ok, arith, cond, length, unwrap_or}
use Rattle.std.proofs.Common.{vec_len, sym, ap, subst, ◌∙◌}
use Rattle.std.proofs.lemmas.List.{length-map}
use Rattle.sourcemap_texts.specs.Texts.{texts_of}
use Rattle.sourcemap_map_rewrite.specs.Rewritten.{AreRewritten, first_ids_used}
use Rattle.sourcemap_map_conversions.specs.Parts.{parts_view}
use Rattle.sourcemap_map_regular.specs.Map.{MapValue, resolved_sources}
use Rattle.sourcemap_map_regular.specs.MapStored.{map_in, map_over}
use Rattle.sourcemap_map_regular.specs.Rewrite.{removal_of, first_ids, rewritten, Rewrites, SameButContents}
use Rattle.sourcemap_map_regular.proofs.RewriteLemmas.{tokens-rewritten, names-rewritten, sources-rewritten}
use Rattle.sourcemap_map_regular.proofs.RewriteLemmas.{is-rewritten}
use Rattle.sourcemap_map_regular.proofs.map.SourceMap.reduce.Goals as goal

few_if : (is_kept : Bool) (names : List (List ℕ)) → length names ≤ 4294967295
    → length (cond is_kept names []) ≤ 4294967295
few_if true names few = few
few_if false names few = omega arith

pub rewritten_parts-requires-clause-few_names : goal.rewritten_parts-requires-clause-few_names
rewritten_parts-requires-clause-few_names g c =
    let names = c.into_parts-metadata.result.names in
    let of_map : vec_len names ≡ length (texts_of names) = rw length-map names.ok.0 in
    let few = subst (λ n. n ≤ 4294967295) of_map c.into_parts-metadata.ensures.few in
    let kept = c.names_if-names.result in
    let many : vec_len kept ≡ length (texts_of kept) = rw length-map kept.ok.0 in
    subst (λ n. n ≤ 4294967295) (sym (many ∙ ap length c.names_if-names.ensures))
    (few_if c.args.options.now.with_names (texts_of names) few)

pub returns-clause-value : goal.returns-clause-value
returns-clause-value g c =
    let m : MapValue = map_in (parts_view c.into_parts-metadata.result) in
    let is_self : m ≡ c.args.self = ap map_in c.into_parts-metadata.ensures.value in
    let options = c.args.options.now in
    let due : MapValue = rewritten (removal_of options) m in
    let p = c.in_ok-parts.parts in
    let new : MapValue = c.of_parts-map.result in
    let S : List (List ℕ) = texts_of (unwrap_or c.into_lists-sources.result.1 c.into_lists-sources.result.0) in
    let N : List (List ℕ) = texts_of c.names_if-names.result in
    let paths : List (List ℕ) = texts_of c.into_lists-sources.result.0 in
    let sources : S ≡ resolved_sources m = c.into_lists-sources.ensures.resolved in
    let names : N ≡ cond options.with_names m.names [] = c.names_if-names.ensures in
    let same_paths : paths ≡ m.sources = c.into_lists-sources.ensures.given in
    let are : AreRewritten S N paths m.contents options m.tokens p =
    subst (λ contents. AreRewritten S N paths contents options m.tokens p) c.into_views-contents.ensures.views
    c.in_ok-parts.ensures.parts in
    let contents : new.contents ≡ p.contents.items =
    ap (λ (n : MapValue). n.contents) c.of_parts-map.ensures ∙ c.of_views-contents.ensures in
    let others : SameButContents new due =
    (λ i. record (c.of_parts-map.ensures i) { contents = due.contents })
    ∙ (λ i. map_over (c.without_ignored-metadata.ensures i)
    (tokens-rewritten m options p S N paths sources names same_paths are i)
    (names-rewritten m options p S N paths sources names same_paths are i)
    ((c.new-sources.ensures ∙ (λ j. record {
      root = None;
      texts = sources-rewritten m options p S N paths sources names same_paths are j;
    })) i)
    due.contents) in
    subst (λ v. Rewrites options v (Ok new)) is_self
    (is-rewritten m options p S N paths sources names same_paths are new contents others)

pub returns-clause-ids : goal.returns-clause-ids
returns-clause-ids g c =
    c.in_ok-parts.ensures.parts.first_ids_are
    ∙ ap (λ S. first_ids_used S c.into_parts-metadata.result.tokens) c.into_lists-sources.ensures.resolved
    ∙ ap (λ p. first_ids (map_in p)) c.into_parts-metadata.ensures.value
