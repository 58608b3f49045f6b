use Rattle.std.proofs.Common.{◌≡◌, ◌≤◌, ℕ, arith, List, length, map, string_bytes, unwrap_or, sym, ap, subst, ◌∙◌}
use Rattle.std.specs.declared.alloc.Global.{Global}
use Rattle.std.proofs.lemmas.List.{length-map}
use Rattle.sourcemap_texts.specs.Texts.{texts_of}
use Rattle.sourcemap_texts.specs.Prefixes.{without_prefix}
use Rattle.sourcemap_map_rewrite.specs.Options.{removal_of}
use Rattle.sourcemap_map_rewrite.specs.CutSources.{all_prefixes}
use Rattle.sourcemap_map_rewrite.specs.Numbering.{seen_texts, AreNumbered, numbered_by}
use Rattle.sourcemap_map_rewrite.specs.Renumbering.{IsRenumbered}
use Rattle.sourcemap_map_rewrite.proofs.FirstIdsLemmas.{firsts-used}
use Rattle.sourcemap_map_rewrite.proofs.RewrittenLemmas.{numbered_below, contents-resulting, same_Ok, few-rewritten}
use Rattle.sourcemap_map_rewrite.proofs.rewritten.rewritten_parts.Goals as goal

-- each old number that was seen has a new number, and this new number is an index of the kept texts
pub resulting_contents-requires : goal.resulting_contents-requires
resulting_contents-requires g c =
    let S : List (List ℕ) = texts_of (unwrap_or c.args.with_root c.args.sources) in
    let s = c.in_ok-tokens.numbers.sources in
    let kept : texts_of c.in_ok-texts.texts ≡ seen_texts S s =
    c.in_ok-texts.ensures.ok ∙ ap (λ T. seen_texts T s) c.into_rooted_or_plain-texts.ensures in
    let numbered : AreNumbered S s =
    subst (λ T. AreNumbered T s) c.rooted_or_plain-texts.ensures c.in_ok-tokens.ensures.ok.numbered_sources in
    let many = ap length c.as_slice-3.ensures.value in
    (numbered_below S s c.in_ok-texts.texts (length c.as_slice-3.result.now) numbered kept
    (omega (arith, many, c.in_ok-texts.texts.ok.0))).1

pub first_ids-requires : goal.first_ids-requires
first_ids-requires g c =
    let S : List (List ℕ) = texts_of (unwrap_or c.args.with_root c.args.sources) in
    let s = c.in_ok-tokens.numbers.sources in
    let kept : texts_of c.in_ok-texts.texts ≡ seen_texts S s =
    c.in_ok-texts.ensures.ok ∙ ap (λ T. seen_texts T s) c.into_rooted_or_plain-texts.ensures in
    let numbered : AreNumbered S s =
    subst (λ T. AreNumbered T s) c.rooted_or_plain-texts.ensures c.in_ok-tokens.ensures.ok.numbered_sources in
    (numbered_below S s c.in_ok-texts.texts c.len.result numbered kept c.len.ensures).1

pub kept_texts-requires-2 : goal.kept_texts-requires-2
kept_texts-requires-2 g c =
    let n = c.in_ok-tokens.numbers.names in
    subst (λ T. AreNumbered T n)
    (ap (map (string_bytes {Z = Global})) c.as_slice.ensures.value) c.in_ok-tokens.ensures.ok.numbered_names

pub returns-clause-parts : goal.returns-clause-parts
returns-clause-parts g c =
    let S : List (List ℕ) = texts_of (unwrap_or c.args.with_root c.args.sources) in
    let N : List (List ℕ) = texts_of c.args.names in
    let ts = c.args.tokens in
    let new = c.in_ok-tokens.tokens in
    let r = c.in_ok-tokens.numbers in
    let options = c.args.options.now in
    let names : map (string_bytes {Z = Global}) c.as_slice.result.now ≡ N =
    ap (map (string_bytes {Z = Global})) c.as_slice.ensures.value in
    let ok : IsRenumbered S N ts new r =
    subst (λ T. IsRenumbered T N ts new r) c.rooted_or_plain-texts.ensures
    (subst (λ T. IsRenumbered (map
    (string_bytes {Z = Global}) c.rooted_or_plain-texts.result.now) T ts new r) names c.in_ok-tokens.ensures.ok) in
    let kept : texts_of c.in_ok-texts.texts ≡ seen_texts S r.sources =
    c.in_ok-texts.ensures.ok ∙ ap (λ T. seen_texts T r.sources) c.into_rooted_or_plain-texts.ensures in
    let slice : map (string_bytes {Z = Global}) c.as_slice-3.result.now ≡ seen_texts S r.sources =
    ap (map (string_bytes {Z = Global})) c.as_slice-3.ensures.value ∙ kept in
    let count : length c.as_slice-3.result.now ≡ length (seen_texts S r.sources) =
    sym (length-map c.as_slice-3.result.now (string_bytes {Z = Global})) ∙ ap length slice in
    let prefixes : map (string_bytes {Z = Global}) c.as_slice-4.result.now
    ≡ all_prefixes (removal_of options).prefixes (texts_of c.args.sources) =
    ap (map (string_bytes {Z = Global})) c.as_slice-4.ensures.value ∙ sym (same_Ok _ _ c.in_ok-prefixes.ensures)
    ∙ ap (λ paths. all_prefixes (removal_of options).prefixes
    (map (string_bytes {Z = Global}) paths)) c.as_slice-2.ensures.value in
    record {
      tokens_are = ok.tokens ∙ (λ i. map (numbered_by S N (ok.seen.kept_sources i) (ok.seen.kept_names i)) ts);
      names_are = c.in_ok-names.ensures.ok ∙ ok.seen.kept_names;
      sources_are = sym (same_Ok _ _ c.in_ok-sources.ensures)
          ∙ (λ i. map (without_prefix (prefixes i)) ((kept ∙ ok.seen.kept_sources) i));
      first_ids_are = c.in_ok-first_ids.ensures.ok S ok.numbered_sources ∙ firsts-used S N ts r.sources r.names ok.seen;
      contents_are = contents-resulting options S N ts r.sources r.names c.args.contents.items (map
          (string_bytes {Z = Global}) c.as_slice-3.result.now)
          (length c.as_slice-3.result.now) c.in_ok-contents.contents.items ok.seen ok.numbered_sources slice count
          c.in_ok-contents.ensures.ok;
    }

pub returns-clause-few : goal.returns-clause-few
returns-clause-few g c =
    let resolved_sources = unwrap_or c.args.with_root c.args.sources in
    let S : List (List ℕ) = texts_of resolved_sources in
    let N : List (List ℕ) = texts_of c.args.names in
    let few_sources : length S ≤ 4294967295 =
    let many = length-map resolved_sources.items (string_bytes {Z = Global}) in
    omega (arith, resolved_sources.ok.0, many, c.requires.few_sources) in
    let few_names : length N ≤ 4294967295 = let many = length-map c.args.names.items (string_bytes {Z = Global}) in
    omega (arith, c.args.names.ok.0, many, c.requires.few_names) in
    few-rewritten S N (texts_of c.args.sources) c.args.contents.items c.args.options.now c.args.tokens _ few_sources
    few_names (returns-clause-parts g c)
