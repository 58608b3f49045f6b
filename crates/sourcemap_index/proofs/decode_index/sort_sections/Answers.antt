-- A stable sort by offset returns the list `by_offset`.
use Rattle.std.proofs.Common.{◌≡◌, refl, sym, ap, ◌∙◌, map, ℕ, rules}
use Rattle.std.proofs.lemmas.List.Sorted.{answers_always}
use Rattle.sourcemap_tokens.specs.Tokens.{position_cmp}
use Rattle.sourcemap_tokens.proofs.SortLemmas.{stably_sorted}
use Rattle.sourcemap_tokens.proofs.TokensLemmas.{position_cmp_total}
use Rattle.sourcemap_index_model.specs.MapTree.{section_offset}
use Rattle.sourcemap_index_model.proofs.SortLemmas.{sorted_by-change}
use Rattle.sourcemap_index.specs.Family.{section_value}
use Rattle.sourcemap_index.specs.declared.family.SourceMapSection.{SourceMapSection}
use Rattle.sourcemap_index.proofs.decode_index.sort_sections.Goals as goal

abbrev key : SourceMapSection → ℕ × ℕ
key s = section_offset (section_value s)

pub returns-clause-sorted : goal.returns-clause-sorted
returns-clause-sorted c =
    ap (map section_value) (stably_sorted key position_cmp_total c.args.sections.now.items c.sort_by_key.new.self.items
    (c.in_ok-sort_by_key.ensures.sorted key (answers_always _ (λ a r. r ≡ key a.0.now) _ (λ f a r f' k. search rules)))
    (c.sort_by_key.ensures.stable key (answers_always _ (λ a r. r ≡ key a.0.now) _ (λ f a r f' k. search rules))))
    ∙ sym (sorted_by-change key position_cmp section_offset position_cmp section_value (λ s t. refl)
    c.args.sections.now.items)
