use Rattle.std.proofs.Common.{◌≡◌, ◌∙◌, sym, ap, subst, ℕ, length, map, Ok}
use Rattle.sourcemap_errors.specs.Answer.{Gives}
use Rattle.sourcemap_tokens.specs.declared.tokens.RawToken.{RawToken}
use Rattle.sourcemap_bundle_split.specs.ModuleMap.{end_of, module_map, moved_by, used_ids}
use Rattle.sourcemap_bundle_split.proofs.MapsLemmas.{map_made}
use Rattle.sourcemap_bundle_split.proofs.module_maps.ModuleMaps.map_of.Goals as goal

pub returns-clause-map : goal.returns-clause-map
returns-clause-map c =
    let flat = c.self.inside.flat in
    let line = c.args.line in
    let end : ℕ × ℕ = end_of line c.args.view.now in
    let own = c.tokens_in-own.result.now in
    let own_is = c.tokens_in-own.ensures.tokens end c.end_of.ensures in
    let source_count : c.clear.new.self.count ≡ length flat.sources =
    ap (λ n. n.count) c.clear.ensures ∙ c.self.invariant.sources in
    let name_count : c.clear-2.new.self.count ≡ length flat.names =
    ap (λ n. n.count) c.clear-2.ensures ∙ c.self.invariant.names in
    let sources_are : c.ids.result.now ≡ used_ids (length flat.sources) (map (λ (t : RawToken). t.src_id) own) =
    c.ids.ensures.ids ∙ c.in_ok-tokens.ensures.sources
    ∙ ap (λ n. used_ids n (map (λ (t : RawToken). t.src_id) own)) source_count in
    let names_are : c.ids-2.result.now ≡ used_ids (length flat.names) (map (λ (t : RawToken). t.name_id) own) =
    c.ids-2.ensures.ids ∙ c.in_ok-tokens.ensures.names
    ∙ ap (λ n. used_ids n (map (λ (t : RawToken). t.name_id) own)) name_count in
    let same : c.in_ok-tokens-2.tokens ≡ c.in_ok-tokens.tokens.items = (let held = c.in_ok-tokens-2.ensures in cc) in
    let tokens_are : c.in_ok-tokens-2.tokens ≡ map (moved_by line c.ids.result.now c.ids-2.result.now) own =
    same ∙ c.in_ok-tokens.ensures.tokens ∙ ap (λ ids. map (moved_by line ids c.move_tokens.new.names.ids) own)
    (sym c.ids.ensures.ids) ∙ ap (λ ids. map (moved_by line c.ids.result.now ids) own) (sym c.ids-2.ensures.ids) in
    let made = map_made flat c.lists-lists.result c.args.name.now line end own c.in_ok-tokens-2.tokens c.ids.result.now
    c.ids-2.result.now
    c.lists-lists.ensures.lists own_is sources_are names_are tokens_are in
    subst (λ m. Gives (λ m. m) c.map_of_tokens.result (Ok (module_map m c.args.name.now line end))) c.self.view_is
    (subst (λ m. Gives (λ m. m) c.map_of_tokens.result (Ok m)) made c.map_of_tokens.ensures)
