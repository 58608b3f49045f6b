use Rattle.std.proofs.Common.{◌≡◌, ℕ, ◌-◌, ◌++◌, ◌∷◌, [], ◌∙◌, refl, sym, ap, subst, List, get_or, map, take, false}
use Rattle.std.proofs.Common.{arith}
use Rattle.std.proofs.lemmas.List.{take_all}
use Rattle.sourcemap_tokens.specs.Tokens.{AreInOrder}
use Rattle.sourcemap_tokens.specs.declared.tokens.RawToken.{RawToken}
use Rattle.sourcemap_bundle_split.specs.ModuleMap.{moved_by, used_ids, with_id}
use Rattle.sourcemap_bundle_split.proofs.LinesLemmas.{in_order-moved}
use Rattle.sourcemap_bundle_split.proofs.MovedLemmas.{moved-step, used-step}
use Rattle.sourcemap_bundle_split.proofs.module_maps.move_tokens.Goals as goal

pub loop-token-preserved : goal.loop-token-preserved
loop-token-preserved c =
    let tokens = c.args.tokens.now in
    let i = c.loop-token.token-index in
    let inside = c.loop-token-test.true in
    let zero : RawToken =
    record { dst_line = 0; dst_col = 0; src_line = 0; src_col = 0; src_id = 0; name_id = 0; is_range = false } in
    let t : RawToken = get_or tokens i zero in
    let inv = c.loop-token.invariant in
    let cs = c.args.sources.now.count in
    let cn = c.args.names.now.count in
    let old_sources : List ℕ = used_ids cs (map (λ (t : RawToken). t.src_id) (take i tokens)) in
    let old_names : List ℕ = used_ids cn (map (λ (t : RawToken). t.name_id) (take i tokens)) in
    let in_sources : c.number.new.self.ids ≡ with_id cs old_sources t.src_id =
    ap (λ n. n.ids) c.in_ok-number.ensures.ids ∙ (rw (inv.same_sources, inv.sources) refl) in
    let in_names : c.number-in-loop-token.new.self.ids ≡ with_id cn old_names t.name_id =
    ap (λ n. n.ids) c.in_ok-number-2.ensures.ids ∙ (rw (inv.same_names, inv.names) refl) in
    let made : RawToken = record {
      dst_line = t.dst_line - c.args.line;
      dst_col = t.dst_col;
      src_line = t.src_line;
      src_col = t.src_col;
      src_id = c.in_ok-number.field-0;
      name_id = c.in_ok-number-2.field-0;
      is_range = t.is_range;
    } in
    record {
      sources = in_sources ∙ sym (used-step cs (λ (t : RawToken). t.src_id) tokens i zero inside);
      names = in_names ∙ sym (used-step cn (λ (t : RawToken). t.name_id) tokens i zero inside);
      same_sources = ap (λ n. n.count) c.in_ok-number.ensures.ids ∙ inv.same_sources;
      same_names = ap (λ n. n.count) c.in_ok-number-2.ensures.ids ∙ inv.same_names;
      moved = c.in_ok-push.ensures.items
          ∙ ap (λ xs. xs ++ made ∷ []) (inv.moved ∙ (rw (inv.sources, inv.names) refl))
          ∙ ap (λ x. map (moved_by c.args.line old_sources old_names) (take i tokens) ++ x ∷ [])
          (rw (c.in_ok-number.ensures.number, c.in_ok-number-2.ensures.number, in_sources, in_names) refl)
          ∙ sym (moved-step c.args.line cs cn tokens i zero inside)
          ∙ (rw (in_sources, in_names) refl);
    }

pub returns-clause-moved_in_order : goal.returns-clause-moved_in_order
returns-clause-moved_in_order c =
    let tokens = c.args.tokens.now in
    let all : take c.loop-token.token-index tokens ≡ tokens = take_all c.loop-token.token-index tokens (omega arith) in
    let is = c.loop-token.invariant.moved
    ∙ ap (map (moved_by c.args.line c.loop-token.sources.ids c.loop-token.names.ids)) all in
    subst AreInOrder (sym is) (in_order-moved c.args.line c.loop-token.sources.ids c.loop-token.names.ids tokens
    c.requires.later c.requires.in_order)
