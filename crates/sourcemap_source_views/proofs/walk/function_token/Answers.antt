use Rattle.std.proofs.Common.{rules, ◌≡◌, ◌∙◌, ◌-◌, ◌+◌, ◌⊎◌, ◌∷◌, List, ℕ, inl, inr, refl, sym, ap, subst, subst₂}
use Rattle.std.proofs.Common.{None, Some, Option, cond, option_map, take, drop, true, false, codes, arith, IsAscii}
use Rattle.std.specs.Option.{option_and_then}
use Rattle.std.proofs.lemmas.Str.{chars-IsAscii}
use Rattle.sourcemap_source_views.specs.Columns.{reached_offset}
use Rattle.sourcemap_source_views.specs.Identifiers.{is_identifier, is_text, token_at_start}
use Rattle.sourcemap_source_views.specs.Walk.{function_token, identifier_at, position_in, walked}
use Rattle.sourcemap_source_views.specs.Walks.{tokens_from}
use Rattle.sourcemap_source_views.proofs.WalkLemmas.{found_after, found_after-fired, found_after-passed}
use Rattle.sourcemap_source_views.proofs.WalkLemmas.{found_after-none, identifier_at_cursor, none_seen, some_seen}
use Rattle.sourcemap_source_views.proofs.WalkLemmas.{tokens_before}
use Rattle.sourcemap_source_views.proofs.walk.function_token.Goals as goal
use Rattle.sourcemap_source_views.proofs.walk.function_token.Goals.{else-is_some-via-then-is_some+else-is_named}
use Rattle.sourcemap_source_views.proofs.walk.function_token.Goals.{else-is_some-via-else-is_some, then-is_named-2}
use Rattle.sourcemap_source_views.proofs.walk.function_token.Goals.{else-is_named-2}

pub is_named-requires : goal.is_named-requires
is_named-requires g c =
    let ascii : IsAscii (codes "function") = search rules in
    subst (λ cs. is_identifier cs ≡ true) (sym (chars-IsAscii (codes "function") ascii)) refl

pub returns-then-is_named : goal.returns-then-is_named
returns-then-is_named g c =
    let seen = g.T.WalkedToken.seen in
    let tokens = tokens_from seen g.T.WalkedToken.before in
    let items = walked g.T.WalkedToken.position_value c.args.view.now in
    let position = g.T.WalkedToken.position_value (seen c.in_ok-token.token) in
    let item : g.T.WalkedToken.Seen × Option (List ℕ) =
    (seen c.in_ok-token.token, identifier_at c.args.view.now position) in
    let located = ap (option_and_then (λ (found : List ℕ × ℕ). token_at_start (drop found.1 found.0)))
    (c.next_cursor-cursor.ensures.value ∙ ap (position_in c.args.view.now) c.generated_position-line.ensures) in
    let named = c.is_named.ensures ∙ ap (is_text (codes "function")) (identifier_at_cursor (λ s. s.line.now) (λ s.
    reached_offset c.generated_position-line.result.1 s.at.offset s.at.units) c.next_cursor-cursor.result ∙ located) in
    let left : items (tokens c.loop-passed.left) ≡ item ∷ items (tokens c.previous-left.result) =
    ap (λ o. items (tokens o)) c.in_ok-token.was ∙ ap (λ ts. item
    ∷ items ts) (tokens_before seen g.T.WalkedToken.before c.previous-left.result _ c.previous-left.ensures) in
    found_after-fired c.args.name.now (option_map seen c.loop-passed.called) item _ _ (128 - c.loop-passed._passed) _
    (omega arith) left
    (some_seen seen c.loop-passed.called (sym c.is_some.ensures ∙ c.if-is_some.true))
    (sym named ∙ c.if-is_named.true) c.loop-passed.invariant.found

pub loop-passed-preserved : goal.loop-passed-preserved
loop-passed-preserved g c =
    let seen = g.T.WalkedToken.seen in
    let tokens = tokens_from seen g.T.WalkedToken.before in
    let items = walked g.T.WalkedToken.position_value c.args.view.now in
    let position = g.T.WalkedToken.position_value (seen c.in_ok-token.token) in
    let item : g.T.WalkedToken.Seen × Option (List ℕ) =
    (seen c.in_ok-token.token, identifier_at c.args.view.now position) in
    let located = ap (option_and_then (λ (found : List ℕ × ℕ). token_at_start (drop found.1 found.0)))
    (c.next_cursor-cursor.ensures.value ∙ ap (position_in c.args.view.now) c.generated_position-line.ensures) in
    let is = identifier_at_cursor (λ s. s.line.now) (λ s.
    reached_offset c.generated_position-line.result.1 s.at.offset s.at.units) c.next_cursor-cursor.result ∙ located in
    let left : items (tokens c.loop-passed.left) ≡ item ∷ items (tokens c.previous-left.result) =
    ap (λ o. items (tokens o)) c.in_ok-token.was ∙ ap (λ ts. item
    ∷ items ts) (tokens_before seen g.T.WalkedToken.before c.previous-left.result _ c.previous-left.ensures) in
    let other : (option_map seen c.loop-passed.called ≡ None) ⊎ (is_text (codes "function") item.1 ≡ false) =
    elim c.else-is_some.branch [
      | else-is_some-via-then-is_some+else-is_named w ↦
          inr (sym (w.is_named.ensures ∙ ap (is_text (codes "function")) is) ∙ w.if-is_named.false)
      | else-is_some-via-else-is_some w ↦
          inl (none_seen seen c.loop-passed.called (sym c.is_some.ensures ∙ w.if-is_some.false))
    ] in
    let named = c.is_named-in-loop-passed.ensures ∙ ap (is_text c.args.name.now) is in
    let called : cond (is_text c.args.name.now item.1) (Some item.0) None ≡ option_map seen c.if-is_named-2.called =
    elim c.if-is_named-2.branch [
      | then-is_named-2 w ↦ (let e = sym named ∙ w.if-is_named-2.true in rw e (sym (ap (option_map seen) w.called-is)))
      | else-is_named-2 w ↦ (let e = sym named ∙ w.if-is_named-2.false in rw e (sym (ap (option_map seen) w.called-is)))
    ] in
    let fewer : 128 - c.loop-passed._passed - 1 ≡ 128 - (c.loop-passed._passed + 1) = omega arith in
    let due = function_token c.args.name.now (take 128 (items (tokens (Some c.args.token)))) in
    let passed = found_after-passed c.args.name.now (option_map seen c.loop-passed.called) item _ _ (128
    - c.loop-passed._passed) due (omega arith) left other c.loop-passed.invariant.found in
    record {
      found = subst₂ (λ token n. found_after c.args.name.now token (take n (items (tokens c.previous-left.result)))
          ≡ due) called fewer passed;
      kept = c.next_cursor-cursor.ensures.kept;
    }

pub returns : goal.returns
returns g c =
    let seen = g.T.WalkedToken.seen in
    let items = walked g.T.WalkedToken.position_value c.args.view.now in
    let none : 0 ≡ 128 - c.loop-passed._passed = omega arith in
    sym (found_after-none c.args.name.now (option_map seen c.loop-passed.called))
    ∙ ap (λ n. found_after c.args.name.now (option_map seen c.loop-passed.called)
    (take n (items (tokens_from seen g.T.WalkedToken.before c.loop-passed.left)))) none
    ∙ c.loop-passed.invariant.found
