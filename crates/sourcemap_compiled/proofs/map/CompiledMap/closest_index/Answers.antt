use Rattle.std.proofs.Common.{◌≡◌, ◌<◌, ◌-◌, sym, subst, ◌∙◌, inl, inr, arith}
use Rattle.std.proofs.lemmas.Bool.{cases_eq}
use Rattle.sourcemap_compiled.specs.Lookup.{IsFirstAt}
use Rattle.sourcemap_compiled.proofs.LookupLemmas.{found_at, found_before, found_none, near_back, near_hit}
use Rattle.sourcemap_compiled.proofs.map.CompiledMap.closest_index.Goals as goal
use Rattle.sourcemap_compiled.proofs.map.CompiledMap.closest_index.Goals.{then-found-token_count+else-found-position}
use Rattle.sourcemap_compiled.proofs.map.CompiledMap.closest_index.Goals.{else-found-token_count}

pub returns-then-found-position-clause-closest : goal.returns-then-found-position-clause-closest
returns-then-found-position-clause-closest c up =
    let bytes = c.args.self.now.bytes.now in
    let first = subst (λ q. IsFirstAt bytes q c.search-found.result.index) c.position_number-position.ensures
    c.search-found.ensures.index in
    found_at bytes (c.args.line, c.args.column) c.search-found.result.index up (omega arith) first (omega arith)
    (near_hit (c.search-found.ensures.next (omega arith)) c.if-found-position.true ∙ c.position_number-position.ensures)

pub returns-in_default-clause-closest : goal.returns-in_default-clause-closest
returns-in_default-clause-closest c up =
    let bytes = c.args.self.now.bytes.now in
    let index = c.search-found.result.index in
    let first = subst (λ q. IsFirstAt bytes q index) c.position_number-position.ensures c.search-found.ensures.index in
    let front : index ≡ 0 = elim (cases_eq index 0) [
      | inl here ↦ here
      | inr later ↦ absurd (c.in_default.ensures (omega arith))
    ] in
    found_none bytes (c.args.line, c.args.column) index up (omega arith) first front
    (λ l same. elim c.if-found-token_count.branch [
      | then-found-token_count+else-found-position w ↦
          w.if-found-position.false
          (near_back (c.search-found.ensures.next l) (same ∙ sym c.position_number-position.ensures))
      | else-found-token_count w ↦ absurd (omega arith)
    ])

pub returns-clause-closest : goal.returns-clause-closest
returns-clause-closest c up =
    let bytes = c.args.self.now.bytes.now in
    let index = c.search-found.result.index in
    let first = subst (λ q. IsFirstAt bytes q index) c.position_number-position.ensures c.search-found.ensures.index in
    let some : 0 < index = omega (arith, c.in-Some.ensures) in
    let found = found_before bytes (c.args.line, c.args.column) index up (omega arith) first some
    (λ l same. elim c.if-found-token_count.branch [
      | then-found-token_count+else-found-position w ↦
          w.if-found-position.false
          (near_back (c.search-found.ensures.next l) (same ∙ sym c.position_number-position.ensures))
      | else-found-token_count w ↦ absurd (omega arith)
    ]) in
    let back : c.in-Some.index ≡ index - 1 = omega (arith, c.in-Some.ensures) in
    rw back found
