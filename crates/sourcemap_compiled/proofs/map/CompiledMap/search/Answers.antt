use Rattle.std.proofs.Common.{◌≡◌, ◌≤◌, ◌<◌, ◌+◌, ◌-◌, ◌/◌, ◌^◌, ◌∙◌, ap, inl, inr, subst, sym, arith}
use Rattle.std.proofs.lemmas.Bool.{cases_eq}
use Rattle.sourcemap_compiled.specs.Blocks.{position_in, start_at}
use Rattle.sourcemap_compiled.specs.Layout.{block_count}
use Rattle.sourcemap_compiled.specs.Stored.{IsNear}
use Rattle.sourcemap_compiled.proofs.LookupLemmas.{ahead_at, by_parts, first_at_front, first_at_place, near_below}
use Rattle.sourcemap_compiled.proofs.LookupLemmas.{near_from, near_same, next_there, position_of-first}
use Rattle.sourcemap_compiled.proofs.map.CompiledMap.search.Goals as goal

pub returns-in_default : goal.returns-in_default
returns-in_default c =
    let bytes = c.args.self.now.bytes.now in
    let front : c.first_block-first_block.result ≡ 0 = elim (cases_eq c.first_block-first_block.result 0) [
      | inl here ↦ here
      | inr later ↦ absurd (c.in_default.ensures (omega arith))
    ] in
    let from : 0 < block_count bytes → c.args.position ≤ start_at bytes 0 = λ some.
    subst (λ k. c.args.position ≤ start_at bytes k) front (c.first_block-first_block.ensures.from (omega arith)) in
    record {
      index = first_at_front bytes c.args.position from;
      ahead = λ l. absurd (omega arith);
      next = λ l. near_same (c.start_or_zero-next.ensures (omega arith) ∙ ap (start_at bytes) front
          ∙ sym (position_of-first bytes 0));
    }

pub returns-clause-index : goal.returns-clause-index
returns-clause-index c =
    let bytes = c.args.self.now.bytes.now in
    let after = c.first_block-first_block.result in
    let part = c.block.ensures in
    let found = c.search-found.result in
    let inside = c.search-found.ensures in
    let here : after - 1 ≡ c.in-Some.block = omega (arith, c.in-Some.ensures) in
    let next : after ≡ c.in-Some.block + 1 = omega (arith, c.in-Some.ensures) in
    let some : 0 < after = omega (arith, c.in-Some.ensures) in
    first_at_place bytes c.args.position c.in-Some.block c.min-size.result found.index
    (let w = c.first_block-first_block.ensures.within in omega arith) (omega arith) inside.within inside.later
    (subst (λ k. start_at bytes k < c.args.position) here (c.first_block-first_block.ensures.before some))
    (λ l. subst (λ k. c.args.position ≤ start_at bytes k) next (c.first_block-first_block.ensures.from (omega arith)))
    (λ l. by_parts (λ x start head. position_in x (start / 2 ^ 32) head (found.index - 1) < c.args.position)
    _ _ _ _ _ _ part.bytes part.start part.head (near_below (inside.ahead l) inside.before))
    (λ l. by_parts (λ x start head. c.args.position ≤ position_in x (start / 2 ^ 32) head found.index)
    _ _ _ _ _ _ part.bytes part.start part.head (near_from (inside.next l) (inside.from l)))

pub returns-clause-ahead : goal.returns-clause-ahead
returns-clause-ahead c l =
    let bytes = c.args.self.now.bytes.now in
    let part = c.block.ensures in
    let found = c.search-found.result in
    let inside = c.search-found.ensures in
    ahead_at bytes c.args.position c.in-Some.block c.min-size.result found.index (omega arith) inside.within inside.later
    found.ahead (λ one. inside.first one ∙ part.start)
    (λ more. by_parts (λ x start head. IsNear (position_in x (start / 2 ^ 32) head (found.index - 1))
    (c.args.position / 2 ^ 32) found.ahead)
    _ _ _ _ _ _ part.bytes part.start part.head (inside.ahead more))

pub returns-clause-next : goal.returns-clause-next
returns-clause-next c l =
    let bytes = c.args.self.now.bytes.now in
    let part = c.block.ensures in
    let found = c.search-found.result in
    let inside = c.search-found.ensures in
    let next : c.first_block-first_block.result ≡ c.in-Some.block + 1 = omega (arith, c.in-Some.ensures) in
    next_there bytes c.args.position c.in-Some.block c.min-size.result found.index (omega arith) inside.within inside.later
    found.next
    (λ less. by_parts (λ x start head. IsNear (position_in x (start / 2 ^ 32) head found.index)
    (c.args.position / 2 ^ 32) found.next)
    _ _ _ _ _ _ part.bytes part.start part.head (inside.next less))
    (λ all there. inside.end all ∙ c.start_or_zero-next.ensures (omega arith) ∙ ap (start_at bytes) next) l
