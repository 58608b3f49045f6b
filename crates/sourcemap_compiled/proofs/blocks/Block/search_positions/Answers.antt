use Rattle.std.proofs.Common.{◌≡◌, ◌⊎◌, ℕ, ◌≤◌, ◌<◌, ◌+◌, ◌-◌, ◌*◌, ◌/◌, ◌^◌, ◌∙◌, Bool, true, false}
use Rattle.std.proofs.Common.{IsTrue, refl, sym, subst, inl, inr, arith}
use Rattle.std.proofs.lemmas.Bool.{cases_lt, true≢false}
use Rattle.sourcemap_compiled.specs.Blocks.{position_in}
use Rattle.sourcemap_compiled.specs.Stored.{IsNear}
use Rattle.sourcemap_compiled.proofs.BlocksLemmas.{half_of_rest, odd_rest}
use Rattle.sourcemap_compiled.proofs.blocks.Block.search_positions.Goals as goal

-- a place that is looked at has a token
has_token : (whole : Bool) (place size : ℕ) → (IsTrue whole → size ≡ 64) → place < 64
    → (whole ≡ true) ⊎ ((whole ≡ false) × (place < size)) → place < size
has_token whole place size all less (inl is) = let same : size ≡ 64 = all is in omega arith
has_token whole place size all less (inr tested) = tested.1

not_before : (is_before : Bool) (near position : ℕ) → is_before ≡ false → (near < position → IsTrue is_before)
    → position ≤ near
not_before is_before near position later before = elim (cases_lt near position) [
  | inl less ↦ absurd (true≢false (sym (before less) ∙ later))
  | inr from ↦ from
]

pub loop-rest-init : goal.loop-rest-init
loop-rest-init c = record {
  halves = (6, refl);
  room = omega arith;
  within = let some : 0 < c.args.size = c.requires.some in omega arith;
  later = omega arith;
  first = λ one. refl;
  ahead = λ more. absurd (omega arith);
  next = λ less. let few : c.args.size ≤ 64 = c.requires.few in absurd (omega arith);
  end = λ all. refl;
  before = c.requires.starts;
  from = λ less. let few : c.args.size ≤ 64 = c.requires.few in absurd (omega arith);
}

pub loop-rest-preserved-then-here : goal.loop-rest-preserved-then-here
loop-rest-preserved-then-here c =
    let l = c.loop-rest in
    let is = c.loop-rest.invariant in
    let middle : ℕ = l.index + l.rest / 2 in
    let odd : l.rest ≡ 2 * (l.rest / 2) + 1 = odd_rest l.rest is.halves c.loop-rest-test.true in
    let room : l.index + l.rest ≤ 64 = is.room in
    let inside : middle < c.args.size =
    has_token c.args.whole middle c.args.size c.requires.whole (omega arith) c.then-whole.either in
    let high : l.index + l.rest ≡ middle + 1 + l.rest / 2 = omega arith in
    let back : middle ≡ middle + 1 - 1 = omega arith in
    record {
      halves = half_of_rest l.rest is.halves c.loop-rest-test.true;
      room = omega arith;
      within = omega arith;
      later = omega arith;
      first = λ one. let later : 0 < l.index = is.later in absurd (omega arith);
      ahead = λ more. subst (λ k. IsNear (position_in c.args.self.now.bytes.now (c.args.self.now.start / 2 ^ 32)
          c.args.self.now.head k) (c.args.position / 2 ^ 32) c.near-here.result.position) back
          (subst (λ p. IsNear p (c.args.position / 2 ^ 32) c.near-here.result.position) (c.requires.positions middle)
          c.near-here.ensures.near);
      next = λ less. subst (λ k. IsNear (position_in c.args.self.now.bytes.now (c.args.self.now.start / 2 ^ 32)
          c.args.self.now.head k) (c.args.position / 2 ^ 32) l.next) high (is.next (omega arith));
      end = λ all. is.end (omega arith);
      before = c.near-here.ensures.before.0 c.if-here.true;
      from = λ less. is.from (omega arith);
    }

pub loop-rest-preserved-else-here : goal.loop-rest-preserved-else-here
loop-rest-preserved-else-here c =
    let l = c.loop-rest in
    let is = c.loop-rest.invariant in
    let middle : ℕ = l.index + l.rest / 2 in
    let odd : l.rest ≡ 2 * (l.rest / 2) + 1 = odd_rest l.rest is.halves c.loop-rest-test.true in
    let room : l.index + l.rest ≤ 64 = is.room in
    let inside : middle < c.args.size =
    has_token c.args.whole middle c.args.size c.requires.whole (omega arith) c.then-whole.either in
    record {
      halves = half_of_rest l.rest is.halves c.loop-rest-test.true;
      room = omega arith;
      within = is.within;
      later = is.later;
      first = is.first;
      ahead = is.ahead;
      next = λ less. subst (λ p. IsNear p (c.args.position / 2 ^ 32) c.near-here.result.position)
          (c.requires.positions middle) c.near-here.ensures.near;
      end = λ all. absurd (omega arith);
      before = is.before;
      from = λ less. not_before c.near-here.result.is_before c.near-here.result.position c.args.position
          c.if-here.false c.near-here.ensures.before.1;
    }

pub loop-rest-preserved : goal.loop-rest-preserved
loop-rest-preserved c =
    let l = c.loop-rest in
    let is = c.loop-rest.invariant in
    let odd : l.rest ≡ 2 * (l.rest / 2) + 1 = odd_rest l.rest is.halves c.loop-rest-test.true in
    let room : l.index + l.rest ≤ 64 = is.room in
    let past : c.args.size ≤ l.index + l.rest / 2 = c.if-middle-size.false in
    record {
      halves = half_of_rest l.rest is.halves c.loop-rest-test.true;
      room = omega arith;
      within = is.within;
      later = is.later;
      first = is.first;
      ahead = is.ahead;
      next = λ less. absurd (omega arith);
      end = λ all. is.end (omega arith);
      before = is.before;
      from = λ less. absurd (omega arith);
    }
