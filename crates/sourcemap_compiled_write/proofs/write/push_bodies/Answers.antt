use Rattle.std.proofs.Common.{◌≡◌, ◌∙◌, ◌+◌, ◌<◌, ◌≤◌, ◌^◌, [], List, ℕ, ap, length, length-append, subst, sym}
use Rattle.std.proofs.Common.{rules, slice_index, arith}
use Rattle.sourcemap_tokens.specs.declared.tokens.RawToken.{RawToken}
use Rattle.sourcemap_compiled_write.specs.Blocks.{block_of, body_bytes, head_bytes, start_bytes}
use Rattle.sourcemap_compiled_write.specs.File.{blocks_of, bodies_of, body_offset}
use Rattle.sourcemap_compiled_write.specs.Packing.{token_values}
use Rattle.sourcemap_compiled_write.specs.Stored.{parts_value}
use Rattle.sourcemap_compiled_write.proofs.BlockLemmas.{length-block_of}
use Rattle.sourcemap_compiled_write.proofs.StandsLemmas.{length-pieces-le, pieces-none, pieces_start, pieces_step}
use Rattle.sourcemap_compiled_write.proofs.WriteLemmas.{small_more}
use Rattle.sourcemap_compiled_write.proofs.write.push_bodies.Goals as goal

pub loop-block-init : goal.loop-block-init
loop-block-init c =
    let p = parts_value c.args.parts.now in
    record {
      bodies = pieces_start c.args.out.now.items
          (λ k. body_bytes (block_of p.tokens k) (block_of p.scopes k));
      starts = c.requires.starts ∙ sym (pieces-none (λ k. start_bytes (block_of p.tokens k)));
      heads = c.requires.heads
          ∙ sym (pieces-none (λ k. head_bytes (body_offset p k) (block_of p.tokens k) (block_of p.scopes k)));
      room = let header = c.requires.header in let room = c.requires.room in omega arith;
      small = λ field k l m. absurd (omega arith);
    }

pub push_block-requires-clause-few : goal.push_block-requires-clause-few
push_block-requires-clause-few c =
    let many = ap (λ (ts : List RawToken). length ts) c.block_of-tokens.ensures
    ∙ length-block_of c.args.parts.now.tokens.now c.loop-block.block in
    omega arith

pub push_block-requires-clause-few_scopes : goal.push_block-requires-clause-few_scopes
push_block-requires-clause-few_scopes c =
    let many = ap (λ (ss : List ℕ). length ss) c.block_of.ensures
    ∙ length-block_of c.args.parts.now.scopes.now c.loop-block.block in
    omega arith

pub returns-then-len-rest-ge-LIMIT-clause-refused : goal.returns-then-len-rest-ge-LIMIT-clause-refused
returns-then-len-rest-ge-LIMIT-clause-refused c same =
    let p = parts_value c.args.parts.now in
    let b = c.loop-block.block in
    let body : ℕ → List ℕ = λ k. body_bytes (block_of p.tokens k) (block_of p.scopes k) in
    let bodies = pieces_step c.args.out.now.items body b c.loop-block.out.items
    (body_bytes c.block_of-tokens.result.now c.block_of.result.now) c.push_block.new.out.items
    c.in_ok-push_block.ensures.body c.loop-block.invariant.bodies
    (ap (λ (ts : List RawToken). body_bytes ts c.block_of.result.now) c.block_of-tokens.ensures
    ∙ ap (body_bytes (block_of p.tokens b)) c.block_of.ensures) in
    let long = ap length bodies ∙ length-append c.args.out.now.items (bodies_of p (b + 1)) in
    let blocks : b + 1 ≤ blocks_of p = omega arith in
    let all = length-pieces-le body (b + 1) (blocks_of p) blocks in
    let header = c.requires.header in
    let past = c.if-len-rest-ge-LIMIT.true in
    let len : c.len.result ≡ length c.push_block.new.out.items = first_of (omega arith, search rules) in
    omega arith

pub loop-block-preserved : goal.loop-block-preserved
loop-block-preserved c =
    let p = parts_value c.args.parts.now in
    let b = c.loop-block.block in
    let ts : c.block_of-tokens.result.now ≡ block_of p.tokens b = c.block_of-tokens.ensures in
    let ss : c.block_of.result.now ≡ block_of p.scopes b = c.block_of.ensures in
    let long : length c.loop-block.out.items ≡ body_offset p b =
    ap length c.loop-block.invariant.bodies ∙ length-append c.args.out.now.items (bodies_of p b)
    ∙ ap (λ (n : ℕ). n + length (bodies_of p b)) c.requires.header in
    record {
      bodies = pieces_step c.args.out.now.items (λ k. body_bytes (block_of p.tokens k) (block_of p.scopes k)) b
          c.loop-block.out.items (body_bytes c.block_of-tokens.result.now c.block_of.result.now)
          c.push_block.new.out.items c.in_ok-push_block.ensures.body c.loop-block.invariant.bodies
          (ap (λ (l : List RawToken). body_bytes l c.block_of.result.now) ts
          ∙ ap (body_bytes (block_of p.tokens b)) ss);
      starts = pieces_step [] (λ k. start_bytes (block_of p.tokens k)) b c.loop-block.starts.items
          (start_bytes c.block_of-tokens.result.now) c.push_start.new.starts.items c.in_ok-push_start.ensures
          c.loop-block.invariant.starts (ap start_bytes ts);
      heads = pieces_step [] (λ k. head_bytes (body_offset p k) (block_of p.tokens k) (block_of p.scopes k)) b
          c.loop-block.heads.items
          (head_bytes (length c.loop-block.out.items) c.block_of-tokens.result.now c.block_of.result.now)
          c.push_block.new.heads.items c.in_ok-push_block.ensures.head c.loop-block.invariant.heads
          (ap (λ (n : ℕ). head_bytes n c.block_of-tokens.result.now c.block_of.result.now) long
          ∙ ap (λ (l : List RawToken). head_bytes (body_offset p b) l c.block_of.result.now) ts
          ∙ ap (head_bytes (body_offset p b) (block_of p.tokens b)) ss);
      room =
          let len : c.len.result ≡ length c.push_block.new.out.items = first_of (omega arith, search rules) in
          let below = c.if-len-rest-ge-LIMIT.false in
          omega arith;
      small = small_more p.tokens b c.loop-block.invariant.small
          (λ field k l. subst (λ (xs : List RawToken). slice_index (token_values xs field) k < 2 ^ 32) ts
          (c.in_ok-push_block.ensures.small field k l));
    }
