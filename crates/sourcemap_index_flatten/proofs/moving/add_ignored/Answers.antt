use Rattle.std.proofs.Common.{false, sym, ap, ◌∙◌, get_or}
use Rattle.std.specs.BTreeSet.{insert_key}
use Rattle.std.specs.Ordering.{nat_cmp}
use Rattle.sourcemap_tokens.specs.declared.tokens.RawToken.{RawToken}
use Rattle.sourcemap_index_flatten.proofs.MovingLemmas.{listed-none, listed-more, listed-same, same_test}
use Rattle.sourcemap_index_flatten.proofs.moving.add_ignored.Goals as goal
use Rattle.sourcemap_index_flatten.proofs.moving.add_ignored.Goals.{then-contains+in_ok-insert, else-contains}

pub returns-then-is_empty-clause-ok : goal.returns-then-is_empty-clause-ok
returns-then-is_empty-clause-ok c =
    listed-none c.args.ignored.now.keys c.args.sources.now c.args.all.now.keys c.args.tokens.now
    (c.is_empty.ensures.0 c.if-is_empty.true)

pub loop-token-preserved : goal.loop-token-preserved
loop-token-preserved c =
    let i = c.loop-token.token-index in
    let none : RawToken =
    record { dst_line = 0; dst_col = 0; src_line = 0; src_col = 0; src_id = 0; name_id = 0; is_range = false } in
    let t : RawToken = get_or c.args.tokens.now i none in
    let tested = c.contains.ensures ∙ same_test t.src_id c.args.ignored.now.keys in
    elim c.if-contains.branch [
      | then-contains+in_ok-insert w ↦
          ap (λ set. set.keys) w.all-is ∙ w.in_ok-insert.ensures.keys
          ∙ ap (insert_key nat_cmp c.loop-token.all.keys) w.new_number.ensures
          ∙ listed-more c.args.ignored.now.keys c.args.sources.now c.args.tokens.now i none c.loop-token-test.true
          c.args.all.now.keys c.loop-token.all.keys c.loop-token.invariant (sym tested ∙ w.if-contains.true)
      | else-contains w ↦
          ap (λ set. set.keys) w.all-is
          ∙ listed-same c.args.ignored.now.keys c.args.sources.now c.args.tokens.now i none c.loop-token-test.true
          c.args.all.now.keys c.loop-token.all.keys c.loop-token.invariant (sym tested ∙ w.if-contains.false)
    ]
