use Rattle.std.proofs.Common.{◌≡◌, get_or, rules, false}
use Rattle.std.proofs.lemmas.List.{get_or_default}
use Rattle.sourcemap_tokens.specs.declared.tokens.RawToken.{RawToken}
use Rattle.sourcemap_check_lists.specs.Lists.{id_in}
use Rattle.sourcemap_check_lists.proofs.MarkLemmas.{UnusedSoFar-none, UnusedSoFar-set, UnusedSoFar-past, UnusedSoFar-all}
use Rattle.sourcemap_check_lists.proofs.marks.unused_marks.Goals as goal
use Rattle.sourcemap_check_lists.proofs.marks.unused_marks.Goals.{then-id-count, else-id-count}

abbrev no_token : RawToken
no_token = record { dst_line = 0; dst_col = 0; src_line = 0; src_col = 0; src_id = 0; name_id = 0; is_range = false }

pub loop-token-init : goal.loop-token-init
loop-token-init c = UnusedSoFar-none _ _ _ _ (search rules)

pub loop-token-preserved : goal.loop-token-preserved
loop-token-preserved c =
    let i = c.loop-token.token-index in
    let t : RawToken = get_or c.args.tokens.now i no_token in
    let at : t ≡ get_or c.args.tokens.now i t = get_or_default _ i no_token t c.loop-token-test.true in
    let is : c.id_in-id.result ≡ id_in c.args.field t = c.id_in-id.ensures in
    elim c.if-id-count.branch [
      | then-id-count w ↦
          rw w.unused-is
          (UnusedSoFar-set _ _ _ i t _ _ c.loop-token.invariant c.loop-token-test.true at is w.if-id-count.true)
      | else-id-count w ↦
          rw w.unused-is
          (UnusedSoFar-past _ _ _ i t _ _ c.loop-token.invariant c.loop-token-test.true at is w.if-id-count.false)
    ]

pub returns : goal.returns
returns c = record { marks = UnusedSoFar-all _ _ _ _ _ c.loop-token.invariant c.loop-token-test.false; memory = tt }
