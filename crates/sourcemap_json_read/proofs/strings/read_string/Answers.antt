use Rattle.std.proofs.Common.{◌≡◌, ◌+◌, length, get_or}
use Rattle.sourcemap_json_read.proofs.StringLemmas.{quote_ends}
use Rattle.sourcemap_json_read.proofs.Utf8Lemmas.{utf8_on}
use Rattle.sourcemap_json_read.proofs.strings.read_string.Goals as goal

pub returns-then-byte_at-eq34-clause-content : goal.returns-then-byte_at-eq34-clause-content
returns-then-byte_at-eq34-clause-content c =
    let text = c.args.text.now in
    let run = c.bare_run-run in
    let end = c.args.start + length run.result.now in
    let quoted : get_or text end 32 ≡ 34 = cc in (
      run.result.now,
      (quote_ends text run.result.now c.args.start end run.ensures.decodes quoted).0,
      c.in_ok-kept_string.ensures,
    )

pub returns-then-byte_at-eq34-clause-after : goal.returns-then-byte_at-eq34-clause-after
returns-then-byte_at-eq34-clause-after c =
    let text = c.args.text.now in
    let run = c.bare_run-run in
    let end = c.args.start + length run.result.now in
    let quoted : get_or text end 32 ≡ 34 = cc in
    (quote_ends text run.result.now c.args.start end run.ensures.decodes quoted).1

pub returns-then-byte_at-eq34-clause-utf8 : goal.returns-then-byte_at-eq34-clause-utf8
returns-then-byte_at-eq34-clause-utf8 c =
    let text = c.args.text.now in
    let run = c.bare_run-run in
    let end = c.args.start + length run.result.now in
    let quoted : get_or text end 32 ≡ 34 = cc in
    utf8_on text c.args.start end (end + 1) run.ensures.utf8
    (quote_ends text run.result.now c.args.start end run.ensures.decodes quoted).2
