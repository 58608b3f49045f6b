use Rattle.std.proofs.Common.{◌+◌, sym, ◌∙◌, arith}
use Rattle.sourcemap_json_read.specs.Strings.{IsUtf8UpTo}
use Rattle.sourcemap_json_read.proofs.Tokens.{IsStringAt, key_at, string_at}
use Rattle.sourcemap_json_read.proofs.Heads.{head_inside, head_passed}
use Rattle.sourcemap_json_read.proofs.Utf8Lemmas.{ascii_passed}
use Rattle.sourcemap_json_read.proofs.cursor.read_string_step.Goals as goal

pub read_string-requires : goal.read_string-requires
read_string-requires c = omega (arith, head_inside c.args.text.now c.args.position.at (omega (arith, c.requires)))

pub returns-then-byte_at-eq58-clause-is_step : goal.returns-then-byte_at-eq58-clause-is_step
returns-then-byte_at-eq58-clause-is_step c =
    let d = c.args.text.now in
    let position = c.args.position in
    let decoded = c.in_ok-found.ensures.content in
    let is : IsStringAt d position decoded.0 c.skip_space-at.result = record {
      opens = c.requires;
      may = cc;
      found = decoded.1;
      after = c.skip_space-at.ensures.same ∙ sym c.in_ok-found.ensures.after;
    } in
    (decoded.0, key_at d position decoded.0 c.skip_space-at.result is (grind arith), decoded.2)

pub returns-then-byte_at-eq58-clause-utf8 : goal.returns-then-byte_at-eq58-clause-utf8
returns-then-byte_at-eq58-clause-utf8 c =
    let d = c.args.text.now in
    let from = c.args.position.at in
    let at = c.skip_space-at.result in
    let quote : IsUtf8UpTo d from (from + 1) =
    head_passed d from (omega (arith, c.requires)) (omega (arith, c.requires)) in
    let colon : IsUtf8UpTo d at (at + 1) = ascii_passed d at (grind arith) (grind arith) in
    λ rest. quote (c.in_ok-found.ensures.utf8 (c.skip_space-at.ensures.utf8 (colon rest)))

pub returns-clause-is_step : goal.returns-clause-is_step
returns-clause-is_step c =
    let d = c.args.text.now in
    let position = c.args.position in
    let decoded = c.in_ok-found.ensures.content in
    let is : IsStringAt d position decoded.0 c.skip_space-at.result = record {
      opens = c.requires;
      may = cc;
      found = decoded.1;
      after = c.skip_space-at.ensures.same ∙ sym c.in_ok-found.ensures.after;
    } in (
      decoded.0,
      string_at d position decoded.0 c.skip_space-at.result is c.skip_space-at.ensures.passed (grind arith),
      decoded.2,
    )

pub returns-clause-utf8 : goal.returns-clause-utf8
returns-clause-utf8 c =
    let d = c.args.text.now in
    let from = c.args.position.at in
    let quote : IsUtf8UpTo d from (from + 1) =
    head_passed d from (omega (arith, c.requires)) (omega (arith, c.requires)) in
    λ rest. quote (c.in_ok-found.ensures.utf8 (c.skip_space-at.ensures.utf8 rest))
