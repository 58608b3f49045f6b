use Rattle.std.proofs.Common.{◌≡◌, ◌+◌, drop, sym, ap, ◌∙◌, arith}
use Rattle.std.proofs.lemmas.List.{drop-drop}
use Rattle.json.specs.Word.{head}
use Rattle.json.specs.Lex.{between, lex, after_comma, punctuate}
use Rattle.sourcemap_json_read.proofs.Lexemes.{passes_comma}
use Rattle.sourcemap_json_read.proofs.Utf8Lemmas.{ascii_passed, utf8_on}
use Rattle.sourcemap_json_read.proofs.cursor.skip_comma_at.Goals as goal

pub returns-then-byte_at-eq44-clause-same : goal.returns-then-byte_at-eq44-clause-same
returns-then-byte_at-eq44-clause-same c =
    let d = c.args.text.now in
    let at = c.args.at in
    let first : head (drop at d) ≡ 44 = grind arith in
    ap (punctuate after_comma) (c.skip_space.ensures.same ∙ ap (lex between) (sym (drop-drop 1 at d)))
    ∙ sym (passes_comma (drop at d) first)

pub returns-then-byte_at-eq44-clause-utf8 : goal.returns-then-byte_at-eq44-clause-utf8
returns-then-byte_at-eq44-clause-utf8 c =
    let d = c.args.text.now in
    let at = c.args.at in
    utf8_on d at (at + 1) _ (ascii_passed d at (grind arith) (grind arith)) c.skip_space.ensures.utf8
