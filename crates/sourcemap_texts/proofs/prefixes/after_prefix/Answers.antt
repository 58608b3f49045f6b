use Rattle.std.proofs.Common.{true, false, refl, codes}
use Rattle.std.proofs.lemmas.Str.Pattern.{ends_text}
use Rattle.sourcemap_texts.proofs.PrefixesLemmas.{strips, stripped-with_slash}
use Rattle.sourcemap_texts.proofs.prefixes.after_prefix.Goals as goal

pub returns-in_err-rest : goal.returns-in_err-rest
returns-in_err-rest c =
    let cut = strips c.args.prefix.now c.args.text.now c.strip_prefix.result c.strip_prefix.ensures.cases in
    rw (stripped-with_slash c.args.prefix.now c.args.text.now, ← cut, c.in_err-rest.was, c.from_residual.ensures) refl

pub returns-then-ends_with : goal.returns-then-ends_with
returns-then-ends_with c =
    let cut = strips c.args.prefix.now c.args.text.now c.strip_prefix.result c.strip_prefix.ensures.cases in
    let ends = ends_text true (codes "/") c.args.prefix.now (rw c.if-ends_with.true at c.ends_with.ensures.cases) in
    rw (stripped-with_slash c.args.prefix.now c.args.text.now, ← cut, ← ends, c.in_ok-rest.was) refl

pub returns : goal.returns
returns c =
    let cut = strips c.args.prefix.now c.args.text.now c.strip_prefix.result c.strip_prefix.ensures.cases in
    let ends = ends_text false (codes "/") c.args.prefix.now (rw c.if-ends_with.false at c.ends_with.ensures.cases) in
    let slash = strips (codes "/") c.in_ok-rest.rest.now c.strip_prefix-2.result c.strip_prefix-2.ensures.cases in
    rw (stripped-with_slash c.args.prefix.now c.args.text.now, ← cut, ← ends, c.in_ok-rest.was) slash
