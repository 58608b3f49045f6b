use Rattle.std.proofs.Common.{subst, length}
use Rattle.std.proofs.lemmas.List.{take_rest}
use Rattle.memchr.specs.Find.{NoneBefore, Nowhere, Passes, is_byte}
use Rattle.sourcemap_references.proofs.LineLemmas.{ends_at_newline, ends_with_text}
use Rattle.sourcemap_references.proofs.lines.line_end.Goals as goal

pub returns-in-Some : goal.returns-in-Some
returns-in-Some c =
    let found = subst (λ xs. NoneBefore (Passes (is_byte 10) xs) 0 (length xs) c.in-Some.length
    × Passes (is_byte 10) xs c.in-Some.length)
    (take_rest c.args.bytes.now c.args.start) c.in-Some.ensures in
    ends_at_newline c.args.bytes.now c.args.start c.in-Some.length c.requires found.0 found.1

pub returns-in-None : goal.returns-in-None
returns-in-None c =
    ends_with_text c.args.bytes.now c.args.start c.requires
    (subst (λ xs. Nowhere (Passes (is_byte 10) xs) 0 (length xs))
    (take_rest c.args.bytes.now c.args.start) c.in-None.ensures)
