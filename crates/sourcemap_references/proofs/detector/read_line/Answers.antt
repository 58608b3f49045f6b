use Rattle.std.proofs.Common.{arith}
use Rattle.std.proofs.lemmas.Bool.Decides.{nat_tests}
use Rattle.sourcemap_references.proofs.ReadingLemmas.{reads_line, reads_none}
use Rattle.sourcemap_references.proofs.detector.read_line.Goals as goal

pub returns-then-is_empty : goal.returns-then-is_empty
returns-then-is_empty g c =
    reads_none _ _ _ c.clear.ensures.items c.in_ok-read_until.ensures.bytes
    (let is = c.if-is_empty.ensures in let fits = c.read_until.new.buf.ok.0 in grind (arith, nat_tests))

pub returns : goal.returns
returns g c =
    reads_line _ _ _ _ _ c.clear.ensures.items c.in_ok-read_until.ensures.bytes c.in_ok-read_until.ensures.rest
    (let is = c.if-is_empty.ensures in let fits = c.read_until.new.buf.ok.0 in
    grind (arith, nat_tests)) c.strip_newline.ensures
