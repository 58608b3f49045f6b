use Rattle.std.proofs.Common.{◌++◌, ap, codes, decimal, arith, rules, subst, sym, ◌∙◌}
use Rattle.std.specs.Str.{IsUtf8}
use Rattle.std.proofs.lemmas.Fmt.{length-decimal-le}
use Rattle.sourcemap_map_regular.proofs.TokenLemmas.{position_written, position_text_utf8}
use Rattle.sourcemap_map_regular.proofs.token.position_text.Goals as goal

pub write_digits-start-requires : goal.write_digits-start-requires
write_digits-start-requires c = search (rules, length-decimal-le 10)

pub overflow_sub-start : goal.overflow_sub-start
overflow_sub-start c =
    let short = length-decimal-le 10 c.from.result (omega arith) (omega arith) (omega arith) in
    omega arith

pub write_digits-start-requires-2 : goal.write_digits-start-requires-2
write_digits-start-requires-2 c =
    let short = length-decimal-le 10 c.from.result (omega arith) (omega arith) (omega arith) in
    let other = length-decimal-le 10 c.from-2.result (omega arith) (omega arith) (omega arith) in
    (omega arith, omega arith)

pub overflow_sub-start-2 : goal.overflow_sub-start-2
overflow_sub-start-2 c =
    let short = length-decimal-le 10 c.from.result (omega arith) (omega arith) (omega arith) in
    let other = length-decimal-le 10 c.from-2.result (omega arith) (omega arith) (omega arith) in
    omega arith

pub from_utf8_unchecked-requires : goal.from_utf8_unchecked-requires
from_utf8_unchecked-requires c =
    let short = length-decimal-le 10 c.from.result (omega arith) (omega arith) (omega arith) in
    let other = length-decimal-le 10 c.from-2.result (omega arith) (omega arith) (omega arith) in
    let resolved = position_written c.args.buffer.now c.write_digits-start.new.buf c.write_digits-start-2.new.buf 22
    c.from-2.result c.from.result
    c.write_digits-start.result c.write_digits-start-2.result (omega arith) (omega arith) (omega arith) (omega arith)
    (search rules) (search rules)
    (search rules) c.write_digits-start.ensures.written c.write_digits-start-2.ensures.written in
    subst (λ bs. IsUtf8 bs) (sym resolved)
    (position_text_utf8 c.from-2.result c.from.result (omega arith) (omega arith))

pub returns : goal.returns
returns c =
    let short = length-decimal-le 10 c.from.result (omega arith) (omega arith) (omega arith) in
    let other = length-decimal-le 10 c.from-2.result (omega arith) (omega arith) (omega arith) in
    let resolved = position_written c.args.buffer.now c.write_digits-start.new.buf c.write_digits-start-2.new.buf 22
    c.from-2.result c.from.result
    c.write_digits-start.result c.write_digits-start-2.result (omega arith) (omega arith) (omega arith) (omega arith)
    (search rules) (search rules)
    (search rules) c.write_digits-start.ensures.written c.write_digits-start-2.ensures.written in
    c.from_utf8_unchecked.ensures ∙ resolved
    ∙ ap (λ n. codes ":" ++ decimal n ++ codes ":" ++ decimal c.from.result) c.from-2.ensures
    ∙ ap (λ n. codes ":" ++ decimal c.args.line ++ codes ":" ++ decimal n) c.from.ensures
