use Rattle.std.proofs.Common.{◌≡◌, take, get_or, Some, sym, ap, ◌∙◌, subst, arith}
use Rattle.std.specs.Str.{IsUtf8}
use Rattle.sourcemap_json_read.proofs.ReadLemmas.{front_kept, string_ends}
use Rattle.sourcemap_json_read.proofs.strings.unescape.Goals as goal

pub returns-then-byte_at-eq34-clause-content : goal.returns-then-byte_at-eq34-clause-content
returns-then-byte_at-eq34-clause-content c =
    let text = c.args.text.now in
    let l = c.loop-buffer in
    let f = c.fill-so_far in
    let quoted : get_or text f.result.1 32 ≡ 34 = cc in
    let front = ap (take l.to) c.as_mut_slice.ensures.value ∙ c.in_ok-extend_with_zeros.ensures.kept in
    let ends = string_ends text (take l.to l.buffer.items) _
    (take f.result.0 f.new.buffer) c.args.start l.at f.result.1 l.invariant.2 front f.ensures.read quoted in
    let kept = front_kept f.result.0 c.extend_with_zeros.new.buffer.len f.new.buffer
    c.extend_with_zeros.new.buffer.items (omega (arith, f.ensures.to_within)) (omega arith) in
    ends.0 ∙ ap Some (sym kept)

pub returns-then-byte_at-eq34-clause-utf8 : goal.returns-then-byte_at-eq34-clause-utf8
returns-then-byte_at-eq34-clause-utf8 c =
    let text = c.args.text.now in
    let l = c.loop-buffer in
    let f = c.fill-so_far in
    let quoted : get_or text f.result.1 32 ≡ 34 = cc in
    let front = ap (take l.to) c.as_mut_slice.ensures.value ∙ c.in_ok-extend_with_zeros.ensures.kept in
    let ends = string_ends text (take l.to l.buffer.items) _
    (take f.result.0 f.new.buffer) c.args.start l.at f.result.1 l.invariant.2 front f.ensures.read quoted in
    let kept = front_kept f.result.0 c.extend_with_zeros.new.buffer.len f.new.buffer
    c.extend_with_zeros.new.buffer.items (omega (arith, f.ensures.to_within)) (omega arith) in
    λ decoded_is. ends.2 (subst IsUtf8 kept decoded_is)

pub returns-then-byte_at-eq34-clause-after : goal.returns-then-byte_at-eq34-clause-after
returns-then-byte_at-eq34-clause-after c =
    let text = c.args.text.now in
    let l = c.loop-buffer in
    let f = c.fill-so_far in
    let quoted : get_or text f.result.1 32 ≡ 34 = cc in
    let front = ap (take l.to) c.as_mut_slice.ensures.value ∙ c.in_ok-extend_with_zeros.ensures.kept in
    (string_ends text (take l.to l.buffer.items) _
    (take f.result.0 f.new.buffer) c.args.start l.at f.result.1 l.invariant.2 front f.ensures.read quoted).1
