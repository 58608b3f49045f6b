use Rattle.std.proofs.Common.{◌≡◌, ◌+◌, ◌++◌, ◌<◌, length, take, drop, sym, ap, subst, arith}
use Rattle.std.proofs.lemmas.Str.{length-encode, len_utf8_bounds}
use Rattle.sourcemap_json_read.specs.Strings.{IsDecodedBetween}
use Rattle.sourcemap_json_read.proofs.ReadLemmas.{added_read}
use Rattle.sourcemap_json_read.proofs.escapes.store_unicode.Goals as goal

pub returns-clause-read : goal.returns-clause-read
returns-clause-read c =
    let text = c.args.text.now in
    let at = c.args.at in
    let next = c.in_ok-character.next in
    let encoded = c.encode_utf8-encoded in
    let front = take c.args.to c.args.buffer.now in
    let decodes : IsDecodedBetween (drop at text) encoded.result.now (drop next text) = subst (λ bytes. IsDecodedBetween
    (drop at text) bytes (drop next text)) (sym encoded.ensures.value) c.in_ok-character.ensures.decodes in
    let put : take (c.args.to + length encoded.result.now) c.store_bytes.new.buffer ≡ front ++ encoded.result.now =
    rw c.as_bytes.ensures.value at c.store_bytes.ensures.bytes in
    let some : 0 < length encoded.result.now = omega (
      arith,
      ap length encoded.ensures.value,
      length-encode c.in_ok-character.character,
      (len_utf8_bounds c.in_ok-character.character).0,
    ) in
    added_read front _ encoded.result.now text at next encoded.utf8 some decodes c.in_ok-character.ensures.utf8 put
