use Rattle.std.proofs.Common.{sym, ap, subst}
use Rattle.std.proofs.lemmas.Str.{IsUtf8-nil}
use Rattle.std.specs.Str.{IsUtf8}
use Rattle.json.specs.Lex.{tokens}
use Rattle.sourcemap_json_read.specs.Values.{BeginsWithValue}
use Rattle.sourcemap_json_read.proofs.ValueLemmas.{whole_text}
use Rattle.sourcemap_json_read.proofs.values.read_fast.Goals as goal

-- no byte remains, so what was read is UTF-8
pub returns-in-End : goal.returns-in-End
returns-in-End g c =
    let ended = rw c.in-End.is at c.in_ok-next.ensures.takes in
    let last : IsUtf8 c.next-2.new.self.bytes = subst IsUtf8 (sym ended.2) IsUtf8-nil in
    let found = c.in_ok-value.ensures.value c.in_ok-cursor.cursor c.in_ok-first.ensures.takes in
    let begins : BeginsWithValue 127 (tokens c.args.bytes.now) found.0 c.read.new.cursor.tokens =
    subst (λ start. BeginsWithValue 127 start.tokens found.0 c.read.new.cursor.tokens) c.in_ok-cursor.ensures
    found.1 in (
      subst IsUtf8 (ap (λ rest. rest.bytes) c.in_ok-cursor.ensures)
          (c.in_ok-first.ensures.utf8 (c.in_ok-value.ensures.utf8 (c.in_ok-next.ensures.utf8 last))),
      (found.0, whole_text c.args.bytes.now found.0 _ begins ended.0, found.2),
    )
