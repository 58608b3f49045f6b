use Rattle.std.proofs.Common.{◌≡◌, List, ℕ, ◌++◌, string_bytes, ap, ap₂, sym, subst, ◌∙◌, IsUtf8}
use Rattle.std.specs.String.{string_vec}
use Rattle.std.proofs.lemmas.Str.{IsUtf8-append, IsUtf8-string_bytes}
use Rattle.json.specs.Print.{quoted}
use Rattle.json.proofs.Printed.Utf8.{IsUtf8-quoted}
use Rattle.sourcemap_json_write.proofs.writing.push_quoted.Goals as goal

pub from_utf8_unchecked-requires : goal.from_utf8_unchecked-requires
from_utf8_unchecked-requires c =
    let start = string_bytes c.args.out.now in
    let text = c.args.text.now in
    let before = ap string_vec c.replace.ensures.value in
    let whole : c.put_quoted.new.out.items ≡ start ++ quoted text =
    c.in_ok-put_quoted.ensures
    ∙ ap₂ (λ (old new : List ℕ). old ++ quoted new) (ap (λ v. v.items) (c.into_bytes-bytes.ensures.value ∙ before))
    c.as_bytes.ensures.value in
    subst (λ (l : List ℕ). IsUtf8 l) (sym whole)
    (IsUtf8-append start (quoted text) (IsUtf8-string_bytes c.args.out.now) (IsUtf8-quoted text c.utf8.text))
