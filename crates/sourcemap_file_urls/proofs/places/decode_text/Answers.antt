use Rattle.std.proofs.Common.{rules, ◌≡◌, Ok, Some, true, ap, refl, sym, subst, string_bytes, inl, inr}
use Rattle.std.proofs.lemmas.Bool.{cases_Bool}
use Rattle.std.specs.Str.{IsUtf8, is_utf8}
use Rattle.std.proofs.lemmas.Str.{IsUtf8-string_bytes, IsUtf8-from_is_utf8, is_utf8-from_IsUtf8}
use Rattle.percent_encoding.specs.Percent.{percent_decode}
use Rattle.sourcemap_file_urls.proofs.places.decode_text.Goals as goal

pub returns-in-Ok : goal.returns-in-Ok
returns-in-Ok c =
    let is : string_bytes c.in-Ok.text ≡ percent_decode c.args.text.now = search rules in
    let utf8 : is_utf8 (percent_decode c.args.text.now) ≡ true =
    is_utf8-from_IsUtf8 _ (subst IsUtf8 is (IsUtf8-string_bytes c.in-Ok.text)) in
    rw utf8 (ap (λ text. Ok (Some text)) (sym is))

pub returns : goal.returns
returns c =
    elim (cases_Bool (is_utf8 (percent_decode c.args.text.now))) [
      | inl is ↦
          let utf8 : IsUtf8 (percent_decode c.args.text.now) = IsUtf8-from_is_utf8 _ is in
          absurd (search (rules, utf8, c.in-Err.ensures.succeeds))
      | inr other ↦ rw other refl
    ]
