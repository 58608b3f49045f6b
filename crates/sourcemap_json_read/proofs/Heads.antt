-- The byte at an index of a text, or a space at the end of the text.
use Rattle.std.proofs.Common.{◌≡◌, ◌≢◌, ◌<◌, ◌+◌, ℕ, List, drop, get_or, length, add-zero, lt_of_not-le, sym, ap, ◌∙◌}
use Rattle.std.proofs.Common.{arith}
use Rattle.std.proofs.lemmas.List.{get_or-drop, get_or_default, drop_all}
use Rattle.json.specs.Word.{head}
use Rattle.sourcemap_json_read.specs.Strings.{IsUtf8UpTo}
use Rattle.sourcemap_json_read.proofs.Utf8Lemmas.{ascii_passed}

pub head_inside : (text : List ℕ) (at : ℕ) → head (drop at text) ≢ 32 → at < length text
head_inside text at solid = lt_of_not-le (λ past. solid (ap head (drop_all at text past)))

pub head_is : (text : List ℕ) (at : ℕ) → at < length text → get_or text at 0 ≡ head (drop at text)
head_is text at inside =
    get_or_default text at 0 32 inside ∙ ap (λ i. get_or text i 32) (sym (add-zero at)) ∙ sym (get_or-drop at text 0 32)

-- if the text after an ASCII byte other than a space is UTF-8, so is the text from this byte on
pub head_passed : (text : List ℕ) (at : ℕ) → head (drop at text) ≢ 32 → head (drop at text) < 128
    → IsUtf8UpTo text at (at + 1)
head_passed text at solid small =
    let inside = head_inside text at solid in
    ascii_passed text at inside (omega (arith, head_is text at inside, get_or_default text at 0 32 inside, small))
