-- A data URL decodes to at most one result.
use Rattle.std.proofs.Common.{◌≡◌, List, ℕ, refl, ap, Result, Ok, Err, ◌∙◌, sym}
use Rattle.base64.specs.Engines.{standard}
use Rattle.base64.specs.GeneralPurpose.{encode_of, decode_of}
use Rattle.base64.proofs.EngineFacts.{decode_of-encode_of}
use Rattle.sourcemap_errors.specs.declared.errors.Error.{Error}
use Rattle.sourcemap_headers.specs.DataUrl.{Holds, DataUrlAnswer}

one_held : (url a b : List ℕ) → Holds url a → Holds url b → a ≡ b
one_held url a b h k =
    let same : encode_of standard a ≡ encode_of standard b = let e = h.1 in let f = k.1 in cc in
    let read_a = decode_of-encode_of standard a refl h.0 in
    let read_b = decode_of-encode_of standard b refl k.0 in
    let read = ap (decode_of standard) same in
    cc

pub one_answer : (url : List ℕ) (a b : Result (List ℕ) Error) → DataUrlAnswer url a → DataUrlAnswer url b → a ≡ b
one_answer url (Ok a) (Ok b) h k = ap Ok (one_held url a b h k)
one_answer url (Ok a) (Err e) h k = absurd (k.1 a h)
one_answer url (Err e) (Ok b) h k = absurd (h.1 b k)
one_answer url (Err e) (Err f) h k = ap Err (h.0 ∙ sym k.0)
