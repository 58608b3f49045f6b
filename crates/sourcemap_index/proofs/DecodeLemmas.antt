-- A value, bytes and a data URL have at most one answer each. Of two `Io` errors only the kinds are compared.
use Rattle.std.proofs.Common.{◌≡◌, ◌∙◌, refl, ap, ℕ, List, Option, Some, None, Result, Err, IfSome, MatchOption}
use Rattle.serde_json.specs.Data.{Data}
use Rattle.sourcemap_errors.specs.declared.errors.Error.{Error}
use Rattle.sourcemap_errors.specs.declared.errors.Error.TheVariants.{BadJson}
use Rattle.sourcemap_errors.specs.declared.errors.JsonFault.TheVariants.{Shape}
use Rattle.sourcemap_errors.specs.Answer.{UnlessMemory, Gives, IsAnswer}
use Rattle.sourcemap_errors.proofs.AnswerLemmas.{Gives-only, UnlessMemory-weaker}
use Rattle.sourcemap_records.specs.Field.{due}
use Rattle.sourcemap_records.specs.Jsontypes.{Tree, record_of}
use Rattle.sourcemap_records.proofs.BytesLemmas as reading
use Rattle.sourcemap_records.proofs.BytesLemmas.{value_once, bytes_once, url_once, answer_only}
use Rattle.sourcemap_index_model.specs.MapTree.{MapTree}
use Rattle.sourcemap_index_model.specs.Decode.{TreeDecodes}
use Rattle.sourcemap_index_model.proofs.DecodeLemmas.{tree_decodes_once}
use Rattle.sourcemap_index.specs.Family.{map_tree}
use Rattle.sourcemap_index.specs.Decode.{ValueDecodes, BytesDecode, UrlDecodes, AreSame, IsAnswerRead}
use Rattle.sourcemap_index.specs.declared.family.DecodedMap.{DecodedMap}

pub value_decodes_once : (d : Data) (a b : Result MapTree Error) → ValueDecodes d a → ValueDecodes d b → a ≡ b
value_decodes_once = value_once TreeDecodes tree_decodes_once

pub bytes_decode_once : (bytes : List ℕ) (a b : Result MapTree Error) → BytesDecode bytes a → BytesDecode bytes b
    → AreSame a b
bytes_decode_once = bytes_once TreeDecodes tree_decodes_once

pub url_decodes_once : (url : List ℕ) (a b : Result MapTree Error) → UrlDecodes url a → UrlDecodes url b → AreSame a b
url_decodes_once = url_once TreeDecodes tree_decodes_once

of_no_record : (found : Option Tree) (e : Error) (answer : Result MapTree Error) → answer ≡ Err e → due found ≡ Err e
    → MatchOption found (answer ≡ Err (BadJson Shape)) (λ t. TreeDecodes t answer)
of_no_record None e answer so is = let same : e ≡ BadJson Shape = cc in so ∙ ap Err same
of_no_record (Some t) e answer so is = cc

-- if reading the JSON value `d` as a record gives the error `e`, then decoding `d` as a map gives `e`
pub error_of_value : (d : Data) (e : Error) → UnlessMemory e (due (record_of d) ≡ Err e)
    → UnlessMemory e (ValueDecodes d (Err e))
error_of_value d e h = UnlessMemory-weaker e (of_no_record (record_of d) e (Err e) refl) h

-- a JSON value has only one result: if `ValueDecodes` allows `r` and `due`, then `r` is `due`, or memory ran out
pub value_only : (d : Data) (r : Result DecodedMap Error) → IsAnswer map_tree (ValueDecodes d) r
    → (due : Result MapTree Error) → ValueDecodes d due → Gives map_tree r due
value_only d r h = Gives-only map_tree (ValueDecodes d) (value_decodes_once d) r h

-- bytes have only one result: if `BytesDecode` allows `r` and `due`, then `r` is the same as `due` (`AreSame`), or
-- memory ran out. Of two `Io` errors only the kinds are compared
pub bytes_only : (bytes : List ℕ) (r : Result DecodedMap Error) → IsAnswer map_tree (BytesDecode bytes) r
    → (due : Result MapTree Error) → BytesDecode bytes due → IsAnswer map_tree (AreSame due) r
bytes_only = reading.bytes_only map_tree TreeDecodes tree_decodes_once

-- let the unread bytes of a reader be known. These bytes have only one result: if `BytesDecode` allows `r` and `due`
-- for these bytes, then `r` is the same as `due` (`AreSame`), or a read failed, or memory ran out
pub reader_only : (known : Option (List ℕ)) (bytes : List ℕ) (r : Result DecodedMap Error)
    → IfSome known (λ xs. bytes ≡ xs) → IsAnswer map_tree (BytesDecode bytes) r
    → IfSome known (λ xs. (due : Result MapTree Error) → BytesDecode xs due → IsAnswerRead map_tree (AreSame due) r)
reader_only = reading.reader_only map_tree TreeDecodes tree_decodes_once

-- a data URL has only one result: if `UrlDecodes` allows `r` and `due`, then `r` is the same as `due` (`AreSame`), or
-- memory ran out
pub url_only : (url : List ℕ) (r : Result DecodedMap Error) → IsAnswer map_tree (UrlDecodes url) r
    → (due : Result MapTree Error) → UrlDecodes url due → IsAnswer map_tree (AreSame due) r
url_only url = answer_only map_tree (UrlDecodes url) AreSame (url_decodes_once url)
