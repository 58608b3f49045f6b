-- A map that is decoded from a JSON value, bytes or a data URL is well-formed. At every level of the decoded map, the
-- tokens of each regular map and each Hermes map are sorted.
use Rattle.std.proofs.Common.{◌≡◌, inl, inr, ℕ, List, Option, Some, None, Result, Ok, Err, MatchOption}
use Rattle.serde_json.specs.Data.{Data}
use Rattle.sourcemap_errors.specs.declared.errors.Error.TheVariants.{BadJson}
use Rattle.sourcemap_errors.specs.declared.errors.JsonFault.TheVariants.{Shape}
use Rattle.sourcemap_records.specs.Jsontypes.{Tree, record_of}
use Rattle.sourcemap_index_model.specs.Decode.{TreeDecodes}
use Rattle.sourcemap_index_model.specs.MapTree.{MapTree}
use Rattle.sourcemap_index_model.specs.WellFormed.{HasTokensInOrder, IsWellFormed}
use Rattle.sourcemap_index_model.proofs.WellFormedLemmas.{decoded_in_order, decoded_well}
use Rattle.sourcemap_index.specs.Decode.{BytesDecode, UrlDecodes, ValueDecodes}

record_read : (found : Option Tree) (t : MapTree)
    → MatchOption found (Ok t ≡ Err (BadJson Shape)) (λ r. TreeDecodes r (Ok t))
    → IsWellFormed t × HasTokensInOrder t
record_read None t h = absurd cc
record_read (Some r) t h = (decoded_well r t h, decoded_in_order r t h)

pub value_read : (d : Data) (t : MapTree) → ValueDecodes d (Ok t) → IsWellFormed t × HasTokensInOrder t
value_read d t h = record_read (record_of d) t h

pub bytes_read : (bytes : List ℕ) (t : MapTree) → BytesDecode bytes (Ok t) → IsWellFormed t × HasTokensInOrder t
bytes_read bytes t (inl (d, holds, h)) = value_read d t h
bytes_read bytes t (inr h) = absurd h

pub url_read : (url : List ℕ) (t : MapTree) → UrlDecodes url (Ok t) → IsWellFormed t × HasTokensInOrder t
url_read url t (inl (bytes, holds, h)) = bytes_read bytes t h
url_read url t (inr h) = absurd (let no = h.0 in cc)
