-- An encoded text is the compact text of the map's JSON value. If the map is well-formed and shallow (`IsShallow`),
-- decoding the text, or a data URL of the text, restores the map (`Restores`).
use Rattle.std.proofs.Common.{◌≡◌, refl, sym, ap, ◌∙◌, inl, ℕ, List, Some, Ok}
use Rattle.serde_json.specs.Written.{compact_text}
use Rattle.sourcemap_headers.specs.Header.{after_header}
use Rattle.sourcemap_headers.specs.DataUrl.{Holds}
use Rattle.sourcemap_records.specs.Jsontypes.{Tree, plain, indexed, written}
use Rattle.sourcemap_records.proofs.BytesLemmas.{value_of_record}
use Rattle.sourcemap_records.proofs.ReadBackLemmas.{record-back}
use Rattle.sourcemap_map_regular.specs.Encode.{ReadsBack}
use Rattle.sourcemap_map_regular.specs.Write.{IsEncoded}
use Rattle.sourcemap_index_model.specs.Decode.{TreeDecodes}
use Rattle.sourcemap_index_model.specs.Encode.{RecordAnswer, Restores}
use Rattle.sourcemap_index_model.specs.MapTree.{MapTree}
use Rattle.sourcemap_index_model.specs.WellFormed.{IsWellFormed}
use Rattle.sourcemap_index.specs.Decode.{BytesDecode, UrlDecodes}
use Rattle.sourcemap_index.specs.DecodedMap.{IsShallow, IsTextOf}
use Rattle.sourcemap_index.proofs.WrittenValueLemmas.{whole_value}

pub text_compact : (t : MapTree) (text : List ℕ) → IsEncoded (RecordAnswer t) text → IsTextOf t text
text_compact t text (r, (of, fine, back), is) =
    (written r, (r, of, refl), is.compact (whole_value t (written r) (r, of, refl)))

-- the text of a record begins with a brace, so it has no junk header
no_header : (r : Tree) (text : List ℕ) → text ≡ compact_text (written r) → after_header text ≡ Some text
no_header (plain fields) text is = ap after_header is ∙ ap Some (sym is)
no_header (indexed fields sections) text is = ap after_header is ∙ ap Some (sym is)

pub text_back : (t : MapTree) (text : List ℕ) → IsEncoded (RecordAnswer t) text → IsWellFormed t → IsShallow t
    → ReadsBack (BytesDecode text) (Restores t)
text_back t text (r, (of, fine, back), is) well shallow =
    let one = back well in (
      one.0,
      inl (
        written r,
        (
          text,
          no_header r text (is.compact (whole_value t (written r) (r, of, refl))),
          is.reads_back (shallow (written r) (r, of, refl)),
        ),
        value_of_record TreeDecodes (written r) r (record-back r fine.0 fine.1) (Ok one.0) one.1,
      ),
      one.2,
    )

pub url_back : (t : MapTree) (text url : List ℕ) → IsEncoded (RecordAnswer t) text → Holds url text → IsWellFormed t
    → IsShallow t → ReadsBack (UrlDecodes url) (Restores t)
url_back t text url encoded holds well shallow =
    let back = text_back t text encoded well shallow in (back.0, inl (text, holds, back.1), back.2)
