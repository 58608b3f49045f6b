-- Maps built from tokens, written and read back.
use Rattle.std.proofs.Common.{◌≡◌, ◌↔◌, ◌∙◌, sym, ap, subst, ℕ, List, [], ◌∷◌, None, option_map, Result, Ok, Err}
use Rattle.sourcemap.specs.Answer.{Gives, IsAnswer}
use Rattle.sourcemap.specs.Due.{Gives-given}
use Rattle.sourcemap.specs.AnyMap.{map_tree}
use Rattle.sourcemap.specs.Decoder.{AreSame, BytesDecode}
use Rattle.sourcemap.specs.Encoder.{ReadsBack, Restores as RestoresRegular}
use Rattle.sourcemap.specs.Reading.{BytesHaveResult, RegularDecodes}
use Rattle.sourcemap.specs.TreeEncoder.{Restores}
use Rattle.sourcemap.specs.Trees.{regular, MapTree, leaf, meaning as meaning_of}
use Rattle.sourcemap.specs.Types.{MapValue, made_of, meaning}
use Rattle.sourcemap.specs.declared.errors.Error.{Error}
use Rattle.sourcemap.specs.declared.errors.Error.TheVariants.{OutOfMemory}
use Rattle.sourcemap.specs.declared.types.DecodedMap.{DecodedMap}
use Rattle.sourcemap.specs.declared.types.RawToken.{RawToken}
use Rattle.sourcemap_uses.specs.Building.{source_position}
use Rattle.sourcemap_uses.proofs.RefusalLemmas.{memory_alone}

-- let `m` be the map of `tokens`, `names` and `sources`. If `names` is empty and `source` is the only source, `m` is
-- the map of `tokens` and `source`
pub made : (m : MapValue) (tokens : List RawToken) (names sources : List (List ℕ)) (source : List ℕ)
    → Gives (λ m. m) (Ok m) (Ok (made_of None tokens names sources [])) → names ≡ [] → sources ≡ source ∷ []
    → m ≡ made_of None tokens [] (source ∷ []) []
made m tokens names sources source gave no_names one_source =
    Gives-given (λ m. m) (made_of None tokens names sources []) (Ok m) gave
    ∙ ap (λ names. made_of None tokens names sources []) no_names
    ∙ ap (λ sources. made_of None tokens [] sources []) one_source

-- let `m` equal `due`, and let `BytesHaveResult RegularDecodes` and `BytesDecode` allow the same regular maps for
-- `text`. If decoding `text` as a regular map restores `m`, decoding `text` as a map of any kind restores `due`
pub reads_back : (m due : MapValue) (text : List ℕ) → m ≡ due
    → ((back : MapValue) → BytesHaveResult RegularDecodes text (Ok back) ↔ BytesDecode text (Ok (leaf (regular back))))
    → ReadsBack (BytesHaveResult RegularDecodes text) (RestoresRegular m)
    → ReadsBack (BytesDecode text) (Restores (leaf (regular due)))
reads_back m due text is any (back, decodes, restored) =
    let whole : Restores (leaf (regular m)) (leaf (regular back)) = (restored.0, restored) in (
      leaf (regular back),
      (any back).0 decodes,
      subst (λ m. Restores (leaf (regular m)) (leaf (regular back))) is whole,
    )

-- the decoded map has the same original line and column at each position as the written map
pub lookup_found : (bytes text : List ℕ) (m : MapValue) (map : DecodedMap) (p : ℕ × ℕ)
    → bytes ≡ text → ReadsBack (BytesDecode text) (Restores (leaf (regular m)))
    → ((due : Result MapTree Error) → BytesDecode bytes due → IsAnswer map_tree (AreSame due) (Ok map))
    → option_map source_position (meaning_of (map_tree map) p) ≡ option_map source_position (meaning m p)
lookup_found bytes text m map p same (back, decodes, restored) only =
    let read = only (Ok back) (subst (λ bytes. BytesDecode bytes (Ok back)) (sym same) decodes) in
    ap (option_map source_position) (ap (λ t. meaning_of t p) (sym read) ∙ restored.0 p)

-- the only error of decoding the written map is out of memory
pub read_unless_memory : (bytes text : List ℕ) (m : MapValue) (e : Error)
    → bytes ≡ text → ReadsBack (BytesDecode text) (Restores (leaf (regular m)))
    → ((due : Result MapTree Error) → BytesDecode bytes due → IsAnswer map_tree (AreSame due) (Err e)) → e ≡ OutOfMemory
read_unless_memory bytes text m e same (back, decodes, restored) only =
    memory_alone e (only (Ok back) (subst (λ bytes. BytesDecode bytes (Ok back)) (sym same) decodes))
