-- The checksums of rounds of an operation.
use Rattle.std.specs.Prelude.{◌≡◌, ℕ, suc, zero, List, length, Ok}
use Rattle.sourcemap.specs.Adjust.{adjusted}
use Rattle.sourcemap.specs.Written.{IsEncoded}
use Rattle.sourcemap.specs.AnyMap.{index_value, map_tree}
use Rattle.sourcemap.specs.Decoder.{BytesDecode}
use Rattle.sourcemap.specs.Flat.{FlatAnswer}
use Rattle.sourcemap.specs.Rewrite.{no_removal, rewritten}
use Rattle.sourcemap.specs.TreeEncoder.{RecordAnswer}
use Rattle.sourcemap.specs.Trees.{IsInOrder, MapTree, held, index, index_tree, leaf, section_list}
use Rattle.sourcemap.specs.Types.{MapValue}
use Rattle.sourcemap_bench.specs.Sums.{counted, mixed, lookup_sum, token_sum}
use Rattle.sourcemap_bench.specs.declared.work.Work.{Work}
use Rattle.sourcemap_bench.specs.declared.work.Work.TheVariants.{Decode, DecodeReader, Lookup, Tokens, Encode, Rewrite, Flatten, Compose}

-- the number of top-level sections if the map is an index map, otherwise the number of tokens
abbrev pub size : MapTree → ℕ
size (leaf l) = length (held l).tokens
size (index _ sections) = length (section_list sections)

-- adding the size of the decoded map to the checksum `old` gives `new`
abbrev pub SizeOfDecoded : List ℕ → ℕ → ℕ → Type 0
SizeOfDecoded bytes old new = (t : MapTree) × BytesDecode bytes (Ok t) × (new ≡ counted old (size t))

-- adding the length of the encoded map to the checksum `old` gives `new`
abbrev pub LengthOfText : MapTree → ℕ → ℕ → Type 0
LengthOfText t old new = (text : List ℕ) × IsEncoded (RecordAnswer t) text × (new ≡ counted old (length text))

-- adding the number of tokens of the flattened map to the checksum `old` gives `new`
abbrev pub SizeOfFlat : MapTree → ℕ → ℕ → Type 0
SizeOfFlat t old new = (m : MapValue) × FlatAnswer t (Ok m) × (new ≡ counted old (length m.tokens))

-- adding the number of tokens of the adjusted map to the checksum `old` gives `new`
abbrev pub SizeOfAdjusted : MapValue → MapValue → ℕ → ℕ → Type 0
SizeOfAdjusted m n old new = (c : MapValue) × (adjusted m n ≡ Ok c) × (new ≡ counted old (length c.tokens))

-- a round changes the checksum from `old` to `new`. For a `Lookup` in an index map, `new` may be any checksum unless
-- the sections are sorted by offset at every level
abbrev pub RoundGives : Work → ℕ → ℕ → Type 0
RoundGives (Decode bytes) old new = SizeOfDecoded bytes.items old new
RoundGives (DecodeReader bytes) old new = SizeOfDecoded bytes.items old new
RoundGives (Lookup m positions) old new =
    IsInOrder (map_tree m.value) → new ≡ lookup_sum (map_tree m.value) positions.items old
RoundGives (Tokens m) old new = new ≡ token_sum m.value old
RoundGives (Encode m) old new = LengthOfText (map_tree m.value) old new
RoundGives (Rewrite m) old new = new ≡ mixed old (length (rewritten no_removal m.value).sources)
RoundGives (Flatten i) old new = SizeOfFlat (index_tree (index_value i.value)) old new
RoundGives (Compose m n) old new = SizeOfAdjusted m.value n.value old new

-- `RoundsGive work n sum`: the checksum after `n` rounds is `sum`. Before the first round the checksum is 0
abbrev pub RoundsGive : Work → ℕ → ℕ → Type 0
RoundsGive work zero sum = sum ≡ 0
RoundsGive work (suc n) sum = (before : ℕ) × RoundsGive work n before × RoundGives work before sum
