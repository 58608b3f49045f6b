-- The items that iterators of a map have yet to return.
use Rattle.std.specs.Prelude.{◌≡◌, ℕ, ◌+◌, List, length, drop, map, Bool, true, false, Option, Some, None, string_bytes}
use Rattle.std.specs.Iterator.{YieldsFirstBy}
use Rattle.sourcemap_map_parts.specs.Contents.{fitted}
use Rattle.sourcemap_map_regular.specs.Map.{MapValue}
use Rattle.sourcemap_map_regular.specs.Token.{TokenValue, lookup, token_value, tokens_from}
use Rattle.sourcemap_map_regular.specs.declared.iterators.IgnoreListIter.{IgnoreListIter}
use Rattle.sourcemap_map_regular.specs.declared.iterators.TokenIter.{TokenIter}
use Rattle.sourcemap_map_regular.specs.declared.token.Token.{Token}
use Rattle.sourcemap_map_regular.specs.declared.iterators.NameIter.{NameIter}
use Rattle.sourcemap_map_regular.specs.declared.iterators.SourceIter.{SourceIter}
use Rattle.sourcemap_map_regular.specs.declared.iterators.SourceContentsIter.{SourceContentsIter}

-- the map that is iterated
abbrev pub tokens_map : TokenIter → MapValue
tokens_map it = it.map.now

abbrev pub tokens_left : TokenIter → List TokenValue
tokens_left it = tokens_from it.map.now it.next

-- `next` returns the first remaining token, or `None` if no token remains; the others remain, and the map is unchanged
abbrev pub GivesToken : TokenIter → Option Token → TokenIter → Type 0
GivesToken old token new = YieldsFirstBy token_value tokens_left old token new × (new.map ≡ old.map)

-- if a token is found, the tokens after it remain; otherwise the iterator is unchanged
abbrev pub Seeks : TokenIter → ℕ × ℕ → Bool → TokenIter → Type 0
Seeks old p true new =
    (found : TokenValue) × (lookup old.map.now p ≡ Some found)
    × (new.map ≡ old.map) × (tokens_left new ≡ tokens_from old.map.now (found.index + 1))
Seeks old p false new = (lookup old.map.now p ≡ None) × (new ≡ old)

abbrev pub names_left : NameIter → List (List ℕ)
names_left it = map string_bytes it.names.now

abbrev pub sources_left : SourceIter → List (List ℕ)
sources_left it = map string_bytes it.sources.now

-- the contents of each remaining source; `None` for a source without contents
abbrev pub contents_left : SourceContentsIter → List (Option (List ℕ))
contents_left it = drop it.next (fitted (length it.map.now.sources) it.map.now.contents)

abbrev pub ids_left : IgnoreListIter → List ℕ
ids_left it = it.ids
