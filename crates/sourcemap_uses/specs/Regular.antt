-- The maps of a reader and of a slice, compared.
use Rattle.std.specs.Prelude.{◌≡◌, ℕ, List, Option, Bool, Ok}
use Rattle.std.specs.Bool.{Decides}
use Rattle.sourcemap_maps.specs.Bytes.{BytesHaveResult, Reading}
use Rattle.sourcemap_maps.specs.Decode.{RegularDecodes}
use Rattle.sourcemap_maps.specs.Map.{MapValue}

-- `bytes` decode to a map `m`, and the bytes of a reader to a map `n`; `is` says whether these maps are equal. If `known`
-- is not `None`, it has the bytes of the reader
abbrev pub AreCompared : (known : Option (List ℕ)) → (bytes : List ℕ) → (is : Bool) → Type 0
AreCompared known bytes is =
    (m n : MapValue) × BytesHaveResult RegularDecodes bytes (Ok m)
    × Reading known (λ read. BytesHaveResult RegularDecodes read (Ok n)) × Decides is (n ≡ m)
