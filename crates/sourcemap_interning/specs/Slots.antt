-- A hash table with open addressing. It finds the number of a text by the hash of the text.
use Rattle.std.specs.Prelude.{◌≡◌, ◌≢◌, ◌≤◌, ◌<◌, ◌+◌, ◌/◌, ◌^◌, ◌⊎◌, ℕ, List, length, slice_get, Option, Some}
use Rattle.std.specs.Hash.FoldHasher as folding
use Rattle.std.specs.Int.Bits.{bit_and}
use Rattle.sourcemap_interning.specs.Interner.{AreDistinct}
use Rattle.sourcemap_interning.specs.declared.slots.Probe.{Probe}
use Rattle.sourcemap_interning.specs.declared.slots.Probe.TheVariants.{Free, Full, Taken}
use Rattle.sourcemap_interning.specs.declared.slots.Slot.{Slot}
use Rattle.sourcemap_interning.specs.declared.slots.NumberTable.{NumberTable}
use Rattle.sourcemap_interning.specs.Overflow.{number_among}

-- the upper 32 bits of the hash that `FoldHasher` computes from the bytes of a text
unfoldable pub hash_of : List ℕ → ℕ
hash_of text = folding.finish (folding.write folding.initial text) / 2 ^ 32

-- the index of the first slot that a text with this hash can be in
unfoldable pub start_of : (mask hash : ℕ) → ℕ
start_of mask hash = bit_and hash mask

-- the slot exists, and has a number and another hash
abbrev pub IsPassed : List Slot → (hash slot_index : ℕ) → Type 0
IsPassed slots hash slot_index =
    (slot : Slot) × (slice_get slots slot_index ≡ Some slot) × (slot.number ≢ 4294967295) × (slot.hash ≢ hash)

-- each of the `count` slots from `start` on exists, and has a number and another hash
abbrev pub ArePassed : List Slot → (hash start count : ℕ) → Type 0
ArePassed slots hash start count = (k : ℕ) → k < count → IsPassed slots hash (start + k)

-- How a search for a hash ends. It reads at most 32 slots, from `start` on. It ends at the first slot that has no
-- number or has this hash: `Free` has the index of this slot, `Taken` its number. If all 32 slots exist and none is
-- such a slot, it ends with `Full`.
abbrev pub IsProbed : List Slot → (hash start : ℕ) → Probe → Type 0
IsProbed slots hash start (Free slot_index) =
    (k : ℕ) × (k < 32) × ArePassed slots hash start k
    × (slot_index ≡ start + k) × (slot : Slot) × (slice_get slots (start + k) ≡ Some slot) × (slot.number ≡ 4294967295)
IsProbed slots hash start (Taken number) =
    (k : ℕ) × (k < 32) × ArePassed slots hash start k
    × (number ≢ 4294967295) × (slot : Slot) × (slice_get slots (start + k) ≡ Some slot) × (slot.number ≡ number)
    × (slot.hash ≡ hash)
IsProbed slots hash start Full = ArePassed slots hash start 32

-- a search for the hash ends at no free slot
abbrev pub IsBlocked : List Slot → (hash start : ℕ) → Type 0
IsBlocked slots hash start = IsProbed slots hash start Full ⊎ ((number : ℕ) × IsProbed slots hash start (Taken number))

-- a slot has the number and the hash of one of the texts
abbrev pub IsRight : List (List ℕ) → Slot → Type 0
IsRight texts slot = (text : List ℕ) × (slice_get texts slot.number ≡ Some text) × (slot.hash ≡ hash_of text)

-- each taken slot has the number and the hash of one of the texts
abbrev pub AreRight : List (List ℕ) → List Slot → Type 0
AreRight texts slots =
    (slot_index : ℕ) (slot : Slot) → slice_get slots slot_index ≡ Some slot → slot.number ≢ 4294967295
    → IsRight texts slot

-- An index of texts. There are at most 4294967295 texts, all distinct, and `mask + 32` slots. Each taken slot has the
-- number and the hash of one of the texts. A search for a text starts at `start_of mask (hash_of text)`. For each
-- text of `texts`, one of two cases holds. In the first case the search for its hash ends at a slot with the number
-- of the text. In the second case it ends at no free slot, and `others` has the number of the text. Whenever `others`
-- has a number for a text, `texts` has this text at this number.
pub record IsIndex (texts : List (List ℕ)) (mask : ℕ) (slots : List Slot) (others : List ℕ → Option ℕ) : Type 0 where
  pub few : length texts ≤ 4294967295
  pub distinct : AreDistinct texts
  pub long : length slots ≡ mask + 32
  pub right : AreRight texts slots
  pub found : (number : ℕ) (text : List ℕ) → slice_get texts number ≡ Some text
      → IsProbed slots (hash_of text) (start_of mask (hash_of text)) (Taken number)
      ⊎ (IsBlocked slots (hash_of text) (start_of mask (hash_of text)) × (others text ≡ Some number))
  pub others_right : (number : ℕ) (text : List ℕ) → others text ≡ Some number → slice_get texts number ≡ Some text

-- a table of the numbers of these texts
abbrev pub IsTable : {T : Type 0} → (T → List ℕ) → List (List ℕ) → NumberTable T → Type 0
IsTable bytes texts table = IsIndex texts table.mask table.slots.items (number_among bytes texts table.others)
