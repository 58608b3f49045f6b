-- The numbers of the texts that have no slot: by SipHash, otherwise by text.
use Rattle.std.specs.Prelude.{ℕ, cond, List, Option, Some, None, slice_get}
use Rattle.std.specs.BTreeMap.{get}
use Rattle.std.specs.Hash.DefaultHasher as sip
use Rattle.std.specs.Option.{option_or}
use Rattle.std.specs.Ordering.{nat_cmp}
use Rattle.sourcemap_interning.specs.Texts.{is_text, number_in_tree}
use Rattle.sourcemap_interning.specs.declared.overflow.Overflow.{Overflow}

-- the SipHash-1-3 of the bytes of a text, with both keys 0
unfoldable pub sip_hash_of : List ℕ → ℕ
sip_hash_of text = sip.finish (sip.write sip.initial text)

-- the number, if `texts` has `text` at this number; otherwise `None`
abbrev pub matching_number : List (List ℕ) → List ℕ → Option ℕ → Option ℕ
matching_number texts text None = None
matching_number texts text (Some number) = cond (is_text text (slice_get texts number)) (Some number) None

-- the number that `firsts` has for the SipHash of a text, if `texts` has the text at this number; otherwise the number
-- that `rest` has for the text
abbrev pub number_by : (ℕ → Option ℕ) → (List ℕ → Option ℕ) → List (List ℕ) → List ℕ → Option ℕ
number_by firsts rest texts text = option_or (matching_number texts text (firsts (sip_hash_of text))) (rest text)

-- the number that an overflow has for a text; `texts` are the texts of the index
abbrev pub number_among : {T : Type 0} → (T → List ℕ) → List (List ℕ) → Overflow T → List ℕ → Option ℕ
number_among bytes texts overflow text =
    number_by (get nat_cmp overflow.firsts) (number_in_tree bytes overflow.rest) texts text
