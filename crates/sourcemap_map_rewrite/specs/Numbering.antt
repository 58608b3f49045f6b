-- New numbers of texts, assigned in the order of first use.
use Rattle.std.specs.Prelude.{◌≡◌, ℕ, ◌⊎◌, List, [], ◌∷◌, ◌++◌, length, map, slice_get, slice_set, Option, Some, None}
use Rattle.std.specs.Option.{option_or}
use Rattle.std.specs.List.{AllByRecursion}
use Rattle.sourcemap_interning.specs.Interner.{id_of, with_text}
use Rattle.sourcemap_tokens.specs.Tokens.{no_id}
use Rattle.sourcemap_tokens.specs.declared.tokens.RawToken.{RawToken}
use Rattle.sourcemap_map_rewrite.specs.Kept.{present, kept_once, number_in}
use Rattle.sourcemap_map_rewrite.specs.declared.numbering.NewNumbers.{NewNumbers}
use Rattle.sourcemap_map_rewrite.specs.declared.numbering.Numbering.{Numbering}

-- for `Some text`: `texts`, with `text` appended if `texts` lacks `text`. For `None`: `texts`
abbrev pub with_text_if : List (List ℕ) → Option (List ℕ) → List (List ℕ)
with_text_if texts None = texts
with_text_if texts (Some text) = with_text texts text

-- the first result of `f` that is not `None`, in the order of the list; `None` if each result is `None`
abbrev pub first_some : {X Y : Type 0} → (X → Option Y) → List X → Option Y
first_some f [] = None
first_some f (x ∷ xs) = option_or (f x) (first_some f xs)

-- the texts at these indices, each once, in the order of first use
abbrev pub texts_in_use : List (List ℕ) → List ℕ → List (List ℕ)
texts_in_use texts ids = kept_once (present (map (slice_get texts) ids))

-- the texts that have a new number, in the order of these numbers
abbrev pub seen_texts : List (List ℕ) → NewNumbers → List (List ℕ)
seen_texts texts n = texts_in_use texts n.order.items

-- `id` is an old number of `text`. The new number of `id` is `number`: the index of `text` in `seen_texts`
pub record IsSeen (texts : List (List ℕ)) (n : NewNumbers) (id : ℕ) : Type 0 where
  pub text : List ℕ
  pub number : ℕ
  pub named : slice_get texts id ≡ Some text
  pub numbered : slice_get n.numbers.items id ≡ Some number
  pub interned : id_of text (seen_texts texts n) ≡ Some number

-- the old number `id` has no new number, or `n.order` contains `id`
abbrev pub IsSeenOrNot : (texts : List (List ℕ)) → NewNumbers → ℕ → Type 0
IsSeenOrNot texts n id =
    (slice_get n.numbers.items id ≡ Some no_id) ⊎ ((k : ℕ) × (slice_get n.order.items k ≡ Some id))

-- each old number that was seen has a new number, and no other old number has one
pub record AreNumbered (texts : List (List ℕ)) (n : NewNumbers) : Type 0 where
  pub many : length n.numbers.items ≡ length texts
  pub seen : AllByRecursion (IsSeen texts n) n.order.items
  pub others : (id : ℕ) (text : List ℕ) → slice_get texts id ≡ Some text → IsSeenOrNot texts n id

-- a use of the old number `id` turns `old` into `new`. If `texts` has a text at index `id` that `seen_texts` of `old`
-- lacks, `seen_texts` of `new` is `seen_texts` of `old` with this text appended. Otherwise `seen_texts` is unchanged.
-- Let `f` return `None` for `id` if `id` is not an index of `texts`. If `first_some f` is not `None` for `old.order`,
-- then `first_some f` has the same value for `new.order`. If `first_some f` is `None` for `old.order`, then `first_some
-- f` for `new.order` is `f id`
pub record NumbersMore (texts : List (List ℕ)) (id : ℕ) (old new : NewNumbers) : Type 0 where
  pub kept : seen_texts texts new ≡ with_text_if (seen_texts texts old) (slice_get texts id)
  pub seen : (f : ℕ → Option (List ℕ)) → (slice_get texts id ≡ None → f id ≡ None)
      → first_some f new.order.items ≡ option_or (first_some f old.order.items) (f id)

pub record IsNumbering (texts : List (List ℕ)) (n : Numbering) : Type 0 where
  pub numbered : AreNumbered texts n.seen
  pub index : n.ids ≡ seen_texts texts n.seen

-- in the step from `old` to `new`, the old number `id` gets the new number `number`. The item of `seen.numbers` at
-- index `id` becomes `number`, `id` is appended to `seen.order`, and `text` is appended to `ids` if `ids` lacks it. The
-- first index of `text` in `new.ids` is `number`
pub record Assigns (text : List ℕ) (id number : ℕ) (old new : Numbering) : Type 0 where
  pub numbered : id_of text new.ids ≡ Some number
  pub index : new.ids ≡ with_text old.ids text
  pub order : new.seen.order.items ≡ old.seen.order.items ++ id ∷ []
  pub numbers : new.seen.numbers.items ≡ slice_set old.seen.numbers.items id number

-- the sources that `s` has seen are the sources that tokens use, in the order of first use. The same holds for `n` and
-- the names. Let `f` return `None` for each number that is not an index of `sources`. Then `first_some f` is the same
-- for `s.order` and for the list of the source ids of the tokens
pub record AreSeen (sources names : List (List ℕ)) (tokens : List RawToken) (s n : NewNumbers) : Type 0 where
  pub kept_sources : seen_texts sources s ≡ texts_in_use sources (map (λ t. t.src_id) tokens)
  pub kept_names : seen_texts names n ≡ texts_in_use names (map (λ t. t.name_id) tokens)
  pub first : (f : ℕ → Option (List ℕ)) → ((id : ℕ) → slice_get sources id ≡ None → f id ≡ None)
      → first_some f s.order.items ≡ first_some f (map (λ t. t.src_id) tokens)

-- the token with a new source id and a new name id. The source id is the first index of the token's source in
-- `kept_sources`, or `no_id` if there is no such index. The name id is the first index of the token's name in
-- `kept_names`, or `no_id` if there is no such index
abbrev pub numbered_by : (sources names kept_sources kept_names : List (List ℕ)) → RawToken → RawToken
numbered_by sources names kept_sources kept_names t = record t {
  src_id = number_in kept_sources (slice_get sources t.src_id);
  name_id = number_in kept_names (slice_get names t.name_id);
}

-- the token with the new numbers of its source and its name
abbrev pub numbered_with : (sources names : List (List ℕ)) → NewNumbers → NewNumbers → RawToken → RawToken
numbered_with sources names s n = numbered_by sources names (seen_texts sources s) (seen_texts names n)
