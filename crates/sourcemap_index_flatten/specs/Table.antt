-- What a table contains after texts were entered. A text is entered with its contents or without contents.
use Rattle.std.specs.Prelude.{◌≡◌, ◌≤◌, ℕ, Bool, ◌&&◌, cond, nat_lt, List, [], ◌∷◌, ◌++◌, length, map, slice_set, Option, Some, is_some, option_and_then}
use Rattle.std.specs.Option.{option_copied}
use Rattle.std.specs.Str.{bytes_eq}
use Rattle.sourcemap_interning.specs.Interner.{id_of}
use Rattle.sourcemap_tokens.specs.Search.{find_last}
use Rattle.sourcemap_map_rewrite.specs.Kept.{kept_once, number_in}
use Rattle.sourcemap_index_flatten.specs.declared.table.Entry.{Entry}
use Rattle.sourcemap_index_flatten.specs.declared.table.Table.{Table}

-- a text, and its contents if it has any
abbrev pub TextEntry : Type 0
TextEntry = List ℕ × Option (List ℕ)

abbrev pub entry_value : Entry → TextEntry
entry_value e = (e.text.now, option_copied e.contents)

abbrev pub entry_values : List Entry → List TextEntry
entry_values entries = map entry_value entries

-- the distinct texts that were entered
abbrev pub texts_entered : List TextEntry → List (List ℕ)
texts_entered entered = kept_once (map (λ e. e.0) entered)

-- the last contents given for a text
abbrev pub contents_entered : List TextEntry → List ℕ → Option (List ℕ)
contents_entered entered text =
    option_and_then (λ e. e.1) (find_last (λ e. bytes_eq e.0 text && is_some e.1) entered)

-- each text once, with the last contents given for it
abbrev pub entries_kept : List TextEntry → List TextEntry
entries_kept entered = map (λ text. (text, contents_entered entered text)) (texts_entered entered)

-- for each of `entries`, the index of its text in `texts_entered entered`; `no_id` if the list lacks the text
abbrev pub numbers_among : List TextEntry → List TextEntry → List ℕ
numbers_among entered entries = map (λ e. number_in (texts_entered entered) (Some e.0)) entries

-- there are more than 4294967295 texts, and so more texts than ids
abbrev pub are_too_many : List (List ℕ) → Bool
are_too_many texts = nat_lt 4294967295 (length texts)

-- `t` is the table after all of `entered` were entered
pub record IsTable (entered : List TextEntry) (t : Table) : Type 0 where
  pub index : t.ids ≡ texts_entered entered
  pub kept : entry_values t.entries.items ≡ entries_kept entered
  pub few : length (texts_entered entered) ≤ 4294967295

-- `t` is the table after all of `entered` were entered, and `t` contains `text` at the index `number`
pub record IsEntered (entered : List TextEntry) (text : List ℕ) (number : ℕ) (t : Table) : Type 0 where
  pub table : IsTable entered t
  pub text_id : id_of text (texts_entered entered) ≡ Some number

-- `t` is the table after all of `entered` were entered. For each of `entries`, `numbers` has the index of its text in
-- `t`, or `NO_ID` if `t` does not contain the text
pub record AreEntered (entered entries : List TextEntry) (numbers : List ℕ) (t : Table) : Type 0 where
  pub table : IsTable entered t
  pub each : numbers ≡ numbers_among entered entries

-- `entries` after `e` was entered. If `number` is not an index of `entries`, `e` is appended. Otherwise, if `e` has
-- contents, `e` replaces the entry at the index `number`. If `e` has no contents, that entry stays
abbrev pub with_entry : ℕ → TextEntry → List TextEntry → List TextEntry
with_entry number e entries =
    cond (nat_lt number (length entries))
    (cond (is_some e.1) (slice_set entries number e) entries)
    (entries ++ e ∷ [])
