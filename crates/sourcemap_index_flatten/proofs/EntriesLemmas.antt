-- The entry of one more source is appended to the entries of the earlier sources.
use Rattle.std.proofs.Common.{◌≡◌, refl, sym, ap, ◌∙◌, ℕ, suc, ◌+◌, ◌<◌, List, [], ◌∷◌, ◌++◌, length, map, take, get_or, Option, string_bytes, String, arith, zero-add}
use Rattle.std.specs.Option.{option_copied}
use Rattle.std.specs.List.{enumerate_from}
use Rattle.std.specs.declared.alloc.Global.{Global}
use Rattle.std.proofs.lemmas.List.{map_more, map_push, length-map}
use Rattle.std.proofs.lemmas.List.FromFn.{length-enumerate_from}
use Rattle.sourcemap_tokens.specs.Items.{item_at}
use Rattle.sourcemap_index_flatten.specs.Table.{TextEntry, entry_value, entry_values}
use Rattle.sourcemap_index_flatten.specs.Entries.{entries_with}
use Rattle.sourcemap_index_flatten.specs.declared.table.Entry.{Entry}

module _ (contents : List (Option (List ℕ))) where
  abbrev beside : ℕ × List ℕ → TextEntry
  beside source = (source.1, item_at contents source.0)

  push-from : (n : ℕ) (texts : List (List ℕ)) (text : List ℕ)
      → map beside (enumerate_from n (texts ++ text ∷ []))
      ≡ map beside (enumerate_from n texts) ++ (text, item_at contents (n + length texts)) ∷ []
  push-from n [] text = let same : n + 0 ≡ n = omega arith in rw same refl
  push-from n (t ∷ ts) text =
      let text_id : n + 1 + length ts ≡ n + suc (length ts) = omega arith in
      ap (λ rest. beside (n, t) ∷ rest) (push-from (n + 1) ts text
      ∙ ap (λ k. map beside (enumerate_from (n + 1) ts) ++ (text, item_at contents k) ∷ []) text_id)

  pub entries-more : (sources : List (String Global)) (i id : ℕ) (d : String Global) → i < length sources
      → (entries pushed : List Entry) (new : Entry)
      → entry_values entries ≡ entries_with contents (map string_bytes (take i sources)) → id ≡ length entries
      → new.text.now ≡ string_bytes (get_or sources i d) → option_copied new.contents ≡ item_at contents id
      → pushed ≡ entries ++ new ∷ []
      → entry_values pushed ≡ entries_with contents (map string_bytes (take (i + 1) sources))
  entries-more sources i id d within entries pushed new so_far at text given is =
      let before : List (List ℕ) = map string_bytes (take i sources) in
      let many : length entries ≡ length before =
      sym (length-map entries entry_value) ∙ ap length so_far ∙ length-map (enumerate_from 0 before) beside
      ∙ length-enumerate_from 0 before in
      let it : entry_value new ≡ (string_bytes (get_or sources i d), item_at contents (0 + length before)) =
      λ k. (text k, (given ∙ ap (item_at contents) (at ∙ many ∙ sym (zero-add (length before)))) k) in
      ap entry_values is ∙ map_push entry_value entries new ∙ (λ k. so_far k ++ it k ∷ [])
      ∙ sym (push-from 0 before (string_bytes (get_or sources i d)))
      ∙ ap (entries_with contents) (sym (map_more string_bytes sources i d within))
