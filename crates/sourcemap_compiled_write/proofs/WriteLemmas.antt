-- The parts of the file, one appended after the other.
use Rattle.std.proofs.Common.{◌≡◌, refl, sym, ap, subst, ◌∙◌, ℕ, ◌+◌, ◌-◌, ◌*◌, ◌^◌, ◌<◌, List, [], ◌∷◌, ◌++◌}
use Rattle.std.proofs.Common.{length, slice_index, take, drop, arith, append_assoc, length-append, Option}
use Rattle.std.proofs.Common.{inl, inr}
use Rattle.std.specs.List.{flat_map}
use Rattle.std.proofs.lemmas.Bool.{cases_lt}
use Rattle.std.proofs.lemmas.List.{append-nil, drop_all, drop_at, take_all}
use Rattle.std.proofs.lemmas.List.Concat.{flat_map-append}
use Rattle.byteorder.specs.Endian.{little_bytes}
use Rattle.sourcemap_tokens.specs.declared.tokens.RawToken.{RawToken}
use Rattle.sourcemap_compiled.specs.Layout.{compiled_magic, compiled_version}
use Rattle.sourcemap_compiled_write.specs.Blocks.{block_of}
use Rattle.sourcemap_compiled_write.specs.File.{blocks_of, bodies_of, file_bytes, header_bytes, heads_of, starts_of}
use Rattle.sourcemap_compiled_write.specs.File.{debug_id_bytes, debug_id_number, header_end, header_numbers, length_of}
use Rattle.sourcemap_compiled_write.specs.File.{tables_offset, texts_of, texts_offset}
use Rattle.sourcemap_compiled_write.specs.Packing.{token_values}
use Rattle.sourcemap_compiled_write.specs.Parts.{Parts}
use Rattle.sourcemap_compiled_write.specs.Texts.{table_bytes, text_bytes, text_offsets, texts_bytes}
use Rattle.sourcemap_compiled_write.proofs.BlockLemmas.{token_values-block}
use Rattle.sourcemap_compiled_write.proofs.TextsLemmas.{length-texts-append, text_offsets-append}

-- ---- texts

pub length-texts_of : (p : Parts) → length (texts_of p)
    ≡ length p.sources + length p.names + length p.scope_names + length p.contents + 1
length-texts_of p =
    length-append p.sources (p.names ++ (p.scope_names ++ (p.file ∷ p.contents)))
    ∙ omega (
      arith,
      length-append p.names (p.scope_names ++ (p.file ∷ p.contents)),
      length-append p.scope_names (p.file ∷ p.contents),
    )

abbrev pub size : List (Option (List ℕ)) → ℕ
size texts = length (texts_bytes texts)

pub size-texts_of : (p : Parts) → size (texts_of p)
    ≡ size p.sources + size p.names + size p.scope_names + size (p.file ∷ []) + size p.contents
size-texts_of p =
    length-texts-append p.sources (p.names ++ (p.scope_names ++ (p.file ∷ p.contents)))
    ∙ omega (
      arith,
      length-texts-append p.names (p.scope_names ++ (p.file ∷ p.contents)),
      length-texts-append p.scope_names (p.file ∷ p.contents),
      length-texts-append (p.file ∷ []) p.contents,
    )

join_texts : (bs : List ℕ) (xs ys : List (Option (List ℕ)))
    → bs ++ texts_bytes xs ++ texts_bytes ys ≡ bs ++ texts_bytes (xs ++ ys)
join_texts bs xs ys =
    append_assoc bs (texts_bytes xs) (texts_bytes ys)
    ∙ ap (λ (zs : List ℕ). bs ++ zs) (sym (flat_map-append text_bytes xs ys))

module _ (bs x y z v o : List ℕ) (p : Parts) where
  pub texts_joined : x ≡ bs ++ texts_bytes p.sources → y ≡ x ++ texts_bytes p.names
      → z ≡ y ++ texts_bytes p.scope_names → v ≡ z ++ texts_bytes (p.file ∷ []) → o ≡ v ++ texts_bytes p.contents
      → o ≡ bs ++ texts_bytes (texts_of p)
  texts_joined a b c d e =
      e ∙ ap (λ (l : List ℕ). l ++ texts_bytes p.contents) d ∙ join_texts z (p.file ∷ []) p.contents
      ∙ ap (λ (l : List ℕ). l ++ texts_bytes (p.file ∷ p.contents)) c ∙ join_texts y p.scope_names (p.file ∷ p.contents)
      ∙ ap (λ (l : List ℕ). l ++ texts_bytes (p.scope_names ++ (p.file ∷ p.contents))) b
      ∙ join_texts x p.names (p.scope_names ++ (p.file ∷ p.contents))
      ∙ ap (λ (l : List ℕ). l ++ texts_bytes (p.names ++ (p.scope_names ++ (p.file ∷ p.contents)))) a
      ∙ join_texts bs p.sources (p.names ++ (p.scope_names ++ (p.file ∷ p.contents)))

-- ---- the text table

abbrev pub offset_bytes : ℕ → List (Option (List ℕ)) → List ℕ
offset_bytes offset texts = flat_map (little_bytes 4) (text_offsets offset texts)

abbrev last_offsets : ℕ → List (Option (List ℕ)) → ℕ → List ℕ
last_offsets offset texts end = flat_map (little_bytes 4) (text_offsets offset texts ++ end ∷ [])

join_offsets : (bs : List ℕ) (o next : ℕ) (xs ys : List (Option (List ℕ))) (end : ℕ) → next ≡ o + size xs
    → bs ++ offset_bytes o xs ++ last_offsets next ys end ≡ bs ++ last_offsets o (xs ++ ys) end
join_offsets bs o next xs ys end e =
    let all : text_offsets o (xs ++ ys) ++ end ∷ [] ≡ text_offsets o xs ++ (text_offsets next ys ++ end ∷ []) =
    ap (λ (l : List ℕ). l ++ end ∷ []) (text_offsets-append o xs ys
    ∙ ap (λ (n : ℕ). text_offsets o xs ++ text_offsets n ys) (sym e))
    ∙ append_assoc (text_offsets o xs) (text_offsets next ys) (end ∷ []) in
    append_assoc bs (offset_bytes o xs) (last_offsets next ys end)
    ∙ ap (λ (l : List ℕ). bs ++ l)
    (sym (flat_map-append (little_bytes 4) (text_offsets o xs) (text_offsets next ys ++ end ∷ []))
    ∙ ap (flat_map (little_bytes 4)) (sym all))

module _ (bs x y z v u o : List ℕ) (p : Parts) (start names scopes file contents end : ℕ)
    (names_is : names ≡ start + size p.sources) (scopes_is : scopes ≡ names + size p.names)
    (file_is : file ≡ scopes + size p.scope_names) (contents_is : contents ≡ file + size (p.file ∷ []))
    (end_is : end ≡ contents + size p.contents) where
  pub table_joined : x ≡ bs ++ offset_bytes start p.sources → y ≡ x ++ offset_bytes names p.names
      → z ≡ y ++ offset_bytes scopes p.scope_names → v ≡ z ++ offset_bytes file (p.file ∷ [])
      → u ≡ v ++ offset_bytes contents p.contents → o ≡ u ++ flat_map (little_bytes 4) (end ∷ [])
      → o ≡ bs ++ table_bytes start (texts_of p)
  unfolding table_bytes
  table_joined a b c d e f =
      let last = p.scope_names ++ (p.file ∷ p.contents) in
      f ∙ ap (λ (l : List ℕ). l ++ last_offsets end [] end) e ∙ join_offsets v contents end p.contents [] end end_is
      ∙ ap (λ (ts : List (Option (List ℕ))). v ++ last_offsets contents ts end) (append-nil p.contents)
      ∙ ap (λ (l : List ℕ). l ++ last_offsets contents p.contents end) d
      ∙ join_offsets z file contents (p.file ∷ []) p.contents end contents_is
      ∙ ap (λ (l : List ℕ). l ++ last_offsets file (p.file ∷ p.contents) end) c
      ∙ join_offsets y scopes file p.scope_names (p.file ∷ p.contents) end file_is
      ∙ ap (λ (l : List ℕ). l ++ last_offsets scopes last end) b
      ∙ join_offsets x names scopes p.names last end scopes_is
      ∙ ap (λ (l : List ℕ). l ++ last_offsets names (p.names ++ last) end) a
      ∙ join_offsets bs start names p.sources (p.names ++ last) end names_is
      ∙ ap (λ (n : ℕ). bs ++ last_offsets start (texts_of p) n) (omega (arith, size-texts_of p))

-- ---- values of one block more

pub small_more : (ts : List RawToken) (block : ℕ)
    → ((field k : ℕ) → field < 7 → k < 64 * block → slice_index (token_values ts field) k < 2 ^ 32)
    → ((field k : ℕ) → field < 7 → slice_index (token_values (block_of ts block) field) k < 2 ^ 32)
    → (field k : ℕ) → field < 7 → k < 64 * (block + 1) → slice_index (token_values ts field) k < 2 ^ 32
small_more ts block before here field k l m = elim (cases_lt k (64 * block)) [
  | inl less ↦ before field k l less
  | inr not ↦
      let place = k - 64 * block in
      let at : 64 * block + place ≡ k = omega arith in
      subst (λ (n : ℕ). slice_index (token_values ts field) n < 2 ^ 32) at
      (rw (sym (token_values-block ts block field place (omega arith))) (here field place l))
]

-- ---- the whole file

-- a list in place of one of the same length
pub all_replaced : (n : ℕ) (now items : List ℕ) → n ≡ length items → length now ≡ length items
    → take n (now ++ drop (length now) items) ≡ now
all_replaced n now items many kept =
    ap (λ (l : List ℕ). take n (now ++ l)) (drop_all (length now) items (omega arith))
    ∙ ap (take n) (append-nil now) ∙ take_all n now (omega arith)

pub file_joined : (p : Parts) (zeros a b c whole : List ℕ) → length zeros ≡ 64
    → a ≡ zeros ++ (bodies_of p (blocks_of p) ++ (starts_of p (blocks_of p) ++ heads_of p (blocks_of p)))
    → b ≡ a ++ table_bytes (texts_offset p) (texts_of p) → c ≡ b ++ texts_bytes (texts_of p)
    → whole ≡ header_bytes p ++ drop 64 c → whole ≡ file_bytes p
unfolding file_bytes
file_joined p zeros a b c whole many is_a is_b is_c is_whole =
    let bodies = bodies_of p (blocks_of p) in
    let starts = starts_of p (blocks_of p) in
    let heads = heads_of p (blocks_of p) in
    let table = table_bytes (texts_offset p) (texts_of p) in
    let texts = texts_bytes (texts_of p) in
    let joined : c ≡ zeros ++ (bodies ++ (starts ++ (heads ++ (table ++ texts)))) =
    is_c ∙ ap (λ (l : List ℕ). l ++ texts) (is_b ∙ ap (λ (l : List ℕ). l ++ table) is_a)
    ∙ append_assoc (zeros ++ (bodies ++ (starts ++ heads))) table texts
    ∙ append_assoc zeros (bodies ++ (starts ++ heads)) (table ++ texts)
    ∙ ap (λ (l : List ℕ). zeros ++ l) (append_assoc bodies (starts ++ heads) (table ++ texts)
    ∙ ap (λ (l : List ℕ). bodies ++ l) (append_assoc starts heads (table ++ texts))) in
    is_whole
    ∙ ap (λ (l : List ℕ). header_bytes p ++ l) (ap (drop 64) joined
    ∙ drop_at zeros (bodies ++ (starts ++ (heads ++ (table ++ texts)))) 64 many)

-- ---- the header

module _ (p : Parts) (size sources names contents number tables scopes : ℕ) (id h0 h1 h2 h3 : List ℕ)
    (size_is : size ≡ length_of p) (sources_is : sources ≡ length p.sources) (names_is : names ≡ length p.names)
    (contents_is : contents ≡ length p.contents) (number_is : number ≡ debug_id_number p.debug_id)
    (tables_is : tables ≡ tables_offset p) (scopes_is : scopes ≡ length p.scope_names)
    (id_is : id ≡ debug_id_bytes p.debug_id) where
  abbrev front : List ℕ
  front =
      compiled_magic ∷ compiled_version ∷ size ∷ length p.tokens ∷ sources ∷ names ∷ contents ∷ number ∷ []

  abbrev back : List ℕ
  back = tables ∷ scopes ∷ 0 ∷ 0 ∷ []

  pub header_joined : h0 ≡ [] → h1 ≡ h0 ++ flat_map (little_bytes 4) front → h2 ≡ h1 ++ id
      → h3 ≡ h2 ++ flat_map (little_bytes 4) back → h3 ≡ header_bytes p
  unfolding header_bytes
  header_joined a b c d =
      let numbers = flat_map (little_bytes 4) in
      let same_front : front ≡ header_numbers p = rw (size_is, sources_is, names_is, contents_is, number_is) refl in
      let same_back : back ≡ header_end p = rw (tables_is, scopes_is) refl in
      d ∙ ap (λ (l : List ℕ). l ++ numbers back) (c ∙ ap (λ (l : List ℕ). l ++ id) (b
      ∙ ap (λ (l : List ℕ). l ++ numbers front) a))
      ∙ append_assoc (numbers front) id (numbers back)
      ∙ ap (λ (l : List ℕ). numbers l ++ (id ++ numbers back)) same_front
      ∙ ap (λ (l : List ℕ). numbers (header_numbers p) ++ (l ++ numbers back)) id_is
      ∙ ap (λ (l : List ℕ). numbers (header_numbers p) ++ (debug_id_bytes p.debug_id ++ numbers l)) same_back
