-- What the reader reads of a file that was written: the counts, the tokens, the scopes, the texts.
use Rattle.std.proofs.Common.{◌≡◌, refl, sym, ap, subst, ◌∙◌, ℕ, suc, ◌+◌, ◌-◌, ◌*◌, ◌/◌, ◌%◌, ◌^◌, ◌<◌, ◌≤◌, min}
use Rattle.std.proofs.Common.{List, [], ◌∷◌, ◌++◌, length, slice_index, get_or, map, take, drop, arith, length-append}
use Rattle.std.proofs.Common.{take-append-drop, ◌==◌, ◌||◌, not, nat_lt, if◌then◌else◌, true, false}
use Rattle.std.proofs.Common.{Option, Some, None, Result, Ok, Err, IfSome, inl, inr, option_map, slice_get, slice_range}
use Rattle.std.specs.List.{range_with_len}
use Rattle.std.proofs.lemmas.Bool.{cases_eq, cases_lt, eq-eqb, ne_eqb}
use Rattle.std.proofs.lemmas.Bool.Decides.{nat_tests}
use Rattle.std.proofs.lemmas.List.{get_or-drop, get_or-take, get_or_past, length-map}
use Rattle.std.proofs.lemmas.Option.{slice_get_within}
use Rattle.std.proofs.lemmas.List.FromFn.{fill_by_all}
use Rattle.sourcemap_tokens.specs.declared.tokens.RawToken.{RawToken}
use Rattle.sourcemap_tokens.specs.Items.{item_at}
use Rattle.sourcemap_tokens.specs.Tokens.{AreInOrder, closest_token, destination, position_cmp}
use Rattle.sourcemap_tokens.proofs.SearchLemmas.{index-closest}
use Rattle.sourcemap_compose.specs.Moved.{distance}
use Rattle.sourcemap_compiled.specs.Blocks.{compiled_token, compiled_tokens, packed_at, scope_number, start_at}
use Rattle.sourcemap_compiled.specs.Blocks.{token_in}
use Rattle.sourcemap_compiled.specs.Layout.{IsAccepted, block_count, compiled_debug_id, compiled_magic}
use Rattle.sourcemap_compiled.specs.Layout.{compiled_version}
use Rattle.sourcemap_compiled.specs.Layout.{content_count, file_text, head_offset}
use Rattle.sourcemap_compiled.specs.Layout.{name_count, scope_count, source_count, start_offset, tables_end}
use Rattle.sourcemap_compiled.specs.Layout.{tables_start}
use Rattle.sourcemap_compiled.specs.Layout.{text_count, token_count}
use Rattle.sourcemap_compiled.specs.Lookup.{CompiledMeaning, CompiledTokenValue, IsInOrder, compiled_meaning, says}
use Rattle.sourcemap_compiled.specs.Numbers.{position_number, u32_at}
use Rattle.sourcemap_compiled.specs.Texts.{compiled_contents, compiled_file, compiled_name, compiled_scope}
use Rattle.sourcemap_compiled.specs.Texts.{compiled_source, scope_text, text_at, text_start}
use Rattle.sourcemap_compiled.specs.declared.errors.CompiledMapError.{CompiledMapError}
use Rattle.sourcemap_compiled.specs.declared.errors.CompiledMapError.TheVariants.{Truncated, WrongExtent, WrongMagic}
use Rattle.sourcemap_compiled.specs.declared.errors.CompiledMapError.TheVariants.{TextOutside, WrongVersion}
use Rattle.sourcemap_compiled_write.specs.Blocks.{block_of, body_bytes, head_bytes, start_bytes}
use Rattle.sourcemap_compiled_write.specs.File.{AreWritable, blocks_of, body_offset, debug_id_bytes}
use Rattle.sourcemap_compiled_write.specs.File.{debug_id_number, file_bytes, header_end, header_numbers, length_of}
use Rattle.sourcemap_compiled_write.specs.File.{tables_offset, texts_of, texts_offset}
use Rattle.sourcemap_compiled_write.specs.Meaning.{parts_meaning, scope_in}
use Rattle.sourcemap_compiled_write.specs.Packing.{fields_of, token_values}
use Rattle.sourcemap_compiled_write.specs.Parts.{Parts}
use Rattle.sourcemap_compiled_write.specs.Texts.{table_bytes, text_bytes, text_offsets, texts_bytes}
use Rattle.sourcemap_compiled_write.proofs.BlockLemmas.{block_of-at, length-block_of, token_values-block}
use Rattle.sourcemap_compiled_write.proofs.BlockRead.{AreSmall, packed_read, scope_number-at, small-list}
use Rattle.sourcemap_compiled_write.proofs.BlockRead.{token_read}
use Rattle.sourcemap_compiled_write.proofs.FileLemmas.{body_there, debug_id_there, head_there, header_end_there}
use Rattle.sourcemap_compiled_write.proofs.FileLemmas.{header_numbers_there, length-file, length-text_offsets}
use Rattle.sourcemap_compiled_write.proofs.FileLemmas.{start_there}
use Rattle.sourcemap_compiled_write.proofs.FileLemmas.{text_table_there, texts_there}
use Rattle.sourcemap_compiled_write.proofs.PackingLemmas.{get_or-token_values, no_token}
use Rattle.sourcemap_compiled_write.proofs.StandsLemmas.{Stands, Stands-item, number-there, range-there, u64_at-there}
use Rattle.sourcemap_compiled_write.proofs.StandsLemmas.{length-pieces-le}
use Rattle.sourcemap_compiled_write.proofs.TextsLemmas.{item-first, item-rest, item-there, length-texts-append}
use Rattle.sourcemap_compiled_write.proofs.TextsLemmas.{length-texts_take, offset-at, text-there, text_by}
use Rattle.sourcemap_compiled_write.proofs.WriteLemmas.{length-texts_of}

-- ---- items of a block

small-block : (xs : List ℕ) (block : ℕ) → AreSmall xs → AreSmall (block_of xs block)
small-block xs block small = record {
  at = λ k. elim (cases_lt k 64) [
    | inl inside ↦
        rw (get_or-take 64 (drop (64 * block) xs) k 0 inside, get_or-drop (64 * block) xs k 0)
        (small.at (64 * block + k))
    | inr past ↦
        let many = length-block_of xs block in
        rw (get_or_past (block_of xs block) k 0 (omega arith)) (omega arith)
  ];
}

small-values : (ts : List RawToken) (block field : ℕ) → AreSmall (token_values ts field)
    → AreSmall (token_values (block_of ts block) field)
small-values ts block field small = record {
  at = λ k. elim (cases_lt k 64) [
    | inl inside ↦ rw (token_values-block ts block field k inside) (small.at (64 * block + k))
    | inr past ↦
        let many = length-block_of ts block in
        let same = length-map (block_of ts block) (λ t. slice_index (fields_of t) field) in
        rw (get_or_past (token_values (block_of ts block) field) k 0 (omega arith)) (omega arith)
  ];
}

-- the first token of a block
first_value : (ts : List RawToken) (block field : ℕ) → 64 * block < length ts
    → slice_index (token_values (block_of ts block) field) 0
    ≡ slice_index (fields_of (get_or ts (64 * block) no_token)) field
first_value ts block field l =
    let at : 64 * block + 0 ≡ 64 * block = omega arith in
    token_values-block ts block field 0 (omega arith)
    ∙ ap (λ (n : ℕ). slice_index (token_values ts field) n) at
    ∙ get_or-token_values ts field (64 * block) no_token l

-- the first token of a block has the position where the block starts
first_place : (packed t : RawToken) (line column place : ℕ) → packed ≡ t → (place ≡ 0 → line ≡ t.dst_line)
    → (place ≡ 0 → column ≡ t.dst_col)
    → (if place == 0 then record packed { dst_line = line; dst_col = column } else packed) ≡ t
first_place packed t line column place same a b = elim (cases_eq place 0) [
  | inl first ↦ rw (eq-eqb place 0 first, same, a first, b first) refl
  | inr other ↦ rw (ne_eqb place 0 other, same) refl
]

-- ---- the header, and ids

-- numbers that `parse` accepts
accepted_by : (len magic version end tables : ℕ) → 64 ≤ len → magic ≡ compiled_magic → version ≡ compiled_version
    → end ≡ len → tables ≤ len
    → (if nat_lt len 64 then Some Truncated
    else if not (magic == compiled_magic) then Some WrongMagic
    else if not (version == compiled_version) then Some (WrongVersion version)
    else if nat_lt len end then Some Truncated
    else if nat_lt end len || nat_lt len tables then Some WrongExtent
    else None) ≡ None
accepted_by len magic version end tables a b c d e = grind (arith, nat_tests)

id_number_small : (id : Option (List ℕ)) → debug_id_number id < 2 ^ 32
id_number_small None = omega arith
id_number_small (Some id) = omega arith

id_back : (id : Option (List ℕ)) (number : ℕ) (whole : List ℕ) → number ≡ debug_id_number id
    → IfSome id (λ i. length i ≡ 16) → Stands whole 32 (debug_id_bytes id)
    → (if number == 0 then None else Some (slice_range whole 32 48)) ≡ id
id_back None number whole e many s = rw e refl
id_back (Some id) number whole e many s = rw e (ap Some (range-there whole 32 48 id (omega (arith, many)) s))

-- a text between starts that are read
read_between : (bytes : List ℕ) (read_start read_end start end : ℕ) (text : Option (List ℕ)) → read_start ≡ start
    → read_end ≡ end → start + length (text_bytes text) ≡ end → end ≤ length bytes
    → Stands bytes start (text_bytes text)
    → ◌≡◌ {A = Result (Option (List ℕ)) CompiledMapError}
    (if nat_lt read_end read_start || nat_lt (length bytes) read_end then Err TextOutside
    else if read_start == read_end then Ok None else Ok (Some (slice_range bytes read_start (read_end - 1))))
    (Ok text)
read_between bytes read_start read_end start end text a b e l s = rw (a, b) (text-there bytes start end text e l s)

scope_by : (read_number number : ℕ) (read : ℕ → Result (Option (List ℕ)) CompiledMapError)
    (names : List (Option (List ℕ))) → read_number ≡ number → ((id : ℕ) → read id ≡ Ok (item_at names id))
    → (if read_number == 0 then Ok None else read (read_number - 1))
    ≡ Ok (if number == 0 then None else item_at names (number - 1))
scope_by read_number number read names e back =
    rw e (elim (number == 0) as (λ b. (if b then Ok None else read (number - 1))
    ≡ Ok (if b then None else item_at names (number - 1))) [ true ↦ refl | false ↦ back (number - 1) ])

same_meaning : (m : CompiledMeaning) (a b c : Result (Option (List ℕ)) CompiledMapError) → a ≡ m.source → b ≡ m.name
    → c ≡ m.scope → ◌≡◌ {A = CompiledMeaning} (record m { source = a; name = b; scope = c }) m
same_meaning m a b c e f g = rw (e, f, g) refl

module _ (p : Parts) (w : AreWritable p) where
  abbrev file : List ℕ
  file = file_bytes p

  total : length_of p < 2 ^ 32
  total = let same = length-file p w.id in let short = w.short in omega arith

  many_texts : length (texts_of p)
      ≡ length p.sources + length p.names + length p.scope_names + length p.contents + 1
  many_texts = length-texts_of p

  id_number : debug_id_number p.debug_id < 2 ^ 32
  id_number = id_number_small p.debug_id

  numbers : AreSmall (header_numbers p)
  numbers =
      small-list (header_numbers p) (
        omega arith,
        (
          omega arith,
          (
            total,
            (
              w.few,
              (
                omega (arith, total, many_texts),
                (omega (arith, total, many_texts), (omega (arith, total, many_texts), (id_number, tt))),
              ),
            ),
          ),
        ),
      )

  numbers_end : AreSmall (header_end p)
  numbers_end =
      small-list (header_end p) (
        omega (arith, total),
        (
          omega (arith, total, many_texts),
          (
            omega arith,
            (
              omega arith,
              tt,
            ),
          ),
        ),
      )

  -- a number of the header
  header_number : (k : ℕ) → k < 8 → u32_at file (0 + 4 * k) ≡ slice_index (header_numbers p) k
  header_number k l = number-there file 0 (header_numbers p) k l (numbers.at k) (header_numbers_there p w.id)

  end_number : (k : ℕ) → k < 4 → u32_at file (48 + 4 * k) ≡ slice_index (header_end p) k
  end_number k l = number-there file 48 (header_end p) k l (numbers_end.at k) (header_end_there p w.id)

  pub tokens_counted : token_count file ≡ length p.tokens
  tokens_counted = header_number 3 (omega arith)

  pub sources_counted : source_count file ≡ length p.sources
  sources_counted = header_number 4 (omega arith)

  pub names_counted : name_count file ≡ length p.names
  names_counted = header_number 5 (omega arith)

  pub contents_counted : content_count file ≡ length p.contents
  contents_counted = header_number 6 (omega arith)

  pub scopes_counted : scope_count file ≡ length p.scope_names
  scopes_counted = end_number 1 (omega arith)

  tables_read : tables_start file ≡ tables_offset p
  tables_read = end_number 0 (omega arith)

  blocks_read : block_count file ≡ blocks_of p
  blocks_read = ap (λ (n : ℕ). (n + 63) / 64) tokens_counted

  texts_counted : text_count file ≡ length (texts_of p)
  texts_counted = omega (arith, sources_counted, names_counted, contents_counted, scopes_counted, many_texts)

  pub accepted : IsAccepted file
  accepted =
      let same = length-file p w.id in
      accepted_by (length file) (u32_at file 0) (u32_at file 4) (u32_at file 8) (tables_end file) (omega arith)
      (header_number 0 (omega arith)) (header_number 1 (omega arith)) (header_number 2 (omega arith) ∙ sym same)
      (omega (arith, tables_read, blocks_read, texts_counted))

  pub debug_id_read : compiled_debug_id file ≡ p.debug_id
  debug_id_read =
      id_back p.debug_id (u32_at file 28) file (header_number 7 (omega arith)) w.id (debug_id_there p w.id)

  -- ---- blocks

  module _ (block : ℕ) (inside : block < blocks_of p) where
    near : body_offset p block < 2 ^ 32
    near =
        let before = length-pieces-le (λ b. body_bytes (block_of p.tokens b) (block_of p.scopes b)) block (blocks_of p)
        (omega arith) in
        omega (arith, total)

    values : (field : ℕ) → field < 7 → AreSmall (token_values (block_of p.tokens block) field)
    values field l = small-values p.tokens block field (record { at = λ k. w.values field k l })

    start_read : start_at file block
        ≡ position_number (
          slice_index (token_values (block_of p.tokens block) 0) 0,
          slice_index (token_values (block_of p.tokens block) 1) 0,
        )
    unfolding start_bytes
    start_read =
        let line = (values 0 (omega arith)).at 0 in
        let column = (values 1 (omega arith)).at 0 in
        let first = position_number (
          slice_index (token_values (block_of p.tokens block) 0) 0,
          slice_index (token_values (block_of p.tokens block) 1) 0,
        ) in
        let small : first < 2 ^ 64 = omega arith in
        let there : tables_offset p + 8 * block ≡ start_offset file block = omega (arith, tables_read) in
        u64_at-there file (start_offset file block) first small
        (subst (λ (n : ℕ). Stands file n (start_bytes (block_of p.tokens block))) there
        (start_there p w.id block inside))

    line_read : start_at file block / 2 ^ 32 ≡ slice_index (token_values (block_of p.tokens block) 0) 0
    line_read = let column = (values 1 (omega arith)).at 0 in let start = start_read in omega arith

    column_read : start_at file block % 2 ^ 32 ≡ slice_index (token_values (block_of p.tokens block) 1) 0
    column_read = let column = (values 1 (omega arith)).at 0 in let start = start_read in omega arith

    head_at : tables_offset p + 8 * blocks_of p + 32 * block ≡ head_offset file block
    head_at = omega (arith, tables_read, blocks_read)

    head_stands : Stands file (head_offset file block)
        (head_bytes (body_offset p block) (block_of p.tokens block) (block_of p.scopes block))
    head_stands =
        subst (λ (n : ℕ). Stands file n
        (head_bytes (body_offset p block) (block_of p.tokens block) (block_of p.scopes block))) head_at
        (head_there p w.id block inside)

    block_token : (place : ℕ) → place < length (block_of p.tokens block)
        → token_in file (start_at file block / 2 ^ 32) (head_offset file block) place
        ≡ get_or (block_of p.tokens block) place no_token
    block_token place l =
        let many = length-block_of p.tokens block in
        token_read file (head_offset file block) (body_offset p block) (block_of p.tokens block)
        (block_of p.scopes block)
        near values (small-block p.scopes block (record { at = w.scopes })) head_stands (body_there p w.id block inside)
        (start_at file block / 2 ^ 32) place l (omega arith) line_read

    block_scope : (place : ℕ) → place < 64
        → packed_at file (head_offset file block) 7 place ≡ slice_index (block_of p.scopes block) place
    block_scope place l =
        packed_read file (head_offset file block) (body_offset p block) (block_of p.tokens block)
        (block_of p.scopes block)
        near values (small-block p.scopes block (record { at = w.scopes })) head_stands
        (body_there p w.id block inside) 7 place (omega arith)
        l ∙ scope_number-at (block_of p.tokens block) (block_of p.scopes block) place

  -- ---- tokens

  pub token_back : (index : ℕ) → index < length p.tokens → compiled_token file index ≡ get_or p.tokens index no_token
  unfolding compiled_token
  token_back index l =
      let block = index / 64 in
      let inside : block < blocks_of p = omega arith in
      let many = length-block_of p.tokens block in
      let some : 64 * block < length p.tokens = omega arith in
      let here : index % 64 ≡ 0 → 64 * block ≡ index = λ e. omega arith in
      first_place (token_in file (start_at file block / 2 ^ 32) (head_offset file block) (index % 64))
      (get_or p.tokens index no_token) (start_at file block / 2 ^ 32) (start_at file block % 2 ^ 32) (index % 64)
      (block_token block inside (index % 64) (omega arith) ∙ block_of-at p.tokens index no_token)
      (λ e. line_read block inside ∙ first_value p.tokens block 0 some
      ∙ ap (λ (n : ℕ). (get_or p.tokens n no_token).dst_line) (here e))
      (λ e. column_read block inside ∙ first_value p.tokens block 1 some
      ∙ ap (λ (n : ℕ). (get_or p.tokens n no_token).dst_col) (here e))

  pub tokens_back : compiled_tokens file ≡ p.tokens
  tokens_back =
      ap (λ (n : ℕ). map (compiled_token file) (range_with_len 0 n)) tokens_counted
      ∙ sym (fill_by_all (compiled_token file) p.tokens (length p.tokens) no_token refl
      (λ k l. sym (token_back k l)))

  pub scope_back : (index : ℕ) → index < length p.tokens → scope_number file index ≡ slice_index p.scopes index
  scope_back index l =
      block_scope (index / 64) (omega arith) (index % 64) (omega arith) ∙ block_of-at p.scopes index 0

  pub order_back : AreInOrder p.tokens → IsInOrder file
  order_back order = record { tokens = subst (λ (ts : List RawToken). AreInOrder ts) (sym tokens_back) order }

  -- ---- texts

  abbrev start_of : ℕ → ℕ
  start_of k = texts_offset p + length (texts_bytes (take k (texts_of p)))

  starts_within : (k : ℕ) → start_of k ≤ length_of p
  starts_within k =
      let parts = length-texts-append (take k (texts_of p)) (drop k (texts_of p)) in
      let whole = ap (λ (ts : List (Option (List ℕ))). length (texts_bytes ts)) (take-append-drop k (texts_of p)) in
      omega arith

  text_start_read : (k : ℕ) → k ≤ length (texts_of p) → text_start file k ≡ start_of k
  unfolding table_bytes
  text_start_read k l =
      let offsets = text_offsets (texts_offset p) (texts_of p) in
      let many : k < length (offsets ++ length_of p ∷ []) =
      omega (arith, length-append offsets (length_of p ∷ []), length-text_offsets (texts_offset p) (texts_of p)) in
      let value = offset-at (texts_offset p) (texts_of p) k (length_of p) l refl in
      let small : slice_index (offsets ++ length_of p ∷ []) k < 2 ^ 32 =
      rw value (omega (arith, starts_within k, total)) in
      let there : tables_offset p + 40 * blocks_of p + 4 * k ≡ tables_start file + 40 * block_count file + 4 * k =
      omega (arith, tables_read, blocks_read) in
      ap (u32_at file) (sym there)
      ∙ number-there file (tables_offset p + 40 * blocks_of p) (offsets ++ length_of p ∷ []) k many small
      (text_table_there p w.id) ∙ value

  text_between : (k start end : ℕ) (text : Option (List ℕ)) → text_start file k ≡ start
      → text_start file (k + 1) ≡ end → start + length (text_bytes text) ≡ end → end ≤ length file
      → Stands file start (text_bytes text) → text_at file k ≡ Ok text
  text_between k start end text a b e l s =
      read_between file (text_start file k) (text_start file (k + 1)) start end text a b e l s

  text_there : (k : ℕ) → k < length (texts_of p) → text_at file k ≡ Ok (item_at (texts_of p) k)
  text_there k l =
      let text = get_or (texts_of p) k None in
      let same = length-file p w.id in
      let ends = starts_within (k + 1) in
      let size = length-texts_take (texts_of p) k l in
      text_between k (start_of k) (start_of (k + 1)) text (text_start_read k (omega arith))
      (text_start_read (k + 1) (omega arith)) (omega arith) (omega arith)
      (Stands-item text_bytes file (texts_offset p) (texts_of p) k None l (texts_there p w.id))
      ∙ ap Ok (sym (item-there (texts_of p) k l))

  text_back : (n k : ℕ) → n ≡ k → k < length (texts_of p) → text_at file n ≡ Ok (item_at (texts_of p) k)
  text_back n k e l = ap (text_at file) e ∙ text_there k l

  abbrev after_sources : List (Option (List ℕ))
  after_sources = p.names ++ (p.scope_names ++ (p.file ∷ p.contents))

  abbrev after_names : List (Option (List ℕ))
  after_names = p.scope_names ++ (p.file ∷ p.contents)

  pub source_back : (id : ℕ) → compiled_source file id ≡ Ok (item_at p.sources id)
  source_back id =
      text_by id (source_count file) (text_at file id) p.sources sources_counted
      (λ l. text_back id id refl (omega (arith, many_texts)) ∙ ap Ok (item-first p.sources after_sources id l))

  pub name_back : (id : ℕ) → compiled_name file id ≡ Ok (item_at p.names id)
  name_back id =
      let n = length p.sources + id in
      text_by id (name_count file) (text_at file (source_count file + id)) p.names names_counted
      (λ l. text_back (source_count file + id) n (omega (arith, sources_counted)) (omega (arith, many_texts))
      ∙ ap Ok (item-rest p.sources after_sources n id refl ∙ item-first p.names after_names id l))

  pub scope_text_back : (id : ℕ) → scope_text file id ≡ Ok (item_at p.scope_names id)
  scope_text_back id =
      let n = length p.sources + (length p.names + id) in
      text_by id (scope_count file) (text_at file (source_count file + name_count file + id)) p.scope_names
      scopes_counted
      (λ l. text_back (source_count file + name_count file + id) n (omega (arith, sources_counted, names_counted))
      (omega (arith, many_texts))
      ∙ ap Ok (item-rest p.sources after_sources n (length p.names + id) refl
      ∙ item-rest p.names after_names (length p.names + id) id refl
      ∙ item-first p.scope_names (p.file ∷ p.contents) id l))

  -- a text after those of the scopes
  late_text : (n k : ℕ) → n ≡ length p.sources + (length p.names + (length p.scope_names + k)) → k ≤ length p.contents
      → text_at file n ≡ Ok (item_at (p.file ∷ p.contents) k)
  late_text n k e l =
      text_back n (length p.sources + (length p.names + (length p.scope_names + k))) e (omega (arith, many_texts))
      ∙ ap Ok (item-rest p.sources after_sources (length p.sources + (length p.names + (length p.scope_names + k)))
      (length p.names + (length p.scope_names + k)) refl
      ∙ item-rest p.names after_names (length p.names + (length p.scope_names + k)) (length p.scope_names + k) refl
      ∙ item-rest p.scope_names (p.file ∷ p.contents) (length p.scope_names + k) k refl)

  pub file_back : compiled_file file ≡ Ok p.file
  file_back =
      late_text (file_text file) 0 (omega (arith, sources_counted, names_counted, scopes_counted)) (omega arith)

  pub contents_back : (id : ℕ) → compiled_contents file id ≡ Ok (item_at p.contents id)
  contents_back id =
      text_by id (content_count file) (text_at file (file_text file + 1 + id)) p.contents contents_counted
      (λ l. late_text (file_text file + 1 + id) (suc id)
      (omega (arith, sources_counted, names_counted, scopes_counted)) (omega arith))

  pub scope_said : (index : ℕ) → index < length p.tokens → compiled_scope file index ≡ Ok (scope_in p index)
  scope_said index l =
      scope_by (scope_number file index) (slice_index p.scopes index) (scope_text file) p.scope_names
      (scope_back index l) scope_text_back

  abbrev found_value : ℕ × ℕ → ℕ × RawToken → CompiledTokenValue
  found_value position found = record {
    bytes = file;
    raw = found.1;
    index = found.0;
    extra_columns = distance found.1 position;
  }

  abbrev found_meaning : ℕ × ℕ → ℕ × RawToken → CompiledMeaning
  found_meaning position found = record {
    source = Ok (item_at p.sources found.1.src_id);
    line = found.1.src_line;
    column = min (found.1.src_col + distance found.1 position) 4294967295;
    name = Ok (item_at p.names found.1.name_id);
    scope = Ok (scope_in p found.0);
    is_range = found.1.is_range;
  }

  means_by : (position : ℕ × ℕ) (found : Option (ℕ × RawToken))
      → IfSome found (λ e. slice_get p.tokens e.0 ≡ Some e.1)
      → option_map says (option_map (found_value position) found) ≡ option_map (found_meaning position) found
  means_by position None own = refl
  means_by position (Some e) own =
      let inside = slice_get_within p.tokens e.0 e.1 own in
      ap Some (same_meaning (found_meaning position e) _ _ _ (source_back e.1.src_id) (name_back e.1.name_id)
      (scope_said e.0 inside))

  pub meaning_back : (position : ℕ × ℕ) → compiled_meaning file position ≡ parts_meaning p position
  meaning_back position =
      ap (λ (ts : List RawToken). option_map says (option_map (found_value position) (closest_token ts position)))
      tokens_back
      ∙ means_by position (closest_token p.tokens position) (index-closest destination position_cmp p.tokens position)
