-- Where the parts of a file stand that was written, and how long they are.
use Rattle.std.proofs.Common.{◌≡◌, refl, ap, subst, ◌∙◌, ℕ, suc, ◌+◌, ◌*◌, ◌<◌}
use Rattle.std.proofs.Common.{List, [], ◌∷◌, ◌++◌, length, slice_index, arith, length-append, Some, None, Option}
use Rattle.std.proofs.Common.{IfSome}
use Rattle.std.specs.List.{flat_map}
use Rattle.byteorder.specs.Endian.{little_bytes}
use Rattle.byteorder.specs.Numbers.{length-bytes_low_first}
use Rattle.sourcemap_tokens.specs.declared.tokens.RawToken.{RawToken}
use Rattle.sourcemap_compiled.specs.Numbers.{position_number}
use Rattle.sourcemap_compiled_write.specs.Blocks.{block_of, body_bytes, field_width, head_bases, head_bytes}
use Rattle.sourcemap_compiled_write.specs.Blocks.{start_bytes}
use Rattle.sourcemap_compiled_write.specs.Blocks.{width_bytes}
use Rattle.sourcemap_compiled_write.specs.File.{blocks_of, bodies_of, body_offset, debug_id_bytes, file_bytes}
use Rattle.sourcemap_compiled_write.specs.File.{header_bytes}
use Rattle.sourcemap_compiled_write.specs.File.{header_end, header_numbers, heads_of, length_of, starts_of}
use Rattle.sourcemap_compiled_write.specs.File.{tables_offset}
use Rattle.sourcemap_compiled_write.specs.File.{texts_of, texts_offset}
use Rattle.sourcemap_compiled_write.specs.Packing.{token_values}
use Rattle.sourcemap_compiled_write.specs.Parts.{Parts}
use Rattle.sourcemap_compiled_write.specs.Pieces.{pieces}
use Rattle.sourcemap_compiled_write.specs.Texts.{table_bytes, text_bytes, text_offsets, texts_bytes}
use Rattle.sourcemap_compiled_write.proofs.StandsLemmas.{Stands, Stands-first, Stands-piece, Stands-rest, Stands-whole}
use Rattle.sourcemap_compiled_write.proofs.StandsLemmas.{length-flat_map-each, length-pieces}

-- ---- lengths

pub length-numbers : (xs : List ℕ) → length (flat_map (little_bytes 4) xs) ≡ 4 * length xs
length-numbers xs = length-flat_map-each (little_bytes 4) 4 (λ x. length-bytes_low_first 0 4 x) xs

pub length-head : (offset : ℕ) (ts : List RawToken) (ss : List ℕ) → length (head_bytes offset ts ss) ≡ 32
unfolding head_bytes width_bytes
length-head offset ts ss =
    length-append (flat_map (little_bytes 4) (offset ∷ head_bases ts)) (pieces (λ k. field_width ts ss k ∷ []) 8)
    ∙ omega (
      arith,
      length-numbers (offset ∷ head_bases ts),
      length-pieces (λ k. field_width ts ss k ∷ []) 1
          (λ k. refl) 8,
    )

pub length-start : (ts : List RawToken) → length (start_bytes ts) ≡ 8
unfolding start_bytes
length-start ts = length-bytes_low_first 0 8 (position_number (
  slice_index (token_values ts 0) 0,
  slice_index
      (token_values ts 1) 0,
))

pub length-text_offsets : (offset : ℕ) (texts : List (Option (List ℕ)))
    → length (text_offsets offset texts) ≡ length texts
length-text_offsets offset [] = refl
length-text_offsets offset (text ∷ texts) = ap suc (length-text_offsets (offset + length (text_bytes text)) texts)

pub length-table : (offset : ℕ) (texts : List (Option (List ℕ)))
    → length (table_bytes offset texts) ≡ 4 * (length texts + 1)
unfolding table_bytes
length-table offset texts =
    let end = offset + length (texts_bytes texts) in
    length-numbers (text_offsets offset texts ++ end ∷ [])
    ∙ omega (arith, length-append (text_offsets offset texts) (end ∷ []), length-text_offsets offset texts)

length-debug_id : (id : Option (List ℕ)) → IfSome id (λ i. length i ≡ 16) → length (debug_id_bytes id) ≡ 16
length-debug_id None whole = refl
length-debug_id (Some id) whole = whole

module _ (p : Parts) where
  pub length-starts : (count : ℕ) → length (starts_of p count) ≡ 8 * count
  length-starts count = length-pieces (λ block. start_bytes (block_of p.tokens block)) 8
      (λ block. length-start (block_of p.tokens block)) count

  pub length-heads : (count : ℕ) → length (heads_of p count) ≡ 32 * count
  length-heads count =
      length-pieces (λ block. head_bytes (body_offset p block) (block_of p.tokens block) (block_of p.scopes block)) 32
      (λ block. length-head (body_offset p block) (block_of p.tokens block) (block_of p.scopes block)) count

  module _ (id : IfSome p.debug_id (λ i. length i ≡ 16)) where
    pub length-header : length (header_bytes p) ≡ 64
    unfolding header_bytes
    length-header =
        length-append (flat_map (little_bytes 4) (header_numbers p))
        (debug_id_bytes p.debug_id ++ flat_map (little_bytes 4) (header_end p))
        ∙ omega (
          arith,
          length-append (debug_id_bytes p.debug_id) (flat_map (little_bytes 4) (header_end p)),
          length-numbers (header_numbers p),
          length-numbers (header_end p),
          length-debug_id p.debug_id id,
        )

    pub length-file : length (file_bytes p) ≡ length_of p
    unfolding file_bytes
    length-file =
        let n = blocks_of p in
        length-append (header_bytes p) (bodies_of p n ++ (starts_of p n ++ (heads_of p n ++ (table_bytes
        (texts_offset p) (texts_of p)
        ++ texts_bytes (texts_of p)))))
        ∙ omega (
          arith,
          length-header,
          length-append (bodies_of p n) (starts_of p n ++ (heads_of p n ++ (table_bytes (texts_offset p)
              (texts_of p) ++ texts_bytes (texts_of p)))),
          length-append (starts_of p n) (heads_of p n ++ (table_bytes (texts_offset p) (texts_of p) ++ texts_bytes
              (texts_of p))),
          length-append (heads_of p n) (table_bytes (texts_offset p) (texts_of p) ++ texts_bytes (texts_of p)),
          length-append (table_bytes (texts_offset p) (texts_of p)) (texts_bytes (texts_of p)),
          length-starts n,
          length-heads n,
          length-table (texts_offset p) (texts_of p),
        )

    -- ---- places

    whole_there : Stands (file_bytes p) 0 (header_bytes p ++ (bodies_of p (blocks_of p) ++ (starts_of p (blocks_of p)
        ++ (heads_of p (blocks_of p) ++ (table_bytes (texts_offset p) (texts_of p) ++ texts_bytes (texts_of p))))))
    unfolding file_bytes
    whole_there = Stands-whole (file_bytes p)

    header_there : Stands (file_bytes p) 0 (header_bytes p)
    header_there = Stands-first (file_bytes p) 0 (header_bytes p) _ whole_there

    pub header_numbers_there : Stands (file_bytes p) 0 (flat_map (little_bytes 4) (header_numbers p))
    unfolding header_bytes
    header_numbers_there = Stands-first (file_bytes p) 0 (flat_map (little_bytes 4) (header_numbers p))
        (debug_id_bytes p.debug_id ++ flat_map (little_bytes 4) (header_end p)) header_there

    after_numbers : Stands (file_bytes p) 32 (debug_id_bytes p.debug_id ++ flat_map (little_bytes 4) (header_end p))
    unfolding header_bytes
    after_numbers = Stands-rest (file_bytes p) 0 32 (flat_map (little_bytes 4) (header_numbers p))
        (debug_id_bytes p.debug_id ++ flat_map (little_bytes 4) (header_end p))
        (omega (arith, length-numbers (header_numbers p))) header_there

    pub debug_id_there : Stands (file_bytes p) 32 (debug_id_bytes p.debug_id)
    debug_id_there = Stands-first (file_bytes p) 32 (debug_id_bytes p.debug_id)
        (flat_map (little_bytes 4) (header_end p)) after_numbers

    pub header_end_there : Stands (file_bytes p) 48 (flat_map (little_bytes 4) (header_end p))
    header_end_there = Stands-rest (file_bytes p) 32 48 (debug_id_bytes p.debug_id)
        (flat_map (little_bytes 4) (header_end p)) (omega (arith, length-debug_id p.debug_id id)) after_numbers

    after_header : Stands (file_bytes p) 64 (bodies_of p (blocks_of p) ++ (starts_of p (blocks_of p)
        ++ (heads_of p (blocks_of p) ++ (table_bytes (texts_offset p) (texts_of p) ++ texts_bytes (texts_of p)))))
    after_header = Stands-rest (file_bytes p) 0 64 (header_bytes p) _ (omega (arith, length-header)) whole_there

    bodies_there : Stands (file_bytes p) 64 (bodies_of p (blocks_of p))
    bodies_there = Stands-first (file_bytes p) 64 (bodies_of p (blocks_of p)) _ after_header

    after_bodies : Stands (file_bytes p) (tables_offset p) (starts_of p (blocks_of p) ++ (heads_of p (blocks_of p)
        ++ (table_bytes (texts_offset p) (texts_of p) ++ texts_bytes (texts_of p))))
    after_bodies = Stands-rest (file_bytes p) 64 (tables_offset p) (bodies_of p (blocks_of p)) _ refl after_header

    starts_there : Stands (file_bytes p) (tables_offset p) (starts_of p (blocks_of p))
    starts_there = Stands-first (file_bytes p) (tables_offset p) (starts_of p (blocks_of p)) _ after_bodies

    after_starts : Stands (file_bytes p) (tables_offset p + 8 * blocks_of p) (heads_of p (blocks_of p)
        ++ (table_bytes (texts_offset p) (texts_of p) ++ texts_bytes (texts_of p)))
    after_starts = Stands-rest (file_bytes p) (tables_offset p) (tables_offset p + 8 * blocks_of p)
        (starts_of p (blocks_of p)) _ (omega (arith, length-starts (blocks_of p))) after_bodies

    heads_there : Stands (file_bytes p) (tables_offset p + 8 * blocks_of p) (heads_of p (blocks_of p))
    heads_there = Stands-first (file_bytes p) (tables_offset p + 8 * blocks_of p) (heads_of p
        (blocks_of p)) _ after_starts

    after_heads : Stands (file_bytes p) (tables_offset p + 40 * blocks_of p) (table_bytes (texts_offset p)
        (texts_of p) ++ texts_bytes (texts_of p))
    after_heads = Stands-rest (file_bytes p) (tables_offset p + 8 * blocks_of p) (tables_offset p + 40 * blocks_of p)
        (heads_of p (blocks_of p)) _ (omega (arith, length-heads (blocks_of p))) after_starts

    pub text_table_there : Stands (file_bytes p) (tables_offset p + 40 * blocks_of p) (table_bytes (texts_offset p)
        (texts_of p))
    text_table_there =
        Stands-first (file_bytes p) (tables_offset p + 40 * blocks_of p) (table_bytes (texts_offset p)
        (texts_of p)) _ after_heads

    pub texts_there : Stands (file_bytes p) (texts_offset p) (texts_bytes (texts_of p))
    texts_there = Stands-rest (file_bytes p) (tables_offset p + 40 * blocks_of p) (texts_offset p) (table_bytes
        (texts_offset p) (texts_of p))
        (texts_bytes (texts_of p)) (omega (arith, length-table (texts_offset p) (texts_of p))) after_heads

    module _ (block : ℕ) (inside : block < blocks_of p) where
      pub body_there : Stands (file_bytes p) (body_offset p block)
          (body_bytes (block_of p.tokens block) (block_of p.scopes block))
      body_there =
          Stands-piece (λ b. body_bytes (block_of p.tokens b) (block_of p.scopes b)) (file_bytes p) 64 block
          (blocks_of p) inside bodies_there

      pub start_there : Stands (file_bytes p) (tables_offset p + 8 * block) (start_bytes (block_of p.tokens block))
      start_there =
          subst (λ (n : ℕ). Stands (file_bytes p) (tables_offset p + n) (start_bytes (block_of p.tokens block)))
          (length-starts block)
          (Stands-piece (λ b. start_bytes (block_of p.tokens b)) (file_bytes p) (tables_offset p) block (blocks_of p)
          inside starts_there)

      pub head_there : Stands (file_bytes p) (tables_offset p + 8 * blocks_of p + 32 * block)
          (head_bytes (body_offset p block) (block_of p.tokens block) (block_of p.scopes block))
      head_there =
          subst (λ (n : ℕ). Stands (file_bytes p) (tables_offset p + 8 * blocks_of p + n)
          (head_bytes (body_offset p block) (block_of p.tokens block) (block_of p.scopes block))) (length-heads block)
          (Stands-piece (λ b. head_bytes (body_offset p b) (block_of p.tokens b) (block_of p.scopes b)) (file_bytes p)
          (tables_offset p + 8 * blocks_of p) block (blocks_of p) inside heads_there)
