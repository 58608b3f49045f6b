-- Small compositions with known results, computed from the definitions.
use Rattle.std.proofs.Common.{◌≡◌, refl, ℕ, [], ◌∷◌, true, false, Ok, Err}
use Rattle.sourcemap_errors.specs.declared.errors.Error.TheVariants.{IncompatibleSourceMap}
use Rattle.sourcemap_tokens.specs.declared.tokens.RawToken.{RawToken}
use Rattle.sourcemap_compose.specs.Composition.{composition}

abbrev at : (dst_line dst_col src_line src_col : ℕ) → RawToken
at dst_line dst_col src_line src_col = record {
  dst_line = dst_line;
  dst_col = dst_col;
  src_line = src_line;
  src_col = src_col;
  src_id = 0;
  name_id = 4294967295;
  is_range = false;
}

abbrev range : (dst_line dst_col src_line src_col : ℕ) → RawToken
range dst_line dst_col src_line src_col = record {
  dst_line = dst_line;
  dst_col = dst_col;
  src_line = src_line;
  src_col = src_col;
  src_id = 0;
  name_id = 4294967295;
  is_range = true;
}

abbrev bare_range : (dst_line dst_col : ℕ) → RawToken
bare_range dst_line dst_col = record {
  dst_line = dst_line;
  dst_col = dst_col;
  src_line = 4294967295;
  src_col = 4294967295;
  src_id = 4294967295;
  name_id = 4294967295;
  is_range = true;
}

-- the first original starts before the start of the adjustment, and the second original starts in the adjustment
two_parts : composition (at 8 28 102 35 ∷ at 8 40 102 50 ∷ []) (at 17 23 8 30 ∷ [])
    ≡ Ok (at 17 23 102 35 ∷ at 17 33 102 50 ∷ [])
two_parts = refl

-- the adjustment covers line 8 from column 30 to the end of the line, so the original on line 9 gives no token
line_end : composition (at 8 28 102 35 ∷ at 8 40 102 50 ∷ at 9 10 103 12 ∷ []) (at 17 23 8 30 ∷ [])
    ≡ Ok (at 17 23 102 35 ∷ at 17 33 102 50 ∷ [])
line_end = refl

-- the first of two adjustments at one position is empty, and overlaps an original only if the original starts earlier
empty_inside : composition (at 0 0 1 1 ∷ []) (at 3 0 0 5 ∷ at 4 0 0 5 ∷ []) ≡ Ok (at 3 0 1 1 ∷ at 4 0 1 1 ∷ [])
empty_inside = refl

empty_at_start : composition (at 0 5 1 1 ∷ []) (at 3 0 0 5 ∷ at 4 0 0 5 ∷ []) ≡ Ok (at 4 0 1 1 ∷ [])
empty_at_start = refl

-- the generated column 4294967296 gives an error, the generated column 4294967295 does not
column_overflow : composition (at 0 0 1 1 ∷ at 0 1 1 2 ∷ []) (at 0 4294967295 0 0 ∷ []) ≡ Err IncompatibleSourceMap
column_overflow = refl

last_column : composition (at 0 0 1 1 ∷ []) (at 0 4294967295 0 0 ∷ []) ≡ Ok (at 0 4294967295 1 1 ∷ [])
last_column = refl

-- the first of two originals at one position is empty, and overlaps an adjustment only if the adjustment starts earlier
empty_original_inside : composition (at 0 5 1 1 ∷ at 0 5 2 2 ∷ []) (at 0 0 0 0 ∷ []) ≡ Ok (at 0 5 1 1 ∷ at 0 5 2 2 ∷ [])
empty_original_inside = refl

empty_original_at_start : composition (at 0 5 1 1 ∷ at 0 5 2 2 ∷ []) (at 0 0 0 5 ∷ []) ≡ Ok (at 0 0 2 2 ∷ [])
empty_original_at_start = refl

-- an adjustment at original line and column 4294967295, as in a token without a source, gives no token
no_source : composition (at 0 0 1 1 ∷ []) (at 0 0 4294967295 4294967295 ∷ []) ≡ Ok []
no_source = refl

-- two new tokens at one generated position: the original positions of the adjustments decide the order
one_position : composition (at 0 0 1 1 ∷ at 0 5 2 2 ∷ []) (at 0 0 0 0 ∷ at 0 0 0 5 ∷ [])
    ≡ Ok (at 0 0 1 1 ∷ at 0 0 2 2 ∷ [])
one_position = refl

-- lists out of order, and a sorted result
out_of_order : composition (at 0 5 2 2 ∷ at 0 0 1 1 ∷ []) (at 0 0 0 5 ∷ at 7 0 0 0 ∷ [])
    ≡ Ok (at 0 0 2 2 ∷ at 7 0 1 1 ∷ [])
out_of_order = refl

-- the adjustment starts ten columns after an original. Only a range token with a source gets a higher original column
cut_range : composition (range 0 0 0 7 ∷ []) (at 5 0 0 10 ∷ []) ≡ Ok (range 5 0 0 17 ∷ [])
cut_range = refl

cut_plain : composition (at 0 0 0 7 ∷ []) (at 5 0 0 10 ∷ []) ≡ Ok (at 5 0 0 7 ∷ [])
cut_plain = refl

cut_to_the_end : composition (range 0 0 0 4294967290 ∷ []) (at 5 0 0 10 ∷ []) ≡ Ok (range 5 0 0 4294967295 ∷ [])
cut_to_the_end = refl

cut_bare : composition (bare_range 0 0 ∷ []) (at 5 0 0 10 ∷ []) ≡ Ok (bare_range 5 0 ∷ [])
cut_bare = refl
