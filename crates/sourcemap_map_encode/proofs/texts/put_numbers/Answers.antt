use Rattle.std.proofs.Common.{ℕ, ◌+◌, List, [], ◌∷◌, ◌++◌, drop, take, map, get_or, string_bytes, subst, sym, arith}
use Rattle.std.specs.List.{AllByRecursion}
use Rattle.std.proofs.lemmas.List.{drop_more, take_more}
use Rattle.sourcemap_records.specs.Field.{written_number}
use Rattle.sourcemap_records.specs.Jsontypes.{FitsU32}
use Rattle.serde_json.specs.Written.{comma_if}
use Rattle.sourcemap_map_encode.specs.Buffered.{GrowsBy}
use Rattle.sourcemap_map_encode.proofs.BufferedLemmas.{Grows-into}
use Rattle.sourcemap_map_encode.proofs.ListLemmas.{IsListed, listed-more}
use Rattle.sourcemap_map_encode.proofs.texts.put_numbers.Goals as goal

small_more : (ns : List ℕ) (n : ℕ) → AllByRecursion FitsU32 ns → FitsU32 n → AllByRecursion FitsU32 (ns ++ n ∷ [])
small_more [] n all small = (small, tt)
small_more (x ∷ xs) n all small = (all.0, small_more xs n all.1 small)

pub loop-number-preserved : goal.loop-number-preserved
loop-number-preserved g c =
    let l = c.loop-number in
    let numbers = c.args.numbers.now in
    let i = l.number-index in
    let n = get_or numbers i 0 in
    let left = drop (i + 1) numbers in
    let held = g.W.Write.contents in
    record {
      listed = listed-more (map written_number numbers) (map written_number left) (written_number n) l.later
          (held c.args.writer.now) (held l.writer) (held l.writer) (held c.put_number.new.writer)
          (string_bytes c.args.buffer.now) (string_bytes l.buffer) (string_bytes c.put_comma.new.buffer)
          (string_bytes c.put_number.new.buffer)
          (subst (λ (ns : List ℕ). GrowsBy (IsListed (map written_number numbers) (map written_number ns) l.later)
          (held c.args.writer.now) (string_bytes c.args.buffer.now) (held l.writer) (string_bytes l.buffer))
          (drop_more numbers i 0 (omega arith)) l.invariant.listed)
          (Grows-into (held l.writer) (string_bytes l.buffer) (string_bytes c.put_comma.new.buffer) (comma_if l.later)
          c.in_ok-put_comma.ensures) c.in_ok-put_number.ensures.text;
      small = subst (λ (ns : List ℕ). AllByRecursion FitsU32 ns) (sym (take_more numbers i 0 (omega arith)))
          (small_more (take i numbers) n l.invariant.small c.in_ok-put_number.ensures.small);
    }
