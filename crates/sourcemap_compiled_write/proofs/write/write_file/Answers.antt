use Rattle.std.proofs.Common.{◌≡◌, ◌∙◌, ◌+◌, ◌++◌, List, ℕ, ap, drop, length, replicate, rules, inr, arith}
use Rattle.std.specs.List.{flat_map}
use Rattle.byteorder.specs.Endian.{little_bytes}
use Rattle.std.proofs.lemmas.Result.{err_from_is_err_and}
use Rattle.sourcemap_compiled_write.specs.File.{header_bytes, texts_of, texts_offset}
use Rattle.sourcemap_compiled_write.specs.Stored.{parts_value}
use Rattle.sourcemap_compiled_write.specs.Texts.{table_bytes}
use Rattle.sourcemap_compiled_write.proofs.FileLemmas.{length-file, length-header}
use Rattle.sourcemap_compiled_write.proofs.WriteLemmas.{all_replaced, file_joined}
use Rattle.sourcemap_compiled_write.proofs.write.write_file.Goals as goal

pub returns-then-rest-clause-refused : goal.returns-then-rest-clause-refused
returns-then-rest-clause-refused c same =
    let long = length-file (parts_value c.args.parts.now) c.id_bytes-id.ensures.whole in
    inr (omega arith)

pub returns-in_err-tables-clause-refused : goal.returns-in_err-tables-clause-refused
returns-in_err-tables-clause-refused c =
    let p = err_from_is_err_and c.from_residual-in_err-tables.result c.from_residual-in_err-tables.ensures.1 in
    rw (p.1, p.2) (λ same.
    let long = length-file (parts_value c.args.parts.now) c.id_bytes-id.ensures.whole in
    let past = c.in_err-tables.ensures.refused same in
    inr (omega arith))

pub put_header-requires-clause-whole : goal.put_header-requires-clause-whole
put_header-requires-clause-whole c =
    ap length c.as_slice.ensures.value ∙ ap length c.in_ok-header.ensures
    ∙ length-header (parts_value c.args.parts.now) c.id_bytes-id.ensures.whole

pub returns-clause-file : goal.returns-clause-file
returns-clause-file c =
    let p = parts_value c.args.parts.now in
    let at : c.in_ok-tables.tables + c.tables_length.result ≡ texts_offset p =
    let tables = c.in_ok-tables.ensures.tables in omega arith in
    let table = c.in_ok-push_table.ensures
    ∙ ap (λ (n : ℕ). c.push_blocks.new.out.items ++ table_bytes n (texts_of p)) at in
    let zeros = ap length c.in_ok-push_numbers.ensures ∙ ap (λ (l : List ℕ). length (l
    ++ flat_map (little_bytes 4) (replicate 16 0))) c.new-out.ensures.items in
    let header = c.as_slice.ensures.value ∙ c.in_ok-header.ensures in
    let items = c.push_all_texts.new.out.items in
    let many : c.push_all_texts.new.out.len ≡ length items = first_of (omega arith, search rules) in
    let kept : length c.put_header.new.file ≡ length items =
    let same = ap length c.as_mut_slice.ensures.value in
    first_of (omega arith, omega (arith, c.put_header.auto.file)) in
    all_replaced c.push_all_texts.new.out.len c.put_header.new.file items many kept
    ∙ file_joined p c.push_numbers.new.out.items c.push_blocks.new.out.items c.push_table.new.out.items
    c.push_all_texts.new.out.items c.put_header.new.file zeros
    c.in_ok-tables.ensures.blocks table c.in_ok-push_all_texts.ensures
    (c.put_header.ensures ∙ ap (λ (l : List ℕ). l ++ drop 64 c.as_mut_slice.result.now) header
    ∙ ap (λ (l : List ℕ). header_bytes p ++ drop 64 l) c.as_mut_slice.ensures.value)

pub returns-clause-writable : goal.returns-clause-writable
returns-clause-writable c =
    let p = parts_value c.args.parts.now in
    record {
      values = λ field index l. c.in_ok-tables.ensures.small field index l;
      scopes = c.small_scopes.ensures;
      id = c.id_bytes-id.ensures.whole;
      few = omega arith;
      short =
          let long = length-file p c.id_bytes-id.ensures.whole in
          let tables = c.in_ok-tables.ensures.tables in
          let room = c.in_ok-tables.ensures.room in
          omega arith;
    }
