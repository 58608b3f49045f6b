use Rattle.sourcemap_compiled_write.specs.Stored.{parts_value}
use Rattle.sourcemap_compiled_write.proofs.WriteLemmas.{table_joined}
use Rattle.sourcemap_compiled_write.proofs.write.push_table.Goals as goal

pub returns : goal.returns
returns c =
    table_joined c.args.out.now.items c.push_offsets.new.out.items c.push_offsets-2.new.out.items
    c.push_offsets-3.new.out.items c.push_offsets-4.new.out.items c.push_offsets-5.new.out.items
    c.push_numbers.new.out.items (parts_value c.args.parts.now) c.args.offset c.in_ok-names.names c.in_ok-scopes.scopes
    c.in_ok-file.file c.in_ok-contents.contents c.in_ok-end.end c.in_ok-names.ensures.end c.in_ok-scopes.ensures.end
    c.in_ok-file.ensures.end c.in_ok-contents.ensures.end c.in_ok-end.ensures.end c.in_ok-names.ensures.table
    c.in_ok-scopes.ensures.table c.in_ok-file.ensures.table c.in_ok-contents.ensures.table c.in_ok-end.ensures.table
    c.in_ok-push_numbers.ensures
