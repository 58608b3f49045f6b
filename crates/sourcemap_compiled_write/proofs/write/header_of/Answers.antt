use Rattle.std.proofs.Common.{length, sym}
use Rattle.std.proofs.lemmas.List.{length-map}
use Rattle.sourcemap_compiled_write.specs.Stored.{parts_value}
use Rattle.sourcemap_compiled_write.specs.TextValues.{text_value}
use Rattle.sourcemap_compiled_write.proofs.WriteLemmas.{header_joined}
use Rattle.sourcemap_compiled_write.proofs.write.header_of.Goals as goal

pub returns : goal.returns
returns c =
    let parts = c.args.parts.now in
    header_joined (parts_value parts) c.args.size (length parts.sources.now) (length parts.names.now)
    (length parts.contents.now) c.id_number.result c.args.tables (length parts.scope_names.now) c.args.id.now
    c.new-header.result.items c.push_numbers.new.out.items c.extend_from_slice.new.self.items
    c.push_numbers-2.new.out.items c.requires.size (sym (length-map parts.sources.now text_value))
    (sym (length-map parts.names.now text_value)) (sym (length-map parts.contents.now text_value)) c.id_number.ensures
    c.requires.tables (sym (length-map parts.scope_names.now text_value)) c.requires.id c.new-header.ensures.items
    c.in_ok-push_numbers.ensures c.in_ok-extend_from_slice.ensures.items c.in_ok-push_numbers-2.ensures
