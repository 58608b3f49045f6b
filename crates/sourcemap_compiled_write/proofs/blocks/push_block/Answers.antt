use Rattle.std.proofs.Common.{◌≡◌, ◌∙◌, ◌++◌, List, ℕ, ap, length, rules, slice_range, arith}
use Rattle.std.specs.List.{flat_map}
use Rattle.byteorder.specs.Endian.{little_bytes}
use Rattle.sourcemap_compiled_write.specs.Blocks.{head_bytes}
use Rattle.sourcemap_compiled_write.proofs.BlockLemmas.{head_joined}
use Rattle.sourcemap_compiled_write.proofs.blocks.push_block.Goals as goal

pub returns-clause-head : goal.returns-clause-head
returns-clause-head c =
    let long : c.len.result ≡ length c.args.out.now.items = first_of (omega arith, search rules) in
    head_joined c.args.heads.now.items c.push_numbers.new.out.items c.push_numbers-2.new.out.items
    c.push_fields.new.heads.items c.len.result c.args.tokens.now c.args.scopes.now c.in_ok-push_numbers.ensures
    (c.in_ok-push_numbers-2.ensures ∙ ap (λ (bs : List ℕ). c.push_numbers.new.out.items
    ++ flat_map (little_bytes 4) (slice_range bs 1 6)) c.bases_of-field_bases.ensures)
    c.in_ok-push_fields.ensures.widths
    ∙ ap (λ (n : ℕ). c.args.heads.now.items ++ head_bytes n c.args.tokens.now c.args.scopes.now) long
