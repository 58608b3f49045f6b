use Rattle.std.proofs.Common.{rules}
use Rattle.sourcemap_c_handles.proofs.Texts.{written-over}
use Rattle.sourcemap_c_handles.proofs.errors.write_text.Goals as goal

pub returns : goal.returns
returns c = written-over c.args.text.now c.args.to.now c.copy_from_slice.new.self c.split_at_mut-used.result.1.now c.requires (search rules) (search rules)
