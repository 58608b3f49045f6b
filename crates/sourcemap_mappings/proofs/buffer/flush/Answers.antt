use Rattle.std.proofs.Common.{take}
use Rattle.std.proofs.lemmas.Str.{IsUtf8-from_ascii}
use Rattle.sourcemap_mappings.proofs.buffer.flush.Goals as goal

pub unreachable-requires : goal.unreachable-requires
unreachable-requires c =
    c.in-Err.ensures.cases.0 (IsUtf8-from_ascii (take c.args.at c.args.buffer.now) c.requires.ascii)
