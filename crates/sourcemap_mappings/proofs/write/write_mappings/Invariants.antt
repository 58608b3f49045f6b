use Rattle.std.proofs.Common.{◌≤◌, ◌++◌, option_copied, take, string_bytes}
use Rattle.std.specs.Str.{IsAscii}
use Rattle.sourcemap_mappings.proofs.WriteSegments.{Writing}
use Rattle.sourcemap_mappings.proofs.write.write_mappings.Given as goal

abbrev pub invariant-loop-token : goal.invariant-loop-token
invariant-loop-token l = record {
  writing : Writing l.names (take l.token-index l.tokens) (option_copied l.previous) l.against
      (string_bytes l.text ++ take l.at l.buffer);
  within : l.at ≤ 1024;
  ascii : IsAscii (take l.at l.buffer);
}
