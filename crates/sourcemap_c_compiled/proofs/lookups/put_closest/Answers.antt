use Rattle.std.proofs.Common.{option_map}
use Rattle.sourcemap_compiled.specs.Stored.{token_value}
use Rattle.sourcemap_c_compiled.proofs.lookups.put_closest.Goals as goal

pub returns : goal.returns
returns c = (option_map token_value c.closest.result, c.closest.ensures, c.put_found.ensures)
