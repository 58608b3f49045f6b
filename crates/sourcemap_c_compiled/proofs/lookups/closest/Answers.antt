use Rattle.sourcemap_compiled.specs.Stored.{bytes_of}
use Rattle.sourcemap_c_compiled.proofs.LookupsLemmas.{is_found}
use Rattle.sourcemap_c_compiled.proofs.lookups.closest.Goals as goal

pub returns : goal.returns
returns c =
    let found = c.lookup_token.ensures in
    is_found (bytes_of c.args.map.now) (c.args.line, c.args.column) c.lookup_token.result found.value found.own found.next
