-- A name that was added has an id below the number of names.
use Rattle.std.proofs.Common.{arith}
use Rattle.sourcemap_cache.proofs.ScopesLemmas.{number_fits}
use Rattle.sourcemap_cache.proofs.scopes.number_of.Goals as goal

pub overflow_add-result : goal.overflow_add-result
overflow_add-result c =
    let fits = number_fits c.args.names.now c.number_of.new.self c.in-Some.name.now c.in_ok-id.id c.requires.few
    c.in_ok-id.ensures.texts c.in_ok-id.ensures.number in
    omega (arith, fits)
