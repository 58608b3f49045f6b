use Rattle.std.proofs.Common.{◌≡◌, sym, subst, Some}
use Rattle.sourcemap_interning.specs.Interner.{id_of}
use Rattle.sourcemap_interning.proofs.InternerLemmas.{slice_get-id_of}
use Rattle.sourcemap_interning.proofs.interner.add_to.Goals as goal

pub returns-in-Some-clause-text : goal.returns-in-Some-clause-text
returns-in-Some-clause-text c = slice_get-id_of c.args.text.now c.args.index.now c.in-Some.id (sym c.in-Some.ensures)

pub returns-clause-text : goal.returns-clause-text
returns-clause-text c =
    let found : id_of c.args.text.now c.append.new.self ≡ Some c.in_ok-id.id = subst
    (λ text. id_of text c.append.new.self ≡ Some c.in_ok-id.id) c.in_ok-kept.ensures.ok c.in_ok-id.ensures.index in
    slice_get-id_of c.args.text.now c.append.new.self c.in_ok-id.id found
