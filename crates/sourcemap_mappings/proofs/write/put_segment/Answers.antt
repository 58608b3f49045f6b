use Rattle.std.proofs.Common.{◌≡◌, true, false}
use Rattle.sourcemap_mappings.specs.Write.{has_source, has_name}
use Rattle.sourcemap_mappings.proofs.WriteLemmas.{unnamed_added, named_added}
use Rattle.sourcemap_mappings.proofs.write.put_segment.Goals as goal

pub returns-then-has_name-clause-text : goal.returns-then-has_name-clause-text
returns-then-has_name-clause-text c =
    let source : has_source c.args.token.now ≡ true = cc in
    let name : has_name c.args.names c.args.token.now ≡ true = cc in
    named_added c.args.names c.args.against.now c.args.token.now _ _ _ _ _ _ source name
    c.put_two-at.ensures.text c.put_one-at.ensures.text c.put_one-at-2.ensures.text c.put_two-at-2.ensures.text
    c.put_three-at.ensures.text

pub returns-else-has_name-clause-text : goal.returns-else-has_name-clause-text
returns-else-has_name-clause-text c =
    let source : has_source c.args.token.now ≡ true = cc in
    let name : has_name c.args.names c.args.token.now ≡ false = cc in
    unnamed_added c.args.names c.args.against.now c.args.token.now _ _ _ _ _ source name
    c.put_two-at.ensures.text c.put_one-at.ensures.text c.put_one-at-2.ensures.text c.put_two-at-2.ensures.text
