use Rattle.std.proofs.Common.{Some}
use Rattle.sourcemap_compiled.specs.Stored.{token_value}
use Rattle.sourcemap_c_compiled.specs.Lookups.{scope_said}
use Rattle.sourcemap_c_compiled.proofs.CodesLemmas.{text_returned}
use Rattle.sourcemap_c_compiled.proofs.lookups.put_closest_scope.Goals as goal

pub returns-in-Some : goal.returns-in-Some
returns-in-Some c =
    let token = Some (token_value c.in-Some.token) in (
      token,
      c.in-Some.ensures,
      text_returned (scope_said token) c.put_text.result c.args.text.now.now c.put_text.new.text.now c.get_scope.result
          c.get_scope.ensures.text c.put_text.ensures,
    )
