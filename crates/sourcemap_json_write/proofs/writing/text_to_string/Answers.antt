use Rattle.std.proofs.Common.{List, ℕ, ◌++◌, ap, ◌∙◌}
use Rattle.json.specs.Print.{quoted}
use Rattle.sourcemap_json_write.proofs.writing.text_to_string.Goals as goal

pub returns-clause-text : goal.returns-clause-text
returns-clause-text c =
    c.in_ok-push_quoted.ensures.text ∙ ap (λ (l : List ℕ). l ++ quoted c.args.text.now) c.in_ok-out.ensures.bytes
