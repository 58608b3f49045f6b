use Rattle.std.proofs.Common.{◌≡◌, ◌++◌, ap, ◌∙◌}
use Rattle.serde_json.specs.Read.{read}
use Rattle.serde_json.specs.View.{view}
use Rattle.serde_json.specs.Written.{compact_text}
use Rattle.sourcemap_json_write.proofs.WritingLemmas.{plain_reads_back}
use Rattle.sourcemap_json_write.proofs.writing.value_to_vec.Goals as goal

pub returns-in-Ok-clause-reads_back : goal.returns-in-Ok-clause-reads_back
returns-in-Ok-clause-reads_back c = λ shallow.
    let d = view c.args.value.now in
    let text : c.put_value.new.out.items ≡ compact_text d =
    c.in-Ok.ensures.text ∙ ap (λ l. l ++ compact_text d) c.in_ok-out.ensures.items in
    ap read text ∙ plain_reads_back d c.in-Ok.ensures.plain shallow
