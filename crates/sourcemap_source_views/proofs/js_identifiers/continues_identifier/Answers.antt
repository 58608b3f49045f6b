use Rattle.std.proofs.Common.{◌∙◌, sym, arith}
use Rattle.sourcemap_source_views.proofs.IdentifiersLemmas.{is_part-past_ascii}
use Rattle.sourcemap_source_views.proofs.js_identifiers.continues_identifier.Goals as goal
use Rattle.sourcemap_source_views.proofs.js_identifiers.continues_identifier.Goals.{in_default-via-then-character-lt8204}
use Rattle.sourcemap_source_views.proofs.js_identifiers.continues_identifier.Goals.{in_default-via-else-character-lt8204+else-character-lt8206}

pub returns-in_default : goal.returns-in_default
returns-in_default c =
    elim c.in_default.branch [
      | in_default-via-then-character-lt8204 w ↦ c.is_xid_continue.ensures.value
          ∙ sym
          (is_part-past_ascii c.args.character (omega arith) (λ e. absurd (omega arith)) (λ e. absurd (omega arith)))
      | in_default-via-else-character-lt8204+else-character-lt8206 w ↦ c.is_xid_continue.ensures.value
          ∙ sym
          (is_part-past_ascii c.args.character (omega arith) (λ e. absurd (omega arith)) (λ e. absurd (omega arith)))
    ]
