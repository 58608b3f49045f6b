use Rattle.std.specs.Prelude.{option_map}
use Rattle.sourcemap_c.specs.Checks.{sentence_at}
use Rattle.sourcemap_c.specs.Codes.{ReturnsValue}
use Rattle.sourcemap_c.proofs.Lending.{reports, lends_1}
use Rattle.sourcemap_c.specs.contracts.checks.sm_report_sentence.Key as key
use Rattle.sourcemap_c.proofs.checks.sm_report_sentence.Statement.{statement}
use Rattle.sourcemap_c.proofs.checks.sm_report_sentence.Code as code
use Rattle.sourcemap_c.proofs.checks.report_in.Met as getter
use Rattle.sourcemap_c.proofs.checks.put_sentence.Met as put

pub sm_report_sentence_spec : {M : Type 1} → statement M
sm_report_sentence_spec 𝓤 𝓛 𝓜 𝓡 wired =
    lends_1 reports 𝓤 𝓛 𝓜 𝓡 _ _ _ _ _ key.name (λ ids report. ReturnsValue (option_map (sentence_at ids.0) report)) (code.unfolded 𝓤 𝓛.H 𝓜 𝓡 wired) (λ κ v ok. ok.0)
    (getter.met 𝓤 𝓛 𝓜 𝓡 (code.calls-sourcemap_c::checks::report_in 𝓡.env wired)) (put.met 𝓤 𝓛 𝓜 𝓡 (code.calls-sourcemap_c::checks::put_sentence 𝓡.env wired))
