-- The error for a data URL is the error of decoding it.
use Rattle.std.proofs.Common.{◌≡◌, inr, ℕ, List, Bool, true, false, Err}
use Rattle.std.specs.Bool.{MatchBool}
use Rattle.sourcemap_errors.specs.declared.errors.Error.{Error}
use Rattle.sourcemap_errors.specs.Answer.{UnlessMemory}
use Rattle.sourcemap_errors.proofs.AnswerLemmas.{UnlessMemory-weaker}
use Rattle.sourcemap_index.specs.Decode.{UrlDecodes}
use Rattle.sourcemap_references.specs.Resolution.{is_data_url}
use Rattle.sourcemap_index.specs.Embedded.{EmbeddedAnswer}

where_true : (b : Bool) (P Q : Type 0) → b ≡ true → P → MatchBool b P Q
where_true true P Q is p = p
where_true false P Q is p = cc

pub error_embedded : (url : List ℕ) (e : Error) → is_data_url url ≡ true
    → UnlessMemory e (UrlDecodes url (Err e)) → UnlessMemory e (EmbeddedAnswer url (Err e))
error_embedded url e is h = UnlessMemory-weaker e (λ due. where_true (is_data_url url) _ _ is (inr due)) h
