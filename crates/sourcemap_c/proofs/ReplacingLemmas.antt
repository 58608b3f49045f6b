-- If a Hermes map is rewritten without loading files, the result is `rewritten`, or out of memory. If all prefixes are
-- UTF-8, a contract about the texts of the prefixes implies the contract about their bytes.
use Rattle.std.proofs.Common.{◌≡◌, ℕ, Bor, List, map, false, Result, Ok, Err, MatchResult, inr, subst}
use Rattle.std.specs.List.{All}
use Rattle.std.specs.Str.{IsUtf8}
use Rattle.sourcemap_errors.specs.Answer.{Gives, IsAnswer}
use Rattle.sourcemap_errors.specs.Due.{Gives-given, Gives-memory}
use Rattle.sourcemap_errors.specs.declared.errors.Error.{Error}
use Rattle.sourcemap_errors.specs.declared.errors.Error.TheVariants.{OutOfMemory}
use Rattle.sourcemap_c_handles.specs.declared.errors.Failure.{Failure}
use Rattle.sourcemap_hermes.specs.Map.{HermesValue, hermes_value}
use Rattle.sourcemap_hermes.specs.Rewrite.{rewritten, Rewrites}
use Rattle.sourcemap_hermes.specs.WithoutLoading.{Gives-rewritten}
use Rattle.sourcemap_hermes.specs.declared.map.SourceMapHermes.{SourceMapHermes}
use Rattle.sourcemap_map_regular.specs.Rewrite.{removal_of}
use Rattle.sourcemap_map_rewrite.specs.declared.options.RewriteOptions.{RewriteOptions}
use Rattle.sourcemap_c.proofs.CodesLemmas.{weaker}
use Rattle.sourcemap_c.specs.Codes.{Does}
use Rattle.sourcemap_c.specs.Replacing.{OrNoPrefix}

value_in : HermesValue → Result HermesValue Error → HermesValue
value_in other (Ok y) = y
value_in other (Err _) = other

rewritten_or_memory : (options : RewriteOptions) (h : HermesValue) (result : Result SourceMapHermes Error)
    → Gives hermes_value result (Ok (rewritten (removal_of options) h))
    → MatchResult result (λ new. hermes_value new ≡ rewritten (removal_of options) h) (λ e. e ≡ OutOfMemory)
rewritten_or_memory options h (Ok new) gives = Gives-given hermes_value (rewritten (removal_of options) h) (Ok new) gives
rewritten_or_memory options h (Err e) gives = Gives-memory hermes_value (rewritten (removal_of options) h) (Err e) gives

pub hermes_due : (options : RewriteOptions) (old copy : HermesValue) (result : Result SourceMapHermes Error)
    → options.load_local_source_contents ≡ false → copy ≡ old → IsAnswer hermes_value (Rewrites options copy) result
    → MatchResult result (λ new. hermes_value new ≡ rewritten (removal_of options) old) (λ e. e ≡ OutOfMemory)
hermes_due options old copy result none same is =
    rw (← same) (rewritten_or_memory options copy result (Gives-rewritten hermes_value options copy result none is))

abbrev pub bytes_of : List (Bor (List ℕ)) → List (List ℕ)
bytes_of texts = map (λ (text : Bor (List ℕ)). text.now) texts

pub of_texts : {T : Type 0} (result : Result T Failure) (found texts : List (List ℕ)) (Done : List (List ℕ) → Type 0)
    (Due : List (List ℕ) → Failure → Type 0) (Kept : Type 0) → found ≡ texts → All IsUtf8 texts
    → Does result (Done found) (Due found) Kept → Does result (All IsUtf8 texts × Done texts) (OrNoPrefix texts (Due texts)) Kept
of_texts result found texts Done Due Kept same utf8 does =
    let P : List (List ℕ) → Type 0 = λ t. Does result (Done t) (Due t) Kept in
    weaker result (Done texts) (All IsUtf8 texts × Done texts) (Due texts) (OrNoPrefix texts (Due texts)) Kept Kept (λ done. (utf8, done))
    (λ failure due. inr due) (λ k. k) (subst P same does)
