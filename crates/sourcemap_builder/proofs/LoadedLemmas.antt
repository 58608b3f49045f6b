-- Contents that were loaded into a list with one item for each source.
use Rattle.std.proofs.Common.{◌≡◌, ℕ, zero, suc, ◌≤◌, ◌⊎◌, inl, inr, List, length, Option, Some, None, IsSomeAnd}
use Rattle.std.proofs.Common.{Result, Ok, Err, IfOk, IfErr, OnOk, OnErr, IsOkUnless, refl, ap, ◌∙◌, arith}
use Rattle.std.proofs.Common.{option_and_then}
use Rattle.sourcemap_errors.specs.declared.errors.Error.{Error}
use Rattle.sourcemap_errors.specs.declared.errors.Error.TheVariants.{OutOfMemory}
use Rattle.sourcemap_tokens.specs.Items.{item_at}
use Rattle.sourcemap_map_parts.specs.Contents.{fitted}
use Rattle.sourcemap_map_parts.proofs.ContentsLemmas.{slice_get-fitted}
use Rattle.sourcemap_source_files.specs.Loading.{newly, Fills, IsNoFolder}
use Rattle.sourcemap_builder.specs.Builder.{BuilderValue, Loads}

-- let `n` be at most `count`. Cutting or filling `before` to `count` items does not change the number of ids below `n`
-- for which `after` has an item and `before` has none
newly-fitted : (n count : ℕ) (before after : List (Option (List ℕ))) → n ≤ count
    → newly n (fitted count before) after ≡ newly n before after
newly-fitted zero count before after h = refl
newly-fitted (suc n) count before after h =
    let here : item_at (fitted count before) n ≡ item_at before n =
    ap (option_and_then (λ x. x)) (slice_get-fitted before count n (omega arith)) in
    rw (newly-fitted n count before after (omega arith), here) refl

some_more : (o : Option (List ℕ)) (P Q : List ℕ → Type 0) → ((x : List ℕ) → P x → Q x) → IsSomeAnd o P → IsSomeAnd o Q
some_more (Some x) P Q f h = f x h
some_more None P Q f h = h

-- the lemmas turn facts about the loaded list of contents into facts about the builder with this list
module _ (old : BuilderValue) (texts : List (List ℕ)) (many : ℕ) (before loaded after : List (Option (List ℕ)))
    (are_texts : texts ≡ old.interned) (are_many : many ≡ length old.sources) (was : before ≡ old.contents)
    (is : after ≡ loaded) where
  fills : (folder : List ℕ) → Fills folder texts (fitted many before) loaded
      → Loads folder old (record old { contents = after })
  fills folder h = rw (is, ← are_texts, ← are_many, ← was) h

  some_loaded : (o : Option (List ℕ)) → IsSomeAnd o (λ folder. Fills folder texts (fitted many before) loaded)
      → IsSomeAnd o (λ folder. Loads folder old (record old { contents = after }))
  some_loaded o h = some_more o (λ folder. Fills folder texts (fitted many before) loaded) (λ folder. Loads folder old
      (record old { contents = after })) fills h

  pub Loads-ok : (o : Option (List ℕ)) (result : Result ℕ Error)
      → OnOk result (IsSomeAnd o (λ folder. Fills folder texts (fitted many before) loaded))
      → OnOk result (IsSomeAnd o (λ folder. Loads folder old (record old { contents = after })))
  Loads-ok o (Ok n) h = some_loaded o h
  Loads-ok o (Err e) h = h

  pub Loads-count : (result : Result ℕ Error) → IfOk result (λ n. n ≡ newly many (fitted many before) loaded)
      → IfOk result (λ n. n ≡ newly (length old.sources) old.contents after)
  Loads-count (Ok n) h = rw (is, ← are_many, ← was) (h ∙ newly-fitted many many before loaded (omega arith))
  Loads-count (Err e) h = h

  pub Loads-err : (o : Option (List ℕ)) (result : Result ℕ Error) → IsOkUnless result OutOfMemory
      → OnErr result ((loaded ≡ before) ⊎ IsSomeAnd o (λ folder. Fills folder texts (fitted many before) loaded))
      → IfErr result (λ e. ((e ≡ OutOfMemory) × ((record old { contents = after } ≡ old)
      ⊎ IsSomeAnd o (λ folder. Loads folder old (record old { contents = after }))))
      ⊎ (IsNoFolder e × (record old { contents = after } ≡ old) × (o ≡ None)))
  Loads-err o (Ok n) memory outcome = outcome
  Loads-err o (Err e) memory outcome = inl (memory, by_case outcome) where
    by_case : (loaded ≡ before) ⊎ IsSomeAnd o (λ folder. Fills folder texts (fitted many before) loaded)
        → (record old { contents = after } ≡ old)
        ⊎ IsSomeAnd o (λ folder. Loads folder old (record old { contents = after }))
    by_case (inl same) = inl (ap (λ contents. record old { contents = contents }) (is ∙ same ∙ was))
    by_case (inr h) = inr (some_loaded o h)
