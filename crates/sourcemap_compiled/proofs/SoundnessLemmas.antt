-- Sound compiled maps, and the faults of others.
use Rattle.std.proofs.Common.{◌≡◌, subst, ap, ℕ, ◌+◌, ◌-◌, ◌<◌, ◌≤◌, List, true, false}
use Rattle.std.proofs.Common.{Bool, if◌then◌else◌, Option, Some, None, Result, Ok, Err, OnOk, IfErr, IsOk, ◌↔◌, refl}
use Rattle.std.proofs.Common.{arith, inl, inr}
use Rattle.std.specs.Ordering.{is_lt}
use Rattle.std.proofs.lemmas.Bool.{cases_eq, cases_lt}
use Rattle.sourcemap_tokens.specs.Tokens.{destination, position_cmp}
use Rattle.sourcemap_compiled.specs.Blocks.{compiled_token}
use Rattle.sourcemap_compiled.specs.Layout.{text_count, token_count}
use Rattle.sourcemap_compiled.specs.Lookup.{IsInOrder, position_of}
use Rattle.sourcemap_compiled.specs.Soundness.{AreReadable, AreRising, HasFault, IsFall, IsReadable, IsSound, IsUnreadable}
use Rattle.sourcemap_compiled.specs.Texts.{ReadsText, text_at}
use Rattle.sourcemap_compiled.specs.declared.errors.CompiledMapError.{CompiledMapError}
use Rattle.sourcemap_compiled.specs.declared.errors.CompiledMapError.TheVariants.{InvalidUtf8, OutOfOrder, TextOutside}
use Rattle.sourcemap_compiled.specs.declared.errors.CompiledMapError.TheVariants.{Truncated, WrongExtent, WrongMagic}
use Rattle.sourcemap_compiled.specs.declared.errors.CompiledMapError.TheVariants.{WrongVersion}
use Rattle.sourcemap_compiled.proofs.LookupLemmas.{column_small, get_or-compiled_tokens, length-compiled_tokens}
use Rattle.sourcemap_compiled.proofs.LookupLemmas.{less_by_number, not_less_by_number}

-- ---- texts

-- a text that is readable is read without an error
pub no_error : (r : Result (Option (List ℕ)) CompiledMapError) (e : CompiledMapError) → IsReadable r
    → ReadsText r (Err e) → ⊥
no_error r InvalidUtf8 fine (text, is, bad) = bad (subst IsReadable is fine)
no_error r Truncated fine is = subst IsReadable is fine
no_error r WrongMagic fine is = subst IsReadable is fine
no_error r (WrongVersion version) fine is = subst IsReadable is fine
no_error r WrongExtent fine is = subst IsReadable is fine
no_error r (OutOfOrder index) fine is = subst IsReadable is fine
no_error r TextOutside fine is = subst IsReadable is fine

-- reading a text never says that the map is out of order
not_order : (b c : Bool) (text : List ℕ) (index : ℕ)
    → ◌≡◌ {A = Result (Option (List ℕ)) CompiledMapError}
    (if b then Err TextOutside else if c then Ok None else Ok (Some text)) (Err (OutOfOrder index)) → ⊥
not_order true c text index is = cc
not_order false true text index is = cc
not_order false false text index is = cc

no_fault_of_order : (bytes : List ℕ) (text index : ℕ) → text_at bytes text ≡ Err (OutOfOrder index) → ⊥
no_fault_of_order bytes text index is = not_order _ _ _ index is

-- ---- order

module _ (bytes : List ℕ) where
  pub order_from : AreRising bytes (token_count bytes) → IsInOrder bytes
  order_from rising = record {
    tokens = λ k d low l.
        let inside : k + 1 < token_count bytes = omega (arith, length-compiled_tokens bytes) in
        rw (get_or-compiled_tokens bytes (k + 1) d inside, get_or-compiled_tokens bytes k d (omega arith))
        (not_less_by_number _ _ _ _ (column_small bytes (k + 1)) (column_small bytes k) (rising k inside));
  }

  pub rising_from : IsInOrder bytes → AreRising bytes (token_count bytes)
  rising_from up k inside = elim (cases_lt (position_of bytes (k + 1)) (position_of bytes k)) [
    | inl falls ↦
        let d = compiled_token bytes 0 in
        let step = up.tokens k d (omega arith) (omega (arith, length-compiled_tokens bytes)) in
        let rises = rw (get_or-compiled_tokens bytes (k + 1) d inside, get_or-compiled_tokens bytes k d (omega arith))
        at step in
        let less : is_lt (position_cmp (destination (compiled_token bytes (k + 1)))
        (destination (compiled_token bytes k))) ≡ true =
        less_by_number _ _ _ _ (column_small bytes (k + 1)) (column_small bytes k) falls in
        absurd (cc)
    | inr rises ↦ rises
  ]

  -- a token that falls is not the first
  module _ (index : ℕ) (fall : IsFall bytes index) where
    later : 0 < index
    later = elim (cases_eq index 0) [
      | inl front ↦
          let same : index ≡ index - 1 = omega (arith, front) in
          let falls = fall.falls in
          let equal : position_of bytes index ≡ position_of bytes (index - 1) = ap (position_of bytes) same in
          absurd (omega arith)
      | inr other ↦ omega arith
    ]

    no_fall : AreRising bytes (token_count bytes) → ⊥
    no_fall rising =
        let next : index - 1 + 1 ≡ index = omega (arith, later) in
        let inside = fall.within in
        let falls = fall.falls in
        let rises = subst (λ k. position_of bytes (index - 1) ≤ position_of bytes k) next
        (rising (index - 1) (omega arith)) in
        omega arith

  pub fault_or_sound : IsSound bytes → (e : CompiledMapError) → HasFault bytes e → ⊥
  fault_or_sound sound (OutOfOrder index) fall = no_fall index fall (rising_from sound.order)
  fault_or_sound sound Truncated (up, (text, bad)) = no_error _ Truncated (sound.texts text bad.within) bad.error
  fault_or_sound sound WrongMagic (up, (text, bad)) = no_error _ WrongMagic (sound.texts text bad.within) bad.error
  fault_or_sound sound (WrongVersion v) (up, (text, bad)) = no_error _ (WrongVersion v) (sound.texts text bad.within) bad.error
  fault_or_sound sound WrongExtent (up, (text, bad)) = no_error _ WrongExtent (sound.texts text bad.within) bad.error
  fault_or_sound sound TextOutside (up, (text, bad)) = no_error _ TextOutside (sound.texts text bad.within) bad.error
  fault_or_sound sound InvalidUtf8 (up, (text, bad)) = no_error _ InvalidUtf8 (sound.texts text bad.within) bad.error

  -- ---- what `verify` returns, once the tokens are in order

  module _ (rising : AreRising bytes (token_count bytes)) where
    pub accepts : (r : Result (Unit {0}) CompiledMapError) → OnOk r (AreReadable bytes (text_count bytes))
        → IfErr r (λ e. (text : ℕ) × IsUnreadable bytes text e) → IsOk r ↔ IsSound bytes
    accepts (Ok u) texts fault = (λ is. record { order = order_from rising; texts = texts }, λ sound. refl)
    accepts (Err e) texts (text, bad) =
        (λ is. absurd (cc), λ sound. absurd (no_error _ e (sound.texts text bad.within) bad.error))

    pub refuses : (r : Result (Unit {0}) CompiledMapError)
        → IfErr r (λ e. (text : ℕ) × IsUnreadable bytes text e) → IfErr r (HasFault bytes)
    refuses (Ok u) fault = tt
    refuses (Err (OutOfOrder index)) (text, bad) = absurd (no_fault_of_order bytes text index bad.error)
    refuses (Err Truncated) fault = (order_from rising, fault)
    refuses (Err WrongMagic) fault = (order_from rising, fault)
    refuses (Err (WrongVersion version)) fault = (order_from rising, fault)
    refuses (Err WrongExtent) fault = (order_from rising, fault)
    refuses (Err TextOutside) fault = (order_from rising, fault)
    refuses (Err InvalidUtf8) fault = (order_from rising, fault)
