-- In a UTF-8 text a mark ends at a char boundary, and the first line with a mark decides the reference of the text.
use Rattle.std.proofs.Common.{◌≡◌, refl, sym, ap, ◌∙◌, ℕ, true, false, if◌then◌else◌, List, Option, None, Some, is_some}
use Rattle.std.proofs.Common.{Result, Ok, Err, length, take, drop, get_or, codes, option_map, arith, inl, inr, IsUtf8}
use Rattle.std.proofs.Common.{nat_eq, min, ◌-◌, slice_range}
use Rattle.std.proofs.lemmas.Bool.{cases_Bool, false_from_ne_true}
use Rattle.std.proofs.lemmas.List.{get_or-take, length-take}
use Rattle.std.proofs.lemmas.Str.{IsCharBoundary-after_ascii, IsUtf8-from_is_utf8, is_utf8-from_IsUtf8}
use Rattle.std.specs.Cmp.Lexicographic.{same_text}
use Rattle.std.specs.List.{starts_with}
use Rattle.std.specs.Str.{IsCharBoundary, is_utf8}
use Rattle.sourcemap_errors.proofs.AnswerLemmas.{UnlessMemory-from, UnlessMemory-weaker}
use Rattle.sourcemap_errors.specs.Answer.{Gives, UnlessMemory}
use Rattle.sourcemap_errors.specs.declared.errors.Error.{Error}
use Rattle.sourcemap_errors.specs.declared.errors.Error.TheVariants.{OutOfMemory}
use Rattle.std.proofs.lemmas.Option.{same_Some}
use Rattle.sourcemap_references.specs.Lines.{AreUnmarked, IsFirstMarked, if_text}
use Rattle.sourcemap_references.specs.declared.lines.Line.{Line}
use Rattle.sourcemap_references.specs.Reference.{Reference, first_reference, reference_on}
use Rattle.sourcemap_references.specs.References.{IsInvalidData, Locates, LocatesRead, reference}
use Rattle.sourcemap_references.specs.declared.detector.SourceMapRef.{SourceMapRef}

after_mark : (line mark : List ℕ) → length mark ≡ 21 → get_or mark 20 0 ≡ 61 → starts_with nat_eq line mark ≡ true
    → IsUtf8 line → IsCharBoundary line 21
after_mark line mark long last starts text =
    let same : mark ≡ take 21 line =
    same_text mark (take (length mark) line) (sym starts) ∙ ap (λ n. take n line) long in
    let fits : min 21 (length line) ≡ 21 = sym (length-take 21 line) ∙ ap length (sym same) ∙ long in
    let equals : get_or line 20 0 ≡ 61 =
    sym (get_or-take 21 line 20 0 (omega arith)) ∙ ap (λ xs. get_or xs 20 0) (sym same) ∙ last in
    IsCharBoundary-after_ascii line 20 text (omega arith) (omega arith)

pub mark_boundary : (line : List ℕ) → is_some (reference_on line) ≡ true → IsUtf8 line → IsCharBoundary line 21
mark_boundary line some text =
    elim (cases_Bool (starts_with nat_eq line (codes "//# sourceMappingURL="))) [
      | inl is ↦ after_mark line (codes "//# sourceMappingURL=") refl refl is text
      | inr not_usual ↦
          elim (cases_Bool (starts_with nat_eq line (codes "//@ sourceMappingURL="))) [
            | inl is ↦ after_mark line (codes "//@ sourceMappingURL=") refl refl is text
            | inr not_legacy ↦ absurd (let no : false ≡ true = rw (not_usual, not_legacy) at some in cc)
          ]
    ]

pub if_text-utf8 : (bytes : List ℕ) (due : Option (Option Reference)) → IsUtf8 bytes → if_text bytes due ≡ due
if_text-utf8 bytes due text = ap (λ b. if b then due else None) (is_utf8-from_IsUtf8 bytes text)

pub if_text-none : (bytes : List ℕ) (due : Option (Option Reference)) → ¬ IsUtf8 bytes → if_text bytes due ≡ None
if_text-none bytes due not_utf8 = ap (λ b. if b then due
    else None) (false_from_ne_true (is_utf8 bytes) (λ is. not_utf8 (IsUtf8-from_is_utf8 bytes is)))

ok_in : Option Reference → Result (Option Reference) Error → Option Reference
ok_in other (Ok found) = found
ok_in other (Err _) = other

pub located : (result : Result (Option SourceMapRef) Error) (due : Option Reference) (all : Option (Option Reference))
    → all ≡ Some due → Gives (option_map reference) result (Ok due) → Locates result all
unfolding ok_in
located (Ok found) due all is gives = is ∙ ap Some (ap (ok_in due) gives)
located (Err e) due all is gives = UnlessMemory-weaker e (λ no. absurd (let wrong = no in cc)) gives

pub not_utf8_due : (bytes : List ℕ) (due all : Option (Option Reference)) → all ≡ if_text bytes due → ¬ IsUtf8 bytes
    → (e : Error) → IsInvalidData e
    → UnlessMemory e ((all ≡ None) × IsInvalidData e)
not_utf8_due bytes due all is not_utf8 e invalid = UnlessMemory-from e (is ∙ if_text-none bytes due not_utf8, invalid)

-- if no line up to `end` has a mark, and the text up to `end` is not UTF-8, `first_reference` of `text` is `None`
pub not_utf8_before : (text : List ℕ) (end : ℕ) → AreUnmarked text end → ¬ IsUtf8 (take end text)
    → first_reference text ≡ None
not_utf8_before text end lines not_utf8 = lines.left ∙ if_text-none (take end text) _ not_utf8

pub range_from_start : (text : List ℕ) (end : ℕ) → slice_range text 0 end ≡ take end text
range_from_start text end = let all : end - 0 ≡ end = omega arith in ap (λ n. take n text) all

-- if `line` is the first line with a mark, and the text up to `line.end` is UTF-8, the reference on `line` is the
-- result for all of `text`
pub decided : (text front part : List ℕ) (line : Line) (result : Result (Option SourceMapRef) Error)
    → IsFirstMarked text line → front ≡ take line.end text
    → IsUtf8 front → part ≡ drop line.start front → Gives (option_map reference) result (Ok (reference_on part))
    → Locates result (first_reference text)
decided text front part line result decides is utf8 rest gives =
    located result (reference_on part) (first_reference text)
    (decides.first
    ∙ ap (λ xs. if_text xs (Some (reference_on (drop line.start xs)))) (sym is)
    ∙ if_text-utf8 front _ utf8
    ∙ ap (λ xs. Some (reference_on xs)) (sym rest))
    gives

-- ---- readers and slices

pub same_found : (text : List ℕ) (read sliced : Option SourceMapRef) → LocatesRead (Some text) (Ok read)
    → Locates (Ok sliced) (first_reference text)
    → option_map reference read ≡ option_map reference sliced
same_found text read sliced by_reader by_slice = same_Some _ _ (sym by_reader ∙ by_slice)

memory_only : (e : Error) (P : Type 0) → UnlessMemory e P → ¬ P → e ≡ OutOfMemory
memory_only OutOfMemory P allowed refutes = refl
memory_only _ P allowed refutes = absurd (refutes allowed)

pub refused_by_memory : (text : List ℕ) (read : Option SourceMapRef) (e : Error) → LocatesRead (Some text) (Ok read)
    → Locates (Err e) (first_reference text)
    → e ≡ OutOfMemory
refused_by_memory text read e by_reader by_slice =
    memory_only e _ by_slice (λ due. absurd (let wrong = sym by_reader ∙ due.0 in cc))
