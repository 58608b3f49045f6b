-- Checkpoints of lines.
use Rattle.std.proofs.Common.{◌≡◌, ℕ, true, List, ◌++◌, ◌∷◌, [], take, Some, ap, ap₂, ◌∙◌, sym, arith, subst}
use Rattle.std.specs.Prelude.{option_and_then, slice_get}
use Rattle.std.proofs.lemmas.List.Elements.{All-push, All-take, recursion_from_All}
use Rattle.std.proofs.lemmas.Bool.Decides.{nat_tests}
use Rattle.sourcemap_tokens.proofs.AllLemmas.{All-at}
use Rattle.sourcemap_source_views.specs.Columns.{IsOffset}
use Rattle.sourcemap_source_views.specs.Lines.{line_bodies}
use Rattle.sourcemap_tokens.specs.declared.tokens.RawToken.{RawToken}
use Rattle.sourcemap_map_regular.specs.Map.{MapValue}
use Rattle.sourcemap_check_texts.specs.Sources.{Files, line_of, source_text}
use Rattle.sourcemap_check_texts.specs.Checkpoints.{AreCheckpoints, IsCheckpoint, is_on_line}
use Rattle.sourcemap_check_texts.specs.declared.checkpoints.Checkpoint.{Checkpoint}

some_is : {X : Type 0} (x y : X) → Some x ≡ Some y → x ≡ y
some_is x y e = cc

pub checkpoint_added : (m : MapValue) (files : Files) (line : List ℕ) (old new : List Checkpoint) (c : Checkpoint)
    → AreCheckpoints m files old → line_of m files c.source c.line ≡ Some line
    → IsOffset line c.at.offset c.at.units → new ≡ old ++ c ∷ [] → AreCheckpoints m files new
checkpoint_added m files line old new c all own at e =
    let is : IsCheckpoint m files c =
    λ other named. subst (λ l. IsOffset l c.at.offset c.at.units) (some_is line other (sym own ∙ named)) at in
    subst (AreCheckpoints m files) (sym e) (All-push (IsCheckpoint m files) old c all is)

same_source : (c : Checkpoint) (t : RawToken) → is_on_line c t ≡ true → c.source ≡ t.src_id
same_source c t e = grind (arith, nat_tests)

same_line : (c : Checkpoint) (t : RawToken) → is_on_line c t ≡ true → c.line ≡ t.src_line
same_line c t e = grind (arith, nat_tests)

pub checkpoint_found : (m : MapValue) (files : Files) (checkpoints : List Checkpoint) (before last : ℕ) (c : Checkpoint)
    (t : RawToken) (line : List ℕ) → AreCheckpoints m files checkpoints
    → Some c ≡ slice_get (take before checkpoints) last → is_on_line c t ≡ true
    → line_of m files t.src_id t.src_line ≡ Some line → IsOffset line c.at.offset c.at.units
checkpoint_found m files checkpoints before last c t line all found on named =
    let is : IsCheckpoint m files c =
    All-at (IsCheckpoint m files) (take before checkpoints) last c (sym found)
    (recursion_from_All (IsCheckpoint m files) (take before checkpoints)
    (All-take (IsCheckpoint m files) before checkpoints all)) in
    is line (ap₂ (line_of m files) (same_source c t on) (same_line c t on) ∙ named)

pub line_named : (m : MapValue) (files : Files) (source number : ℕ) (text line : List ℕ) → source_text m files source ≡ Some text
    → Some line ≡ slice_get (line_bodies text) number → line_of m files source number ≡ Some line
line_named m files source number text line named at =
    ap (option_and_then (λ t. slice_get (line_bodies t) number)) named ∙ sym at
