use Rattle.std.proofs.Common.{arith, rules, ◌≡◌, ◌∷◌, ◌++◌, [], ℕ, List, Bor, subst, sym}
use Rattle.std.specs.Str.{IsUtf8}
use Rattle.std.proofs.lemmas.List.Elements.{All-map, All-push, All-same}
use Rattle.std.proofs.lemmas.Grind.{common_steps}
use Rattle.sourcemap_c.proofs.replacing.texts_in.Goals as goal

abbrev now_utf8 : Bor (List ℕ) → Type 0
now_utf8 text = IsUtf8 text.now

pub loop-text-preserved : goal.loop-text-preserved
loop-text-preserved c =
    let text = c.in_ok-text_in.field-0 in
    let old = c.loop-text.found.items in
    let pushed : c.push.new.self.items ≡ old ++ text ∷ [] = search rules in
    record {
      texts = grind (arith, common_steps);
      utf8 = All-same now_utf8 c.push.new.self.items (old ++ text ∷ []) pushed
          (All-push now_utf8 old text c.loop-text.invariant.utf8 (subst IsUtf8 (sym c.in_ok-text_in.ensures.0) c.in_ok-text_in.ensures.1));
    }

pub returns : goal.returns
returns c = (grind (arith, common_steps), All-map IsUtf8 (λ (text : Bor (List ℕ)). text.now) c.loop-text.found.items c.loop-text.invariant.utf8)
