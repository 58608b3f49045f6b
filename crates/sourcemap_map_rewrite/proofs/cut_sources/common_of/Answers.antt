use Rattle.std.proofs.Common.{◌≡◌, List, Option, Ok, true, map, option_map, string_bytes, subst, rules, tests}
use Rattle.std.specs.Iterator.{DrainsIf}
use Rattle.std.specs.Iterator.Runs.{Run, YieldsRun}
use Rattle.std.proofs.lemmas.Iterator.{YieldsList, YieldsList-from_slice, YieldsList-from_map_by, items_from_drains}
use Rattle.sourcemap_errors.specs.Answer.{Gives}
use Rattle.sourcemap_texts.specs.Paths.{common_prefix}
use Rattle.sourcemap_map_rewrite.proofs.cut_sources.common_of.Goals as goal

-- the items of a complete iteration are the list that the iterator yields
whole_items : {S A B : Type 0} {steps : S → Option A → S → Type 0} {v : A → B} {all : List B} (s : S) (p : Run steps)
    → p.from ≡ s → p.whole ≡ true → YieldsList steps v s all → map v p.items ≡ all
unfolding YieldsRun
whole_items {S} {A} {B} {steps} {v} {all} s p from whole yields =
    items_from_drains p.items
    (subst (λ x. DrainsIf steps (Unit {0}) x p.items) from (p.gave.0.0, p.gave.0.1, λ _. p.gave.0.2 whole)) yields

pub returns : goal.returns
returns c =
    let run = c.find_common_prefix.ensures.runs in
    let items = whole_items _ run.0 run.1 run.2 (YieldsList-from_map_by _ (λ r. r.now) string_bytes
    (YieldsList-from_slice c.args.texts.now cc) c.map.ensures.closure (λ x r q k. search (rules, tests))) in
    subst (λ texts. Gives (option_map string_bytes) c.find_common_prefix.result (Ok (common_prefix texts))) items run.3
