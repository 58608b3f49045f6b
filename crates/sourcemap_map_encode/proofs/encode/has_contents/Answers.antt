use Rattle.std.proofs.Common.{◌≡◌, ℕ, ◌+◌, ◌<◌, List, [], drop, Bool, true, false, ◌||◌, is_some, Option}
use Rattle.std.proofs.Common.{sym, ap, ◌∙◌, arith, rules}
use Rattle.std.proofs.lemmas.List.{drop_all}
use Rattle.std.specs.List.{list_any}
use Rattle.sourcemap_tokens.specs.Items.{item_at}
use Rattle.sourcemap_map_parts.specs.Contents.{fitted}
use Rattle.sourcemap_map_parts.proofs.ContentsLemmas.{drop-fitted, length-fitted}
use Rattle.sourcemap_map_encode.proofs.encode.has_contents.Goals as goal

-- whether a source has contents, from a source on whose own contents are known or missing
step : (contents : List (Option (List ℕ))) (count id : ℕ) (here : Bool) → id < count
    → is_some (item_at contents id) ≡ here
    → list_any is_some (drop id (fitted count contents))
    ≡ here || list_any is_some (drop (id + 1) (fitted count contents))
step contents count id here below is =
    ap (list_any is_some) (drop-fitted contents count id below)
    ∙ ap (λ (b : Bool). b || list_any is_some (drop (id + 1) (fitted count contents))) is

pub loop-id-preserved : goal.loop-id-preserved
loop-id-preserved c =
    let none : is_some (item_at c.args.contents.now c.loop-id.id) ≡ false = search rules in
    sym (step c.args.contents.now c.args.count c.loop-id.id false (omega arith) none) ∙ c.loop-id.invariant

pub returns-then-is_some : goal.returns-then-is_some
returns-then-is_some c =
    let some : is_some (item_at c.args.contents.now c.loop-id.id) ≡ true = search rules in
    sym (step c.args.contents.now c.args.count c.loop-id.id true (omega arith) some) ∙ c.loop-id.invariant

pub returns : goal.returns
returns c =
    let all = fitted c.args.count c.args.contents.now in
    let none : drop c.loop-id.id all ≡ [] =
    drop_all c.loop-id.id all (let many = length-fitted c.args.contents.now c.args.count in omega arith) in
    ap (list_any is_some) (sym none) ∙ c.loop-id.invariant
