-- Distinct texts (`kept_once`): texts that are kept twice, and the number of kept texts.
use Rattle.std.proofs.Common.{◌≡◌, refl, ap, subst, ◌∙◌, ℕ, ◌≤◌, List, [], ◌∷◌, length, map, fold, Some, None, Option, slice_get}
use Rattle.std.specs.List.{AllByRecursion}
use Rattle.sourcemap_interning.specs.Interner.{id_of, with_text}
use Rattle.sourcemap_interning.proofs.InternerLemmas.{slice_get-id_of}
use Rattle.sourcemap_tokens.proofs.AllLemmas.{All-at}
use Rattle.sourcemap_map_rewrite.specs.Kept.{present, kept_once, number_in}
use Rattle.sourcemap_map_rewrite.proofs.NumberingLemmas.{IsListedIfAny, fold-push, id_of-fold, id_of-added, kept_once-few}

-- each text that is added is kept
pub all-listed : (kept texts : List (List ℕ))
    → AllByRecursion (λ text. IsListedIfAny (fold with_text kept texts) (Some text)) texts
all-listed kept [] = tt
all-listed kept (t ∷ ts) =
    let here = id_of-added kept t in
    ((here.0, id_of-fold ts (with_text kept t) t here.0 here.1), all-listed (with_text kept t) ts)

add-kept : (before kept : List (List ℕ)) (text : List ℕ)
    → fold with_text before (with_text kept text) ≡ with_text (fold with_text before kept) text
add-kept before kept text = by_case (id_of text kept) refl
  where
    by_case : (o : Option ℕ) → id_of text kept ≡ o
        → fold with_text before (with_text kept text) ≡ with_text (fold with_text before kept) text
    by_case None e = rw e (fold-push with_text before kept text)
    by_case (Some n) e =
        let there = All-at (λ text. IsListedIfAny (fold with_text before kept) (Some text)) kept n text
        (slice_get-id_of text kept n e) (all-listed before kept) in
        rw (e, there.1) refl

-- to keep the kept texts is to keep the texts
pub kept-twice : (before kept texts : List (List ℕ))
    → fold with_text before (fold with_text kept texts) ≡ fold with_text (fold with_text before kept) texts
kept-twice before kept [] = refl
kept-twice before kept (t ∷ ts) =
    kept-twice before (with_text kept t) ts ∙ ap (λ us. fold with_text us ts) (add-kept before kept t)

numbers-back : (kept texts : List (List ℕ)) → AllByRecursion (λ text. IsListedIfAny kept (Some text)) texts
    → present (map (slice_get kept) (map (λ text. number_in kept (Some text)) texts)) ≡ texts
numbers-back kept [] all = refl
numbers-back kept (t ∷ ts) all =
    let at : slice_get kept all.0.0 ≡ Some t = slice_get-id_of t kept all.0.0 all.0.1 in
    rw (all.0.1, at) (ap (λ us. t ∷ us) (numbers-back kept ts all.1))

-- texts alone are no more than with texts before them
pub few-after : (before texts : List (List ℕ)) → length (kept_once texts) ≤ length (fold with_text before texts)
few-after before texts =
    subst (λ us. length (kept_once us) ≤ length (fold with_text before texts))
    (numbers-back (fold with_text before texts) texts (all-listed before texts))
    (kept_once-few (fold with_text before texts)
    (map (λ text. number_in (fold with_text before texts) (Some text)) texts))
