-- Adding sources to a builder.
use Rattle.std.proofs.Common.{◌≡◌, ◌∙◌, refl, sym, ap, subst, ℕ, ◌≤◌, List, [], ◌∷◌, ◌++◌, append-nil, append_assoc}
use Rattle.std.proofs.Common.{arith, cond, fold, is_some, length, length-append, map, nat_lt, Bool, true, false, Option}
use Rattle.std.proofs.Common.{Some, None, Result, Ok, Err, IfOk}
use Rattle.std.proofs.lemmas.Bool.{ltb-false}
use Rattle.sourcemap.specs.Answer.{Gives, UnlessMemory}
use Rattle.sourcemap.specs.Builder.{BuilderValue, empty_builder, with_source, built}
use Rattle.sourcemap.specs.Interner.{id_for, id_of, with_text}
use Rattle.sourcemap.specs.Rewrite.{kept_once}
use Rattle.sourcemap.specs.Types.{MapValue, made_of, resolved, resolved_sources}
use Rattle.sourcemap.specs.declared.errors.Error.{Error}
use Rattle.sourcemap.specs.declared.errors.Error.TheVariants.{IncompatibleSourceMap}
use Rattle.sourcemap_uses.specs.Merging.{AreTooMany, HasFirstOf}
use Rattle.sourcemap_uses.proofs.RefusalLemmas.{unless_memory}

-- Added sources.

added_unchanged : (b : BuilderValue) (text : List ℕ) → b.sources ≡ b.interned
    → (with_source b text).sources ≡ (with_source b text).interned
added_unchanged b text same = ap (λ texts. cond (is_some (id_of text b.interned)) texts (texts ++ text ∷ [])) same

-- if `sources` and `interned` of `b` are equal, adding `texts` extends both in the same way and changes nothing else
all_added : (b : BuilderValue) (texts : List (List ℕ)) → b.sources ≡ b.interned
    → fold with_source b texts ≡ record b {
      interned = fold with_text b.interned texts;
      sources = fold with_text b.interned texts;
    }
all_added b [] same = ap (λ sources. record b { sources = sources }) same
all_added b (text ∷ texts) same = all_added (with_source b text) texts (added_unchanged b text same)

all_interned : (b : BuilderValue) (texts : List (List ℕ))
    → (fold with_source b texts).interned ≡ fold with_text b.interned texts
all_interned b [] = refl
all_interned b (text ∷ texts) = all_interned (with_source b text) texts

fold_twice : {X Y : Type 0} → (f : X → Y → X) → (x : X) → (ys zs : List Y)
    → fold f (fold f x ys) zs ≡ fold f x (ys ++ zs)
fold_twice f x [] zs = refl
fold_twice f x (y ∷ ys) zs = fold_twice f (f x y) ys zs

-- adding two lists of sources one after the other adds their concatenation
pub both_added : (b one two : BuilderValue) (first second : List (List ℕ)) → one ≡ fold with_source b first
    → two ≡ fold with_source one second
    → two ≡ fold with_source b (first ++ second)
both_added b one two first second is_one is_two =
    is_two ∙ ap (λ b. fold with_source b second) is_one ∙ fold_twice with_source b first second

resolve_without_root : (texts : List (List ℕ)) → map (resolved None) texts ≡ texts
resolve_without_root [] = refl
resolve_without_root (text ∷ texts) = ap (λ texts. text ∷ texts) (resolve_without_root texts)

merged_is : (b one two : BuilderValue) (first second : List (List ℕ)) (m : MapValue)
    → empty_builder None ≡ b → one ≡ fold with_source b first → two ≡ fold with_source one second → built two ≡ m
    → m ≡ made_of None [] [] (kept_once (first ++ second)) []
merged_is b one two first second m start is_one is_two is =
    let whole =
    both_added b one two first second is_one is_two ∙ ap (λ b. fold with_source b (first ++ second)) (sym start)
    ∙ all_added (empty_builder None) (first ++ second) refl in
    sym is ∙ ap built whole

pub merged : (b one two : BuilderValue) (first second : List (List ℕ)) (r : Result MapValue Error)
    → Gives (λ b. b) (Ok b) (Ok (empty_builder None)) → one ≡ fold with_source b first
    → two ≡ fold with_source one second
    → Gives (λ m. m) r (Ok (built two)) → IfOk r (λ m. m ≡ made_of None [] [] (kept_once (first ++ second)) [])
merged b one two first second (Ok m) made is_one is_two gave =
    let is : built two ≡ m = cc in
    let start : empty_builder None ≡ b = cc in
    merged_is b one two first second m start is_one is_two is
merged b one two first second (Err e) made is_one is_two gave = tt

pub rootless_sources_are : (texts : List (List ℕ)) (r : Result MapValue Error)
    → IfOk r (λ m. m ≡ made_of None [] [] texts []) → IfOk r (λ m. resolved_sources m ≡ texts)
rootless_sources_are texts (Ok m) is = ap resolved_sources is ∙ resolve_without_root texts
rootless_sources_are texts (Err e) is = tt

-- Errors.

more_or_same : (b : Bool) (texts : List (List ℕ)) (text : List ℕ)
    → length texts ≤ length (cond b texts (texts ++ text ∷ []))
more_or_same true texts text = omega arith
more_or_same false texts text = omega (arith, length-append texts (text ∷ []))

-- adding texts does not reduce the number of texts
no_fewer : (texts more : List (List ℕ)) → length texts ≤ length (fold with_text texts more)
no_fewer texts [] = omega arith
no_fewer texts (text ∷ more) =
    omega (arith, more_or_same (is_some (id_of text texts)) texts text, no_fewer (with_text texts text) more)

too_many_more : (texts more : List (List ℕ)) (e : Error) → AreTooMany texts e → AreTooMany (fold with_text texts more) e
too_many_more texts more e many = (many.0, omega (arith, many.1, no_fewer texts more))

-- if `id_for` refuses `text`, then `texts` with `text` added are too many, and `e` is `IncompatibleSourceMap`
without_id : (o : Option ℕ) (texts : List (List ℕ)) (text : List ℕ) (e : Error) → id_of text texts ≡ o
    → id_for texts text ≡ Err e → AreTooMany (with_text texts text) e
without_id (Some id) texts text e known refused = absurd (let no : Ok id ≡ Err e = rw known at refused in cc)
without_id None texts text e new refused =
    rw new (past (nat_lt (length texts) 4294967295) refl (rw new at refused))
  where
    past : (b : Bool) → nat_lt (length texts) 4294967295 ≡ b
        → cond b (Ok (length texts)) (Err IncompatibleSourceMap) ≡ Err e → AreTooMany (texts ++ text ∷ []) e
    past true few refused = absurd (let no : Ok (length texts) ≡ Err e = refused in cc)
    past false many refused = (
      let is : ◌≡◌ {A = Result ℕ Error} (Err IncompatibleSourceMap) (Err e) = refused in cc,
      omega (arith, length-append texts (text ∷ []), ltb-false (length texts) 4294967295 many),
    )

pub stopped_at : (b : BuilderValue) (text : List ℕ) (texts : List (List ℕ)) (e : Error)
    → UnlessMemory e (id_for b.interned text ≡ Err e)
    → UnlessMemory e (AreTooMany (fold with_source b (text ∷ texts)).interned e)
stopped_at b text texts e h =
    unless_memory e (id_for b.interned text ≡ Err e) (AreTooMany (fold with_source b (text ∷ texts)).interned e)
    (λ refused. subst (λ all. AreTooMany all e) (sym (all_interned b (text ∷ texts)))
    (too_many_more (with_text b.interned text) texts e
    (without_id (id_of text b.interned) b.interned text e refl refused)))
    h

-- after the sources `first` and then the sources `second` are added to an empty builder, each source is kept once
both_kept : (b : BuilderValue) (first second : List (List ℕ)) → empty_builder None ≡ b
    → fold with_text (fold with_source b first).interned second ≡ kept_once (first ++ second)
both_kept b first second start =
    ap (λ texts. fold with_text texts second)
    (ap (λ b. (fold with_source b first).interned) (sym start) ∙ all_interned (empty_builder None) first)
    ∙ fold_twice with_text [] first second

-- if the first map has too many different sources (`AreTooMany`), both maps together have too many different sources
pub too_many_first : (b : BuilderValue) (first second : List (List ℕ)) (e : Error)
    → Gives (λ b. b) (Ok b) (Ok (empty_builder None))
    → UnlessMemory e (AreTooMany (fold with_source b first).interned e)
    → UnlessMemory e (AreTooMany (kept_once (first ++ second)) e)
too_many_first b first second e made h =
    let start : empty_builder None ≡ b = cc in
    unless_memory e (AreTooMany (fold with_source b first).interned e) (AreTooMany (kept_once (first ++ second)) e)
    (λ many. subst (λ all. AreTooMany all e) (both_kept b first second start)
    (too_many_more (fold with_source b first).interned second e many)) h

pub too_many_both : (b one : BuilderValue) (first second : List (List ℕ)) (e : Error)
    → Gives (λ b. b) (Ok b) (Ok (empty_builder None))
    → one ≡ fold with_source b first → UnlessMemory e (AreTooMany (fold with_source one second).interned e)
    → UnlessMemory e (AreTooMany (kept_once (first ++ second)) e)
too_many_both b one first second e made is_one h =
    let start : empty_builder None ≡ b = cc in
    let is =
    all_interned one second ∙ ap (λ b. fold with_text b.interned second) is_one ∙ both_kept b first second start in
    subst (λ all. UnlessMemory e (AreTooMany all e)) is h

-- Loops.

-- the list `all` is a list `added`, followed by `left`. The builder `new` is the builder `old` after the sources in
-- `added` are added, in order. Each list may be empty
abbrev pub HasAdded : (old new : BuilderValue) (left all : List (List ℕ)) → Type 0
HasAdded old new left all = (added : List (List ℕ)) × (all ≡ added ++ left) × (new ≡ fold with_source old added)

pub none_added : (b : BuilderValue) (left all : List (List ℕ)) → left ≡ all → HasAdded b b left all
none_added b left all is = ([], sym is, refl)

pub one_added : (old b new : BuilderValue) (text : List ℕ) (before after all : List (List ℕ))
    → HasAdded old b before all
    → before ≡ text ∷ after → new ≡ with_source b text → HasAdded old new after all
one_added old b new text before after all (added, is, so_far) first grown = (
  added ++ text ∷ [],
  is ∙ ap (λ left. added ++ left) first ∙ sym (append_assoc added (text ∷ []) after),
  grown ∙ ap (λ b. with_source b text) so_far ∙ fold_twice with_source old added (text ∷ []),
)

pub whole_added : (old new : BuilderValue) (left all : List (List ℕ)) → HasAdded old new left all → left ≡ []
    → new ≡ fold with_source old all
whole_added old new left all (added, is, so_far) none =
    so_far ∙ ap (λ texts. fold with_source old texts) (sym (is ∙ ap (λ left. added ++ left) none ∙ append-nil added))

pub stopped_so : (old b new : BuilderValue) (left all : List (List ℕ)) → HasAdded old b left all → new ≡ b
    → HasFirstOf old new all
stopped_so old b new left all (added, is, so_far) same = (added, left, is, same ∙ so_far)

pub stopped_why : (old b : BuilderValue) (text : List ℕ) (left rest all : List (List ℕ)) (e : Error)
    → HasAdded old b left all → left ≡ text ∷ rest
    → UnlessMemory e (id_for b.interned text ≡ Err e)
    → UnlessMemory e (AreTooMany (fold with_source old all).interned e)
stopped_why old b text left rest all e (added, is, so_far) first h =
    let whole : fold with_source b (text ∷ rest) ≡ fold with_source old all =
    ap (λ b. fold with_source b (text ∷ rest)) so_far ∙ fold_twice with_source old added (text ∷ rest)
    ∙ ap (λ texts. fold with_source old texts) (sym (is ∙ ap (λ left. added ++ left) first)) in
    subst (λ b. UnlessMemory e (AreTooMany b.interned e)) whole (stopped_at b text rest e h)
