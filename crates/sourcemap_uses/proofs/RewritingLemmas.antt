-- Rewriting that removes names and contents, and rewriting with default options.
use Rattle.std.proofs.Common.{◌≡◌, ◌∙◌, refl, sym, ap, subst, ℕ, ◌<◌, List, [], ◌∷◌, map, length, false, Option, Some}
use Rattle.std.proofs.Common.{None, option_map, Result, Ok, Err, IfErr, IfOk, IfSome, IsOkUnless, inl, inr}
use Rattle.sourcemap.specs.Answer.{Gives, IsAnswer, UnlessMemory}
use Rattle.sourcemap.specs.AnyMap.{AnswersLess, MeansFlatLess, RewriteAnswer}
use Rattle.sourcemap.specs.Due.{Gives-given}
use Rattle.sourcemap.specs.Encoder.{ReadsBack, Restores}
use Rattle.sourcemap.specs.Flat.{FlatAnswer}
use Rattle.sourcemap.specs.Prefixes.{without_prefix}
use Rattle.sourcemap.specs.Reading.{BytesHaveResult, RegularDecodes}
use Rattle.sourcemap.specs.Rewrite.{IsDefault, LacksFolder, MeansLess, no_removal, removal_of, rewritten, Removal}
use Rattle.sourcemap.specs.Rewrite.{without_removed, used_sources, Gives-rewritten, Rewrites, lacks_none}
use Rattle.sourcemap.specs.Rewrite.{without_loading}
use Rattle.sourcemap.specs.Trees.{MapTree, meaning as meaning_of}
use Rattle.sourcemap.specs.Types.{MapValue, Meaning, contents_of, meaning}
use Rattle.sourcemap.specs.declared.errors.Error.{Error}
use Rattle.sourcemap.specs.declared.errors.Error.TheVariants.{OutOfMemory}
use Rattle.sourcemap.specs.declared.types.RewriteOptions.{RewriteOptions}
use Rattle.sourcemap_uses.proofs.RefusalLemmas.{memory_alone, unless_memory}
use Rattle.sourcemap_uses.specs.Publishing.{IsBareFlat, Publishes, without_name}

-- removes names and source contents; the sources keep their prefixes
abbrev no_details : Removal
no_details = record { with_names = false; with_contents = false; prefixes = [] }

whole : (source : Option (List ℕ)) → option_map (without_prefix []) source ≡ source
whole None = refl
whole (Some text) = refl

map_same : {X Y : Type 0} → (f g : X → Y) → ((x : X) → f x ≡ g x) → (o : Option X) → option_map f o ≡ option_map g o
map_same f g same None = refl
map_same f g same (Some x) = ap Some (same x)

but_the_name : (m : MapValue) (says : Meaning) → without_removed no_details m says ≡ without_name says
but_the_name m says = λ i. record says { source = whole says.source i; name = None }

means_but_names : (old new : MapValue) → MeansLess no_details old new
    → (p : ℕ × ℕ) → meaning new p ≡ option_map without_name (meaning old p)
means_but_names old new less p =
    less p ∙ map_same (without_removed no_details old) without_name (but_the_name old) (meaning old p)

details : (options : RewriteOptions) → options.with_names ≡ false → options.with_source_contents ≡ false
    → options.strip_prefixes.now ≡ [] → removal_of options ≡ no_details
details options names contents prefixes = λ i. record {
  with_names = names i;
  with_contents = contents i;
  prefixes = map (λ prefix. prefix.now) (prefixes i);
}

pub bare_due : (options : RewriteOptions) (m bare : MapValue) → options.with_names ≡ false
    → options.with_source_contents ≡ false
    → options.load_local_source_contents ≡ false → options.strip_prefixes.now ≡ []
    → Rewrites options m (Ok bare) → bare ≡ rewritten no_details m
bare_due options m bare names contents no_files prefixes is =
    without_loading options m bare no_files is
    ∙ ap (λ removal. rewritten removal m) (details options names contents prefixes)

pub but_details : (options : RewriteOptions) (m bare : MapValue) → options.with_names ≡ false
    → options.with_source_contents ≡ false
    → options.strip_prefixes.now ≡ [] → MeansLess (removal_of options) m bare → MeansLess no_details m bare
but_details options m bare names contents prefixes =
    subst (λ removal. MeansLess removal m bare) (details options names contents prefixes)

pub published_as : (m bare : MapValue) (bytes text : List ℕ) → BytesHaveResult RegularDecodes bytes (Ok m)
    → bare ≡ rewritten no_details m → MeansLess no_details m bare
    → ReadsBack (BytesHaveResult RegularDecodes text) (Restores bare) → Publishes bytes text
published_as m bare bytes text decodes is less (back, reads, restored) = (
  m,
  back,
  decodes,
  reads,
  record {
    meaning = λ p. restored.0 p ∙ means_but_names m bare less p;
    names = restored.1.names ∙ ap (λ m. m.names) is;
    contents = λ id small. restored.1.contents id (subst (λ sources. id < length sources) restored.1.sources small)
        ∙ ap (λ m. contents_of m id) is;
  },
)

-- a flat map that was rewritten without names and contents
module _ (options : RewriteOptions) (t : MapTree) (names : options.with_names ≡ false)
    (contents : options.with_source_contents ≡ false) (no_files : options.load_local_source_contents ≡ false)
    (prefixes : options.strip_prefixes.now ≡ []) where
  bare_flat : (bare : MapValue) → RewriteAnswer options t (Ok bare) → MeansFlatLess (removal_of options) t bare
      → IsBareFlat t bare
  bare_flat bare (inl (whole, flat_is, rewrites)) (flat, means_of, less) =
      let is = bare_due options whole bare names contents no_files prefixes rewrites in (
        flat,
        means_of,
        record {
          meaning = means_but_names flat bare (but_details options flat bare names contents prefixes less);
          names = ap (λ m. m.names) is;
          contents = λ id small. ap (λ m. contents_of m id) is;
        },
      )
  bare_flat bare (inr nothing) means = absurd nothing

  pub flat_bare : (r : Result MapValue Error) → IsAnswer (λ m. m) (RewriteAnswer options t) r
      → IfOk r (MeansFlatLess (removal_of options) t) → IfOk r (IsBareFlat t)
  flat_bare (Ok bare) answered means = bare_flat bare answered means
  flat_bare (Err e) answered means = tt

  bare_at : (whole new : MapValue) (p : ℕ × ℕ) (says : Option Meaning)
      → IfSome says (λ says. meaning new p ≡ Some (without_removed no_details whole says))
      → IfSome says (λ says. meaning new p ≡ Some (without_name says))
  bare_at whole new p None same = tt
  bare_at whole new p (Some says) same = same ∙ ap Some (but_the_name whole says)

  pub flat_answers : (bare : MapValue) → AnswersLess (removal_of options) t bare → (p : ℕ × ℕ)
      → IfSome (meaning_of t p) (λ says. meaning bare p ≡ Some (without_name says))
  flat_answers bare less p =
      let bare_less = subst (λ removal. AnswersLess removal t bare) (details options names contents prefixes) less in
      bare_at bare_less.0 bare p (meaning_of t p) (bare_less.2 p)

  by_step : (e : Error) → RewriteAnswer options t (Err e) → FlatAnswer t (Err e)
  by_step e (inl (whole, flat_is, lacks)) = absurd (lacks_none options e no_files lacks)
  by_step e (inr refused) = refused

  -- the only errors are those of flattening and out of memory
  pub flat_refused : (r : Result MapValue Error) → IsAnswer (λ m. m) (RewriteAnswer options t) r
      → IfErr r (λ e. UnlessMemory e (FlatAnswer t (Err e)))
  flat_refused (Ok bare) answered = tt
  flat_refused (Err e) answered =
      unless_memory e (RewriteAnswer options t (Err e)) (FlatAnswer t (Err e)) (by_step e) answered

-- if the options load no contents, the only error of `rewrite` is out of memory
pub bare_refused : (options : RewriteOptions) (e : Error) (P : Type 0) → options.load_local_source_contents ≡ false
    → UnlessMemory e (LacksFolder options e) → UnlessMemory e P
bare_refused options e P no_files =
    unless_memory e (LacksFolder options e) P (λ lacks. absurd (lacks_none options e no_files lacks))

-- Default options.

pub default_removal : (options : RewriteOptions) → IsDefault options → removal_of options ≡ no_removal
default_removal options defaults = λ i. record {
  with_names = defaults.names i;
  with_contents = defaults.contents i;
  prefixes = map (λ prefix. prefix.now) (defaults.no_prefixes i);
}

pub default_whole : (options : RewriteOptions) (m : MapValue) (r : Result MapValue Error) → IsDefault options
    → removal_of options ≡ no_removal
    → IsAnswer (λ m. m) (Rewrites options m) r → IfOk r (λ small. small ≡ rewritten no_removal m)
default_whole options m r defaults removal answered =
    Gives-given (λ m. m) (rewritten no_removal m) r
    (subst (λ removal. Gives (λ m. m) r (Ok (rewritten removal m))) removal
    (Gives-rewritten (λ m. m) options m r defaults.no_files answered))

pub default_memory : (options : RewriteOptions) (m : MapValue) (r : Result MapValue Error) → IsDefault options
    → IsAnswer (λ m. m) (Rewrites options m) r → IsOkUnless r OutOfMemory
default_memory options m (Ok small) defaults answered = tt
default_memory options m (Err e) defaults answered =
    memory_alone e (bare_refused options e ⊥ defaults.no_files answered)

pub whole_so : (P : MapValue → Type 0) (r : Result MapValue Error) (due : MapValue) → IfOk r (λ small. small ≡ due)
    → P due → IfOk r P
whole_so P (Ok small) due is holds = subst P (sym is) holds
whole_so P (Err e) due is holds = tt

all_uncut : (texts : List (List ℕ)) → map (without_prefix []) texts ≡ texts
all_uncut [] = refl
all_uncut (text ∷ texts) = ap (λ texts. text ∷ texts) (all_uncut texts)

pub sources_uncut : (m : MapValue) → (rewritten no_removal m).sources ≡ used_sources m
sources_uncut m = all_uncut (used_sources m)
