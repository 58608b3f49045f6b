-- Rewriting with default options, and adjusting maps of any kind.
use Rattle.std.proofs.Common.{◌≡◌, refl, map, Some, Result, Ok, Err, MatchResult, subst}
use Rattle.sourcemap.specs.Answer.{Gives, IsAnswer, UnlessMemory}
use Rattle.sourcemap.specs.declared.errors.Error.{Error}
use Rattle.sourcemap.specs.declared.errors.Error.TheVariants.{IncompatibleSourceMap, OutOfMemory}
use Rattle.sourcemap.specs.Types.{MapValue}
use Rattle.sourcemap.specs.Rewrite.{IsDefault, no_removal, removal_of, rewritten, Gives-rewritten, Rewrites}
use Rattle.sourcemap.specs.Adjust.{adjusted}
use Rattle.sourcemap.specs.Hermes.{HermesValue, hermes_value}
use Rattle.sourcemap.specs.HermesRewrite.{rewritten as hermes_rewritten, Rewrites as HermesRewrites}
use Rattle.sourcemap.specs.HermesWithoutLoading.{Gives-rewritten as hermes_Gives-rewritten}
use Rattle.sourcemap.specs.Trees.{regular, hermes, MapTree, leaf, index}
use Rattle.sourcemap_cli.specs.Program.{IsNotRegular, adjusted_by}
use Rattle.sourcemap.specs.declared.types.RewriteOptions.{RewriteOptions}
use Rattle.sourcemap.specs.declared.hermes.SourceMapHermes.{SourceMapHermes}
use Rattle.sourcemap_index.proofs.DecodedMapLemmas.{memory_alone}

-- default options remove nothing
nothing_removed : (options : RewriteOptions) → IsDefault options → removal_of options ≡ no_removal
nothing_removed options is = λ i. record {
  with_names = is.names i;
  with_contents = is.contents i;
  prefixes = map (λ prefix. prefix.now) (is.no_prefixes i);
}

only_memory : {X Y : Type 0} (view : X → Y) (r : Result X Error) (y : Y) → Gives view r (Ok y)
    → MatchResult r (λ x. view x ≡ y) (λ e. e ≡ OutOfMemory)
only_memory view (Ok x) y gave = cc
only_memory view (Err e) y gave = memory_alone e (Ok y ≡ Err e) (λ wrong. cc) gave

-- rewriting with default options returns the map that `rewritten no_removal` specifies, or out of memory
pub rewritten_by_default : (options : RewriteOptions) (m : MapValue) (r : Result MapValue Error) → IsDefault options
    → IsAnswer (λ m. m) (Rewrites options m) r → MatchResult r (λ n. n ≡ rewritten no_removal m) (λ e. e ≡ OutOfMemory)
rewritten_by_default options m r is answered =
    only_memory (λ m. m) r (rewritten no_removal m)
    (subst (λ removal. Gives (λ m. m) r (Ok (rewritten removal m))) (nothing_removed options is)
    (Gives-rewritten (λ m. m) options m r is.no_files answered))

pub hermes_by_default : (options : RewriteOptions) (h : HermesValue) (r : Result SourceMapHermes Error)
    → IsDefault options
    → IsAnswer hermes_value (HermesRewrites options h) r
    → MatchResult r (λ n. hermes_value n ≡ hermes_rewritten no_removal h) (λ e. e ≡ OutOfMemory)
hermes_by_default options h r is answered =
    only_memory hermes_value r (hermes_rewritten no_removal h)
    (subst (λ removal. Gives hermes_value r (Ok (hermes_rewritten removal h))) (nothing_removed options is)
    (hermes_Gives-rewritten hermes_value options h r is.no_files answered))

-- adjusting a regular map by a map that is not regular returns `IncompatibleSourceMap`
pub refused_adjustment : (t u : MapTree) (m : MapValue) (e : Error) → t ≡ leaf (regular m)
    → (e ≡ IncompatibleSourceMap) × IsNotRegular u
    → UnlessMemory e (adjusted_by t (Some u) ≡ Err e)
refused_adjustment t u m e is (same, other) = rw (is, same) (by_kind u other)
  where
    by_kind : (u : MapTree) → IsNotRegular u → adjusted_by (leaf (regular m)) (Some u) ≡ Err IncompatibleSourceMap
    by_kind (leaf (regular n)) other = absurd other
    by_kind (leaf (hermes h)) other = refl
    by_kind (index parts ss) other = refl

-- for two regular maps, `adjusted_by` is `adjusted`
pub adjusted_trees : (t u : MapTree) (m n : MapValue) (r : Result MapValue Error) → t ≡ leaf (regular m)
    → u ≡ leaf (regular n)
    → Gives (λ m. m) r (adjusted m n) → Gives (λ m. m) r (adjusted_by t (Some u))
adjusted_trees t u m n r is is' h = rw (is, is') h
