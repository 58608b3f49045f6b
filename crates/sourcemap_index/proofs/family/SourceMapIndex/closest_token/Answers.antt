-- The lookup in an index map is the lookup in the map of the closest section, down to a map without sections.
use Rattle.std.proofs.Common.{◌≡◌, ℕ, ◌<◌, ◌∙◌, sym, ap, subst, option_map}
use Rattle.sourcemap_map_regular.specs.Token.{token_value, lookup as lookup_regular}
use Rattle.sourcemap_hermes.specs.Map.{hermes_value}
use Rattle.sourcemap_index_model.specs.MapTree.{MapTree, regular, hermes, leaf, index_tree}
use Rattle.sourcemap_index_model.specs.Meaning.{lookup}
use Rattle.sourcemap_index_model.specs.WellFormed.{IsInOrder}
use Rattle.sourcemap_index.specs.Family.{index_value, map_tree}
use Rattle.sourcemap_index.specs.Lookup.{HasToken}
use Rattle.sourcemap_index.proofs.FamilyLemmas.{regular_tree, hermes_tree, index_tree-of}
use Rattle.sourcemap_index.proofs.LookupLemmas.{indexes, inner_below, inner_has, has_found, found_in_leaf}
use Rattle.sourcemap_index.proofs.family.SourceMapIndex.closest_token.Goals as goal

pub levels-smaller : goal.levels-smaller
levels-smaller c =
    let is : map_tree c.in_ok-map.map.now ≡ index_tree (index_value c.in-Index.inner) =
    ap map_tree c.in-Index.is ∙ index_tree-of c.in-Index.inner in
    subst (λ (t : MapTree). indexes t < indexes (index_tree (index_value c.levels.index.now))) is
    (inner_below (index_value c.levels.index.now) (map_tree c.in_ok-map.map.now) c.in_ok-map.ensures.inner)

pub levels-preserved : goal.levels-preserved
levels-preserved c =
    let is : map_tree c.in_ok-map.map.now ≡ index_tree (index_value c.in-Index.inner) =
    ap map_tree c.in-Index.is ∙ index_tree-of c.in-Index.inner in
    let known = c.levels.invariant in
    record {
      in_order = λ ordered. subst (λ (t : MapTree). IsInOrder t) is (c.in_ok-map.ensures.in_order
          (known.in_order ordered));
      same = λ ordered. ap (λ t. lookup t (c.in_ok-map.line, c.in_ok-map.col)) (sym is)
          ∙ c.in_ok-map.ensures.value (known.in_order ordered) ∙ known.same ordered;
      has = λ token has. known.has token (inner_has (index_value c.levels.index.now) (map_tree c.in_ok-map.map.now) token
          c.in_ok-map.ensures.inner (subst (λ (t : MapTree). HasToken t token) (sym is) has));
    }

pub returns-in_err-map-clause-value : goal.returns-in_err-map-clause-value
returns-in_err-map-clause-value c = λ ordered.
    ap (option_map token_value) c.from_residual.ensures
    ∙ c.in_err-map.ensures.value (c.levels.invariant.in_order ordered) ∙ c.levels.invariant.same ordered

pub returns-in-Regular-clause-value : goal.returns-in-Regular-clause-value
returns-in-Regular-clause-value c = λ ordered.
    let is : map_tree c.in_ok-map.map.now ≡ leaf (regular c.in-Regular.map) =
    ap map_tree c.in-Regular.is ∙ regular_tree c.in-Regular.map in
    c.lookup_token_among_many.ensures.value ∙ ap (λ t. lookup t (c.in_ok-map.line, c.in_ok-map.col)) (sym is)
    ∙ c.in_ok-map.ensures.value (c.levels.invariant.in_order ordered) ∙ c.levels.invariant.same ordered

pub returns-in-Regular-clause-found : goal.returns-in-Regular-clause-found
returns-in-Regular-clause-found c =
    let is : map_tree c.in_ok-map.map.now ≡ leaf (regular c.in-Regular.map) =
    ap map_tree c.in-Regular.is ∙ regular_tree c.in-Regular.map in
    has_found (leaf (regular c.in-Regular.map)) (index_tree (index_value c.args.self.now))
    c.lookup_token_among_many.result
    (λ token has. c.levels.invariant.has token (inner_has (index_value c.levels.index.now)
    (map_tree c.in_ok-map.map.now) token c.in_ok-map.ensures.inner
    (subst (λ (t : MapTree). HasToken t token) (sym is) has)))
    (found_in_leaf (regular c.in-Regular.map) (c.in_ok-map.line, c.in_ok-map.col) c.lookup_token_among_many.result
    c.lookup_token_among_many.ensures.value)

pub returns-in-Hermes-clause-value : goal.returns-in-Hermes-clause-value
returns-in-Hermes-clause-value c = λ ordered.
    let p : ℕ × ℕ = (c.in_ok-map.line, c.in_ok-map.col) in
    let is : map_tree c.in_ok-map.map.now ≡ leaf (hermes (hermes_value c.in-Hermes.map)) =
    ap map_tree c.in-Hermes.is ∙ hermes_tree c.in-Hermes.map in
    c.lookup_token_among_many-in-Hermes.ensures.value ∙ ap (λ m. lookup_regular m p) c.deref.ensures
    ∙ ap (λ t. lookup t p) (sym is)
    ∙ c.in_ok-map.ensures.value (c.levels.invariant.in_order ordered) ∙ c.levels.invariant.same ordered

pub returns-in-Hermes-clause-found : goal.returns-in-Hermes-clause-found
returns-in-Hermes-clause-found c =
    let p : ℕ × ℕ = (c.in_ok-map.line, c.in_ok-map.col) in
    let is : map_tree c.in_ok-map.map.now ≡ leaf (hermes (hermes_value c.in-Hermes.map)) =
    ap map_tree c.in-Hermes.is ∙ hermes_tree c.in-Hermes.map in
    has_found (leaf (hermes (hermes_value c.in-Hermes.map))) (index_tree (index_value c.args.self.now))
    c.lookup_token_among_many-in-Hermes.result
    (λ token has. c.levels.invariant.has token (inner_has (index_value c.levels.index.now)
    (map_tree c.in_ok-map.map.now) token c.in_ok-map.ensures.inner
    (subst (λ (t : MapTree). HasToken t token) (sym is) has)))
    (found_in_leaf (hermes (hermes_value c.in-Hermes.map)) p c.lookup_token_among_many-in-Hermes.result
    (c.lookup_token_among_many-in-Hermes.ensures.value ∙ ap (λ m. lookup_regular m p) c.deref.ensures))
