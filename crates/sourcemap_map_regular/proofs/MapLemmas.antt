-- The tokens from an index on, the meaning that the closest token gives to a position, and well-formed maps.
use Rattle.std.proofs.Common.{◌≡◌, ℕ, ◌+◌, ◌-◌, List, [], ◌∷◌, length, drop, Option, Some, None, option_map, Result, Ok}
use Rattle.std.proofs.Common.{Err, IfOk, slice_get, slice_set, String, Vec, vec_len, refl, sym, ap, subst, arith}
use Rattle.std.proofs.Common.{length-drop}
use Rattle.std.proofs.lemmas.List.{length-map, length-set}
use Rattle.std.specs.declared.alloc.Global.{Global}
use Rattle.std.proofs.lemmas.List.FromFn.{length-enumerate_from}
use Rattle.sourcemap_errors.specs.Answer.{Gives}
use Rattle.sourcemap_errors.specs.declared.errors.Error.{Error}
use Rattle.sourcemap_tokens.specs.declared.tokens.RawToken.{RawToken}
use Rattle.sourcemap_tokens.proofs.SearchLemmas.{item-closest}
use Rattle.sourcemap_tokens.proofs.TokensLemmas.{AllWithin-in_order}
use Rattle.sourcemap_tokens.proofs.AllLemmas.{All-weaker}
use Rattle.sourcemap_texts.specs.Texts.{texts_of}
use Rattle.sourcemap_tokens.specs.Search.{closest_item}
use Rattle.sourcemap_tokens.specs.Tokens.{AllWithin, IsWithin, in_order, destination, position_cmp, closest_token}
use Rattle.sourcemap_map_regular.specs.Map.{MapValue, TokenValue, IsWellFormed, Meaning, says, meaning, meaning_of}
use Rattle.sourcemap_map_regular.specs.Map.{distance}
use Rattle.sourcemap_map_regular.specs.Token.{token_at, tokens_from}
use Rattle.sourcemap_map_parts.proofs.ContentsLemmas.{drop-from_slice_get, drop-past}

of_raw : MapValue → ℕ → Option RawToken → Option TokenValue
of_raw m i o = option_map (λ raw. record { map_of = m; raw = raw; index = i; extra_columns = 0 }) o

unwrapped : (m : MapValue) (i : ℕ) (o : Option RawToken) (t : TokenValue) → of_raw m i o ≡ Some t
    → (raw : RawToken) × (o ≡ Some raw) × (record { map_of = m; raw = raw; index = i; extra_columns = 0 } ≡ t)
unfolding of_raw
unwrapped m i None t e = cc
unwrapped m i (Some raw) t e = (raw, refl, cc)

nothing : (m : MapValue) (i : ℕ) (o : Option RawToken) → of_raw m i o ≡ None → o ≡ None
unfolding of_raw
nothing m i None e = refl
nothing m i (Some raw) e = cc

tokens_from-some : (m : MapValue) (i : ℕ) (t : TokenValue) → token_at m i ≡ Some t
    → tokens_from m i ≡ t ∷ tokens_from m (i + 1)
unfolding of_raw
tokens_from-some m i t e =
    let found = unwrapped m i (slice_get m.tokens i) t e in
    rw (drop-from_slice_get m.tokens i found.0 found.1) (ap (λ x. x ∷ tokens_from m (i + 1)) found.2)

pub tokens_from-step : (m : MapValue) (i : ℕ) (t : TokenValue) → Some t ≡ token_at m i
    → tokens_from m i ≡ t ∷ tokens_from m (t.index + 1)
unfolding of_raw
tokens_from-step m i t e =
    let found = unwrapped m i (slice_get m.tokens i) t (sym e) in
    subst (λ j. tokens_from m i ≡ t ∷ tokens_from m (j + 1)) (ap (λ v. v.index) found.2)
    (tokens_from-some m i t (sym e))

pub tokens_from-none : (m : MapValue) (i : ℕ) → token_at m i ≡ None → tokens_from m i ≡ []
unfolding of_raw
tokens_from-none m i e = rw (drop-past m.tokens i (nothing m i (slice_get m.tokens i) e))

pub length-tokens_from : (m : MapValue) (i : ℕ) → length (tokens_from m i) ≡ length m.tokens - i
length-tokens_from m i = rw (length-map, length-enumerate_from i (drop i m.tokens)) (length-drop i m.tokens)

-- The meaning that the closest token gives to a position.

unfoldable pub of_item : MapValue → ℕ × ℕ → Option RawToken → Option Meaning
of_item m p t = option_map (λ t. meaning_of m t (distance t p)) t

pub meaning-item : (m : MapValue) (p : ℕ × ℕ)
    → meaning m p ≡ of_item m p (closest_item destination position_cmp m.tokens p)
unfolding of_item
meaning-item m p = rw (← item-closest destination position_cmp m.tokens p) (through (closest_token m.tokens p))
  where
    through : (o : Option (ℕ × RawToken))
        → option_map says (option_map
        (λ found. record { map_of = m; raw = found.1; index = found.0; extra_columns = distance found.1 p }) o)
        ≡ option_map (λ t. meaning_of m t (distance t p)) (option_map (λ (e : ℕ × RawToken). e.1) o)
    through None = refl
    through (Some e) = refl

-- Well-formed maps.

-- if a call gives `m` (`Gives`) and `m` is well-formed, a map in `result` is well-formed
pub given-well : (result : Result MapValue Error) (m : MapValue) → Gives (λ m. m) result (Ok m) → IsWellFormed m
    → IfOk result IsWellFormed
given-well (Ok n) m gave well = let same : m ≡ n = cc in subst IsWellFormed same well
given-well (Err e) m gave well = tt

pub made-well : (tokens : List RawToken) (names sources : Vec (String Global) Global)
    → AllWithin (vec_len sources) (vec_len names) tokens
    → AllWithin (length (texts_of sources)) (length (texts_of names)) (in_order tokens)
made-well tokens names sources within =
    let many_names : vec_len names ≡ length (texts_of names) = rw length-map names.ok.0 in
    let many_sources : vec_len sources ≡ length (texts_of sources) = rw length-map sources.ok.0 in
    AllWithin-in_order (length (texts_of sources)) (length (texts_of names)) tokens
    (subst (λ n. AllWithin (length (texts_of sources)) n tokens) many_names
    (subst (λ n. AllWithin n (vec_len names) tokens) many_sources within))

-- a map without its names is still well-formed
pub nameless-well : (m : MapValue) → IsWellFormed m → IsWellFormed (record m { names = [] })
nameless-well m well =
    All-weaker (IsWithin (length m.sources) (length m.names)) (IsWithin (length m.sources) 0)
    (λ t within past. let bare = within past in (bare.0, bare.1, bare.2, omega arith)) m.tokens well

-- a map is still well-formed after a source is replaced, since the number of sources stays
pub well-set : (m : MapValue) (id : ℕ) (text : List ℕ) → IsWellFormed m
    → IsWellFormed (record m { sources = slice_set m.sources id text })
well-set m id text well = subst (λ n. AllWithin n (length m.names) m.tokens) (sym (length-set m.sources id text)) well
