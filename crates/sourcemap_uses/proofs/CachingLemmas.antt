-- What is read of a compiled map is what the map means.
use Rattle.std.proofs.Common.{◌≡◌, refl, sym, ap, subst, ◌∙◌, ℕ, List, Option, Some, None, option_map, Result, Ok, false, true}
use Rattle.std.specs.Prelude.{unwrap_or}
use Rattle.std.specs.Option.{option_copied}
use denote.Ref.{Bor}
use Rattle.sourcemap.specs.Flat.{flat}
use Rattle.sourcemap.specs.Trees.{MapTree}
use Rattle.sourcemap.specs.Types.{Meaning, distance, meaning}
use Rattle.sourcemap.specs.declared.types.RawToken.{RawToken}
use Rattle.sourcemap_cache.specs.Blocks.{compiled_tokens}
use Rattle.sourcemap_cache.specs.CompiledTexts.{ReadsText}
use Rattle.sourcemap_cache.specs.Lookup.{CompiledMeaning, CompiledTokenValue, IsInOrder, compiled_meaning, lookup}
use Rattle.sourcemap_cache.specs.Meaning.{MeansTheSame, compiled, without_scope}
use Rattle.sourcemap_cache.specs.Soundness.{IsSound}
use Rattle.sourcemap_cache.specs.Tokens.{closest_token}
use Rattle.sourcemap_cache.specs.declared.CompiledMapError.{CompiledMapError}
use Rattle.sourcemap_uses.specs.Caching.{IsLineOf, IsOriginOf, origin_value}
use Rattle.sourcemap_uses.specs.declared.caching.Origin.{Origin}

-- the text that is read is the text that the file has
pub read_is : (in_file : Result (Option (List ℕ)) CompiledMapError) (text : Option (List ℕ))
    (found : Option (Bor (List ℕ))) → in_file ≡ Ok text → ReadsText in_file (Ok found) → option_copied found ≡ text
read_is in_file text None same reads = let is : Ok text ≡ Ok None = sym same ∙ reads in cc
read_is in_file text (Some found) same reads = let is : Ok text ≡ Ok (Some found.now) = sym same ∙ reads.0 in cc

-- a call that is promised to succeed (`IsOk`) has no error
pub never_fails : false ≡ true → ⊥
never_fails ok = cc

-- meanings with equal fields are equal
pub same_says : (a b : Meaning) → a.source ≡ b.source → a.line ≡ b.line → a.column ≡ b.column → a.name ≡ b.name
    → a.is_range ≡ b.is_range → a ≡ b
same_says a b source line column name is_range = λ i. record {
  source = source i;
  line = line i;
  column = column i;
  name = name i;
  is_range = is_range i;
}

no_meaning : (o : Option Meaning) → None ≡ option_map (compiled None) o → o ≡ None
no_meaning None e = refl
no_meaning (Some says) e = cc

one_meaning : (o : Option Meaning) (said : CompiledMeaning) → Some (without_scope said) ≡ option_map (compiled None) o
    → (says : Meaning) × (o ≡ Some says) × (without_scope said ≡ compiled None says)
one_meaning None said e = cc
one_meaning (Some says) said e = (says, refl, cc)

found_bytes : (bytes : List ℕ) (p : ℕ × ℕ) (token : CompiledTokenValue) → Some token ≡ lookup bytes p
    → token.bytes ≡ bytes
found_bytes bytes p token e = by_case (closest_token (compiled_tokens bytes) p) e
  where
    by_case : (o : Option (ℕ × RawToken))
        → Some token ≡ option_map
        (λ (found : ℕ × RawToken). record { bytes = bytes; raw = found.1; index = found.0; extra_columns = distance found.1 p }) o
        → token.bytes ≡ bytes
    by_case None e = cc
    by_case (Some found) e = ap (λ (v : Option CompiledTokenValue). (unwrap_or v token).bytes) e

module _ (t : MapTree) (bytes read : List ℕ) (p : ℕ × ℕ) (same : read ≡ bytes) (means : MeansTheSame t bytes)
    (sound : IsSound bytes) (said : Option CompiledMeaning) (looked : IsInOrder read → said ≡ compiled_meaning read p) where
  said_in_file : said ≡ compiled_meaning bytes p
  said_in_file = looked (subst IsInOrder (sym same) sound.order) ∙ ap (λ b. compiled_meaning b p) same

  said_of_map : option_map without_scope said ≡ option_map (compiled None) (meaning means.0 p)
  said_of_map = ap (option_map without_scope) said_in_file ∙ means.2.meaning p

  pub no_origin : said ≡ None → IsOriginOf t p None
  no_origin none =
      (means.0, means.1, sym (no_meaning (meaning means.0 p) (ap (option_map without_scope) (sym none) ∙ said_of_map)))

  pub one_origin : (one : CompiledMeaning) → said ≡ Some one
      → (says : Meaning) × (meaning means.0 p ≡ Some says) × (without_scope one ≡ compiled None says)
  one_origin one some =
      one_meaning (meaning means.0 p) one (ap (option_map without_scope) (sym some) ∙ said_of_map)

  -- the token that was found is one of the file
  pub of_file : (token : CompiledTokenValue) → (IsInOrder read → Some token ≡ lookup read p) → IsSound token.bytes
  of_file token found =
      let order : IsInOrder read = subst IsInOrder (sym same) sound.order in
      subst IsSound (sym (found_bytes read p token (found order) ∙ same)) sound

-- bytes that are accepted are not refused
pub no_error : {E : Type 0} {refusal : Option E} (e : E) → refusal ≡ None → refusal ≡ Some e → ⊥
no_error e accepted refused = let never : None ≡ Some e = sym accepted ∙ refused in cc

pub origin_found : (t : MapTree) (p : ℕ × ℕ) {bytes : List ℕ} (means : MeansTheSame t bytes) (says : Meaning)
    → meaning means.0 p ≡ Some says → (origin : Origin) → origin_value origin ≡ says → IsOriginOf t p (Some origin)
origin_found t p means says at origin is = (means.0, means.1, ap Some is ∙ sym at)

pub line_found : (t : MapTree) (p : ℕ × ℕ) (origin : Option Origin) (line : Option ℕ) → IsOriginOf t p origin
    → line ≡ option_map (λ (o : Origin). o.line) origin → IsLineOf t p line
line_found t p origin line (m, flattened, is) e =
    (m, flattened, e ∙ lines origin ∙ ap (option_map (λ (says : Meaning). says.line)) is)
  where
    lines : (o : Option Origin)
        → option_map (λ (x : Origin). x.line) o ≡ option_map (λ (s : Meaning). s.line) (option_map origin_value o)
    lines None = refl
    lines (Some x) = refl
