-- What a compiled map says is what the map says that was compiled.
use Rattle.std.proofs.Common.{◌≡◌, ℕ, List, Option, Some, None, option_map, Ok, refl, ap, ◌∙◌}
use Rattle.sourcemap.specs.Flat.{flat}
use Rattle.sourcemap.specs.Trees.{MapTree, leaf, meaning, regular}
use Rattle.sourcemap.specs.Types.{MapValue, Meaning}
use Rattle.sourcemap_compiled.specs.Lookup.{CompiledMeaning, compiled_meaning}
use Rattle.sourcemap_cache.specs.Meaning.{MeansTheSame, compiled, without_scope}
use Rattle.sourcemap_trace.specs.Asked.{compiled_says, plain}

-- the scope is no part of the meaning
plain_without_scope : (says : Option CompiledMeaning)
    → option_map plain says ≡ option_map plain (option_map without_scope says)
plain_without_scope None = refl
plain_without_scope (Some says) = refl

plain_compiled : (says : Option Meaning) → option_map plain (option_map (compiled None) says) ≡ says
plain_compiled None = refl
plain_compiled (Some says) = refl

pub printed_alike : (t : MapTree) (bytes : List ℕ) → MeansTheSame t bytes
    → (m : MapValue) × (flat t ≡ Ok m)
    × ((p : ℕ × ℕ) → compiled_says bytes p ≡ meaning (leaf (regular m)) p)
printed_alike t bytes (m, is, means) = (
  m,
  is,
  λ p.
      plain_without_scope (compiled_meaning bytes p) ∙ ap (option_map plain) (means.meaning p)
      ∙ plain_compiled (meaning (leaf (regular m)) p),
)
