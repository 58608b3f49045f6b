-- Tokens with the new numbers of their sources and names.
use Rattle.std.specs.Prelude.{◌≡◌, ℕ, List, map}
use Rattle.sourcemap_tokens.specs.declared.tokens.RawToken.{RawToken}
use Rattle.sourcemap_map_rewrite.specs.Numbering.{AreSeen, AreNumbered, numbered_with}
use Rattle.sourcemap_map_rewrite.specs.declared.renumbering.Renumbering.{Renumbering}

pub record IsRenumbered (sources names : List (List ℕ)) (old new : List RawToken) (r : Renumbering) : Type 0 where
  pub seen : AreSeen sources names old r.sources r.names
  pub tokens : new ≡ map (numbered_with sources names r.sources r.names) old
  pub numbered_sources : AreNumbered sources r.sources
  pub numbered_names : AreNumbered names r.names
