use Rattle.std.proofs.Common.{◌≡◌, ℕ, List, Bor, map, take}
use Rattle.std.specs.List.{All}
use Rattle.std.specs.Str.{IsUtf8}
use Rattle.sourcemap_c.proofs.replacing.texts_in.Given as goal

abbrev pub invariant-loop-text : goal.invariant-loop-text
invariant-loop-text l = record {
  texts : map (λ (text : Bor (List ℕ)). text.now) l.found.items ≡ map (λ (text : Bor (List ℕ)). text.now) (take l.text-index l.texts);
  utf8 : All (λ (text : Bor (List ℕ)). IsUtf8 text.now) l.found.items;
}
