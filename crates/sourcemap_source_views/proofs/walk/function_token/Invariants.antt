use Rattle.std.proofs.Common.{◌≡◌, ◌-◌, IfSome, option_map, take}
use Rattle.sourcemap_source_views.specs.Walk.{HasLine, function_token, walked}
use Rattle.sourcemap_source_views.specs.Walks.{tokens_from}
use Rattle.sourcemap_source_views.proofs.WalkLemmas.{found_after}
use Rattle.sourcemap_source_views.proofs.walk.function_token.Given as goal

abbrev pub invariant-loop-passed : goal.invariant-loop-passed
invariant-loop-passed g l = record {
  found : found_after l.name (option_map g.T.WalkedToken.seen l.called) (take (128 - l._passed)
      (walked g.T.WalkedToken.position_value l.view (tokens_from g.T.WalkedToken.seen g.T.WalkedToken.before l.left)))
      ≡ function_token l.name (take 128 (walked g.T.WalkedToken.position_value l.view
      (tokens_from g.T.WalkedToken.seen g.T.WalkedToken.before l.initial.left)));
  kept : IfSome l.cursor (λ s. HasLine l.view s.number s.line.now);
}
