-- Too many tokens for any scopes, or the file with the scopes that were found.
use Rattle.std.proofs.Common.{◌^◌, ◌≤◌, ◌∙◌, ap, arith, inl, length, refl}
use Rattle.sourcemap_hermes.specs.Map.{hermes_value}
use Rattle.sourcemap_cache.specs.Compile.{bytes_in, hermes_parts}
use Rattle.sourcemap_cache.specs.Scopes.{scope_names, scope_numbers}
use Rattle.sourcemap_cache.specs.Texts.{borrowed}
use Rattle.sourcemap_cache.proofs.CompileLemmas.{hermes_answer}
use Rattle.sourcemap_cache.proofs.compiling.compile_hermes.Goals as goal

pub returns-then-lists : goal.returns-then-lists
returns-then-lists c =
    let h = hermes_value c.args.map.now in
    let tokens = ap length c.lists.ensures.lists.tokens in
    let same = ap (λ m. length m.tokens) c.deref.ensures in
    let many : 2 ^ 32 ≤ length h.map.tokens = omega arith in
    (hermes_parts c.args.contents h, (scope_numbers h, scope_names h, refl, λ order. refl), inl many)

pub returns : goal.returns
returns c =
    hermes_answer c.args.contents (hermes_value c.args.map.now) c.deref-2.result.now c.deref-3.result.now
    (borrowed c.as_slice.result.now) (bytes_in c.file_with.result) c.deref-2.ensures
    (λ order. let is = c.in_ok-scopes.ensures.scopes order in
    (c.deref-3.ensures.value ∙ is.numbers, c.as_slice.ensures.texts ∙ is.names)) c.file_with.ensures
