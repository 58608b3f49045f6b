-- If the offsets are in order, the search finds the closest one.
use Rattle.std.proofs.Common.{◌∙◌, ◌+◌, sym, ap, subst, ℕ, Some, None}
use Rattle.sourcemap_tokens.specs.Search.{closest}
use Rattle.sourcemap_tokens.specs.Tokens.{position_cmp}
use Rattle.sourcemap_hermes_scopes.specs.FunctionMap.{AreOffsetsInOrder, offset_position}
use Rattle.sourcemap_hermes_scopes.proofs.FunctionMapLemmas.{name_found}
use Rattle.sourcemap_hermes_scopes.proofs.function_map.HermesFunctionMap.name_index.Goals as goal

pub returns-in_err-offset : goal.returns-in_err-offset
returns-in_err-offset c = λ sorted.
    let p : ℕ × ℕ = (c.args.line, c.args.col) in
    let slice = c.as_slice-offsets.ensures.value ∙ c.self.view_is in
    c.from_residual.ensures
    ∙ name_found c.args.self.now p None
    (c.in_err-offset.ensures.closest offset_position (λ x k h. h) (subst AreOffsetsInOrder (sym slice) sorted)
    ∙ ap (λ ys. closest offset_position position_cmp ys (c.from.result + 1, c.args.col)) slice
    ∙ ap (λ n. closest offset_position position_cmp c.args.self.now (n + 1, c.args.col)) c.from.ensures)

pub returns : goal.returns
returns c = λ sorted.
    let p : ℕ × ℕ = (c.args.line, c.args.col) in
    let slice = c.as_slice-offsets.ensures.value ∙ c.self.view_is in
    name_found c.args.self.now p (Some (c.in_ok-offset.field-0-0, c.in_ok-offset.offset.now))
    (c.in_ok-offset.ensures.closest offset_position (λ x k h. h) (subst AreOffsetsInOrder (sym slice) sorted)
    ∙ ap (λ ys. closest offset_position position_cmp ys (c.from.result + 1, c.args.col)) slice
    ∙ ap (λ n. closest offset_position position_cmp c.args.self.now (n + 1, c.args.col)) c.from.ensures)
