-- The first line of a text, by where it ends.
use Rattle.std.proofs.Common.{◌≡◌, ◌∙◌, refl, sym, ap, subst, inl, inr, ℕ, List, take, drop}
use Rattle.sourcemap_source_views.specs.Lines.{lines_of}
use Rattle.sourcemap_source_views.proofs.LinesLemmas.{lines_of-cut, lines_of-uncut}
use Rattle.sourcemap_web.specs.Texts.{EndsAt, HasNoEnd, ReturnsLine, followed, terminator_length}

pub line_cut : (text tail old rest : List ℕ) (end : ℕ) → EndsAt text end → tail ≡ drop end text
    → rest ≡ drop (terminator_length tail) tail → ReturnsLine text 0 (take end text) old rest
line_cut text tail old rest end at is after =
    let cut = lines_of-cut text end (record { inside = at.inside; ends = at.ends; before = at.before }) in
    let terminator = take (terminator_length (drop end text)) (drop end text) in
    let same : rest ≡ drop (terminator_length (drop end text)) (drop end text)
    = subst (λ t. rest ≡ drop (terminator_length t) t) is after in
    inl (refl, (terminator, cut ∙ ap (λ r. followed (take end text) terminator (lines_of r)) (sym same)))

pub line_uncut : (text old : List ℕ) → HasNoEnd text → ReturnsLine text 32 text old old
line_uncut text old none = inr (refl, lines_of-uncut text none, refl)
