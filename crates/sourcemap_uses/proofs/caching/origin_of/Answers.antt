-- The getters give the fields of the meaning, and read its texts without error, since the file is sound.
use Rattle.std.proofs.Common.{◌∙◌, ap}
use Rattle.sourcemap_cache.specs.Stored.{meaning_of_token}
use Rattle.sourcemap_uses.proofs.CachingLemmas.{never_fails, read_is, same_says}
use Rattle.sourcemap_uses.proofs.caching.origin_of.Goals as goal

pub returns : goal.returns
returns c = λ says same sound.
    let said = meaning_of_token c.args.token in
    same_says _ says
    (read_is said.source says.source c.in_ok-source.source (ap (λ m. m.source) same) c.in_ok-source.ensures.text)
    (c.get_src_line.ensures ∙ ap (λ m. m.line) same)
    (c.get_src_col.ensures ∙ ap (λ m. m.column) same)
    (read_is said.name says.name c.in_ok-name.name (ap (λ m. m.name) same) c.in_ok-name.ensures.text)
    (c.is_range.ensures ∙ ap (λ m. m.is_range) same)

pub returns-in_err-source : goal.returns-in_err-source
returns-in_err-source c = λ says same sound. absurd (never_fails (c.in_err-source.ensures.sound sound))

pub returns-in_err-name : goal.returns-in_err-name
returns-in_err-name c = λ says same sound. absurd (never_fails (c.in_err-name.ensures.sound sound))
