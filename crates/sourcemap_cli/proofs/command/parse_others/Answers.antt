use Rattle.std.proofs.Common.{subst}
use Rattle.std.specs.Prelude.{MatchOption}
use Rattle.sourcemap_cli.specs.Command.{AskFor}
use Rattle.sourcemap_cli.specs.declared.command.Command.{Command}
use Rattle.sourcemap_cli.proofs.CommandLemmas.{four_texts}
use Rattle.sourcemap_cli.proofs.command.parse_others.Goals as goal

pub returns-in-len4 : goal.returns-in-len4
returns-in-len4 c =
    subst
    (λ ws. MatchOption c.parse_verb_and_three.result ((command : Command) → ¬ AskFor ws command) (AskFor ws))
    (four_texts c.args.words.now c.verb-item-then-words-lt5.result c.flag-item.result c.line-item.result c.col-item.result
    c.as_str-in-len4.result.now c.as_str-in-len4-2.result.now c.as_str-in-len4-3.result.now c.as_str-in-len4-4.result.now
    c.in-len4.len_at_least c.in-len4.len_below
    c.verb-item-then-words-lt5.is c.flag-item.is c.line-item.is c.col-item.is
    c.as_str-in-len4.ensures.value c.as_str-in-len4-2.ensures.value c.as_str-in-len4-3.ensures.value
    c.as_str-in-len4-4.ensures.value)
    c.parse_verb_and_three.ensures
