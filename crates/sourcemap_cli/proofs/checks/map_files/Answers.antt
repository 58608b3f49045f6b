use Rattle.sourcemap_cli.proofs.ChecksLemmas.{none_undecoded, of_decoded}
use Rattle.sourcemap_cli.proofs.checks.map_files.Goals as goal

pub returns-in-Ok-clause-files : goal.returns-in-Ok-clause-files
returns-in-Ok-clause-files g c =
    of_decoded c.args.bytes.now c.in-Ok.map c.source_files.result c.in-Ok.ensures c.source_files.ensures.below

pub returns-in-Err-clause-files : goal.returns-in-Err-clause-files
returns-in-Err-clause-files g c =
    none_undecoded c.args.bytes.now c.in-Err.error c.no_files_after.result c.in-Err.ensures c.no_files_after.ensures
