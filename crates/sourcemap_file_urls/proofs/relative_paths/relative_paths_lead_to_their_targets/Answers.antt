use Rattle.sourcemap_file_urls.proofs.LeadsLemmas.{relative_path-leads}
use Rattle.sourcemap_file_urls.proofs.relative_paths.relative_paths_lead_to_their_targets.Goals as goal

pub returns : goal.returns
returns c = relative_path-leads c.args.base.now c.args.target.now
