use Rattle.std.proofs.Common.{◌≡◌, List, ℕ, map}
use Rattle.sourcemap_bundles.specs.Stored.{numbered_file_value}
use Rattle.sourcemap_bundles.proofs.FolderLemmas.{same_entries}
use Rattle.std.proofs.lemmas.List.Elements.{same_from_all_zip}
use Rattle.sourcemap_bundles.proofs.unbundle.UnbundleRamBundle.clone.Goals as goal

pub returns : goal.returns
returns c =
    let startup : c.in_ok-startup_code.startup_code.items ≡ c.args.self.now.startup_code.items =
    same_from_all_zip (λ x y. y ≡ x) _ _ c.in_ok-startup_code.ensures.cases.0 (λ x y e. e) in
    let modules : map numbered_file_value c.in_ok-modules.modules.entries
    ≡ map numbered_file_value c.args.self.now.modules.entries =
    same_entries _ _ c.in_ok-modules.ensures.cases in cc
