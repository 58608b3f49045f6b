use Rattle.std.proofs.Common.{length, map, string_bytes, Option, Some, Ok, true, sym, subst}
use Rattle.std.specs.Option.{option_copied}
use Rattle.url.specs.Parts.{Parts}
use Rattle.sourcemap_file_urls.specs.Places.{PathUrl}
use Rattle.sourcemap_source_files.specs.Loading.{folder_of}
use Rattle.sourcemap_source_files.proofs.LoadingLemmas.{newly-same, same_files, folder_is_due, in_folder}
use Rattle.sourcemap_source_files.proofs.loading.load_contents.Goals as goal

pub returns-in-Some-2-clause-fills : goal.returns-in-Some-2-clause-fills
returns-in-Some-2-clause-fills g c =
    let P : Option Parts → Type 0 = λ url. PathUrl c.as_str.result.now true (Ok url) in
    let at : PathUrl c.as_str.result.now true (Ok (Some c.in-Some-2.base)) =
    subst P c.in-Some-2.is c.in_ok-base.ensures in
    in_folder (folder_of c.args.current_dir.now (option_copied c.args.base_path)) c.as_str.result.now
    (map string_bytes c.args.sources.now) c.args.contents.now.items c.load_all.new.contents.items
    (folder_is_due string_bytes
    (folder_of c.args.current_dir.now (option_copied c.args.base_path)) c.in_ok-folder.field-0 c.in-Some.folder
    c.as_str.result.now c.in_ok-folder.ensures c.in-Some.is c.as_str.ensures.value)
    (c.load_all.ensures.fills c.as_str.result.now (same_files c.as_str.result.now c.in-Some-2.base at))

pub returns-clause-count : goal.returns-clause-count
returns-clause-count g c = sym (newly-same (length c.args.sources.now) c.args.contents.now.items)
