use Rattle.std.proofs.Common.{◌≡◌, ℕ, List, map, string_bytes}
use Rattle.sourcemap_file_urls.specs.Places.{named_path}
use Rattle.sourcemap_source_files.specs.Loading.{file_of, Fills}
use Rattle.sourcemap_source_files.proofs.LoadingLemmas.{IsLoaded}
use Rattle.sourcemap_source_files.proofs.loading.load_all.Given as goal

abbrev pub invariant-loop-id : goal.invariant-loop-id
invariant-loop-id g l = record {
  fills : (folder : List ℕ) → ((source : List ℕ) → file_of folder source ≡ named_path l.base source)
      → Fills folder (map string_bytes l.sources) l.initial.contents.items l.contents.items;
  loaded : IsLoaded l.initial.contents.items l.contents.items l.id l.loaded;
}
