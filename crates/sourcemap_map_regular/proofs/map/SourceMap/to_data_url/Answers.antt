-- A well-formed map's text decodes to a map with the same meaning. The URL holds this text, so the URL decodes too.
use Rattle.std.proofs.Common.{string_bytes}
use Rattle.sourcemap_map_regular.proofs.WriteLemmas.{encoded-back, url-back}
use Rattle.sourcemap_map_regular.proofs.map.SourceMap.to_data_url.Goals as goal

pub returns-clause-reads_back : goal.returns-clause-reads_back
returns-clause-reads_back c = λ well.
    url-back c.args.self.now (string_bytes c.in_ok-url.url) c.in_ok-text.text.items
    (rw (← c.as_slice.ensures.value) c.in_ok-url.ensures.reads_back)
    (encoded-back c.args.self.now c.in_ok-text.text.items c.in_ok-text.ensures.text well)
