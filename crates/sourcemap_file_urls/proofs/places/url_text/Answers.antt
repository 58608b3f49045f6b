use Rattle.std.proofs.Common.{rules, ◌≡◌, map}
use Rattle.std.specs.List.{slice_split}
use Rattle.std.proofs.lemmas.Iterator.Consumers.{YieldsList-end}
use Rattle.std.proofs.lemmas.Iterator.Splits.{YieldsList-from_str_split}
use Rattle.sourcemap_file_urls.specs.Places as spec
use Rattle.sourcemap_file_urls.proofs.places.url_text.Goals as goal

pub returns : goal.returns
returns c =
    let end = YieldsList-end (YieldsList-from_str_split 47 c.args.path.now (search rules) (search rules) (search rules)
    (search rules)) c.loop-part.yielded _ c.loop-part.yielded_by _ _ c.in-None.is c.next.ensures.steps in
    let all : map (λ part. part.now) c.loop-part.yielded ≡ slice_split spec.is_slash c.args.path.now = end.0 in
    search (rules, all)
