use Rattle.std.proofs.Common.{rules, ◌≡◌, ◌∙◌, ◌∷◌, ◌++◌, ap, sym, flat_map, string_bytes}
use Rattle.std.specs.List.{join_with_byte}
use Rattle.std.proofs.lemmas.List.{append_assoc}
use Rattle.sourcemap_file_urls.specs.RelativePaths.{parts}
use Rattle.sourcemap_file_urls.proofs.RelativePathsLemmas.{join-cons}
use Rattle.sourcemap_file_urls.proofs.relative_paths.push_joined.Goals as goal

pub loop-part-init : goal.loop-part-init
loop-part-init c =
    let later = flat_map (λ part. 47 ∷ part) (parts c.in-Some.rest.now) in
    let bytes : string_bytes c.push_str.new.self ≡ string_bytes c.args.path.now ++ c.in-Some.first.now = search rules in
    let next : parts c.args.target.now ≡ c.in-Some.first.now ∷ parts c.in-Some.rest.now = search rules in
    let start : string_bytes c.push_str.new.self ++ later
    ≡ string_bytes c.args.path.now ++ join_with_byte 47 (parts c.args.target.now) =
    ap (λ text. text ++ later) bytes ∙ append_assoc (string_bytes c.args.path.now) c.in-Some.first.now later
    ∙ ap (λ text. string_bytes c.args.path.now ++ text)
    (sym (ap (join_with_byte 47) next ∙ join-cons 47 c.in-Some.first.now (parts c.in-Some.rest.now))) in
    search (rules, start)
