use Rattle.std.proofs.Common.{◌≡◌, ℕ, ◌+◌, List, [], ◌∷◌, drop, map, Option, option_copied, string_bytes, subst, sym, ap}
use Rattle.std.proofs.Common.{◌∙◌, arith}
use Rattle.std.proofs.lemmas.List.{drop_all}
use Rattle.std.specs.List.{AllByRecursion}
use Rattle.serde_json.specs.Data.{string}
use Rattle.sourcemap_map_parts.specs.Contents.{fitted}
use Rattle.sourcemap_map_parts.proofs.ContentsLemmas.{drop-fitted, length-fitted}
use Rattle.sourcemap_records.specs.Field.{written_or_null}
use Rattle.serde_json.specs.Written.{comma_if}
use Rattle.sourcemap_map_encode.specs.Buffered.{GrowsBy}
use Rattle.sourcemap_map_encode.proofs.BufferedLemmas.{Grows-into, OnOk-any, OnOk-then}
use Rattle.sourcemap_map_encode.proofs.ListLemmas.{IsListed, listed-more, listed-end}
use Rattle.sourcemap_map_encode.proofs.MemberLemmas.{IsPlainContent, plain_contents}
use Rattle.sourcemap_map_encode.proofs.encode.put_content_list.Goals as goal

pub loop-id-preserved : goal.loop-id-preserved
loop-id-preserved g c =
    let l = c.loop-id in
    let all = fitted c.args.count c.args.contents.now in
    let left = drop (l.id + 1) all in
    let one = option_copied c.get.result in
    let held = g.W.Write.contents in
    let step : drop l.id all ≡ one ∷ left =
    drop-fitted c.args.contents.now c.args.count l.id (omega arith) ∙ ap (λ o. o ∷ left) (sym c.get.ensures) in
    record {
      listed = listed-more (map (written_or_null string) all) (map
          (written_or_null string) left) (written_or_null string one) l.later
          (held c.args.writer.now) (held l.writer) (held l.writer) (held c.put_content.new.writer)
          (string_bytes c.args.buffer.now) (string_bytes l.buffer) (string_bytes c.put_comma.new.buffer)
          (string_bytes c.put_content.new.buffer)
          (subst (λ (cs : List (Option (List ℕ))). GrowsBy
          (IsListed (map (written_or_null string) all) (map (written_or_null string) cs) l.later)
          (held c.args.writer.now) (string_bytes c.args.buffer.now) (held l.writer)
          (string_bytes l.buffer)) step l.invariant.listed)
          (Grows-into (held l.writer) (string_bytes l.buffer) (string_bytes c.put_comma.new.buffer) (comma_if l.later)
          c.in_ok-put_comma.ensures) c.in_ok-put_content.ensures.text;
      each = λ rest. l.invariant.each (subst (λ (cs : List (Option (List ℕ))). AllByRecursion IsPlainContent cs)
          (sym step) (c.in_ok-put_content.ensures.is_plain, rest));
    }

pub returns-clause-text : goal.returns-clause-text
returns-clause-text g c =
    let l = c.loop-id in
    let held = g.W.Write.contents in
    let all = fitted c.args.count c.args.contents.now in
    let none : drop l.id all ≡ [] =
    drop_all l.id all (let many = length-fitted c.args.contents.now c.args.count in omega arith) in
    OnOk-then c.put-2.result _ _
    (λ closed. listed-end (map (written_or_null string) all) l.later
    (held c.args.writer.now) (held l.writer) (held c.put-2.new.writer)
    (string_bytes c.args.buffer.now) (string_bytes l.buffer) (string_bytes c.put-2.new.buffer)
    (subst (λ (cs : List (Option (List ℕ))). GrowsBy
    (IsListed (map (written_or_null string) all) (map (written_or_null string) cs) l.later)
    (held c.args.writer.now) (string_bytes c.args.buffer.now) (held l.writer)
    (string_bytes l.buffer)) none l.invariant.listed) closed)
    c.put-2.ensures.text

pub returns-clause-is_plain : goal.returns-clause-is_plain
returns-clause-is_plain g c =
    let l = c.loop-id in
    let all = fitted c.args.count c.args.contents.now in
    let none : drop l.id all ≡ [] =
    drop_all l.id all (let many = length-fitted c.args.contents.now c.args.count in omega arith) in
    OnOk-any c.put-2.result _
    (plain_contents all
    (l.invariant.each (subst (λ (cs : List (Option (List ℕ))). AllByRecursion IsPlainContent cs) (sym none) tt)))
