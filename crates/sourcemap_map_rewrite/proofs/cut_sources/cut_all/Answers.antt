use Rattle.std.proofs.Common.{◌≡◌, ◌<◌, ℕ, List, length, map, get_or, string_bytes, slice_set, sym, ap, ◌∙◌, arith}
use Rattle.std.specs.declared.alloc.Global.{Global}
use Rattle.std.proofs.lemmas.List.{map-set, length-map, get_or-map}
use Rattle.std.proofs.lemmas.List.Edits.{map_over_more}
use Rattle.sourcemap_texts.specs.Prefixes.{without_prefix}
use Rattle.sourcemap_map_rewrite.proofs.cut_sources.cut_all.Goals as goal

pub loop-text-preserved : goal.loop-text-preserved
loop-text-preserved c =
    let prefixes : List (List ℕ) = map (string_bytes {Z = Global}) c.args.prefixes.now in
    let old : List (List ℕ) = map (string_bytes {Z = Global}) c.args.texts.now in
    let now : List (List ℕ) = map (string_bytes {Z = Global}) c.loop-text.texts in
    let i = c.loop-text.text-index in
    let text : List ℕ = string_bytes (get_or c.loop-text.texts i c.text-item.result) in
    let many : length old ≡ length c.args.texts.now = length-map c.args.texts.now string_bytes in
    let here : i < length old = omega (arith, c.loop-text-test.true) in
    let read : text ≡ get_or now i text =
    sym (get_or-map string_bytes c.loop-text.texts i c.text-item.result text (omega (arith, c.loop-text.auto.texts))) in
    map-set string_bytes c.loop-text.texts i c.cut_text.new.text
    ∙ ap (slice_set now i) c.in_ok-cut_text.ensures.ok
    ∙ map_over_more (without_prefix prefixes) old now i text here c.loop-text.invariant read
