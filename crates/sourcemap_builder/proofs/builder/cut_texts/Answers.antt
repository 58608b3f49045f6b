-- Prefixes are removed from one text after another.
use Rattle.std.proofs.Common.{◌≡◌, ◌∙◌, Ok, Some, ap, arith, map, option_map, string_bytes, slice_get, unwrap_or, sym}
use Rattle.std.specs.Option.{option_copied}
use Rattle.std.proofs.lemmas.List.{map-append, length-map}
use Rattle.sourcemap_texts.specs.Texts.{contents_in}
use Rattle.sourcemap_texts.specs.Prefixes.{without_prefix}
use Rattle.sourcemap_builder.proofs.BuilderLemmas.{with_changes-further, with_changes-through}
use Rattle.sourcemap_builder.proofs.builder.cut_texts.Goals as goal

pub loop-id-preserved : goal.loop-id-preserved
loop-id-preserved g c =
    let f = without_prefix (map g.S.AsStr.text c.args.prefixes.now) in
    let text = c.unwrap-text.result.now in
    let at : slice_get c.args.texts.now c.loop-id.id ≡ Some text =
    sym (rw c.unwrap-text.ensures at c.get.ensures.text) in
    let cut : f (unwrap_or (option_copied c.text_at-current.result) text)
    ≡ unwrap_or (option_map string_bytes c.in_ok-strip_text.field-0) text = cc c.in_ok-strip_text.ensures in
    let is = sym cut ∙ ap (λ current. f (unwrap_or current text)) c.text_at-current.ensures in (
      omega (arith, c.in_ok-push.ensures.len, c.loop-id.invariant.0),
      rw (c.in_ok-push.ensures.items, map-append)
          (with_changes-further f (contents_in c.loop-id.cut) (map (option_map string_bytes) c.args.current.now)
          c.args.texts.now c.loop-id.id (option_map string_bytes c.in_ok-strip_text.field-0) text
          (rw length-map (sym c.loop-id.cut.ok.0 ∙ c.loop-id.invariant.0)) at is c.loop-id.invariant.1),
    )

pub returns-clause-value : goal.returns-clause-value
returns-clause-value g c =
    ap Ok (with_changes-through (without_prefix (map g.S.AsStr.text c.args.prefixes.now)) (contents_in c.loop-id.cut)
    (map (option_map string_bytes) c.args.current.now) c.args.texts.now c.loop-id.id
    (omega (arith, c.len-count.ensures.count)) c.loop-id.invariant.1)
