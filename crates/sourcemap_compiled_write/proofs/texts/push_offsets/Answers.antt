use Rattle.std.proofs.Common.{◌∙◌, ◌+◌, ◌++◌, List, ℕ, None, ap, map, take, arith}
use Rattle.std.specs.List.{flat_map}
use Rattle.byteorder.specs.Endian.{little_bytes}
use Rattle.sourcemap_compiled_write.specs.TextValues.{text_value}
use Rattle.sourcemap_compiled_write.specs.Texts.{text_offsets}
use Rattle.sourcemap_compiled_write.proofs.TextsLemmas.{length-texts-le, length-texts_more, text_offsets_step}
use Rattle.sourcemap_compiled_write.proofs.texts.push_offsets.Goals as goal

pub loop-text-preserved : goal.loop-text-preserved
loop-text-preserved c =
    let texts = c.args.texts.now in
    let i = c.loop-text.text-index in
    let more = length-texts_more texts i None c.loop-text-test.true in
    let one = c.size_of.ensures in
    let at = c.loop-text.invariant.at in
    record {
      at = omega arith;
      table = c.in_ok-extend_from_slice.ensures.items
          ∙ ap (λ (l : List ℕ). l ++ c.to_le_bytes.result) c.loop-text.invariant.table
          ∙ ap (λ (l : List ℕ). c.args.out.now.items
          ++ flat_map (little_bytes 4) (text_offsets c.args.offset (map text_value (take i texts))) ++ l)
          (c.to_le_bytes.ensures ∙ ap (little_bytes 4) at)
          ∙ text_offsets_step c.args.out.now.items c.args.offset texts i None c.loop-text-test.true;
    }

pub overflow_cast-at : goal.overflow_cast-at
overflow_cast-at c =
    let texts = c.args.texts.now in
    let i = c.loop-text.text-index in
    let more = length-texts_more texts i None c.loop-text-test.true in
    let one = c.size_of.ensures in
    let all = length-texts-le texts (i + 1) in
    let room = c.requires in
    omega arith

pub overflow_add-at : goal.overflow_add-at
overflow_add-at c =
    let texts = c.args.texts.now in
    let i = c.loop-text.text-index in
    let more = length-texts_more texts i None c.loop-text-test.true in
    let one = c.size_of.ensures in
    let all = length-texts-le texts (i + 1) in
    let at = c.loop-text.invariant.at in
    let room = c.requires in
    omega arith
