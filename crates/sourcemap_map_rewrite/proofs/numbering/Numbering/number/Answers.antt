use Rattle.std.proofs.Common.{◌≡◌, Some, [], List, ℕ, get_or, length, map, slice_get, string_bytes, arith, sym, ap}
use Rattle.std.proofs.Common.{refl, ◌∙◌}
use Rattle.std.specs.declared.alloc.Global.{Global}
use Rattle.std.proofs.lemmas.List.{length-map}
use Rattle.std.proofs.lemmas.Option.{slice_get-get_or, slice_get_read}
use Rattle.sourcemap_map_rewrite.proofs.NumberingLemmas.{more-existing, more-new, number-new, numbering-more}
use Rattle.sourcemap_map_rewrite.proofs.NumberingLemmas.{below_max}
use Rattle.sourcemap_texts.proofs.TextsLemmas.{text_there}
use Rattle.sourcemap_map_rewrite.proofs.numbering.Numbering.number.Goals as goal

pub returns-then-existing-clause-more : goal.returns-then-existing-clause-more
returns-then-existing-clause-more c =
    let n = c.args.self.now in
    let texts : List (List ℕ) = map (string_bytes {Z = Global}) c.args.texts.now in
    let many : length texts ≡ length c.args.texts.now = length-map c.args.texts.now string_bytes in
    let named = slice_get-get_or texts c.args.id [] (omega arith) in
    let numbered = slice_get_read n.seen.numbers.items (length n.seen.numbers.items) c.args.id
    c.index-existing.result.now refl (omega (arith, c.requires.numbering.numbered.many)) c.index-existing.ensures in
    more-existing texts n c.args.id
    (get_or texts c.args.id []) c.requires.numbering named c.index-existing.result.now numbered c.if-existing.true

pub assign-requires-clause-below_max : goal.assign-requires-clause-below_max
assign-requires-clause-below_max c =
    let texts : List (List ℕ) = map (string_bytes {Z = Global}) c.args.texts.now in
    let many : length texts ≡ length c.args.texts.now = length-map c.args.texts.now string_bytes in
    let named : slice_get texts c.args.id ≡ Some c.as_str.result.now =
    text_there c.args.texts.now c.args.id c.index-texts-index.result c.if-index-texts.false c.index-texts-index.is
    ∙ ap Some (sym c.as_str.ensures.value) in
    below_max texts c.args.self.now c.args.id c.as_str.result.now c.requires.numbering named
    (omega (arith, c.requires.few))

pub returns-clause-number : goal.returns-clause-number
returns-clause-number c =
    let texts : List (List ℕ) = map (string_bytes {Z = Global}) c.args.texts.now in
    let named : slice_get texts c.args.id ≡ Some c.as_str.result.now =
    text_there c.args.texts.now c.args.id c.index-texts-index.result c.if-index-texts.false c.index-texts-index.is
    ∙ ap Some (sym c.as_str.ensures.value) in
    sym (number-new texts c.args.self.now c.args.id c.as_str.result.now c.requires.numbering named c.in_ok-number.number
    c.assign.new.self c.in_ok-number.ensures.seen)

pub returns-clause-more : goal.returns-clause-more
returns-clause-more c =
    let texts : List (List ℕ) = map (string_bytes {Z = Global}) c.args.texts.now in
    let named : slice_get texts c.args.id ≡ Some c.as_str.result.now =
    text_there c.args.texts.now c.args.id c.index-texts-index.result c.if-index-texts.false c.index-texts-index.is
    ∙ ap Some (sym c.as_str.ensures.value) in
    more-new texts c.args.self.now c.args.id c.as_str.result.now c.requires.numbering named c.in_ok-number.number
    c.assign.new.self c.in_ok-number.ensures.seen

pub returns-clause-numbering : goal.returns-clause-numbering
returns-clause-numbering c =
    let texts : List (List ℕ) = map (string_bytes {Z = Global}) c.args.texts.now in
    let named : slice_get texts c.args.id ≡ Some c.as_str.result.now =
    text_there c.args.texts.now c.args.id c.index-texts-index.result c.if-index-texts.false c.index-texts-index.is
    ∙ ap Some (sym c.as_str.ensures.value) in
    numbering-more texts c.args.self.now c.args.id c.as_str.result.now c.requires.numbering named c.in_ok-number.number
    c.assign.new.self c.in_ok-number.ensures.seen
