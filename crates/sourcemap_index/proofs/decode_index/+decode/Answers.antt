-- Sections are decoded one by one, and the first error is returned.
use Rattle.std.proofs.Common.{◌≡◌, ◌∙◌, refl, sym, ap, subst, arith, [], ◌∷◌, map, Ok, Err}
use Rattle.std.proofs.lemmas.List.{map-append, nil_from_length, length-map, append-nil}
use Rattle.std.proofs.lemmas.Result.{err_from_is_err_and}
use Rattle.std.specs.Vec.Iter.{into_iter_items}
use Rattle.sourcemap_errors.proofs.AnswerLemmas.{UnlessMemory-weaker}
use Rattle.sourcemap_records.specs.Jsontypes.{flat, tree, section, sections_from}
use Rattle.sourcemap_index_model.specs.Decode.{SectionsDecode}
use Rattle.sourcemap_index.specs.Family.{section_value}
use Rattle.sourcemap_index.specs.Decode.{SectionDecodes}
use Rattle.sourcemap_index.proofs.DecodeIndexLemmas.{prepend, prepend-more, section_prepended, one_refused, sections_among, among_with, too_many, parts_refused, parts_decoded, plain_answer}
use Rattle.sourcemap_index.proofs.decode_index.+decode.Goals as goal

pub decode_parts-returns-then-len-gt-SECTION_LIMIT :
    goal.decode_parts-returns-then-len-gt-SECTION_LIMIT
decode_parts-returns-then-len-gt-SECTION_LIMIT t c =
    let many = length-map c.args.sections.items section in
    too_many (flat (tree c.args.raw)) (map section c.args.sections.items)
    (omega (arith, many, c.len.ensures, c.if-len-gt-SECTION_LIMIT.true, c.args.sections.ok.0))

pub decode_parts-returns-in_err-decoded : goal.decode_parts-returns-in_err-decoded
decode_parts-returns-in_err-decoded t c =
    let p = err_from_is_err_and c.from_residual.result c.from_residual.ensures.1 in
    let many = length-map c.args.sections.items section in
    rw (p.1, p.2) (parts_refused (flat (tree c.args.raw)) (map section c.args.sections.items) _
    (omega (arith, many, c.len.ensures, c.if-len-gt-SECTION_LIMIT.false, c.args.sections.ok.0))
    c.in_err-decoded.ensures)

pub decode_parts-returns : goal.decode_parts-returns
decode_parts-returns t c =
    let many = length-map c.args.sections.items section in
    parts_decoded (flat (tree c.args.raw)) (map section c.args.sections.items)
    (map section_value c.in_ok-decoded.decoded.items) (map section_value c.sort_sections.new.sections.items)
    c.index_of.result
    (omega (arith, many, c.len.ensures, c.if-len-gt-SECTION_LIMIT.false, c.args.sections.ok.0)) c.in_ok-decoded.ensures
    c.in_ok-sort_sections.ensures.sorted c.index_of.ensures

pub decode_record-returns-in-None : goal.decode_record-returns-in-None
decode_record-returns-in-None t c =
    plain_answer c.args.raw c.take.new.self c.decode_leaf.result (sym (sym c.in-None.is ∙ c.take.ensures.value))
    c.decode_leaf.ensures

pub decode_sections-returns-in_err-decode_section :
    goal.decode_sections-returns-in_err-decode_section
decode_sections-returns-in_err-decode_section t c =
    let p = err_from_is_err_and c.from_residual-in_err-decode_section.result
    c.from_residual-in_err-decode_section.ensures.1 in
    rw (p.1, p.2)
    (UnlessMemory-weaker _ (λ (h : SectionDecodes (section c.in-Some.part) (Err c.in_err-decode_section.field-0.0)).
    c.loop-part.invariant.decoded (Err c.in_err-decode_section.field-0.0)
    (subst (λ xs. SectionsDecode (sections_from (map section xs)) (Err c.in_err-decode_section.field-0.0))
    (sym c.in-Some.ensures.steps.0)
    (one_refused (section c.in-Some.part) (sections_from (map section (into_iter_items c.next.new.self)))
    c.in_err-decode_section.field-0.0 h))) c.in_err-decode_section.ensures)

pub decode_sections-loop-part-preserved : goal.decode_sections-loop-part-preserved
decode_sections-loop-part-preserved t c =
    let next = c.in-Some.ensures.steps.0 in
    let rest = sections_from (map section (into_iter_items c.next.new.self)) in
    let done = map section_value c.loop-part.decoded.items in
    let here =
    ap (λ xs. sections_among (sections_from (map section xs))) next ∙ among_with (section c.in-Some.part) rest in
    let more =
    ap (map section_value) c.in_ok-push.ensures.items ∙ map-append section_value c.loop-part.decoded.items _ in
    record {
      decoded = λ a h.
          subst (SectionsDecode (sections_from (map section c.args.sections.items)))
          (prepend-more done (section_value c.in_ok-decode_section.field-0) a ∙ ap (λ ss. prepend ss a) (sym more))
          (c.loop-part.invariant.decoded (prepend (section_value c.in_ok-decode_section.field-0 ∷ []) a)
          (subst (λ xs. SectionsDecode (sections_from (map section xs))
          (prepend (section_value c.in_ok-decode_section.field-0 ∷ []) a)) (sym next)
          (section_prepended (section c.in-Some.part) rest (section_value c.in_ok-decode_section.field-0) a
          c.in_ok-decode_section.ensures h)));
      depth = omega (arith, here, c.loop-part.invariant.depth);
    }

pub decode_sections-returns : goal.decode_sections-returns
decode_sections-returns t c =
    let empty : into_iter_items c.loop-part.part-iterator ≡ [] =
    nil_from_length (into_iter_items c.loop-part.part-iterator)
    (sym c.loop-part.part-iterator.rest.ok.0 ∙ c.in-None.ensures.steps.0) in
    subst (λ ss. SectionsDecode (sections_from (map section c.args.sections.items)) (Ok ss))
    (append-nil (map section_value c.loop-part.decoded.items))
    (c.loop-part.invariant.decoded (Ok [])
    (subst (λ xs. SectionsDecode (sections_from (map section xs)) (Ok [])) (sym empty) refl))
