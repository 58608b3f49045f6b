-- Setting the URL of one section changes no other section.
use Rattle.std.proofs.Common.{◌≡◌, ◌∙◌, ap, slice_get, subst}
use Rattle.std.specs.Option.{OnSome}
use Rattle.sourcemap.specs.AnyMap.{index_value, section_value}
use Rattle.sourcemap.specs.Index.{with_section}
use Rattle.sourcemap_uses.proofs.LinkingLemmas.{get_other, linked_as, linked_none, unless_there}
use Rattle.sourcemap_uses.proofs.linking.link.Goals as goal

pub returns-in-Some-clause-linked : goal.returns-in-Some-clause-linked
returns-in-Some-clause-linked c =
    let before = index_value c.args.index.now in
    let new = section_value c.set_url.new.self in
    let is : index_value (c.get_section_mut.follows.lender c.set_url.new.self) ≡ with_section before c.args.id new =
    subst (λ found. OnSome found
    (index_value (c.get_section_mut.follows.lender c.set_url.new.self) ≡ with_section before c.args.id new))
    c.in-Some.is (c.get_section_mut.follows.holds c.set_url.new.self) in
    linked_as c.set_url.result before _ c.args.id
    (section_value c.in-Some.section.now) new c.args.url.now c.in-Some.ensures.value is c.set_url.ensures

pub returns-in-Some-clause-others : goal.returns-in-Some-clause-others
returns-in-Some-clause-others c = λ other differs.
    let before = index_value c.args.index.now in
    let linked = section_value c.set_url.new.self in
    let is : index_value (c.get_section_mut.follows.lender c.set_url.new.self) ≡ with_section before c.args.id linked =
    subst (λ found. OnSome found
    (index_value (c.get_section_mut.follows.lender c.set_url.new.self) ≡ with_section before c.args.id linked))
    c.in-Some.is (c.get_section_mut.follows.holds c.set_url.new.self) in
    ap (λ i. slice_get i.sections other) is ∙ get_other before.sections c.args.id other linked differs

pub returns-in-None-clause-linked : goal.returns-in-None-clause-linked
returns-in-None-clause-linked c =
    c.get_section_mut.follows.holds-at-none
    ∙ linked_none (index_value c.args.index.now) c.args.id c.args.url.now c.in-None.ensures.value

pub returns-in-Some-clause-none : goal.returns-in-Some-clause-none
returns-in-Some-clause-none c = unless_there _ (section_value c.in-Some.section.now) _ c.in-Some.ensures.value
