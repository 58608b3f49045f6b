use Rattle.std.proofs.Common.{◌≡◌, [], ◌∷◌, ◌++◌, Some, None, take, map, string_bytes, sym, ap, ◌∙◌, subst, append_assoc}
use Rattle.std.proofs.Common.{take_all, arith, rules}
use Rattle.std.proofs.lemmas.Grind.{common_steps}
use Rattle.std.specs.List.Sorted.{IsStrictlySortedBy}
use Rattle.std.specs.Map.{keys_of}
use Rattle.std.specs.String.{string_cmp}
use Rattle.serde_json.specs.View.{view, items_of, members_view}
use Rattle.serde_json.proofs.Views.{Entry, members_view-insert_entry}
use Rattle.sourcemap_json_read.specs.Kept.{kept, at_key}
use Rattle.sourcemap_json_read.proofs.KeptLemmas.{kept-items_view, kept-next, dropped-next}
use Rattle.sourcemap_json_read.proofs.kept.+copy.Goals as goal

pub copy_items-returns : goal.copy_items-returns
copy_items-returns g t c =
    let items = c.deref-item-items.result.now in
    let all : take c.loop-item.item-index items ≡ items = take_all _ items c.loop-item-test.false in
    ap items_of (c.loop-item.invariant
    ∙ ap (map (λ v. kept g.L.Level.inside c.args.level (view v))) (all ∙ c.deref-item-items.ensures.value))
    ∙ kept-items_view g.L.Level.inside c.args.level c.args.items.now.items

pub copy_members-loop-key-preserved-in_default : goal.copy_members-loop-key-preserved-in_default
copy_members-loop-key-preserved-in_default g t c =
    let l = c.loop-key in
    let done = l.invariant.0 in
    let e : Entry = (c.in-Some.key.now, c.in-Some.member.now) in
    let left = c.next.new.self in
    let all : c.args.members.now.entries ≡ done ++ e ∷ left =
    l.invariant.1 ∙ ap (λ es. done ++ es) c.in-Some.ensures.steps in
    let ordered =
    subst (λ es. IsStrictlySortedBy string_cmp (keys_of es)) all c.iter-key-items.ensures.ordered in
    let drops : g.L.Level.inside c.args.level (at_key (string_bytes e.0)) ≡ None =
    first_of (search rules, cc, grind (arith, common_steps)) in (
      done ++ e ∷ [],
      all ∙ sym (append_assoc done (e ∷ []) left),
      l.invariant.2 ∙ dropped-next g.L.Level.inside c.args.level done e left drops ordered,
    )

pub copy_members-loop-key-preserved : goal.copy_members-loop-key-preserved
copy_members-loop-key-preserved g t c =
    let l = c.loop-key in
    let done = l.invariant.0 in
    let e : Entry = (c.in-Some.key.now, c.in-Some.member.now) in
    let left = c.next.new.self in
    let all : c.args.members.now.entries ≡ done ++ e ∷ left =
    l.invariant.1 ∙ ap (λ es. done ++ es) c.in-Some.ensures.steps in
    let ordered =
    subst (λ es. IsStrictlySortedBy string_cmp (keys_of es)) all c.iter-key-items.ensures.ordered in
    let keeps : g.L.Level.inside c.args.level (at_key (string_bytes e.0)) ≡ Some c.in-Some-enter.inner =
    first_of (search rules, cc, grind (arith, common_steps)) in
    let named : string_bytes c.in_ok-name.name ≡ string_bytes e.0 =
    first_of (search rules, cc, grind (arith, common_steps)) in (
      done ++ e ∷ [],
      all ∙ sym (append_assoc done (e ∷ []) left),
      ap members_view c.in_ok-insert.ensures.entries
          ∙ members_view-insert_entry l.copies.entries c.in_ok-name.name c.in_ok-kept_copy.field-0
          ∙ rw (named, c.in_ok-kept_copy.ensures, l.invariant.2)
          (kept-next g.L.Level.inside c.args.level c.in-Some-enter.inner done e left keeps ordered),
    )
