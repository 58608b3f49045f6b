use Rattle.std.proofs.Common.{◌≡◌, ◌+◌, [], ◌∷◌, ◌++◌, drop, string_bytes, false, refl, sym, ap, ◌∙◌, subst}
use Rattle.std.proofs.Common.{append_assoc, append-nil, arith, rules}
use Rattle.std.proofs.lemmas.List.{drop_more, drop_all}
use Rattle.std.proofs.lemmas.Str.{IsUtf8-string_bytes}
use Rattle.std.specs.List.Sorted.{IsStrictlySortedBy}
use Rattle.std.specs.Map.{keys_of}
use Rattle.std.specs.String.{string_cmp}
use Rattle.serde_json.specs.Data.{string, array, object, no_members}
use Rattle.serde_json.specs.View.{view, items_view, members_view}
use Rattle.serde_json.specs.Written.{comma_if, compact_text, items_text, members_text}
use Rattle.json.specs.Print.{quoted}
use Rattle.json.proofs.Printed.Room.{moved}
use Rattle.serde_json.specs.declared.value.Value.{the_lemmas}
use Rattle.serde_json.proofs.Views.{Entry, put_last, view-Array, view-Object}
use Rattle.sourcemap_json_write.specs.Writing.{IsPlainValue, ArePlainItems}
use Rattle.sourcemap_json_write.proofs.WritingLemmas.{IsPlainRest, plain_string, plain_array, plain_object, plain_item}
use Rattle.sourcemap_json_write.proofs.WritingLemmas.{plain_no_items, plain_member, plain_no_members}
use Rattle.sourcemap_json_write.proofs.writing.+put.Goals as goal

pub put_value-returns-in_ok-put_quoted-in-String-clause-plain : goal.put_value-returns-in_ok-put_quoted-in-String-clause-plain
put_value-returns-in_ok-put_quoted-in-String-clause-plain t c =
    let seen : string (string_bytes c.in-String.text) ≡ view c.args.value.now =
    rw c.in-String.is (search (rules, the_lemmas)) in
    subst IsPlainValue seen (plain_string (string_bytes c.in-String.text) (IsUtf8-string_bytes c.in-String.text))

pub put_value-returns-in_ok-put_items-in-Array-clause-plain : goal.put_value-returns-in_ok-put_items-in-Array-clause-plain
put_value-returns-in_ok-put_items-in-Array-clause-plain t c =
    let seen : view c.args.value.now ≡ array (items_view c.in-Array.items.items) =
    ap view c.in-Array.is ∙ view-Array c.in-Array.items in
    subst IsPlainValue (sym seen)
    (plain_array (items_view c.in-Array.items.items) c.in_ok-put_items-in-Array.ensures.plain)

pub put_value-returns-in_ok-put_members-in-Object-clause-plain : goal.put_value-returns-in_ok-put_members-in-Object-clause-plain
put_value-returns-in_ok-put_members-in-Object-clause-plain t c =
    let seen : view c.args.value.now ≡ object (members_view c.in-Object.members.entries) =
    ap view c.in-Object.is ∙ view-Object c.in-Object.members in
    subst IsPlainValue (sym seen)
    (plain_object (members_view c.in-Object.members.entries) c.in_ok-put_members-in-Object.ensures.plain)

pub put_items-loop-item-preserved : goal.put_items-loop-item-preserved
put_items-loop-item-preserved t c =
    let l = c.loop-item in
    let xs = c.deref-item-items.result.now in
    let x = c.item-item.result in
    let left = drop (l.item-index + 1) xs in
    let whole = c.args.out.now.items ++ 91 ∷ items_text false (items_view xs) in
    let here : drop l.item-index xs ≡ x ∷ left =
    drop_more xs l.item-index x (omega arith) ∙ ap (λ y. y ∷ left) (sym c.item-item.is) in
    let comma = moved l.out.items c.put_comma.new.out.items (comma_if l.later) _ _ whole c.in_ok-put_comma.ensures refl
    (subst (λ ys. l.out.items ++ items_text l.later (items_view ys) ≡ whole) here l.invariant.0) in (
      moved c.put_comma.new.out.items c.put_value.new.out.items
          (compact_text (view x)) _ _ whole c.in_ok-put_value.ensures.text refl comma,
      λ rest. l.invariant.1 (subst (λ ys. ArePlainItems (items_view ys)) (sym here)
          (plain_item (view x) (items_view left) c.in_ok-put_value.ensures.plain rest)),
    )

pub put_items-returns-clause-plain : goal.put_items-returns-clause-plain
put_items-returns-clause-plain t c =
    let l = c.loop-item in
    let xs = c.deref-item-items.result.now in
    let none : drop l.item-index xs ≡ [] = drop_all l.item-index xs (omega arith) in
    subst (λ ys. ArePlainItems (items_view ys)) c.deref-item-items.ensures.value
    (l.invariant.1 (subst (λ ys. ArePlainItems (items_view ys)) (sym none) plain_no_items))

pub put_members-loop-key-init : goal.put_members-loop-key-init
put_members-loop-key-init t c =
    let all = members_view c.args.members.now.entries in
    let same : c.args.members.now.entries ≡ c.into_iter-key-iterator.result = search rules in
    let start = c.args.out.now.items in
    let opened =
    ap (λ l. l ++ members_text false (members_view c.into_iter-key-iterator.result)) c.in_ok-put_byte.ensures
    ∙ append_assoc start (123 ∷ []) _ ∙ ap (λ es. start ++ 123 ∷ members_text false (members_view es)) (sym same) in
    (opened, [], same, λ rest. subst (λ es. IsPlainRest no_members (members_view es) all) (sym same) rest)

pub put_members-returns-clause-plain : goal.put_members-returns-clause-plain
put_members-returns-clause-plain t c =
    let l = c.loop-key in
    let done = l.invariant.1 in
    let all = members_view c.args.members.now.entries in
    let none : l.key-iterator ≡ [] = c.in-None.ensures.steps.0 in
    let whole : c.args.members.now.entries ≡ done = l.invariant.2 ∙ ap (λ es. done ++ es) none ∙ append-nil done in
    l.invariant.3 (subst (λ es. IsPlainRest (members_view done) (members_view es) all) (sym none)
    (subst (IsPlainRest (members_view done) no_members) (ap members_view (sym whole))
    (plain_no_members (members_view done))))

pub put_members-loop-key-preserved : goal.put_members-loop-key-preserved
put_members-loop-key-preserved t c =
    let l = c.loop-key in
    let done = l.invariant.1 in
    let e : Entry = (c.in-Some.key.now, c.in-Some.member.now) in
    let left = c.next.new.self in
    let all = members_view c.args.members.now.entries in
    let step : l.key-iterator ≡ e ∷ left = c.in-Some.ensures.steps in
    let split : c.args.members.now.entries ≡ done ++ e ∷ left = l.invariant.2 ∙ ap (λ es. done ++ es) step in
    let last = put_last done e left (subst
    (λ es. IsStrictlySortedBy string_cmp (keys_of es)) split c.iter-key-items.ensures.ordered) in
    let whole = c.args.out.now.items ++ 123 ∷ members_text false all in
    let key : c.put_quoted.new.out.items ≡ c.put_comma.new.out.items ++ quoted (string_bytes e.0) =
    c.in_ok-put_quoted.ensures
    ∙ ap (λ k. c.put_comma.new.out.items ++ quoted k) (c.as_bytes.ensures.value ∙ c.as_str.ensures.value) in
    let comma_put =
    moved l.out.items c.put_comma.new.out.items (comma_if l.later) _ _ whole c.in_ok-put_comma.ensures refl
    (subst (λ es. l.out.items ++ members_text l.later (members_view es) ≡ whole) step l.invariant.0) in
    let key_put = moved c.put_comma.new.out.items c.put_quoted.new.out.items (quoted
    (string_bytes e.0)) _ _ whole key refl comma_put in
    let colon_put = moved c.put_quoted.new.out.items c.put_byte-in-loop-key.new.out.items (58
    ∷ []) _ _ whole c.in_ok-put_byte-2.ensures refl key_put in (
      moved c.put_byte-in-loop-key.new.out.items c.put_value.new.out.items
          (compact_text (view e.1)) _ _ whole c.in_ok-put_value.ensures.text refl colon_put,
      done ++ e ∷ [],
      split ∙ sym (append_assoc done (e ∷ []) left),
      λ rest. l.invariant.3 (subst (λ es. IsPlainRest (members_view done) (members_view es) all) (sym step)
          (plain_member (string_bytes e.0) (view e.1) (members_view done) (members_view left) all
          (IsUtf8-string_bytes e.0) c.in_ok-put_value.ensures.plain
          (subst (λ before. IsPlainRest before (members_view left) all) (sym last) rest))),
    )
