use Rattle.std.proofs.Common.{◌≡◌, ◌-◌, ◌<◌, [], ◌∷◌, ◌++◌, length, Some, None, string_bytes, refl, sym, ap, ap₂, ◌∙◌}
use Rattle.std.proofs.Common.{is_some, not, true, false, subst, arith, rules}
use Rattle.json.specs.Token.{Token}
use Rattle.json.specs.Json.{parse_map, after_end_array, read_key, items, members, value}
use Rattle.json.specs.Reads.{token_of}
use Rattle.json.proofs.Grammar.{value_is, value-begin_array, value-begin_object, read_key-shorter}
use Rattle.serde_json.specs.Data.{null, boolean, number, string, array, object, no_members, put}
use Rattle.serde_json.specs.Read.{of_json, converted}
use Rattle.serde_json.specs.View.{view, items_of, number_view, members_view}
use Rattle.serde_json.specs.declared.value.Value.{String, Number, Bool, Null, the_lemmas}
use Rattle.serde_json.proofs.Views.{members_view-insert_entry}
use Rattle.sourcemap_json_read.specs.Kept.{AreKeptMembers}
use Rattle.sourcemap_json_read.proofs.ExactLemmas.{converted-array, converted-object, item_read, item_refused, items_over}
use Rattle.sourcemap_json_read.proofs.ExactLemmas.{member_read, member_refused, key_refused, members_over}
use Rattle.sourcemap_json_read.proofs.ExactLemmas.{one_more_item, none_in_front}
use Rattle.sourcemap_json_read.proofs.KeptLemmas.{AreOrdered-put}
use Rattle.sourcemap_json_read.proofs.KeptReading.{in_front, in_front-no_items, no_members_kept, no_front}
use Rattle.sourcemap_json_read.proofs.KeptReading.{kept_whole, kept_array, kept_object}
use Rattle.sourcemap_json_read.proofs.KeptReading.{kept_front, kept_item, skipped_item, kept_member, skipped_member}
use Rattle.sourcemap_json_read.proofs.exact.+read.Goals as goal

pub read-returns-in_err-token-clause-err : goal.read-returns-in_err-token-clause-err
read-returns-in_err-token-clause-err g t c refused =
    let empty : c.args.reader.now ≡ [] = grind arith in
    ap (converted of_json) (ap (value c.args.depth) empty ∙ value_is c.args.depth [])

pub read-returns-then-depth-eq0-clause-err : goal.read-returns-then-depth-eq0-clause-err
unfolding value
read-returns-then-depth-eq0-clause-err g t c never =
    let first : c.args.reader.now ≡ token_of c.in_ok-token.token ∷ c.next.new.self = grind arith in
    let none : c.args.depth ≡ 0 = omega arith in
    ap (converted of_json) (ap₂ value none (first ∙ ap (λ k. token_of k ∷ c.next.new.self) c.in-BeginArray.is))

pub read-returns-then-depth-eq0-2-clause-err : goal.read-returns-then-depth-eq0-2-clause-err
unfolding value
read-returns-then-depth-eq0-2-clause-err g t c never =
    let first : c.args.reader.now ≡ token_of c.in_ok-token.token ∷ c.next.new.self = grind arith in
    let none : c.args.depth ≡ 0 = omega arith in
    ap (converted of_json) (ap₂ value none (first ∙ ap (λ k. token_of k ∷ c.next.new.self) c.in-BeginObject.is))

pub read-returns-in_err-read_items-in-BeginArray-clause-err : goal.read-returns-in_err-read_items-in-BeginArray-clause-err
read-returns-in_err-read_items-in-BeginArray-clause-err g t c refused =
    let first : c.args.reader.now ≡ token_of c.in_ok-token.token ∷ c.next.new.self = grind arith in
    let opened = ap (converted of_json) (ap (value c.args.depth)
    (first ∙ ap (λ k. token_of k ∷ c.next.new.self) c.in-BeginArray.is)
    ∙ value-begin_array c.args.depth c.next.new.self (omega arith))
    ∙ converted-array (items (value (c.args.depth - 1)) (length c.next.new.self) c.next.new.self) in
    opened ∙ ap (parse_map array) (c.read_items.ensures.err (grind arith))

pub read-returns-in_err-read_members-in-BeginObject-clause-err : goal.read-returns-in_err-read_members-in-BeginObject-clause-err
read-returns-in_err-read_members-in-BeginObject-clause-err g t c refused =
    let first : c.args.reader.now ≡ token_of c.in_ok-token.token ∷ c.next.new.self = grind arith in
    let opened = ap (converted of_json) (ap (value c.args.depth)
    (first ∙ ap (λ k. token_of k ∷ c.next.new.self) c.in-BeginObject.is)
    ∙ value-begin_object c.args.depth c.next.new.self (omega arith))
    ∙ converted-object (members (value (c.args.depth - 1)) (length c.next.new.self) c.next.new.self) in
    opened ∙ ap (parse_map object) (c.read_members.ensures.err (grind arith))

pub read-returns-in_ok-kept_string-in-String-clause-ok : goal.read-returns-in_ok-kept_string-in-String-clause-ok
read-returns-in_ok-kept_string-in-String-clause-ok g t c =
    let first : c.args.reader.now ≡ token_of c.in_ok-token.token ∷ c.next.new.self = grind arith in
    let is : c.args.reader.now ≡ Token.string c.in-String.text.now ∷ c.next.new.self = grind (arith, first) in
    let copy = c.in_ok-kept_string-in-String.field-0 in
    let seen : view (String copy) ≡ string (string_bytes copy) = search (rules, the_lemmas) in (
      string c.in-String.text.now,
      ap (converted of_json) (ap (value c.args.depth) is ∙ value_is c.args.depth _),
      kept_whole g.L.Level.inside c.args.level _ _ (λ l. refl)
          (λ some. seen ∙ ap string (sym (c.in_ok-kept_string-in-String.ensures (c.is_some.ensures ∙ some)))),
    )

pub read-returns-in-Bool-clause-ok : goal.read-returns-in-Bool-clause-ok
read-returns-in-Bool-clause-ok g t c =
    let first : c.args.reader.now ≡ token_of c.in_ok-token.token ∷ c.next.new.self = grind arith in
    let is : c.args.reader.now ≡ Token.boolean c.in-Bool.is_true ∷ c.next.new.self = grind (arith, first) in
    let seen : view (Bool c.in-Bool.is_true) ≡ boolean c.in-Bool.is_true = search (rules, the_lemmas) in (
      boolean c.in-Bool.is_true,
      ap (converted of_json) (ap (value c.args.depth) is ∙ value_is c.args.depth _),
      kept_whole g.L.Level.inside c.args.level _ _ (λ l. refl) (λ some. seen),
    )

pub read-returns-in-Null-clause-ok : goal.read-returns-in-Null-clause-ok
read-returns-in-Null-clause-ok g t c =
    let first : c.args.reader.now ≡ token_of c.in_ok-token.token ∷ c.next.new.self = grind arith in
    let is : c.args.reader.now ≡ Token.null ∷ c.next.new.self = grind (arith, first) in
    let seen : view Null ≡ null = search (rules, the_lemmas) in (
      null,
      ap (converted of_json) (ap (value c.args.depth) is ∙ value_is c.args.depth _),
      kept_whole g.L.Level.inside c.args.level _ _ (λ l. refl) (λ some. seen),
    )

pub read-returns-in-Some-clause-ok : goal.read-returns-in-Some-clause-ok
read-returns-in-Some-clause-ok g t c =
    let first : c.args.reader.now ≡ token_of c.in_ok-token.token ∷ c.next.new.self = grind arith in
    let is : c.args.reader.now ≡ Token.number c.in-Number.text.now ∷ c.next.new.self = grind (arith, first) in
    let seen : view (Number c.in-Some.number) ≡ number (number_view c.in-Some.number) = search (rules, the_lemmas) in (
      number (number_view c.in-Some.number),
      ap (converted of_json) (ap (value c.args.depth) is ∙ value_is c.args.depth _) ∙ rw (← c.in-Some.ensures),
      kept_whole g.L.Level.inside c.args.level _ _ (λ l. refl) (λ some. seen),
    )

pub read-returns-in-None-clause-err : goal.read-returns-in-None-clause-err
read-returns-in-None-clause-err g t c refused =
    let first : c.args.reader.now ≡ token_of c.in_ok-token.token ∷ c.next.new.self = grind arith in
    let is : c.args.reader.now ≡ Token.number c.in-Number.text.now ∷ c.next.new.self = grind (arith, first) in
    ap (converted of_json) (ap (value c.args.depth) is ∙ value_is c.args.depth _) ∙ rw (← c.in-None.ensures)

pub read-returns-in-EndObject-clause-err : goal.read-returns-in-EndObject-clause-err
read-returns-in-EndObject-clause-err g t c refused =
    let first : c.args.reader.now ≡ token_of c.in_ok-token.token ∷ c.next.new.self = grind arith in
    let none : value c.args.depth c.args.reader.now ≡ None =
    rw (value_is c.args.depth c.args.reader.now, first) (grind arith) in
    ap (converted of_json) none

pub read-returns-in_ok-read_items-in-BeginArray-clause-ok : goal.read-returns-in_ok-read_items-in-BeginArray-clause-ok
read-returns-in_ok-read_items-in-BeginArray-clause-ok g t c =
    let first : c.args.reader.now ≡ token_of c.in_ok-token.token ∷ c.next.new.self = grind arith in
    let opened = ap (converted of_json) (ap (value c.args.depth)
    (first ∙ ap (λ k. token_of k ∷ c.next.new.self) c.in-BeginArray.is)
    ∙ value-begin_array c.args.depth c.next.new.self (omega arith))
    ∙ converted-array (items (value (c.args.depth - 1)) (length c.next.new.self) c.next.new.self) in
    let found = c.in_ok-read_items-in-BeginArray in
    let is = found.ensures.ok in (
      array is.0,
      opened ∙ ap (parse_map array) is.1,
      kept_array g.L.Level.inside c.args.level _ is.0 found.field-0 c.level_of_items-inner.ensures is.2,
    )

pub read-returns-in_ok-read_members-in-BeginObject-clause-ok : goal.read-returns-in_ok-read_members-in-BeginObject-clause-ok
read-returns-in_ok-read_members-in-BeginObject-clause-ok g t c =
    let first : c.args.reader.now ≡ token_of c.in_ok-token.token ∷ c.next.new.self = grind arith in
    let opened = ap (converted of_json) (ap (value c.args.depth)
    (first ∙ ap (λ k. token_of k ∷ c.next.new.self) c.in-BeginObject.is)
    ∙ value-begin_object c.args.depth c.next.new.self (omega arith))
    ∙ converted-object (members (value (c.args.depth - 1)) (length c.next.new.self) c.next.new.self) in
    let found = c.in_ok-read_members-in-BeginObject in
    let is = found.ensures.ok in (
      object is.0,
      opened ∙ ap (parse_map object) is.1,
      kept_object g.L.Level.inside c.args.level is.0 found.field-0 is.2,
    )

pub read_items-items-init : goal.read_items-items-init
read_items-items-init g t c = (
  length c.args.reader.now,
  omega arith,
  [],
  rw c.in_ok-found.ensures.items (no_front g.L.Level.inside c.args.level),
  none_in_front _,
  omega arith,
)

pub read_items-returns-in_err-item-clause-err : goal.read_items-returns-in_err-item-clause-err
read_items-returns-in_err-item-clause-err g t c refused =
    let p = value c.args.depth in
    let l = c.items in
    let h = l.invariant in
    let going : (after_end_array l.reader ≡ None) × (c.take_end_array.new.self ≡ l.reader) = grind arith in
    h.4 ∙ ap (parse_map (in_front h.2))
    (item_refused p h.0 l.reader going.0 (rw (← going.1) (c.read.ensures.err (grind arith))))

pub read_items-items-preserved-then-is_none : goal.read_items-items-preserved-then-is_none
read_items-items-preserved-then-is_none g t c =
    let p = value c.args.depth in
    let l = c.items in
    let h = l.invariant in
    let going : (after_end_array l.reader ≡ None) × (c.take_end_array.new.self ≡ l.reader) = grind arith in
    let r = c.read.new.reader in
    let is = c.in_ok-item.ensures.ok in
    let less : length r < length l.reader = rw (← going.1) c.in_ok-item.ensures.shorter in
    let turn = item_read p h.0 l.reader r is.0 (omega (arith, less, h.1)) going.0 (rw (← going.1) is.1) in
    let none : is_some c.args.level ≡ false = c.is_none.ensures ∙ ap not c.if-is_none.true in (
      h.0 - 1,
      omega (arith, less, h.1),
      h.2 ++ is.0 ∷ [],
      skipped_item g.L.Level.inside c.args.level h.2 l.found.items is.0 h.3 none,
      h.4 ∙ ap (parse_map (in_front h.2)) turn ∙ one_more_item h.2 is.0 _,
      omega (arith, less, h.5),
    )

pub read_items-items-preserved : goal.read_items-items-preserved
read_items-items-preserved g t c =
    let p = value c.args.depth in
    let l = c.items in
    let h = l.invariant in
    let going : (after_end_array l.reader ≡ None) × (c.take_end_array.new.self ≡ l.reader) = grind arith in
    let r = c.read.new.reader in
    let v = c.in_ok-item.item in
    let is = c.in_ok-item.ensures.ok in
    let less : length r < length l.reader = rw (← going.1) c.in_ok-item.ensures.shorter in
    let turn = item_read p h.0 l.reader r is.0 (omega (arith, less, h.1)) going.0 (rw (← going.1) is.1) in
    let some : is_some c.args.level ≡ true = c.is_none.ensures ∙ ap not c.if-is_none.false in (
      h.0 - 1,
      omega (arith, less, h.1),
      h.2 ++ is.0 ∷ [],
      rw c.in_ok-push.ensures.items
          (kept_item g.L.Level.inside c.args.level h.2 l.found.items is.0 v h.3 is.2 some),
      h.4 ∙ ap (parse_map (in_front h.2)) turn ∙ one_more_item h.2 is.0 _,
      omega (arith, less, h.5),
    )

pub read_items-returns-clause-ok : goal.read_items-returns-clause-ok
read_items-returns-clause-ok g t c =
    let p = value c.args.depth in
    let l = c.items in
    let h = l.invariant in
    let r = c.take_end_array.new.self in (
      items_of h.2,
      h.4 ∙ ap (parse_map (in_front h.2)) (items_over p h.0 l.reader r h.1 (grind arith))
          ∙ ap (λ ds. Some (ds, r)) (in_front-no_items h.2),
      rw c.shrink_to_fit.ensures.items (kept_front g.L.Level.inside c.args.level h.2 l.found.items h.3),
    )

pub read_members-members-init : goal.read_members-members-init
read_members-members-init g t c = (
  length c.args.reader.now,
  omega arith,
  no_members,
  tt,
  rw c.new-found.ensures.empty (no_members_kept g.L.Level.inside c.args.level),
  refl,
  omega arith,
)

pub read_members-returns-in_err-key-clause-err : goal.read_members-returns-in_err-key-clause-err
read_members-returns-in_err-key-clause-err g t c refused =
    let l = c.members in
    let h = l.invariant in
    h.5 ∙ key_refused (value c.args.depth) h.2 h.0 l.reader c.in_err-key.ensures.value

pub read_members-returns-in_err-member-clause-err : goal.read_members-returns-in_err-member-clause-err
read_members-returns-in_err-member-clause-err g t c refused =
    let l = c.members in
    let h = l.invariant in
    let k = c.in-Some.key.now in
    let s = c.next_key.new.self in
    let named : read_key l.reader ≡ Some (Some k, s) = grind arith in
    h.5 ∙ member_refused (value c.args.depth) h.2 h.0 k l.reader s named (c.read.ensures.err (grind arith))

pub read_members-returns-clause-ok : goal.read_members-returns-clause-ok
read_members-returns-clause-ok g t c =
    let l = c.members in
    let h = l.invariant in (
      h.2,
      h.5 ∙ members_over (value c.args.depth) h.2 h.0 l.reader c.next_key.new.self h.1 (grind arith),
      h.4,
    )

pub read_members-members-preserved-then-is_none : goal.read_members-members-preserved-then-is_none
read_members-members-preserved-then-is_none g t c =
    let p = value c.args.depth in
    let l = c.members in
    let h = l.invariant in
    let level = c.args.level in
    let inner = c.level_inside-inner.result in
    let k = c.in-Some.key.now in
    let s = c.next_key.new.self in
    let named : read_key l.reader ≡ Some (Some k, s) = grind arith in
    let is = c.in_ok-member.ensures.ok in
    let r = c.read.new.reader in
    let less = read_key-shorter l.reader (Some k) s named in
    let lesser = c.in_ok-member.ensures.shorter in
    let none : is_some inner ≡ false = c.is_none.ensures ∙ ap not c.if-is_none.true in (
      h.0 - 1,
      omega (arith, less, lesser, h.1),
      put k is.0 h.2,
      AreOrdered-put k is.0 h.2 h.3,
      skipped_member g.L.Level.inside level inner k k is.0 h.2 (members_view l.found.entries)
          c.level_inside-inner.ensures (λ some. refl) h.4 none,
      h.5 ∙ member_read p h.2 h.0 k l.reader s r is.0 (omega (arith, less, lesser, h.1)) named is.1,
      omega (arith, less, lesser, h.6),
    )

pub read_members-members-preserved : goal.read_members-members-preserved
read_members-members-preserved g t c =
    let p = value c.args.depth in
    let l = c.members in
    let h = l.invariant in
    let level = c.args.level in
    let inner = c.level_inside-inner.result in
    let k = c.in-Some.key.now in
    let s = c.next_key.new.self in
    let named : read_key l.reader ≡ Some (Some k, s) = grind arith in
    let v = c.in_ok-member.member in
    let is = c.in_ok-member.ensures.ok in
    let r = c.read.new.reader in
    let less = read_key-shorter l.reader (Some k) s named in
    let lesser = c.in_ok-member.ensures.shorter in
    let some : is_some inner ≡ true = c.is_none.ensures ∙ ap not c.if-is_none.false in
    let copied : string_bytes c.in_ok-name.name ≡ k = search rules in
    let inserted = ap members_view c.in_ok-insert.ensures.entries
    ∙ members_view-insert_entry l.found.entries c.in_ok-name.name v
    ∙ ap (λ name. put name (view v) (members_view l.found.entries)) copied in (
      h.0 - 1,
      omega (arith, less, lesser, h.1),
      put k is.0 h.2,
      AreOrdered-put k is.0 h.2 h.3,
      subst (AreKeptMembers g.L.Level.inside level (put k is.0 h.2)) (sym inserted)
          (kept_member g.L.Level.inside level inner k k is.0 (view v) h.2 (members_view l.found.entries)
          c.level_inside-inner.ensures (λ some. refl) h.3 h.4 is.2 some),
      h.5 ∙ member_read p h.2 h.0 k l.reader s r is.0 (omega (arith, less, lesser, h.1)) named is.1,
      omega (arith, less, lesser, h.6),
    )
