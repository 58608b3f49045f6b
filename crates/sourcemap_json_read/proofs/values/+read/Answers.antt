use Rattle.std.proofs.Common.{◌≡◌, ◌-◌, [], ◌∷◌, ◌++◌, length, is_some, string_bytes, option_map, refl, sym, ap, ◌∙◌}
use Rattle.std.proofs.Common.{option_and_then, IsTrue, not, false, true, subst, arith, rules}
use Rattle.json.specs.Json as json
use Rattle.json.proofs.Grammar.{value_is}
use Rattle.serde_json.specs.Data.{null, boolean, number, string, array, object, no_members, put}
use Rattle.serde_json.specs.View.{view, items_of, number_view, members_view}
use Rattle.serde_json.specs.declared.value.Value.{String, Number, Bool, Null, the_lemmas}
use Rattle.serde_json.proofs.Views.{members_view-insert_entry}
use Rattle.sourcemap_json_read.specs.Cursor.{Takes}
use Rattle.sourcemap_json_read.specs.Kept.{AreKeptMembers, at_key}
use Rattle.sourcemap_json_read.proofs.KeptLemmas.{AreOrdered-put}
use Rattle.sourcemap_json_read.proofs.KeptReading.{in_front-no_items, in_front-item, kept_whole, kept_array, kept_object}
use Rattle.sourcemap_json_read.proofs.KeptReading.{no_front, kept_front, kept_item, skipped_item, kept_member}
use Rattle.sourcemap_json_read.proofs.KeptReading.{skipped_member, no_members_kept}
use Rattle.sourcemap_json_read.proofs.ValueLemmas.{one_token, whole_array, whole_object, value_shorter, next_item}
use Rattle.sourcemap_json_read.proofs.ValueLemmas.{no_more_items, next_member, no_more_members}
use Rattle.sourcemap_json_read.proofs.values.+read.Goals as goal

pub read-returns-in-Text-clause-value : goal.read-returns-in-Text-clause-value
read-returns-in-Text-clause-value g t c = λ old taken.
    let seen : view (String c.in-Text.text) ≡ string (string_bytes c.in-Text.text) = search (rules, the_lemmas) in
    let is = rw c.in-Text.is at taken in (
      string is.0,
      one_token c.args.depth _ (json.string is.0) _ old.tokens _ is.1 (value_is c.args.depth _) refl,
      kept_whole g.L.Level.inside c.args.level (string is.0) _ (λ l. refl) (λ some. seen ∙ ap string (sym (is.2 some))),
    )

pub read-returns-in-Number-clause-value : goal.read-returns-in-Number-clause-value
read-returns-in-Number-clause-value g t c = λ old taken.
    let seen : view (Number c.in-Number.number) ≡ number (number_view c.in-Number.number) =
    search (rules, the_lemmas) in
    let is = rw c.in-Number.is at taken in (
      number (number_view c.in-Number.number),
      one_token c.args.depth _ (json.number is.0) _ old.tokens _ is.1 (value_is c.args.depth _)
          (ap (option_map number) is.2),
      kept_whole g.L.Level.inside c.args.level _ _ (λ l. refl) (λ some. seen),
    )

pub read-returns-in-Bool-clause-value : goal.read-returns-in-Bool-clause-value
read-returns-in-Bool-clause-value g t c = λ old taken.
    let seen : view (Bool c.in-Bool.is_true) ≡ boolean c.in-Bool.is_true = search (rules, the_lemmas) in (
      boolean c.in-Bool.is_true,
      one_token c.args.depth _ (json.boolean c.in-Bool.is_true) _ old.tokens _ (rw c.in-Bool.is at taken)
          (value_is c.args.depth _) refl,
      kept_whole g.L.Level.inside c.args.level _ _ (λ l. refl) (λ some. seen),
    )

pub read-returns-in-Null-clause-value : goal.read-returns-in-Null-clause-value
read-returns-in-Null-clause-value g t c = λ old taken.
    let seen : view Null ≡ null = search (rules, the_lemmas) in (
      null,
      one_token c.args.depth _ json.null _ old.tokens _ (rw c.in-Null.is at taken) (value_is c.args.depth _) refl,
      kept_whole g.L.Level.inside c.args.level _ _ (λ l. refl) (λ some. seen),
    )

pub read-returns-in-BeginArray-clause-value : goal.read-returns-in-BeginArray-clause-value
read-returns-in-BeginArray-clause-value g t c = λ old taken.
    let found = c.in_ok-read_items-in-BeginArray in
    let is = found.ensures.items in (
      array is.0,
      whole_array c.args.depth is.0 old.tokens c.args.cursor.now.tokens _ (omega arith)
          (rw c.in-BeginArray.is at taken) is.1,
      kept_array g.L.Level.inside c.args.level _ is.0 found.field-0 c.level_of_items-inner.ensures is.2,
    )

pub read-returns-clause-value : goal.read-returns-clause-value
read-returns-clause-value g t c = λ old taken.
    let found = c.in_ok-read_members-in-BeginObject in
    let is = found.ensures.members in (
      object is.0,
      whole_object c.args.depth is.0 old.tokens c.args.cursor.now.tokens _ (omega arith)
          (rw c.in-BeginObject.is at taken) is.1,
      kept_object g.L.Level.inside c.args.level is.0 found.field-0 is.2,
    )

pub read_items-returns-in-EndArray-clause-items : goal.read_items-returns-in-EndArray-clause-items
read_items-returns-in-EndArray-clause-items g t c =
    let l = c.items in
    let h = l.invariant in (
      items_of h.2,
      rw in_front-no_items at (h.4 _ _ (no_more_items c.args.depth h.0 l.cursor.tokens _ h.1
          (rw c.in-EndArray.is at c.in_ok-first.ensures.takes))),
      rw c.shrink_to_fit.ensures.items (kept_front g.L.Level.inside c.args.level h.2 l.found.items h.3),
    )

pub read_items-items-init : goal.read_items-items-init
read_items-items-init g t c = (
  length c.args.cursor.now.tokens,
  omega arith,
  [],
  rw c.in_ok-found.ensures.items (no_front g.L.Level.inside c.args.level),
  λ ds new more. more,
  λ rest. rest,
)

pub read_items-items-smaller-then-not-keeps : goal.read_items-items-smaller-then-not-keeps
read_items-items-smaller-then-not-keeps g t c =
    let l = c.items in
    let taken : Takes (is_some c.args.level) l.cursor c.in_ok-first.first c.next.new.self =
    subst (λ keeps. Takes keeps l.cursor c.in_ok-first.first c.next.new.self) c.is_some-keeps.ensures
    c.in_ok-first.ensures.takes in
    value_shorter c.args.depth _ l.cursor.tokens _ (c.in_ok-item.ensures.value l.cursor taken).1

pub read_items-items-smaller : goal.read_items-items-smaller
read_items-items-smaller g t c =
    let l = c.items in
    let taken : Takes (is_some c.args.level) l.cursor c.in_ok-first.first c.next.new.self =
    subst (λ keeps. Takes keeps l.cursor c.in_ok-first.first c.next.new.self) c.is_some-keeps.ensures
    c.in_ok-first.ensures.takes in
    value_shorter c.args.depth _ l.cursor.tokens _ (c.in_ok-item.ensures.value l.cursor taken).1

pub read_items-items-preserved-then-not-keeps : goal.read_items-items-preserved-then-not-keeps
read_items-items-preserved-then-not-keeps g t c =
    let l = c.items in
    let h = l.invariant in
    let taken : Takes (is_some c.args.level) l.cursor c.in_ok-first.first c.next.new.self =
    subst (λ keeps. Takes keeps l.cursor c.in_ok-first.first c.next.new.self) c.is_some-keeps.ensures
    c.in_ok-first.ensures.takes in
    let here = c.in_ok-item.ensures.value l.cursor taken in
    let less = value_shorter c.args.depth _ l.cursor.tokens _ here.1 in
    let none : is_some c.args.level ≡ false = first_of (cc, grind arith, search rules) in (
      h.0 - 1,
      omega (arith, less, h.1),
      h.2 ++ here.0 ∷ [],
      skipped_item g.L.Level.inside c.args.level h.2 l.found.items here.0 h.3 none,
      λ ds new more. rw (← in_front-item h.2 here.0 ds) (h.4 _ new
          (next_item c.args.depth h.0 here.0 ds l.cursor.tokens _ new (omega (arith, less, h.1)) here.1 more)),
      λ rest. h.5 (c.in_ok-first.ensures.utf8 (c.in_ok-item.ensures.utf8 rest)),
    )

pub read_items-items-preserved : goal.read_items-items-preserved
read_items-items-preserved g t c =
    let l = c.items in
    let h = l.invariant in
    let v = c.in_ok-item.item in
    let taken : Takes (is_some c.args.level) l.cursor c.in_ok-first.first c.next.new.self =
    subst (λ keeps. Takes keeps l.cursor c.in_ok-first.first c.next.new.self) c.is_some-keeps.ensures
    c.in_ok-first.ensures.takes in
    let here = c.in_ok-item.ensures.value l.cursor taken in
    let less = value_shorter c.args.depth _ l.cursor.tokens _ here.1 in
    let some : is_some c.args.level ≡ true = first_of (cc, grind arith, search rules) in (
      h.0 - 1,
      omega (arith, less, h.1),
      h.2 ++ here.0 ∷ [],
      rw c.in_ok-push.ensures.items
          (kept_item g.L.Level.inside c.args.level h.2 l.found.items here.0 v h.3 here.2 some),
      λ ds new more. rw (← in_front-item h.2 here.0 ds) (h.4 _ new
          (next_item c.args.depth h.0 here.0 ds l.cursor.tokens _ new (omega (arith, less, h.1)) here.1 more)),
      λ rest. h.5 (c.in_ok-first.ensures.utf8 (c.in_ok-item.ensures.utf8 rest)),
    )

pub read_members-members-init : goal.read_members-members-init
read_members-members-init g t c = (
  length c.args.cursor.now.tokens,
  omega arith,
  no_members,
  tt,
  rw c.new-found.ensures.empty (no_members_kept g.L.Level.inside c.args.level),
  λ after new more. more,
  λ rest. rest,
)

pub read_members-returns-in-EndObject-clause-members : goal.read_members-returns-in-EndObject-clause-members
read_members-returns-in-EndObject-clause-members g t c =
    let l = c.members in
    let h = l.invariant in (
      h.2,
      h.5 _ _ (no_more_members c.args.depth h.0 h.2 l.cursor.tokens _ h.1
          (rw c.in-EndObject.is at c.in_ok-next.ensures.takes)),
      h.4,
    )

pub read_members-members-smaller-then-is_none : goal.read_members-members-smaller-then-is_none
read_members-members-smaller-then-is_none g t c =
    let named = rw c.in-Key.is at c.in_ok-next.ensures.takes in
    let first = c.in_ok-first-in-Key.first in
    let taken : Takes (is_some c.level_inside-inner.result) c.next.new.self first c.next-in-Key.new.self =
    subst (λ keeps. Takes keeps c.next.new.self first c.next-in-Key.new.self) c.is_some.ensures
    c.in_ok-first-in-Key.ensures.takes in
    omega (
      arith,
      ap length named.1,
      value_shorter c.args.depth _ c.next.new.self.tokens _
          (c.in_ok-member-in-Key.ensures.value c.next.new.self taken).1,
    )

pub read_members-members-smaller : goal.read_members-members-smaller
read_members-members-smaller g t c =
    let named = rw c.in-Key.is at c.in_ok-next.ensures.takes in
    let first = c.in_ok-first-in-Key.first in
    let taken : Takes (is_some c.level_inside-inner.result) c.next.new.self first c.next-in-Key.new.self =
    subst (λ keeps. Takes keeps c.next.new.self first c.next-in-Key.new.self) c.is_some.ensures
    c.in_ok-first-in-Key.ensures.takes in
    omega (
      arith,
      ap length named.1,
      value_shorter c.args.depth _ c.next.new.self.tokens _
          (c.in_ok-member-in-Key.ensures.value c.next.new.self taken).1,
    )

pub read_members-members-preserved-then-is_none : goal.read_members-members-preserved-then-is_none
read_members-members-preserved-then-is_none g t c =
    let l = c.members in
    let h = l.invariant in
    let level = c.args.level in
    let inner = c.level_inside-inner.result in
    let named = rw c.in-Key.is at c.in_ok-next.ensures.takes in
    let k = named.0 in
    let s = string_bytes c.in-Key.key in
    let same : IsTrue (is_some level) → k ≡ s = λ some. named.2 (c.is_some-keeps.ensures ∙ some) in
    let at : inner ≡ option_and_then (λ x. g.L.Level.inside x (at_key s)) level =
    c.level_inside-inner.ensures
    ∙ ap (λ name. option_and_then (λ x. g.L.Level.inside x (at_key name)) level) c.as_str.ensures.value in
    let first = c.in_ok-first-in-Key.first in
    let taken : Takes (is_some inner) c.next.new.self first c.next-in-Key.new.self =
    subst (λ keeps. Takes keeps c.next.new.self first c.next-in-Key.new.self) c.is_some.ensures
    c.in_ok-first-in-Key.ensures.takes in
    let here = c.in_ok-member-in-Key.ensures.value c.next.new.self taken in
    let less = value_shorter c.args.depth _ c.next.new.self.tokens _ here.1 in
    let lesser = ap length named.1 in
    let none : is_some inner ≡ false = c.is_none.ensures ∙ ap not c.if-is_none.true in (
      h.0 - 1,
      omega (arith, less, lesser, h.1),
      put k here.0 h.2,
      AreOrdered-put k here.0 h.2 h.3,
      skipped_member g.L.Level.inside level inner k s here.0 h.2 (members_view l.found.entries) at same h.4 none,
      λ after new more. h.5 after new (next_member c.args.depth h.0 k here.0 h.2 after l.cursor.tokens _ _ new
          (omega (arith, less, lesser, h.1)) named.1 here.1 more),
      λ rest. h.6
          (c.in_ok-next.ensures.utf8 (c.in_ok-first-in-Key.ensures.utf8 (c.in_ok-member-in-Key.ensures.utf8 rest))),
    )

pub read_members-members-preserved : goal.read_members-members-preserved
read_members-members-preserved g t c =
    let l = c.members in
    let h = l.invariant in
    let level = c.args.level in
    let inner = c.level_inside-inner.result in
    let named = rw c.in-Key.is at c.in_ok-next.ensures.takes in
    let k = named.0 in
    let s = string_bytes c.in-Key.key in
    let same : IsTrue (is_some level) → k ≡ s = λ some. named.2 (c.is_some-keeps.ensures ∙ some) in
    let at : inner ≡ option_and_then (λ x. g.L.Level.inside x (at_key s)) level =
    c.level_inside-inner.ensures
    ∙ ap (λ name. option_and_then (λ x. g.L.Level.inside x (at_key name)) level) c.as_str.ensures.value in
    let first = c.in_ok-first-in-Key.first in
    let taken : Takes (is_some inner) c.next.new.self first c.next-in-Key.new.self =
    subst (λ keeps. Takes keeps c.next.new.self first c.next-in-Key.new.self) c.is_some.ensures
    c.in_ok-first-in-Key.ensures.takes in
    let here = c.in_ok-member-in-Key.ensures.value c.next.new.self taken in
    let less = value_shorter c.args.depth _ c.next.new.self.tokens _ here.1 in
    let lesser = ap length named.1 in
    let v = c.in_ok-member-in-Key.member in
    let some : is_some inner ≡ true = c.is_none.ensures ∙ ap not c.if-is_none.false in
    let inserted = ap members_view c.in_ok-insert-in-Key.ensures.entries
    ∙ members_view-insert_entry l.found.entries c.in-Key.key v in (
      h.0 - 1,
      omega (arith, less, lesser, h.1),
      put k here.0 h.2,
      AreOrdered-put k here.0 h.2 h.3,
      subst (AreKeptMembers g.L.Level.inside level (put k here.0 h.2)) (sym inserted)
          (kept_member g.L.Level.inside level inner k s here.0 (view v) h.2 (members_view l.found.entries) at same
          h.3 h.4 here.2 some),
      λ after new more. h.5 after new (next_member c.args.depth h.0 k here.0 h.2 after l.cursor.tokens _ _ new
          (omega (arith, less, lesser, h.1)) named.1 here.1 more),
      λ rest. h.6
          (c.in_ok-next.ensures.utf8 (c.in_ok-first-in-Key.ensures.utf8 (c.in_ok-member-in-Key.ensures.utf8 rest))),
    )
