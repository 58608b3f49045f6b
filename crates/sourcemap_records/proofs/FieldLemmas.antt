-- Removing a key from an object does not change the value of any other key. A list of values is read unchanged.
use Rattle.std.proofs.Common.{◌≡◌, ℕ, List, [], ◌∷◌, Option, Some, Result, Ok, Ordering, Less, Equal, Greater, string_bytes, map, nat_cmp, is_eq, cond, Bool, true, false, true≢false, refl, sym, ap, ◌∙◌, ◌||◌}
use Rattle.std.proofs.lemmas.Map.Text.{is_eq-slice_cmp}
use Rattle.std.proofs.lemmas.Slice.Eq.{bytes_eq-Decides}
use Rattle.std.specs.List.{list_any}
use Rattle.std.specs.Str.{bytes_eq}
use Rattle.std.specs.Cmp.Lexicographic.{slice_cmp}
use Rattle.std.specs.Map.{remove_entry}
use Rattle.std.specs.Ordering.{match_ordering}
use Rattle.std.specs.BTreeMap.{is_at}
use Rattle.serde_json.specs.Data.{Data, Members, member}
use Rattle.serde_json.specs.declared.Value.{Value}
use Rattle.serde_json.specs.Find.{get_member}
use Rattle.serde_json.specs.View.{view, items_view, members_view}
use Rattle.serde_json.proofs.Views.{Entry}
use Rattle.sourcemap_records.specs.Field.{with, any, items_read}
use Rattle.sourcemap_records.specs.Keys.{KeepsBut}
use Rattle.sourcemap_errors.specs.declared.errors.Error.{Error}

pub ok_injective : {X : Type 0} {a b : X} → ◌≡◌ {A = Result X Error} (Ok a) (Ok b) → a ≡ b
ok_injective e = cc e

-- items of any type are read unchanged
pub any_items : (vs : List Value) → items_read any (items_view vs) ≡ Some (map view vs)
any_items [] = refl
any_items (v ∷ vs) = ap (λ o. with o (λ ds. Some (view v ∷ ds))) (any_items vs)

not_equal : (o : Ordering) (a b : Option Data) → is_eq o ≡ false → match_ordering o a b a ≡ a
not_equal Less a b e = refl
not_equal Equal a b e = absurd (true≢false e)
not_equal Greater a b e = refl

pub skips : (q k : List ℕ) (d : Data) (ms : Members) → bytes_eq q k ≡ false
    → get_member q (member k d ms) ≡ get_member q ms
skips q k d ms other = not_equal (slice_cmp nat_cmp q k) _ _ (is_eq-slice_cmp q k ∙ other)

removed_at : (b : Bool) (key other : List ℕ) (e : Entry) (es rest : List Entry)
    → is_eq (slice_cmp nat_cmp key (string_bytes e.0)) ≡ b → bytes_eq other key ≡ false
    → get_member other (members_view rest) ≡ get_member other (members_view es)
    → get_member other (members_view (cond b es (e ∷ rest))) ≡ get_member other (members_view (e ∷ es))
removed_at true key other e es rest is apart later =
    let same : key ≡ string_bytes e.0 =
    (bytes_eq-Decides key (string_bytes e.0)).0 (sym (is_eq-slice_cmp key (string_bytes e.0)) ∙ is) in
    sym (skips other (string_bytes e.0) (view e.1) (members_view es) (sym (ap (bytes_eq other) same) ∙ apart))
removed_at false key other e es rest is apart later =
    ap (λ r. match_ordering (slice_cmp nat_cmp other (string_bytes e.0)) r (Some (view e.1)) r) later

-- removing `key` does not change the value of any other key
pub remove_other : (key other : List ℕ) (es : List Entry) → bytes_eq other key ≡ false
    → get_member other (members_view (remove_entry (is_at (λ k. slice_cmp nat_cmp key (string_bytes k))) es))
    ≡ get_member other (members_view es)
remove_other key other [] apart = refl
remove_other key other (e ∷ es) apart = removed_at _ key other e es _ refl apart (remove_other key other es apart)

both_false : (a b : Bool) → (a || b) ≡ false → (a ≡ false) × (b ≡ false)
both_false true b h = absurd (true≢false h)
both_false false b h = (refl, h)

-- if all keys but `k` and `l` keep their values, `KeepsBut` holds for the list of `k` and `l`
pub kept_but_two : (k l : List ℕ) (a b : Members)
    → ((other : List ℕ) → bytes_eq other k ≡ false → bytes_eq other l ≡ false → get_member other b ≡ get_member other a)
    → KeepsBut (k ∷ l ∷ []) a b
kept_but_two k l a b step = λ other apart.
    let both = both_false (bytes_eq other k) (list_any (bytes_eq other) (l ∷ [])) apart in
    step other both.0 (both_false (bytes_eq other l) false both.1).0
