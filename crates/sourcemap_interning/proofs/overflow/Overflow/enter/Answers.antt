use Rattle.std.proofs.Common.{◌≡◌, sym, ap, subst, ◌∙◌, ℕ, ◌==◌, None, Some, cond, nat_cmp}
use Rattle.std.specs.BTreeMap.{get}
use Rattle.std.specs.Cmp.{unsigned_tied}
use Rattle.sourcemap_interning.specs.Overflow.{sip_hash_of}
use Rattle.sourcemap_interning.specs.Texts.{number_in_tree}
use Rattle.sourcemap_interning.proofs.OverflowLemmas.{none_from, number_by-first, number_by-rest_put}
use Rattle.sourcemap_interning.proofs.overflow.Overflow.enter.Goals as goal

pub returns-then-contains_key-clause-entered : goal.returns-then-contains_key-clause-entered
returns-then-contains_key-clause-entered g c texts counted distinct new =
    let bytes = g.T.Text.bytes in
    let self = c.args.self.now in
    number_by-rest_put (get nat_cmp self.firsts) (number_in_tree bytes self.rest) texts
    (bytes c.args.text.now) distinct new c.args.number counted
    (number_in_tree bytes c.insert_into.new.tree) c.insert_into.result c.insert_into.ensures

pub returns-clause-entered : goal.returns-clause-entered
returns-clause-entered g c texts counted distinct new =
    let bytes = g.T.Text.bytes in
    let self = c.args.self.now in
    let text = bytes c.args.text.now in
    let firsts = get nat_cmp self.firsts in
    let after = get nat_cmp c.insert.new.self in
    let hash : c.sip_hash_of-hash.result ≡ sip_hash_of text =
    c.sip_hash_of-hash.ensures ∙ ap sip_hash_of c.as_text.ensures in
    let free : firsts (sip_hash_of text) ≡ None =
    subst (λ h. firsts h ≡ None) hash
    (none_from (firsts c.sip_hash_of-hash.result) (sym c.contains_key.ensures ∙ c.if-contains_key.false)) in
    let now : (n : ℕ) → after n ≡ cond (sip_hash_of text == n) (Some c.args.number) (firsts n) =
    λ n. subst (λ h. after n ≡ cond (h == n) (Some c.args.number) (firsts n)) hash
    (c.in_ok-insert.ensures.updates.0 n
    ∙ ap (λ b. cond b (Some c.args.number) (firsts n)) (unsigned_tied c.sip_hash_of-hash.result n)) in
    number_by-first firsts (number_in_tree bytes self.rest) texts text distinct new c.args.number counted after free now
