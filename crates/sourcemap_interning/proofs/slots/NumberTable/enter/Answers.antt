use Rattle.std.proofs.Common.{◌≡◌, sym, subst, ℕ, ◌<◌, ◌++◌, ◌∷◌, List, [], Some, cond, length, slice_set, arith, inl}
use Rattle.std.proofs.Common.{inr, OnOk, nat_cmp}
use Rattle.std.specs.BTreeMap.{get}
use Rattle.std.specs.Str.{bytes_eq}
use Rattle.sourcemap_interning.specs.Overflow.{number_among}
use Rattle.sourcemap_interning.specs.Slots.{IsBlocked, IsIndex, IsProbed, hash_of, start_of}
use Rattle.sourcemap_interning.specs.Texts.{number_in_tree}
use Rattle.sourcemap_interning.specs.declared.slots.Probe.TheVariants.{Free}
use Rattle.sourcemap_interning.proofs.IndexLemmas.{index-free, index-kept, index-put}
use Rattle.sourcemap_interning.proofs.OverflowLemmas.{number_by-append, number_by-last}
use Rattle.sourcemap_interning.proofs.slots.NumberTable.enter.Goals as goal

pub returns-in-Free-clause-entered : goal.returns-in-Free-clause-entered
returns-in-Free-clause-entered g c texts table counted new =
    let self = c.args.self.now in
    let bytes = g.T.Text.bytes in
    let slots = self.slots.items in
    let text = bytes c.args.text.now in
    let others_after = number_among bytes (texts ++ text ∷ []) self.others in
    let firsts = get nat_cmp self.others.firsts in
    let rest = number_in_tree bytes self.others.rest in
    let free : IsProbed slots (hash_of text) (start_of self.mask (hash_of text)) (Free c.in-Free.at) =
    subst
    (λ hash. IsProbed slots hash (start_of self.mask hash) (Free c.in-Free.at)) c.requires.hash c.in-Free.ensures in
    let below_max : length texts < 4294967295 = omega (arith, counted, c.requires.few) in
    subst (λ slots. IsIndex (texts ++ text ∷ []) self.mask slots others_after)
    (λ j. slice_set slots (sym free.3 j) (record { hash = sym c.requires.hash j; number = counted j }))
    (index-free texts self.mask slots (number_among bytes texts self.others) table text below_max new others_after
    (number_by-append firsts rest texts text)
    (number_by-last firsts rest texts text table.distinct new (λ n e. table.others_right n text e))
    c.in-Free.at free)

pub returns-in_ok-enter-in-Taken-clause-entered : goal.returns-in_ok-enter-in-Taken-clause-entered
returns-in_ok-enter-in-Taken-clause-entered g c texts table counted new =
    let self = c.args.self.now in
    let bytes = g.T.Text.bytes in
    let slots = self.slots.items in
    let text = bytes c.args.text.now in
    let others = number_among bytes texts self.others in
    let after = number_among bytes (texts ++ text ∷ []) c.enter.new.self in
    let blocked : IsBlocked slots (hash_of text) (start_of self.mask (hash_of text)) =
    subst (λ hash. IsBlocked slots hash (start_of self.mask hash)) c.requires.hash
    (inr (c.in-Taken.field-0, c.in-Taken.ensures)) in
    let below_max : length texts < 4294967295 = omega (arith, counted, c.requires.few) in
    subst (λ r. OnOk r (IsIndex (texts ++ text ∷ []) self.mask slots after)) c.in_ok-enter-in-Taken.was
    (index-put texts self.mask slots others table text below_max new blocked after c.enter.result
    (subst (λ n. (t : List ℕ) → OnOk c.enter.result (after t ≡ cond (bytes_eq text t) (Some n) (others t)))
    (sym counted) (c.enter.ensures.entered texts counted table.distinct new)))

pub returns-in-Full-clause-entered : goal.returns-in-Full-clause-entered
returns-in-Full-clause-entered g c texts table counted new =
    let self = c.args.self.now in
    let bytes = g.T.Text.bytes in
    let slots = self.slots.items in
    let text = bytes c.args.text.now in
    let others = number_among bytes texts self.others in
    let after = number_among bytes (texts ++ text ∷ []) c.enter-in-Full.new.self in
    let blocked : IsBlocked slots (hash_of text) (start_of self.mask (hash_of text)) =
    subst (λ hash. IsBlocked slots hash (start_of self.mask hash)) c.requires.hash (inl c.in-Full.ensures) in
    let below_max : length texts < 4294967295 = omega (arith, counted, c.requires.few) in
    index-put texts self.mask slots others table text below_max new blocked after c.enter-in-Full.result
    (subst (λ n. (t : List ℕ) → OnOk c.enter-in-Full.result (after t ≡ cond (bytes_eq text t) (Some n) (others t)))
    (sym counted) (c.enter-in-Full.ensures.entered texts counted table.distinct new))

pub returns-in-Full-clause-kept : goal.returns-in-Full-clause-kept
returns-in-Full-clause-kept g c texts table =
    let self = c.args.self.now in
    let bytes = g.T.Text.bytes in
    index-kept texts self.mask self.slots.items (number_among bytes texts self.others)
    (number_among bytes texts c.enter-in-Full.new.self) table c.enter-in-Full.result
    (c.enter-in-Full.ensures.kept texts)
