use Rattle.std.proofs.Common.{◌≡◌, sym, ap, subst, ◌∙◌, ℕ, List, Some, true, map, slice_get}
use Rattle.sourcemap_interning.specs.Overflow.{number_among}
use Rattle.sourcemap_interning.specs.Slots.{IsProbed, hash_of, start_of}
use Rattle.sourcemap_interning.specs.Texts.{is_text}
use Rattle.sourcemap_interning.specs.declared.slots.Probe.TheVariants.{Free, Taken}
use Rattle.sourcemap_interning.proofs.IndexLemmas.{none-free, none_taken, one_number, others-next}
use Rattle.sourcemap_interning.proofs.InternerLemmas.{bytes_eq-refl}
use Rattle.sourcemap_interning.proofs.slots.NumberTable.number.Goals as goal
use Rattle.sourcemap_interning.proofs.slots.NumberTable.number.Goals.{in_default-via-in-Taken+else-is_text}
use Rattle.sourcemap_interning.proofs.slots.NumberTable.number.Goals.{in_default-via-in_default}

pub returns-in-Free : goal.returns-in-Free
returns-in-Free g c =
    let table = c.args.self.now in
    let slots = table.slots.items in
    let text = c.args.text.now in
    let texts : List (List ℕ) = map g.T.Text.bytes c.args.texts.now in
    sym (none-free texts table.mask slots
    (number_among g.T.Text.bytes texts table.others) c.requires.table text c.in-Free.field-0
    (subst (λ hash. IsProbed slots hash (start_of table.mask hash)
    (Free c.in-Free.field-0)) c.requires.hash c.in-Free.ensures))

pub returns-in_default : goal.returns-in_default
returns-in_default g c =
    let table = c.args.self.now in
    let slots = table.slots.items in
    let text = c.args.text.now in
    let texts : List (List ℕ) = map g.T.Text.bytes c.args.texts.now in
    let start = start_of table.mask (hash_of text) in
    let probed : IsProbed slots (hash_of text) start c.probe.result =
    subst (λ hash. IsProbed slots hash (start_of table.mask hash) c.probe.result) c.requires.hash c.probe.ensures in
    c.number.ensures ∙ sym (others-next texts table.mask slots
    (number_among g.T.Text.bytes texts table.others) c.requires.table text (λ n taken named.
    elim c.in_default.branch [
      | in_default-via-in-Taken+else-is_text w ↦
          let found : IsProbed slots (hash_of text) start (Taken w.in-Taken.number) =
          subst (IsProbed slots (hash_of text) start) w.in-Taken.is probed in
          let same : n ≡ w.in-Taken.number = one_number slots (hash_of text) start n w.in-Taken.number taken found in
          let there : slice_get texts w.in-Taken.number ≡ Some text =
          subst (λ m. slice_get texts m ≡ Some text) same named in
          let yes : w.is_text.result ≡ true = w.is_text.ensures ∙ ap (is_text text) there ∙ bytes_eq-refl text in
          let no = w.if-is_text.false in
          cc
      | in_default-via-in_default w ↦
          none_taken slots
          (hash_of text) start c.probe.result probed w.in_default.not-Free w.in_default.not-Taken n taken
    ]))
