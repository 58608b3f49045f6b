use Rattle.std.proofs.Common.{ℕ, ◌≡◌, ◌+◌, ◌-◌, ◌*◌, ◌/◌, ◌%◌, ◌^◌, ◌<◌, ◌∙◌, ◌++◌, [], List, ap, refl, length}
use Rattle.std.proofs.Common.{sym}
use Rattle.std.proofs.Common.{slice_index, take, arith}
use Rattle.std.specs.Int.{bytes_low_first}
use Rattle.std.proofs.lemmas.List.{length-take-le, take_all}
use Rattle.std.proofs.lemmas.Nat.{pow_below, shl_whole}
use Rattle.sourcemap_compiled_write.specs.Packing.{field_bytes}
use Rattle.sourcemap_compiled_write.proofs.PackingLemmas.{IsPacked-all, IsPacked-at, IsPacked-carry, IsPacked-next}
use Rattle.sourcemap_compiled_write.proofs.PackingLemmas.{bytes-of_low, next_below, packed_room}
use Rattle.sourcemap_compiled_write.proofs.StandsLemmas.{length-field_bytes}
use Rattle.sourcemap_compiled_write.proofs.packing.pack.Goals as goal
use Rattle.sourcemap_compiled_write.proofs.packing.pack.Goals.{else-filled-ge32, then-filled-ge32}

pub overflow_add-word : goal.overflow_add-word
overflow_add-word c =
    let xs = c.args.numbers.now in
    let k = c.loop-number.number-index in
    let x : c.from.result ≡ slice_index xs k = c.from.ensures in
    let below : c.loop-number.word + slice_index xs k * 2 ^ c.loop-number.filled
    < 2 ^ (c.loop-number.filled + c.args.width) = next_below c.args.width k xs []
    (take c.loop-number.at c.loop-number.bytes) c.loop-number.word c.loop-number.filled c.loop-number.invariant.packed
    (omega arith) c.requires.fit in
    let room : 2 ^ (c.loop-number.filled + c.args.width) < 2 ^ 64 =
    pow_below (c.loop-number.filled + c.args.width) 64 (let f = c.loop-number.invariant.few in omega arith) in
    rw (
      x,
      shl_whole (slice_index xs k) c.args.width c.loop-number.filled 64 (c.requires.fit k)
          (let f = c.loop-number.invariant.few in omega arith),
    ) (omega arith)

pub put_word-requires : goal.put_word-requires
put_word-requires c =
    let done = take c.loop-number.at c.loop-number.bytes in
    let within = c.loop-number.invariant.within in
    let bytes_long = c.loop-number.invariant.long in
    let many : length done ≡ c.loop-number.at = length-take-le c.loop-number.at c.loop-number.bytes (omega arith) in
    let room = packed_room c.args.width c.loop-number.number-index c.args.numbers.now done c.loop-number.word
    c.loop-number.filled c.loop-number.invariant.packed (omega arith) c.requires.narrow
    (let whole = c.requires.whole in omega arith) (let full = c.if-filled-ge32.true in omega arith) in
    omega arith

pub loop-number-preserved : goal.loop-number-preserved
loop-number-preserved c =
    let xs = c.args.numbers.now in
    let k = c.loop-number.number-index in
    let x : c.from.result ≡ slice_index xs k = c.from.ensures in
    let few = c.loop-number.invariant.few in
    let within = c.loop-number.invariant.within in
    let bytes_long = c.loop-number.invariant.long in
    let done = take c.loop-number.at c.loop-number.bytes in
    let many : length done ≡ c.loop-number.at = length-take-le c.loop-number.at c.loop-number.bytes (omega arith) in
    let next = IsPacked-next c.args.width k xs [] done c.loop-number.word c.loop-number.filled
    c.loop-number.invariant.packed (omega arith) in
    let sum = c.loop-number.word + slice_index xs k * 2 ^ c.loop-number.filled in
    let word : c.loop-number.word + c.from.result * 2 ^ c.loop-number.filled % 2 ^ 64 ≡ sum =
    rw (x, shl_whole (slice_index xs k) c.args.width c.loop-number.filled 64 (c.requires.fit k) (omega arith)) refl in
    elim c.if-filled-ge32.branch [
      | then-filled-ge32 w ↦
          let full = w.if-filled-ge32.true in
          let rest : c.loop-number.filled + c.args.width - 32 + 32
          ≡ c.loop-number.filled + c.args.width = omega arith in
          let room = packed_room c.args.width k xs done c.loop-number.word c.loop-number.filled
          c.loop-number.invariant.packed (omega arith) c.requires.narrow
          (let whole = c.requires.whole in omega arith) (omega arith) in
          record {
            few = let e = w.filled-is in omega arith;
            long = let e = ap (λ (l : List ℕ). length l) w.bytes-is in omega arith;
            within = let e = w.at-is in omega arith;
            packed = IsPacked-at c.args.width _ [] _ _ _ _ _ _
                (IsPacked-carry c.args.width _ [] done sum (c.loop-number.filled + c.args.width) next
                (c.loop-number.filled + c.args.width - 32) rest)
                (ap (λ (n : ℕ). take n c.if-filled-ge32.bytes) w.at-is
                ∙ ap (take (c.loop-number.at + 4)) w.bytes-is ∙ w.put_word.ensures
                ∙ ap (λ (ys : List ℕ). done ++ ys)
                (ap (λ (n : ℕ). bytes_low_first 0 4 (n % 2 ^ 32)) word ∙ bytes-of_low sum))
                (w.word-is ∙ ap (λ (n : ℕ). n / 2 ^ 32) word) w.filled-is;
          }
      | else-filled-ge32 w ↦
          let below = w.if-filled-ge32.false in
          record {
            few = let e = w.filled-is in omega arith;
            long = let e = ap (λ (l : List ℕ). length l) w.bytes-is in omega arith;
            within = let e = w.at-is in omega arith;
            packed = IsPacked-at c.args.width _ [] _ _ _ _ _ _ next
                (ap (λ (n : ℕ). take n c.if-filled-ge32.bytes) w.at-is ∙ ap (take c.loop-number.at) w.bytes-is)
                (w.word-is ∙ word) w.filled-is;
          }
    ]

pub returns : goal.returns
returns c =
    let xs = c.args.numbers.now in
    let w = c.args.width in
    let at = c.loop-number.at in
    let within = c.loop-number.invariant.within in
    let bytes_long = c.loop-number.invariant.long in
    let whole = c.requires.whole in
    let all = take_all c.loop-number.number-index xs (omega arith) in
    let long : length (take c.loop-number.number-index xs) ≡ 64 = ap (λ (l : List ℕ). length l) all ∙ whole in
    let done : take at c.loop-number.bytes ≡ field_bytes w (take c.loop-number.number-index xs) =
    IsPacked-all w (take c.loop-number.number-index xs) [] (take at c.loop-number.bytes) c.loop-number.word
    c.loop-number.filled c.loop-number.invariant.packed long c.loop-number.invariant.few in
    let many : 8 * w ≡ at =
    sym (length-field_bytes w (take c.loop-number.number-index xs)) ∙ ap (λ (l : List ℕ). length l) (sym done)
    ∙ length-take-le at c.loop-number.bytes (omega arith) in
    ap (λ (n : ℕ). take n c.loop-number.bytes) many ∙ done ∙ ap (field_bytes w) all
