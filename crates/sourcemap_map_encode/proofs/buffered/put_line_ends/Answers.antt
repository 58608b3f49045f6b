use Rattle.std.proofs.Common.{◌≡◌, ℕ, ◌+◌, ◌-◌, List, [], ◌∷◌, ◌++◌, Option, replicate, string_bytes, sym, ap, subst}
use Rattle.std.proofs.Common.{◌∙◌, refl, arith}
use lib.Utf8
use Rattle.std.specs.Io.KnownBytes.{Appends}
use Rattle.sourcemap_mappings.specs.Segment.{semicolon}
use Rattle.sourcemap_map_encode.specs.Buffered.{Grows}
use Rattle.sourcemap_map_encode.specs.declared.buffered.TheConstants.{LINE_ENDS}
use Rattle.sourcemap_map_encode.proofs.BufferedLemmas.{Grows-join, Grows-push, Grows-written, more_copies}
use Rattle.sourcemap_map_encode.proofs.buffered.put_line_ends.Goals as goal

-- writing `m` line ends and then `n` line ends writes `m + n` line ends
more_ends : (h i j : Option (List ℕ)) (a b c more : List ℕ) (m n k : ℕ) → m + n ≡ k → more ≡ replicate n semicolon
    → Grows h a i b (replicate m semicolon) → Grows i b j c more → Grows h a j c (replicate k semicolon)
more_ends h i j a b c more m n k sum is x y =
    subst (λ (t : List ℕ). Grows h a j c t)
    (ap (λ t. replicate m semicolon ++ t) is ∙ more_copies m n semicolon ∙ ap (λ l. replicate l semicolon) sum)
    (Grows-join h i j a b c (replicate m semicolon) more x y)

-- if the buffer `b` is empty, `text` may be written directly to the writer
through_empty : (i j : Option (List ℕ)) (b text : List ℕ) → b ≡ [] → Appends i j text → Grows i b j b text
through_empty i j b text is x = subst (λ (r : List ℕ). Grows i r j r text) (sym is) (Grows-written i j text x)

pub loop-left-preserved : goal.loop-left-preserved
loop-left-preserved g c =
    let l = c.loop-left in
    let empty : string_bytes c.if-left-ge-PIECE.buffer ≡ [] = l.invariant.empty (omega arith) in
    record {
      grown = more_ends (g.W.Write.contents c.args.writer.now) (g.W.Write.contents l.writer)
          (g.W.Write.contents c.write_all.new.self)
          (string_bytes c.args.buffer.now) (string_bytes c.if-left-ge-PIECE.buffer)
          (string_bytes c.if-left-ge-PIECE.buffer) LINE_ENDS
          (c.args.count - l.left) 16384 (c.args.count - (l.left - 16384)) (let within = l.invariant.within in
          omega arith) refl
          l.invariant.grown (through_empty (g.W.Write.contents l.writer) (g.W.Write.contents c.write_all.new.self)
          (string_bytes c.if-left-ge-PIECE.buffer) LINE_ENDS empty c.in_ok-write_all.ensures.bytes);
      within = (let within = l.invariant.within in omega arith);
      empty = λ h. empty;
    }

pub loop-line-preserved : goal.loop-line-preserved
unfolding lib.Utf8.encode
loop-line-preserved g c =
    let l = c.loop-line in
    let pushed : string_bytes c.push.new.self ≡ string_bytes l.buffer ++ semicolon ∷ [] = c.in_ok-push.ensures.bytes in
    record {
      grown = more_ends (g.W.Write.contents c.args.writer.now) (g.W.Write.contents c.loop-left.writer)
          (g.W.Write.contents c.loop-left.writer)
          (string_bytes c.args.buffer.now) (string_bytes l.buffer) (string_bytes c.push.new.self) (semicolon ∷ [])
          (c.args.count - c.loop-left.left + l._line) 1 (c.args.count - c.loop-left.left + (l._line + 1))
          (omega arith) refl
          l.invariant.grown
          (subst (λ (b : List ℕ). Grows (g.W.Write.contents c.loop-left.writer) (string_bytes l.buffer)
          (g.W.Write.contents c.loop-left.writer) b (semicolon ∷ [])) (sym pushed)
          (Grows-push (g.W.Write.contents c.loop-left.writer) (string_bytes l.buffer) (semicolon ∷ [])));
      within = l.invariant.within;
      so_far = omega arith;
    }
