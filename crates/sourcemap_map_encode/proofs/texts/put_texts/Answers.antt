use Rattle.std.proofs.Common.{◌≡◌, ℕ, ◌+◌, List, ◌∷◌, drop, map, string_bytes, String, Global, ap, subst, sym, ◌∙◌}
use Rattle.std.proofs.Common.{arith}
use Rattle.std.proofs.lemmas.List.{drop_more}
use Rattle.json.specs.Print.{quoted}
use Rattle.serde_json.specs.Data.{string}
use Rattle.serde_json.specs.Written.{comma_if}
use Rattle.sourcemap_map_encode.specs.Buffered.{Grows, GrowsBy}
use Rattle.sourcemap_map_encode.proofs.BufferedLemmas.{Grows-into, OnOk-any}
use Rattle.sourcemap_map_encode.proofs.ListLemmas.{IsListed, listed-more, texts-utf8}
use Rattle.sourcemap_map_encode.proofs.texts.put_texts.Goals as goal

pub loop-text-preserved : goal.loop-text-preserved
loop-text-preserved g c =
    let l = c.loop-text in
    let texts = c.args.texts.now in
    let t = c.text-item.result in
    let left = drop (l.text-index + 1) texts in
    let held = g.W.Write.contents in
    let here : drop l.text-index texts ≡ t ∷ left =
    drop_more texts l.text-index t (omega arith) ∙ ap (λ y. y ∷ left) (sym c.text-item.is) in
    let text = subst (λ (s : List ℕ). Grows (held l.writer) (string_bytes c.put_comma.new.buffer)
    (held c.put_text.new.writer) (string_bytes c.put_text.new.buffer) (quoted s))
    c.as_str.ensures.value c.in_ok-put_text.ensures.text in
    listed-more (map string (map (string_bytes {Z = Global}) texts)) (map string (map (string_bytes {Z = Global}) left))
    (string (string_bytes t)) l.later
    (held c.args.writer.now) (held l.writer) (held l.writer) (held c.put_text.new.writer)
    (string_bytes c.args.buffer.now) (string_bytes l.buffer) (string_bytes c.put_comma.new.buffer)
    (string_bytes c.put_text.new.buffer)
    (subst (λ (ts : List (String Global)). GrowsBy (IsListed (map string (map (string_bytes {Z = Global}) texts))
    (map string (map (string_bytes {Z = Global}) ts)) l.later)
    (held c.args.writer.now) (string_bytes c.args.buffer.now) (held l.writer) (string_bytes l.buffer)) here l.invariant)
    (Grows-into (held l.writer) (string_bytes l.buffer) (string_bytes c.put_comma.new.buffer) (comma_if l.later)
    c.in_ok-put_comma.ensures) text

pub returns-clause-utf8 : goal.returns-clause-utf8
returns-clause-utf8 g c = OnOk-any c.put-2.result _ (texts-utf8 c.args.texts.now)
