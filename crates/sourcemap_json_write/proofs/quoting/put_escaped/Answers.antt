use Rattle.std.proofs.Common.{◌≡◌, ◌<◌, [], ◌∷◌, ◌++◌, length, ◌≤◌, sym, ◌∙◌, arith, append-nil}
use Rattle.std.proofs.lemmas.Result.{on_ok_weaker}
use Rattle.json.proofs.Printed.Room.{moved}
use Rattle.json.proofs.Printed.Strings.{escape_to_stop, escape_at, escape_end}
use Rattle.json.specs.Print.{escape}
use Rattle.sourcemap_json_write.proofs.QuoteLemmas.{stop_at}
use Rattle.sourcemap_json_write.proofs.quoting.put_escaped.Goals as goal

pub put_escape-requires : goal.put_escape-requires
put_escape-requires c =
    let inside : c.in_ok-end.end < length c.args.text.now = grind (arith, c.in_ok-end.ensures.within) in
    stop_at c.args.text.now c.in_ok-from.from c.in_ok-end.end c.in_ok-end.ensures.value inside

pub loop-from-preserved : goal.loop-from-preserved
loop-from-preserved c =
    let text = c.args.text.now in
    let from = c.in_ok-from.from in
    let end = c.in_ok-end.end in
    let inside : end < length text = grind (arith, c.in_ok-end.ensures.within) in
    let so_far = c.in_ok-from.ensures.put ∙ c.loop-from.invariant.1 in
    let run = moved _ _ _ _ _ _ c.in_ok-end.ensures.copied (escape_to_stop text from end
    (34 ∷ []) c.in_ok-end.ensures.value) so_far in
    (omega arith, moved _ _ _ _ _ _ c.in_ok-put_escape.ensures (escape_at text end (34 ∷ []) inside) run)

pub returns-then-end-text : goal.returns-then-end-text
returns-then-end-text c =
    let text = c.args.text.now in
    let end = c.in_ok-end.end in
    let whole : length text ≤ end = grind arith in
    let so_far = c.in_ok-from.ensures.put ∙ c.loop-from.invariant.1 in
    let run = moved _ _ _ _ _ _ c.in_ok-end.ensures.copied (escape_to_stop text c.in_ok-from.from end
    (34 ∷ []) c.in_ok-end.ensures.value) so_far in
    let closed : c.put_byte-then-end-text.new.out.items ≡ c.copy_run.new.out.items ++ 34 ∷ []
    → c.put_byte-then-end-text.new.out.items ≡ c.args.out.now.items ++ (escape text ++ 34 ∷ []) =
    λ put. sym (append-nil _) ∙ moved _ _ _ [] _ _ put (escape_end text end (34 ∷ []) whole) run in
    on_ok_weaker c.put_byte-then-end-text.result closed c.put_byte-then-end-text.ensures
