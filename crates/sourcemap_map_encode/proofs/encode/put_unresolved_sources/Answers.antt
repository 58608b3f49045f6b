use Rattle.std.proofs.Common.{ℕ, List, string_bytes, subst}
use Rattle.std.specs.List.{AllByRecursion}
use Rattle.std.specs.Str.{IsUtf8}
use Rattle.serde_json.specs.Data.{string}
use Rattle.serde_json.specs.Written.{compact_text}
use Rattle.sourcemap_records.specs.Field.{written_list}
use Rattle.sourcemap_map_encode.specs.Buffered.{Grows}
use Rattle.sourcemap_map_encode.proofs.BufferedLemmas.{OnOk-then}
use Rattle.sourcemap_map_encode.proofs.MemberLemmas.{plain_texts}
use Rattle.sourcemap_map_encode.proofs.encode.put_unresolved_sources.Goals as goal

pub returns-clause-text : goal.returns-clause-text
returns-clause-text g c =
    let held = g.W.Write.contents in
    OnOk-then c.put_texts.result _ _
    (λ value. subst (λ (ts : List (List ℕ)). Grows (held c.args.writer.now) (string_bytes c.args.buffer.now)
    (held c.put_texts.new.writer) (string_bytes c.put_texts.new.buffer)
    (compact_text (written_list string ts))) c.unresolved.ensures.texts value)
    c.put_texts.ensures.text

pub returns-clause-is_plain : goal.returns-clause-is_plain
returns-clause-is_plain g c =
    OnOk-then c.put_texts.result _ _
    (λ utf8. plain_texts c.args.sources.now.texts
    (subst (λ (ts : List (List ℕ)). AllByRecursion IsUtf8 ts) c.unresolved.ensures.texts utf8))
    c.put_texts.ensures.utf8
