use Rattle.std.proofs.Common.{ℕ, List, option_copied, sym, subst}
use Rattle.std.specs.Str.{IsUtf8}
use Rattle.serde_json.specs.Data.{string}
use Rattle.sourcemap_json_write.specs.Writing.{IsPlainValue}
use Rattle.sourcemap_records.specs.Field.{written_or_null}
use Rattle.sourcemap_map_encode.proofs.BufferedLemmas.{OnOk-then, OnOk-any}
use Rattle.sourcemap_map_encode.proofs.MemberLemmas.{plain_null}
use Rattle.sourcemap_json_write.proofs.WritingLemmas.{plain_string}
use Rattle.sourcemap_map_encode.proofs.encode.put_content.Goals as goal

pub returns-in-Some-clause-is_plain : goal.returns-in-Some-clause-is_plain
returns-in-Some-clause-is_plain g c =
    OnOk-then c.put_text.result _ _
    (λ utf8. subst (λ o. IsPlainValue (written_or_null string (option_copied o))) (sym c.in-Some.is)
    (plain_string c.in-Some.view.now (subst (λ (s : List ℕ). IsUtf8 s) c.source.ensures utf8)))
    c.put_text.ensures.utf8

pub returns-in-None-clause-is_plain : goal.returns-in-None-clause-is_plain
returns-in-None-clause-is_plain g c =
    OnOk-any c.put.result _
    (subst (λ o. IsPlainValue (written_or_null string (option_copied o))) (sym c.in-None.is) plain_null)
