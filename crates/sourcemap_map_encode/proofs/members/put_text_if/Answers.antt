use Rattle.std.proofs.Common.{option_copied, option_map, subst, sym}
use Rattle.serde_json.specs.Data.{string}
use Rattle.sourcemap_map_encode.specs.Members.{IsPlainEntry}
use Rattle.sourcemap_json_write.proofs.WritingLemmas.{plain_string}
use Rattle.sourcemap_map_encode.proofs.members.put_text_if.Goals as goal

pub returns-clause-is_plain : goal.returns-clause-is_plain
returns-clause-is_plain g c =
    subst (λ o. IsPlainEntry (c.args.key.now, option_map string (option_copied o))) (sym c.in-Some.is)
    (plain_string c.in-Some.text.now c.in_ok-put_text.ensures.utf8)
