use Rattle.std.proofs.Common.{◌≡◌, ◌==◌, length, false, subst, sym}
use Rattle.sourcemap_map_encode.specs.Members.{Entry, IsPlainEntry}
use Rattle.sourcemap_map_encode.proofs.MemberLemmas.{plain_numbers, some_ids}
use Rattle.sourcemap_map_encode.proofs.encode.put_ids.Goals as goal

pub returns-clause-is_plain : goal.returns-clause-is_plain
returns-clause-is_plain g c =
    let ids = c.args.ids.now in
    let some : (length ids == 0) ≡ false = cc in
    subst (λ (e : Entry). IsPlainEntry e) (sym (some_ids ids some))
    (plain_numbers ids c.in_ok-put_numbers.ensures.small)
