use Rattle.std.proofs.Common.{◌≤◌, length, subst, arith}
use Rattle.std.specs.List.Sorted.{IsStrictlySortedBy}
use Rattle.std.specs.Ordering.{nat_cmp}
use Rattle.sourcemap_errors.specs.Answer.{IsAnswer}
use Rattle.sourcemap_map_conversions.specs.Parts.{PartsValue}
use Rattle.sourcemap_map_conversions.specs.ToRecord.{RecordAnswer as PartsAnswer}
use Rattle.sourcemap_records.specs.Jsontypes.{tree}
use Rattle.sourcemap_map_regular.specs.Map.{MapValue}
use Rattle.sourcemap_map_regular.proofs.EncodeLemmas.{answered-if}
use Rattle.sourcemap_map_regular.proofs.map.SourceMap.into_raw_sourcemap.Goals as goal

pub returns : goal.returns
returns c =
    let few_sources : length c.self.inside.sources.texts ≤ 4294967295 = omega (arith, c.len.ensures) in
    answered-if c.args.self
    (subst (λ (m : MapValue). length m.names ≤ 4294967295) c.self.view_is c.self.invariant)
    (subst (λ (m : MapValue). length m.sources ≤ 4294967295) c.self.view_is few_sources)
    (subst (λ (m : MapValue). IsStrictlySortedBy nat_cmp m.ignored) c.self.view_is c.ignore_list.ensures.rising)
    c.into_record.result
    (subst (λ (p : PartsValue). IsAnswer tree
    (PartsAnswer p) c.into_record.result) c.into_parts.ensures.value c.into_record.ensures)
