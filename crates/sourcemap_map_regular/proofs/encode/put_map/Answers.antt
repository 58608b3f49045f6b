use Rattle.std.proofs.Common.{◌≤◌, length, map, string_bytes, subst, arith}
use Rattle.std.specs.declared.alloc.Global.{Global}
use Rattle.sourcemap_map_conversions.specs.ToRecord.{RecordAnswer as PartsAnswer}
use Rattle.sourcemap_map_encode.proofs.BufferedLemmas.{OnOk-then}
use Rattle.sourcemap_map_regular.specs.Map.{MapValue}
use Rattle.sourcemap_map_regular.specs.MapStored.{value_of}
use Rattle.sourcemap_map_regular.specs.Encode.{RecordAnswer}
use Rattle.sourcemap_map_regular.specs.Write.{IsEncoded}
use Rattle.sourcemap_map_regular.proofs.EncodeLemmas.{encoded-map}
use Rattle.sourcemap_map_regular.proofs.encode.put_map.Goals as goal

pub returns-clause-written : goal.returns-clause-written
returns-clause-written g c =
    let a = c.map.inside in
    let m : MapValue = value_of a in
    let few_sources : length m.sources ≤ 4294967295 = omega (arith, c.len.ensures) in
    OnOk-then c.write_parts.result _ _
    (λ written.
    let of_parts = subst (λ names. IsEncoded (PartsAnswer (record {
      metadata = a.metadata;
      tokens = a.tokens;
      names = map (string_bytes {Z = Global}) names;
      sources = a.sources;
      contents = a.contents;
    })) written.0)
    c.as_slice-names.ensures.value written.1 in (
      written.0,
      subst (λ (m : MapValue). IsEncoded (RecordAnswer m) written.0) c.map.view_is
          (encoded-map m c.map.invariant few_sources c.ignore_list.ensures.rising written.0 of_parts),
      written.2,
    ))
    c.write_parts.ensures.written
