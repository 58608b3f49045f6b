use Rattle.std.proofs.Common.{subst, List, ℕ, Ok}
use Rattle.sourcemap_mappings.specs.Read.{MappingsAnswer}
use Rattle.sourcemap_tokens.specs.Tokens.{reduced}
use Rattle.std.proofs.Common.{string_bytes}
use Rattle.sourcemap_records.specs.Jsontypes.{text_view}
use Rattle.sourcemap_map_conversions.proofs.ToRecordLemmas.{same_listed}
use Rattle.sourcemap_map_conversions.proofs.to_record.token_texts.Goals as goal

pub returns-clause-texts : goal.returns-clause-texts
returns-clause-texts c = record {
  text = c.in_ok-mappings.ensures.text;
  bits = c.in_ok-ranges.ensures.text;
  back = λ sources small within.
      let P : List ℕ → Type 0 = λ ranges. MappingsAnswer (string_bytes c.in_ok-mappings.mappings) ranges (record {
        sources = sources;
        names = c.args.names;
      }) (Ok (reduced c.args.names c.args.tokens.now)) in
      subst P (same_listed (text_view c.in_ok-ranges.ranges))
      (c.in_ok-mappings.ensures.reads_back sources small within
      (text_view c.in_ok-ranges.ranges) c.in_ok-ranges.ensures.text);
}
