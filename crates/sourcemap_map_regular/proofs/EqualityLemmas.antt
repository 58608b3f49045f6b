-- `same_map` decides equality.
use Rattle.std.proofs.Common.{◌≡◌, ap}
use Rattle.std.specs.Bool.{Decides}
use Rattle.sourcemap_line_index.proofs.TokenListLemmas.{tokens_decide}
use Rattle.sourcemap_map_parts.proofs.EqualityLemmas.{contents_decide, sources_decide, metadata_decides}
use Rattle.sourcemap_tokens.proofs.DecidesLemmas.{decides_both}
use Rattle.sourcemap_map_parts.proofs.TextListsLemmas.{text_lists_decide}
use Rattle.sourcemap_map_regular.specs.Map.{MapValue}
use Rattle.sourcemap_map_regular.specs.Equality.{metadata_of, sources_of, same_map}

pub same_map_decides : (a b : MapValue) → Decides (same_map a b) (a ≡ b)
same_map_decides a b =
    let all =
    decides_both (decides_both (decides_both (decides_both
    (metadata_decides (metadata_of a) (metadata_of b))
    (tokens_decide a.tokens b.tokens))
    (text_lists_decide a.names b.names))
    (sources_decide (sources_of a) (sources_of b)))
    (contents_decide a.contents b.contents) in (
      λ h. let p = all.0 h in λ i. record {
        file = (p.0.0.0.0 i).file;
        root = (p.0.1 i).root;
        tokens = p.0.0.0.1 i;
        names = p.0.0.1 i;
        sources = (p.0.1 i).texts;
        contents = p.1 i;
        ignored = (p.0.0.0.0 i).ignored;
        debug_id = (p.0.0.0.0 i).debug_id;
      },
      λ h. all.1 (
        (
          (
            (ap metadata_of h, ap (λ (m : MapValue). m.tokens) h),
            ap (λ (m : MapValue). m.names) h,
          ),
          ap sources_of h,
        ),
        ap (λ (m : MapValue). m.contents) h,
      ),
    )
