-- The tests of `PartialEq` decide equality.
use Rattle.std.proofs.Common.{◌≡◌, ℕ, List, Option, ap}
use Rattle.std.specs.Bool.{Decides}
use Rattle.std.specs.Cmp.{unsigned_Decides}
use Rattle.std.specs.Cmp.Lexicographic.{pointwise_decides}
use Rattle.sourcemap_map_parts.specs.Contents.{same_contents}
use Rattle.sourcemap_map_parts.specs.MapMetadata.{MetadataValue, same_metadata}
use Rattle.sourcemap_map_parts.specs.Sources.{SourcesValue, same_sources}
use Rattle.sourcemap_tokens.proofs.DecidesLemmas.{decides_both}
use Rattle.sourcemap_map_parts.proofs.TextListsLemmas.{options_decide, texts_decide, text_lists_decide}

pub contents_decide : (a b : List (Option (List ℕ))) → Decides (same_contents a b) (a ≡ b)
contents_decide = pointwise_decides (options_decide texts_decide)

pub sources_decide : (a b : SourcesValue) → Decides (same_sources a b) (a ≡ b)
sources_decide a b =
    let all = decides_both (options_decide texts_decide a.root b.root) (text_lists_decide a.texts b.texts) in (
      λ h. let p = all.0 h in λ i. record { root = p.0 i; texts = p.1 i },
      λ h. all.1 (ap (λ (s : SourcesValue). s.root) h, ap (λ (s : SourcesValue). s.texts) h),
    )

pub metadata_decides : (a b : MetadataValue) → Decides (same_metadata a b) (a ≡ b)
metadata_decides a b =
    let all =
    decides_both (decides_both
    (options_decide texts_decide a.file b.file)
    (pointwise_decides unsigned_Decides a.ignored b.ignored))
    (options_decide texts_decide a.debug_id b.debug_id) in (
      λ h. let p = all.0 h in λ i. record { file = p.0.0 i; ignored = p.0.1 i; debug_id = p.1 i },
      λ h. all.1 (
        (ap (λ (v : MetadataValue). v.file) h, ap (λ (v : MetadataValue). v.ignored) h),
        ap (λ (v : MetadataValue). v.debug_id) h,
      ),
    )
