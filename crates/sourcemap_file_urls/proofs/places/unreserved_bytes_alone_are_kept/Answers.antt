use Rattle.std.proofs.Common.{◌≡◌, true, not, refl}
use Rattle.std.proofs.lemmas.Bool.{agree_below, agree_below_at}
use Rattle.percent_encoding.specs.AsciiSet.{should_percent_encode}
use Rattle.sourcemap_file_urls.specs.Places.{is_unreserved}
use Rattle.sourcemap_file_urls.specs.declared.places.TheConstants.{ESCAPED}
use Rattle.sourcemap_file_urls.proofs.places.unreserved_bytes_alone_are_kept.Goals as goal

pub returns : goal.returns
unfolding should_percent_encode
returns c byte below =
    let all : agree_below (should_percent_encode ESCAPED) (λ b. not (is_unreserved b)) 256 ≡ true = refl in
    agree_below_at (should_percent_encode ESCAPED) (λ b. not (is_unreserved b)) 256 byte all below
