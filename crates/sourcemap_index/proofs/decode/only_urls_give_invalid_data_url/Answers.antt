use Rattle.std.proofs.Common.{inr, refl}
use Rattle.sourcemap_index.proofs.UrlErrorLemmas.{no_value_error, no_bytes_error, error_of_no_url}
use Rattle.sourcemap_index.proofs.decode.only_urls_give_invalid_data_url.Goals as goal

pub returns : goal.returns
returns c = record {
  values = no_value_error;
  bytes = no_bytes_error;
  urls = error_of_no_url;
  texts = λ url none. inr (refl, none);
}
