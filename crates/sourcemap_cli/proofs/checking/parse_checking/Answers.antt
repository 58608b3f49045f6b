use Rattle.std.proofs.Common.{◌≡◌, ◌∙◌, ◌==◌, List, ℕ, Bool, ◌≢◌, [], false, true, ap, sym, drop, length, map, option_map, string_bytes, String, Global}
use Rattle.std.proofs.lemmas.Bool.{eqb-true}
use Rattle.std.proofs.lemmas.List.{length-map, nil_from_length}
use Rattle.sourcemap_cli.specs.Checking.{name_in}
use Rattle.sourcemap_cli.proofs.CheckingLemmas.{Reads, behind_images, read_in_part, read_whole}
use Rattle.sourcemap_cli.proofs.checking.parse_checking.Goals as goal

abbrev texts : List (String Global) → List (List ℕ)
texts words = map string_bytes words

none_of : (words : List (String Global)) (b : Bool) → b ≡ (length words == 0) → b ≡ true → texts words ≡ []
none_of words b is empty = ap texts (nil_from_length words (eqb-true (length words) 0 (sym is ∙ empty)))

some_of : (words : List (String Global)) (b : Bool) → b ≡ (length words == 0) → b ≡ false → texts words ≢ []
some_of words b is some = λ none.
    let l : length words ≡ 0 = sym (length-map words string_bytes) ∙ ap length none in
    let no : false ≡ true = sym some ∙ is ∙ ap (λ n. n == 0) l in
    cc

pub returns-then-not-is_empty : goal.returns-then-not-is_empty
returns-then-not-is_empty c = λ checking is.
    read_in_part (texts c.args.words.now) c.begins-is_json.result c.begins-is_strict.result
    (option_map string_bytes c.in_ok-generated.generated) (option_map string_bytes c.in_ok-name.name)
    (option_map string_bytes c.in_ok-sources.sources)
    (texts c.behind-left.result.now)
    (record {
      later = texts c.behind-later.result.now;
      files = texts c.behind-files.result.now;
      names = texts c.behind-names.result.now;
      last = texts c.behind-last.result.now;
      json_is = c.begins-is_json.ensures;
      later_is = behind_images string_bytes c.args.words.now c.flag_count.result c.behind-later.result.now c.behind-later.ensures ∙ ap (λ n. drop n (texts c.args.words.now)) c.flag_count.ensures;
      strict_is = c.begins-is_strict.ensures;
      files_is = behind_images string_bytes c.behind-later.result.now c.flag_count-2.result c.behind-files.result.now c.behind-files.ensures ∙ ap (λ n. drop n (texts c.behind-later.result.now)) c.flag_count-2.ensures;
      generated_is = c.in_ok-generated.ensures;
      names_is = behind_images string_bytes c.behind-files.result.now c.value_count.result c.behind-names.result.now c.behind-names.ensures ∙ ap (λ n. drop n (texts c.behind-files.result.now)) c.value_count.ensures;
      name_is = c.in_ok-name.ensures;
      last_is = behind_images string_bytes c.behind-names.result.now c.value_count-2.result c.behind-last.result.now c.behind-last.ensures ∙ ap (λ n. drop n (texts c.behind-names.result.now)) c.value_count-2.ensures;
      sources_is = c.in_ok-sources.ensures;
      left_is = behind_images string_bytes c.behind-last.result.now c.value_count-3.result c.behind-left.result.now c.behind-left.ensures ∙ ap (λ n. drop n (texts c.behind-last.result.now)) c.value_count-3.ensures;
    })
    (some_of c.behind-left.result.now c.is_empty.result c.is_empty.ensures c.if-not-is_empty.true)
    checking.form checking.strictness (option_map string_bytes checking.generated) (name_in checking)
    (option_map string_bytes checking.sources) is

pub returns : goal.returns
returns c =
    rw (c.form_of.ensures, c.strictness_of.ensures)
    (read_whole (texts c.args.words.now) c.begins-is_json.result c.begins-is_strict.result
    (option_map string_bytes c.in_ok-generated.generated) (option_map string_bytes c.in_ok-name.name)
    (option_map string_bytes c.in_ok-sources.sources)
    (texts c.behind-left.result.now)
    (record {
      later = texts c.behind-later.result.now;
      files = texts c.behind-files.result.now;
      names = texts c.behind-names.result.now;
      last = texts c.behind-last.result.now;
      json_is = c.begins-is_json.ensures;
      later_is = behind_images string_bytes c.args.words.now c.flag_count.result c.behind-later.result.now c.behind-later.ensures ∙ ap (λ n. drop n (texts c.args.words.now)) c.flag_count.ensures;
      strict_is = c.begins-is_strict.ensures;
      files_is = behind_images string_bytes c.behind-later.result.now c.flag_count-2.result c.behind-files.result.now c.behind-files.ensures ∙ ap (λ n. drop n (texts c.behind-later.result.now)) c.flag_count-2.ensures;
      generated_is = c.in_ok-generated.ensures;
      names_is = behind_images string_bytes c.behind-files.result.now c.value_count.result c.behind-names.result.now c.behind-names.ensures ∙ ap (λ n. drop n (texts c.behind-files.result.now)) c.value_count.ensures;
      name_is = c.in_ok-name.ensures;
      last_is = behind_images string_bytes c.behind-names.result.now c.value_count-2.result c.behind-last.result.now c.behind-last.ensures ∙ ap (λ n. drop n (texts c.behind-names.result.now)) c.value_count-2.ensures;
      sources_is = c.in_ok-sources.ensures;
      left_is = behind_images string_bytes c.behind-last.result.now c.value_count-3.result c.behind-left.result.now c.behind-left.ensures ∙ ap (λ n. drop n (texts c.behind-last.result.now)) c.value_count-3.ensures;
    })
    (none_of c.behind-left.result.now c.is_empty.result c.is_empty.ensures c.if-not-is_empty.false))
