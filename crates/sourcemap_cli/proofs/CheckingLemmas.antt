-- The words of a check determine it.
use Rattle.std.proofs.Common.{◌≡◌, ◌≢◌, ℕ, Bool, true, false, cond, List, [], ◌∷◌, ◌++◌, codes, map, drop, length, option_map, string_bytes, Option, Some, None, refl, sym, ap, ◌∙◌, bytes_eq, append-nil}
use Rattle.std.specs.Prelude.{if◌then◌else◌}
use Rattle.std.proofs.lemmas.List.{drop-map}
use Rattle.std.proofs.lemmas.Slice.Eq.{bytes_eq-Decides}
use Rattle.sourcemap_cli.specs.Checking.{IsSameChecking, begins, flag_count, form_of, form_words, name_in, strictness_of, strictness_words, value_after, value_count, value_words, words_of, words_with}
use Rattle.sourcemap_cli.specs.declared.checking.Checking.{Checking}
use Rattle.sourcemap_check_print.specs.declared.print.Form.{Form}
use Rattle.sourcemap_check_print.specs.declared.print.Form.TheVariants.{Lines, Json}
use Rattle.sourcemap_cli.specs.declared.checking.Strictness.{Strictness}
use Rattle.sourcemap_cli.specs.declared.checking.Strictness.TheVariants.{Usual, Strict}

-- what is behind some of the items of a list
pub behind_images : {X : Type 0} (f : X → List ℕ) (words : List X) (n : ℕ) (later : List X)
    → later ≡ drop n words → map f later ≡ drop n (map f words)
behind_images f words n later is = ap (map f) is ∙ sym (drop-map f n words)

-- words that may begin with a flag are the flag, and what is behind it
flag_first : (flag : List ℕ) (words : List (List ℕ))
    → words ≡ cond (begins flag words) (flag ∷ []) [] ++ drop (flag_count (begins flag words)) words
flag_first flag [] = refl
flag_first flag (word ∷ words) = by_test (bytes_eq word flag) refl
  where
    by_test : (b : Bool) → bytes_eq word flag ≡ b
        → word ∷ words
        ≡ cond (bytes_eq word flag) (flag ∷ []) [] ++ drop (flag_count (bytes_eq word flag)) (word ∷ words)
    by_test true e = rw e (ap (λ w. w ∷ words) ((bytes_eq-Decides word flag).0 e))
    by_test false e = rw e refl

abbrev unless_other : List ℕ → Bool → Option (List ℕ)
unless_other value b = if b then Some value else None

-- the same for a value behind its flag
value_first : (flag : List ℕ) (words : List (List ℕ))
    → words ≡ value_words flag (value_after flag words) ++ drop (value_count (value_after flag words)) words
value_first flag [] = refl
value_first flag (word ∷ []) = refl
value_first flag (word ∷ value ∷ words) = by_test (bytes_eq word flag) refl
  where
    by_test : (b : Bool) → bytes_eq word flag ≡ b
        → word ∷ value ∷ words
        ≡ value_words flag (unless_other value (bytes_eq word flag))
        ++ drop (value_count (unless_other value (bytes_eq word flag))) (word ∷ value ∷ words)
    by_test true e = rw e (ap (λ w. w ∷ value ∷ words) ((bytes_eq-Decides word flag).0 e))
    by_test false e = rw e refl

form_flag : (b : Bool) → cond b (codes "--json" ∷ []) [] ≡ form_words (form_of b)
form_flag true = refl
form_flag false = refl

strictness_flag : (b : Bool) → cond b (codes "--strict" ∷ []) [] ≡ strictness_words (strictness_of b)
strictness_flag true = refl
strictness_flag false = refl

-- the words are read from the first to the last; `left` are not read
pub record Reads (words : List (List ℕ)) (json strict : Bool) (generated name sources : Option (List ℕ))
    (left : List (List ℕ)) : Type 0 where
  pub later : List (List ℕ)
  pub files : List (List ℕ)
  pub names : List (List ℕ)
  pub last : List (List ℕ)
  pub json_is : json ≡ begins (codes "--json") words
  pub later_is : later ≡ drop (flag_count json) words
  pub strict_is : strict ≡ begins (codes "--strict") later
  pub files_is : files ≡ drop (flag_count strict) later
  pub generated_is : generated ≡ value_after (codes "--generated") files
  pub names_is : names ≡ drop (value_count generated) files
  pub name_is : name ≡ value_after (codes "--name") names
  pub last_is : last ≡ drop (value_count name) names
  pub sources_is : sources ≡ value_after (codes "--sources") last
  pub left_is : left ≡ drop (value_count sources) last

-- words are a value behind its flag, if it is there, and what is behind it
one_value : (flag : List ℕ) (words : List (List ℕ)) (value : Option (List ℕ)) (later : List (List ℕ))
    → value ≡ value_after flag words → later ≡ drop (value_count value) words → words ≡ value_words flag value ++ later
one_value flag words value later value_is later_is =
    value_first flag words
    ∙ ap (λ v. value_words flag v ++ drop (value_count v) words) (sym value_is)
    ∙ ap (λ ws. value_words flag value ++ ws) (sym later_is)

module _ (words : List (List ℕ)) (json strict : Bool) (generated name sources : Option (List ℕ)) (left : List (List ℕ)) where
  -- words of which none is left are those of the check
  pub read_whole : Reads words json strict generated name sources left → left ≡ []
      → words ≡ words_with (form_of json) (strictness_of strict) generated name sources
  read_whole r none =
      let first : words ≡ form_words (form_of json) ++ r.later =
      flag_first (codes "--json") words
      ∙ ap (λ b. cond b (codes "--json" ∷ []) [] ++ drop (flag_count b) words) (sym r.json_is)
      ∙ ap (λ ws. cond json (codes "--json" ∷ []) [] ++ ws) (sym r.later_is)
      ∙ ap (λ ws. ws ++ r.later) (form_flag json) in
      let second : r.later ≡ strictness_words (strictness_of strict) ++ r.files =
      flag_first (codes "--strict") r.later
      ∙ ap (λ b. cond b (codes "--strict" ∷ []) [] ++ drop (flag_count b) r.later) (sym r.strict_is)
      ∙ ap (λ ws. cond strict (codes "--strict" ∷ []) [] ++ ws) (sym r.files_is)
      ∙ ap (λ ws. ws ++ r.files) (strictness_flag strict) in
      let third = one_value (codes "--generated") r.files generated r.names r.generated_is r.names_is in
      let fourth = one_value (codes "--name") r.names name r.last r.name_is r.last_is in
      let fifth : r.last ≡ value_words (codes "--sources") sources =
      one_value (codes "--sources") r.last sources left r.sources_is r.left_is
      ∙ ap (λ ws. value_words (codes "--sources") sources ++ ws) none
      ∙ append-nil (value_words (codes "--sources") sources) in
      first
      ∙ ap (λ ws. form_words (form_of json) ++ ws)
      (second ∙ ap (λ ws. strictness_words (strictness_of strict) ++ ws)
      (third ∙ ap (λ ws. value_words (codes "--generated") generated ++ ws)
      (fourth ∙ ap (λ ws. value_words (codes "--name") name ++ ws) fifth)))

-- what is read of words, and what is left
abbrev behind_json : List (List ℕ) → List (List ℕ)
behind_json words = drop (flag_count (begins (codes "--json") words)) words

abbrev behind_strict : List (List ℕ) → List (List ℕ)
behind_strict words = drop (flag_count (begins (codes "--strict") words)) words

abbrev behind_value : (flag : List ℕ) → List (List ℕ) → List (List ℕ)
behind_value flag words = drop (value_count (value_after flag words)) words

abbrev files_of : List (List ℕ) → List (List ℕ)
files_of words = behind_strict (behind_json words)

abbrev names_of : List (List ℕ) → List (List ℕ)
names_of words = behind_value (codes "--generated") (files_of words)

abbrev last_of : List (List ℕ) → List (List ℕ)
last_of words = behind_value (codes "--name") (names_of words)

abbrev left_of : List (List ℕ) → List (List ℕ)
left_of words = behind_value (codes "--sources") (last_of words)

-- a flag that words do not begin with has no value
no_value : (flag : List ℕ) (words : List (List ℕ)) → begins flag words ≡ false → value_after flag words ≡ None
no_value flag [] other = refl
no_value flag (word ∷ []) other = refl
no_value flag (word ∷ value ∷ words) other = ap (unless_other value) other

-- the value in front of words that do not begin with its flag is read, and the words are behind it
value_back : (flag : List ℕ) (value : Option (List ℕ)) (words : List (List ℕ)) → begins flag words ≡ false
    → value_after flag (value_words flag value ++ words) ≡ value
value_back flag None words other = no_value flag words other
value_back flag (Some value) words other = ap (unless_other value) ((bytes_eq-Decides flag flag).1 refl)

words_back : (flag : List ℕ) (value : Option (List ℕ)) (words : List (List ℕ)) → begins flag words ≡ false
    → behind_value flag (value_words flag value ++ words) ≡ words
words_back flag None words other = ap (λ v. drop (value_count v) words) (no_value flag words other)
words_back flag (Some value) words other =
    ap (λ v. drop (value_count v) (flag ∷ value ∷ words)) (value_back flag (Some value) words other)

-- words do not begin with a flag if their first word is another flag
other_first : (flag word : List ℕ) (value : Option (List ℕ)) (words : List (List ℕ)) → bytes_eq word flag ≡ false
    → begins flag words ≡ false → begins flag (value_words word value ++ words) ≡ false
other_first flag word None words differs other = other
other_first flag word (Some value) words differs other = differs

form_back : (form : Form) (words : List (List ℕ)) → begins (codes "--json") words ≡ false
    → (form_of (begins (codes "--json") (form_words form ++ words)) ≡ form)
    × (behind_json (form_words form ++ words) ≡ words)
form_back Lines words other = (ap form_of other, ap (λ b. drop (flag_count b) words) other)
form_back Json words other = (refl, refl)

strictness_back : (strictness : Strictness) (words : List (List ℕ)) → begins (codes "--strict") words ≡ false
    → (strictness_of (begins (codes "--strict") (strictness_words strictness ++ words)) ≡ strictness)
    × (behind_strict (strictness_words strictness ++ words) ≡ words)
strictness_back Usual words other = (ap strictness_of other, ap (λ b. drop (flag_count b) words) other)
strictness_back Strict words other = (refl, refl)

strictness_is_no_form : (strictness : Strictness) (words : List (List ℕ)) → begins (codes "--json") words ≡ false
    → begins (codes "--json") (strictness_words strictness ++ words) ≡ false
strictness_is_no_form Usual words other = other
strictness_is_no_form Strict words other = refl

record Shows (words : List (List ℕ)) (form : Form) (strictness : Strictness) (generated name sources : Option (List ℕ)) : Type 0 where
  json : form_of (begins (codes "--json") words) ≡ form
  strict : strictness_of (begins (codes "--strict") (behind_json words)) ≡ strictness
  generated_path : value_after (codes "--generated") (files_of words) ≡ generated
  name_is : value_after (codes "--name") (names_of words) ≡ name
  sources_path : value_after (codes "--sources") (last_of words) ≡ sources
  none_left : left_of words ≡ []

all_shown : (f : Form) (s : Strictness) (g n d : Option (List ℕ)) → Shows (words_with f s g n d) f s g n d
all_shown f s g n d =
    let sources : List (List ℕ) = value_words (codes "--sources") d in
    let named : List (List ℕ) = value_words (codes "--name") n ++ sources in
    let files : List (List ℕ) = value_words (codes "--generated") g ++ named in
    let later : List (List ℕ) = strictness_words s ++ files in
    let whole : sources ≡ sources ++ [] = sym (append-nil sources) in
    let no_name : begins (codes "--name") sources ≡ false =
    ap (begins (codes "--name")) whole ∙ other_first (codes "--name") (codes "--sources") d [] refl refl in
    let no_generated : begins (codes "--generated") named ≡ false =
    other_first (codes "--generated") (codes "--name") n sources refl (ap (begins (codes "--generated")) whole
    ∙ other_first (codes "--generated") (codes "--sources") d [] refl refl) in
    let no_strict : begins (codes "--strict") files ≡ false =
    other_first (codes "--strict") (codes "--generated") g named refl
    (other_first (codes "--strict") (codes "--name") n sources refl (ap (begins (codes "--strict")) whole
    ∙ other_first (codes "--strict") (codes "--sources") d [] refl refl)) in
    let no_json : begins (codes "--json") later ≡ false =
    strictness_is_no_form s files (other_first (codes "--json") (codes "--generated") g named refl
    (other_first (codes "--json") (codes "--name") n sources refl (ap (begins (codes "--json")) whole
    ∙ other_first (codes "--json") (codes "--sources") d [] refl refl))) in
    let form = form_back f later no_json in
    let strictness = strictness_back s files no_strict in
    let to_files : files_of (words_with f s g n d) ≡ files = ap behind_strict form.1 ∙ strictness.1 in
    let to_names : names_of (words_with f s g n d) ≡ named =
    ap (behind_value (codes "--generated")) to_files ∙ words_back (codes "--generated") g named no_generated in
    let to_last : last_of (words_with f s g n d) ≡ sources ++ [] =
    ap (behind_value (codes "--name")) to_names ∙ words_back (codes "--name") n sources no_name ∙ whole in
    record {
      json = form.0;
      strict = ap (λ ws. strictness_of (begins (codes "--strict") ws)) form.1 ∙ strictness.0;
      generated_path = ap (value_after (codes "--generated")) to_files ∙ value_back (codes "--generated") g named no_generated;
      name_is = ap (value_after (codes "--name")) to_names ∙ value_back (codes "--name") n sources no_name;
      sources_path = ap (value_after (codes "--sources")) to_last ∙ value_back (codes "--sources") d [] refl;
      none_left = ap (behind_value (codes "--sources")) to_last ∙ words_back (codes "--sources") d [] refl;
    }

-- the words of one check are those of no other
pub checking_once : (a b : Checking) → words_of a ≡ words_of b → IsSameChecking a b
checking_once a b same =
    let of_a = all_shown a.form a.strictness (option_map string_bytes a.generated) (name_in a) (option_map string_bytes a.sources) in
    let of_b = all_shown b.form b.strictness (option_map string_bytes b.generated) (name_in b) (option_map string_bytes b.sources) in
    record {
      form = sym of_a.json ∙ ap (λ ws. form_of (begins (codes "--json") ws)) same ∙ of_b.json;
      strictness = sym of_a.strict ∙ ap (λ ws. strictness_of (begins (codes "--strict") (behind_json ws))) same
          ∙ of_b.strict;
      generated = sym of_a.generated_path ∙ ap (λ ws. value_after (codes "--generated") (files_of ws)) same
          ∙ of_b.generated_path;
      name = sym of_a.name_is ∙ ap (λ ws. value_after (codes "--name") (names_of ws)) same ∙ of_b.name_is;
      sources = sym of_a.sources_path ∙ ap (λ ws. value_after (codes "--sources") (last_of ws)) same
          ∙ of_b.sources_path;
    }

left_read : (words : List (List ℕ)) (json strict : Bool) (generated name sources : Option (List ℕ)) (left : List (List ℕ))
    → Reads words json strict generated name sources left → left ≡ left_of words
left_read words json strict generated name sources left r =
    let later : r.later ≡ behind_json words = r.later_is ∙ ap (λ b. drop (flag_count b) words) r.json_is in
    let files : r.files ≡ behind_strict r.later = r.files_is ∙ ap (λ b. drop (flag_count b) r.later) r.strict_is in
    let names : r.names ≡ behind_value (codes "--generated") r.files =
    r.names_is ∙ ap (λ v. drop (value_count v) r.files) r.generated_is in
    let last : r.last ≡ behind_value (codes "--name") r.names =
    r.last_is ∙ ap (λ v. drop (value_count v) r.names) r.name_is in
    let end : left ≡ behind_value (codes "--sources") r.last =
    r.left_is ∙ ap (λ v. drop (value_count v) r.last) r.sources_is in
    end ∙ ap (behind_value (codes "--sources")) (last ∙ ap (behind_value (codes "--name"))
    (names ∙ ap (behind_value (codes "--generated")) (files ∙ ap behind_strict later)))

-- words of which some are left are those of no check
pub read_in_part : (words : List (List ℕ)) (json strict : Bool) (generated name sources : Option (List ℕ))
    (left : List (List ℕ)) → Reads words json strict generated name sources left → left ≢ []
    → (f : Form) (s : Strictness) (g n d : Option (List ℕ)) → ¬ (words ≡ words_with f s g n d)
read_in_part words json strict generated name sources left r some f s g n d is =
    some (left_read words json strict generated name sources left r ∙ ap left_of is ∙ (all_shown f s g n d).none_left)
