-- Words ask for at most one command.
use Rattle.std.proofs.Common.{◌≡◌, ◌≢◌, ◌⊎◌, inl, inr, Global, String, ℕ, ◌+◌, ◌<◌, ◌≤◌, List, [], ◌∷◌, if◌then◌else◌, Bool, true, false, Option, Some, None, bytes_eq, codes, drop, get_or, length, map, string_bytes, refl, subst, sym, ◌∙◌, ap, arith}
use Rattle.std.specs.Prelude.{◌&&◌, ◌||◌}
use Rattle.std.specs.Str.Parse.{digits_value}
use Rattle.sourcemap_trace.specs.Positions.{first_of}
use Rattle.sourcemap_trace.specs.declared.positions.Counting.{Counting}
use Rattle.sourcemap_trace.specs.declared.positions.Counting.TheVariants.{From0, From1}
use Rattle.sourcemap_cache.specs.declared.parts.WithContents.{WithContents}
use Rattle.sourcemap_cache.specs.declared.parts.WithContents.TheVariants.{Yes, No}
use Rattle.sourcemap_cli.specs.Command.{AskFor, IsNumber, IsSameCommand, counted_words, from_1, without_contents}
use Rattle.sourcemap_cli.specs.declared.command.Command.{Command}
use Rattle.sourcemap_cli.specs.declared.command.Command.TheVariants.{Lookup, Tokens, Rewrite, Flatten, Compose, Shift, Trace, Compile, Check}
use Rattle.sourcemap_cli.specs.Checking.{words_of}
use Rattle.sourcemap_cli.specs.declared.checking.Checking.{Checking}
use Rattle.sourcemap_cli.proofs.CheckingLemmas.{checking_once}

-- equal words give the same number
number_once : (first : ℕ) (a b : List ℕ) (m n : ℕ) → a ≡ b → IsNumber first a m → IsNumber first b n → m ≡ n
number_once first a b m n same p q =
    let values : first + m ≡ first + n = sym p.1 ∙ ap (digits_value 10) same ∙ q.1 in
    omega (arith, values)

-- the number of a verb. It distinguishes verbs by computation
abbrev verb_number : List ℕ → ℕ
verb_number verb =
    if bytes_eq verb (codes "lookup") then 1 else if bytes_eq verb (codes "tokens") then 2
    else if bytes_eq verb (codes "rewrite") then 3 else if bytes_eq verb (codes "flatten") then 4
    else if bytes_eq verb (codes "compose") then 5 else if bytes_eq verb (codes "shift") then 6
    else if bytes_eq verb (codes "trace") then 7 else if bytes_eq verb (codes "compile") then 8 else 9

-- the number of the first word, and the number of words
abbrev kind_of_words : List (List ℕ) → ℕ × ℕ
kind_of_words words = (verb_number (get_or words 0 []), length words)

-- one word more if lines and columns count from 1
abbrev with_flag : Counting → ℕ → ℕ
with_flag From0 words = words
with_flag From1 words = words + 1

-- the number of words of `compile`
abbrev compile_count : WithContents → ℕ
compile_count Yes = 1
compile_count No = 2

abbrev kind_of : Command → ℕ × ℕ
kind_of (Lookup counting _ _) = (1, with_flag counting 3)
kind_of Tokens = (2, 1)
kind_of Rewrite = (3, 1)
kind_of Flatten = (4, 1)
kind_of (Compose _) = (5, 2)
kind_of (Shift _) = (6, 2)
kind_of (Trace counting _) = (7, with_flag counting 2)
kind_of (Compile contents) = (8, compile_count contents)
kind_of (Check checking) = (9, length (codes "check" ∷ words_of checking))

words_of_kind : (words : List (List ℕ)) (c : Command) → AskFor words c → kind_of_words words ≡ kind_of c
words_of_kind words (Lookup From0 line col) (l, c, is, at_line, at_col) = ap kind_of_words is
words_of_kind words (Lookup From1 line col) (l, c, is, at_line, at_col) = ap kind_of_words is
words_of_kind words Tokens is = ap kind_of_words is
words_of_kind words Rewrite is = ap kind_of_words is
words_of_kind words Flatten is = ap kind_of_words is
words_of_kind words (Compose path) is = ap kind_of_words is
words_of_kind words (Shift rows) (r, is, number) = ap kind_of_words is
words_of_kind words (Trace From0 path) (is, other) = ap kind_of_words is
words_of_kind words (Trace From1 path) (is, other) = ap kind_of_words is
words_of_kind words (Compile Yes) is = ap kind_of_words is
words_of_kind words (Compile No) is = ap kind_of_words is
words_of_kind words (Check checking) is = ap kind_of_words is

-- as `words_of_kind`, for each of the two numbers
kind_is : (words : List (List ℕ)) (c : Command) → AskFor words c
    → (verb_number (get_or words 0 []) ≡ (kind_of c).0) × (length words ≡ (kind_of c).1)
kind_is words c asked =
    (ap (λ kind. kind.0) (words_of_kind words c asked), ap (λ kind. kind.1) (words_of_kind words c asked))

-- the verb of words that ask for a check
verb_of_check : (words : List (List ℕ)) (checking : Checking) → AskFor words (Check checking)
    → verb_number (get_or words 0 []) ≡ 9
verb_of_check words checking is = ap (λ ws. verb_number (get_or ws 0 [])) is

-- the word at an index of equal words
same_word : (i : ℕ) (a b : List (List ℕ)) → a ≡ b → get_or a i [] ≡ get_or b i []
same_word i a b is = ap (λ words. get_or words i []) is

module _ (line col : List ℕ) where
  pub no_lookup : (counting : Counting)
      → ((l c : ℕ) → IsNumber (first_of counting) line l → ¬ IsNumber (first_of counting) col c)
      → (command : Command) → ¬ AskFor (counted_words (codes "lookup") counting (line ∷ col ∷ [])) command
  no_lookup From0 none (Lookup From0 row column) (l, c, is, at_line, at_col) =
      none row column
      (subst (λ w. IsNumber 0 w row)
      (sym (same_word 1 (codes "lookup" ∷ line ∷ col ∷ []) (codes "lookup" ∷ l ∷ c ∷ []) is)) at_line)
      (subst (λ w. IsNumber 0 w column)
      (sym (same_word 2 (codes "lookup" ∷ line ∷ col ∷ []) (codes "lookup" ∷ l ∷ c ∷ []) is)) at_col)
  no_lookup From1 none (Lookup From1 row column) (l, c, is, at_line, at_col) =
      none row column
      (subst (λ w. IsNumber 1 w row)
      (sym (same_word 2 (codes "lookup" ∷ from_1 ∷ line ∷ col ∷ []) (codes "lookup" ∷ from_1 ∷ l ∷ c ∷ []) is)) at_line)
      (subst (λ w. IsNumber 1 w column)
      (sym (same_word 3 (codes "lookup" ∷ from_1 ∷ line ∷ col ∷ []) (codes "lookup" ∷ from_1 ∷ l ∷ c ∷ []) is)) at_col)
  no_lookup From0 none command asked =
      absurd (let no : (1 ≡ (kind_of command).0) × (3 ≡ (kind_of command).1) =
      kind_is (codes "lookup" ∷ line ∷ col ∷ []) command asked in cc)
  no_lookup From1 none command asked =
      absurd (let no : (1 ≡ (kind_of command).0) × (4 ≡ (kind_of command).1) =
      kind_is (codes "lookup" ∷ from_1 ∷ line ∷ col ∷ []) command asked in cc)

pub no_shift : (rows : List ℕ) → ((n : ℕ) → ¬ IsNumber 0 rows n) → (command : Command)
    → ¬ AskFor (codes "shift" ∷ rows ∷ []) command
no_shift rows none (Shift n) (r, is, number) =
    none n
    (subst (λ w. IsNumber 0 w n) (sym (same_word 1 (codes "shift" ∷ rows ∷ []) (codes "shift" ∷ r ∷ []) is)) number)
no_shift rows none (Check checking) is =
    absurd (let no : 6 ≡ 9 = verb_of_check (codes "shift" ∷ rows ∷ []) checking is in cc)
no_shift rows none command asked =
    absurd (let no : (6 ≡ (kind_of command).0) × (2 ≡ (kind_of command).1) =
    kind_is (codes "shift" ∷ rows ∷ []) command asked in cc)

pub no_compile : (word : List ℕ) → word ≢ without_contents → (command : Command)
    → ¬ AskFor (codes "compile" ∷ word ∷ []) command
no_compile word other (Compile No) is =
    other (same_word 1 (codes "compile" ∷ word ∷ []) (codes "compile" ∷ without_contents ∷ []) is)
no_compile word other command asked =
    absurd (let no : (8 ≡ (kind_of command).0) × (2 ≡ (kind_of command).1) =
    kind_is (codes "compile" ∷ word ∷ []) command asked in cc)

-- words that begin with `check` ask for a check or for nothing
pub no_check : (options : List (List ℕ)) → ((checking : Checking) → ¬ (options ≡ words_of checking)) → (command : Command)
    → ¬ AskFor (codes "check" ∷ options) command
no_check options none (Check checking) is = none checking (ap (drop 1) is)
no_check options none command asked =
    absurd (let no : (9 ≡ (kind_of command).0) × (length (codes "check" ∷ options) ≡ (kind_of command).1) =
    kind_is (codes "check" ∷ options) command asked in cc)

-- `--from-1` is no file of `trace`
pub no_trace : (file : List ℕ) (counting : Counting) → file ≡ from_1 → (command : Command)
    → ¬ AskFor (counted_words (codes "trace") counting (file ∷ [])) command
no_trace file From0 flag (Trace From0 path) (is, other) =
    other (sym (same_word 1 (codes "trace" ∷ file ∷ []) (codes "trace" ∷ string_bytes path ∷ []) is) ∙ flag)
no_trace file From1 flag (Trace From1 path) (is, other) =
    other (sym (same_word 2 (codes "trace" ∷ from_1 ∷ file ∷ []) (codes "trace" ∷ from_1 ∷ string_bytes path ∷ []) is)
    ∙ flag)
no_trace file From0 flag (Check checking) is =
    absurd (let no : 7 ≡ 9 = verb_of_check (codes "trace" ∷ file ∷ []) checking is in cc)
no_trace file From1 flag (Check checking) is =
    absurd (let no : 7 ≡ 9 = verb_of_check (codes "trace" ∷ from_1 ∷ file ∷ []) checking is in cc)
no_trace file From0 flag command asked =
    absurd (let no : (7 ≡ (kind_of command).0) × (2 ≡ (kind_of command).1) =
    kind_is (codes "trace" ∷ file ∷ []) command asked in cc)
no_trace file From1 flag command asked =
    absurd (let no : (7 ≡ (kind_of command).0) × (3 ≡ (kind_of command).1) =
    kind_is (codes "trace" ∷ from_1 ∷ file ∷ []) command asked in cc)

pub trace_asked : (file : List ℕ) (counting : Counting) (path : String Global) → string_bytes path ≡ file
    → file ≢ from_1
    → AskFor (counted_words (codes "trace") counting (file ∷ [])) (Trace counting path)
trace_asked file counting path is other =
    (ap (λ word. counted_words (codes "trace") counting (word ∷ [])) (sym is), λ flag. other (sym is ∙ flag))

pub command_once : (words : List (List ℕ)) (a b : Command) → AskFor words a → AskFor words b → IsSameCommand a b
command_once words (Lookup From0 row col) (Lookup From0 row' col') (l, c, is, of_l, of_c) (l', c', is', of_l', of_c') =
    let words : codes "lookup" ∷ l ∷ c ∷ [] ≡ codes "lookup" ∷ l' ∷ c' ∷ [] = sym is ∙ is' in
    let e : row ≡ row' = number_once 0 l l' row row' (same_word 1 _ _ words) of_l of_l' in
    let f : col ≡ col' = number_once 0 c c' col col' (same_word 2 _ _ words) of_c of_c' in
    cc
command_once words (Lookup From1 row col) (Lookup From1 row' col') (l, c, is, of_l, of_c) (l', c', is', of_l', of_c') =
    let words : codes "lookup" ∷ from_1 ∷ l ∷ c ∷ [] ≡ codes "lookup" ∷ from_1 ∷ l' ∷ c' ∷ [] = sym is ∙ is' in
    let e : row ≡ row' = number_once 1 l l' row row' (same_word 2 _ _ words) of_l of_l' in
    let f : col ≡ col' = number_once 1 c c' col col' (same_word 3 _ _ words) of_c of_c' in
    cc
command_once words (Shift rows) (Shift rows') (r, is, at_rows) (r', is', at_rows') =
    let words : codes "shift" ∷ r ∷ [] ≡ codes "shift" ∷ r' ∷ [] = sym is ∙ is' in
    let e : rows ≡ rows' = number_once 0 r r' rows rows' (same_word 1 _ _ words) at_rows at_rows' in
    cc
command_once words (Compose path) (Compose other) p q =
    same_word 1 (codes "compose" ∷ string_bytes path ∷ []) (codes "compose" ∷ string_bytes other ∷ []) (sym p ∙ q)
command_once words (Trace From0 path) (Trace From0 other) (p, r) (q, s) =
    (refl, same_word 1 (codes "trace" ∷ string_bytes path ∷ []) (codes "trace" ∷ string_bytes other ∷ []) (sym p ∙ q))
command_once words (Trace From1 path) (Trace From1 other) (p, r) (q, s) = (
  refl,
  same_word 2 (codes "trace" ∷ from_1 ∷ string_bytes path ∷ []) (codes "trace" ∷ from_1 ∷ string_bytes other ∷ [])
      (sym p ∙ q),
)
command_once words Tokens Tokens p q = refl
command_once words Rewrite Rewrite p q = refl
command_once words Flatten Flatten p q = refl
command_once words (Compile Yes) (Compile Yes) p q = refl
command_once words (Compile No) (Compile No) p q = refl
command_once words (Check a) (Check b) p q = checking_once a b (ap (drop 1) (sym p ∙ q))
command_once words a b p q =
    let of_a = kind_is words a p in
    let of_b = kind_is words b q in
    absurd (let verbs : (kind_of a).0 ≡ (kind_of b).0 = sym of_a.0 ∙ of_b.0 in
    let counts : (kind_of a).1 ≡ (kind_of b).1 = sym of_a.1 ∙ of_b.1 in cc)

-- four words and their texts
pub four_texts : (words : List (String Global)) (a b c d : String Global) (p q r s : List ℕ) → 4 ≤ length words
    → length words < 5 → a ≡ get_or words 0 a → b ≡ get_or words 1 b → c ≡ get_or words 2 c → d ≡ get_or words 3 d
    → p ≡ string_bytes a → q ≡ string_bytes b → r ≡ string_bytes c → s ≡ string_bytes d
    → p ∷ q ∷ r ∷ s ∷ [] ≡ map string_bytes words
four_texts [] a b c d p q r s few many at_a at_b at_c at_d is_p is_q is_r is_s = absurd (omega arith)
four_texts (v ∷ []) a b c d p q r s few many at_a at_b at_c at_d is_p is_q is_r is_s = absurd (omega arith)
four_texts (v ∷ w ∷ []) a b c d p q r s few many at_a at_b at_c at_d is_p is_q is_r is_s = absurd (omega arith)
four_texts (v ∷ w ∷ x ∷ []) a b c d p q r s few many at_a at_b at_c at_d is_p is_q is_r is_s = absurd (omega arith)
four_texts (v ∷ w ∷ x ∷ y ∷ []) a b c d p q r s few many at_a at_b at_c at_d is_p is_q is_r is_s =
    ap (λ text. text ∷ q ∷ r ∷ s ∷ []) (is_p ∙ ap string_bytes at_a)
    ∙ ap (λ text. string_bytes v ∷ text ∷ r ∷ s ∷ []) (is_q ∙ ap string_bytes at_b)
    ∙ ap (λ text. string_bytes v ∷ string_bytes w ∷ text ∷ s ∷ []) (is_r ∙ ap string_bytes at_c)
    ∙ ap (λ text. string_bytes v ∷ string_bytes w ∷ string_bytes x ∷ text ∷ []) (is_s ∙ ap string_bytes at_d)
four_texts (v ∷ w ∷ x ∷ y ∷ z ∷ words) a b c d p q r s few many at_a at_b at_c at_d is_p is_q is_r is_s =
    absurd (omega arith)
