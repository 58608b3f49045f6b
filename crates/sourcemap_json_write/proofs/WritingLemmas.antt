-- The compact text of a plain value that is not nested too deeply reads back as the value.
use Rattle.std.proofs.Common.{◌≡◌, ℕ, ℤ, pos, negsuc, suc, ◌^◌, ◌<◌, ◌≤◌, max, nat_lt, cond, int_lt, true, false, Bool}
use Rattle.std.proofs.Common.{SFits, w64, List, [], ◌∷◌, ◌++◌, append-nil, Some, None, option_map, option_and_then}
use Rattle.std.proofs.Common.{refl, sym, ap, ap₂, ◌∙◌, subst, arith}
use Rattle.std.proofs.lemmas.Fmt.{IsAscii-decimal, IsAscii-signed}
use Rattle.std.proofs.lemmas.Str.{IsUtf8-append, IsUtf8-nil, IsUtf8-from_ascii}
use Rattle.std.specs.Str.{IsUtf8}
use Rattle.json.specs.Json as json
use Rattle.json.specs.Tree as tree
use Rattle.json.specs.Tree.{MembersHaveNumbers}
use Rattle.json.proofs.Printed.Decimals.{IsNumber-decimal, IsNumber-signed_decimal}
use Rattle.json.proofs.Printed.Utf8.{are_ascii, IsUtf8-are_ascii, IsUtf8-quoted}
use Rattle.json.proofs.Printed.Tokens.{tokens-print}
use Rattle.json.proofs.Printed.Trees.{ArePrintable-json_tokens, value-json_tokens}
use Rattle.json.specs.Lex.{tokens}
use Rattle.serde_json.specs.Data.{Num, unsigned, negative, float, Data, null, boolean, number, string, array, object}
use Rattle.serde_json.specs.Data.{Items, no_items, item, Members, no_members, member, put, depth, items_depth}
use Rattle.serde_json.specs.Data.{members_depth}
use Rattle.serde_json.specs.Find.{as_i64, as_u64}
use Rattle.serde_json.specs.Read.{of_json, of_items, of_members, max_depth, read}
use Rattle.serde_json.specs.Written.{outline, items_outline, members_outline, comma_if, compact_text, members_text}
use Rattle.serde_json.proofs.Numbers.{number_of-decimal, number_of-negative}
use Rattle.serde_json.proofs.Texts.{print-outline}
use Rattle.sourcemap_json_write.specs.Writing.{IsPlainNumber, IsPlainValue, ArePlainItems, ArePlainMembers}

mutual
  depth-outline : (d : Data) → tree.depth (outline d) ≡ depth d
  depth-outline null = refl
  depth-outline (boolean b) = refl
  depth-outline (number n) = refl
  depth-outline (string s) = refl
  depth-outline (array ds) = ap suc (items_depth-outline ds)
  depth-outline (object ms) = ap suc (members_depth-outline ms)

  items_depth-outline : (ds : Items) → tree.items_depth (items_outline ds) ≡ items_depth ds
  items_depth-outline no_items = refl
  items_depth-outline (item d ds) = ap₂ max (depth-outline d) (items_depth-outline ds)

  members_depth-outline : (ms : Members) → tree.members_depth (members_outline ms) ≡ members_depth ms
  members_depth-outline no_members = refl
  members_depth-outline (member k d ms) = ap₂ max (depth-outline d) (members_depth-outline ms)

pub plain_reads_back : (d : Data) → IsPlainValue d → depth d ≤ max_depth → read (compact_text d) ≡ Some d
plain_reads_back d plain shallow =
    let tokens_are : tokens (compact_text d) ≡ tree.json_tokens (outline d) ++ [] =
    ap tokens (sym (print-outline d))
    ∙ tokens-print (tree.json_tokens (outline d)) (ArePrintable-json_tokens (outline d) plain.0) ∙ sym (append-nil _) in
    ap
    (λ ts. option_and_then of_json (option_and_then (λ p. json.if_last p.0 p.1) (json.value max_depth ts))) tokens_are
    ∙ ap (λ o. option_and_then of_json (option_and_then (λ p. json.if_last p.0 p.1) o))
    (value-json_tokens (outline d) max_depth [] (omega (arith, shallow, depth-outline d)))
    ∙ plain.1

-- ---- numbers

pub plain_unsigned : (x : Num) (n : ℕ) → as_u64 x ≡ Some n → n < 2 ^ 64 → IsPlainNumber x
plain_unsigned (unsigned m) n is fits = let same : m ≡ n = cc in let small : m < 2 ^ 64 = omega arith in
    (IsNumber-decimal m small, number_of-decimal m small, IsUtf8-from_ascii _ (IsAscii-decimal m small))
plain_unsigned (negative z) n is fits = absurd (cc)
plain_unsigned (float y) n is fits = absurd (cc)

plain_below_zero : (z : ℤ) → int_lt z (pos 0) ≡ true → SFits w64 z → IsPlainNumber (negative z)
plain_below_zero (pos n) below fits = absurd (grind arith)
plain_below_zero (negsuc n) below fits = (
  IsNumber-signed_decimal (negsuc n) fits.sfits,
  number_of-negative n (grind arith),
  IsUtf8-from_ascii _ (IsAscii-signed (negsuc n) fits.sfits),
)

small_is_whole : (n : ℕ) (z : ℤ) (small : Bool) → cond small (Some (pos n)) None ≡ Some z → int_lt z (pos 0) ≡ true
    → IsPlainNumber (unsigned n)
small_is_whole n z true is below = let same : pos n ≡ z = cc in let below_zero : int_lt (pos n) (pos 0) ≡ true =
    ap (λ y. int_lt y (pos 0)) same ∙ below in absurd (grind arith)
small_is_whole n z false is below = absurd (cc)

pub plain_negative : (x : Num) (z : ℤ) → as_i64 x ≡ Some z → int_lt z (pos 0) ≡ true → SFits w64 z → IsPlainNumber x
plain_negative (unsigned n) z is below fits = small_is_whole n z (nat_lt n (2 ^ 63)) is below
plain_negative (negative y) z is below fits = let same : z ≡ y = cc in
    subst (λ v. IsPlainNumber (negative v)) same (plain_below_zero z below fits)
plain_negative (float y) z is below fits = absurd (cc)

-- ---- values

-- the text of the members `rest` is UTF-8, and each number in `rest` is written as a JSON number. Reading `rest` back
-- after the members `before` gives `all`
abbrev pub IsPlainRest : Members → Members → Members → Type 0
IsPlainRest before rest all = MembersHaveNumbers (members_outline rest) × (of_members (members_outline rest) before
    ≡ Some all) × ((later : Bool) → IsUtf8 (members_text later rest))

ascii_before : (x : ℕ) (s : List ℕ) → are_ascii (x ∷ []) ≡ true → IsUtf8 s → IsUtf8 (x ∷ s)
ascii_before x s ascii utf8 = IsUtf8-append (x ∷ []) s (IsUtf8-are_ascii (x ∷ []) ascii) utf8

comma_utf8 : (later : Bool) → IsUtf8 (comma_if later)
comma_utf8 true = IsUtf8-are_ascii _ refl
comma_utf8 false = IsUtf8-nil

pub plain_string : (s : List ℕ) → IsUtf8 s → IsPlainValue (string s)
plain_string s utf8 = (tt, refl, IsUtf8-quoted s utf8)

pub plain_no_items : ArePlainItems no_items
plain_no_items = (tt, refl, λ later. IsUtf8-are_ascii _ refl)

pub plain_no_members : (before : Members) → IsPlainRest before no_members before
plain_no_members before = (tt, refl, λ later. IsUtf8-are_ascii _ refl)

pub plain_array : (ds : Items) → ArePlainItems ds → IsPlainValue (array ds)
plain_array ds plain = (plain.0, ap (option_map array) plain.1, ascii_before 91 _ refl (plain.2 false))

pub plain_object : (ms : Members) → ArePlainMembers ms → IsPlainValue (object ms)
plain_object ms plain = (plain.0, ap (option_map object) plain.1, ascii_before 123 _ refl (plain.2 false))

pub plain_item : (d : Data) (ds : Items) → IsPlainValue d → ArePlainItems ds → ArePlainItems (item d ds)
plain_item d ds here rest = (
  (here.0, rest.0),
  ap (option_and_then (λ e. option_map (item e) (of_items (items_outline ds)))) here.1
      ∙ ap (option_map (item d)) rest.1,
  λ later. IsUtf8-append _ _ (comma_utf8 later) (IsUtf8-append _ _ here.2 (rest.2 true)),
)

-- ---- members

pub plain_member : (k : List ℕ) (d : Data) (before rest all : Members) → IsUtf8 k → IsPlainValue d
    → IsPlainRest (put k d before) rest all → IsPlainRest before (member k d rest) all
plain_member k d before rest all key here more = (
  (here.0, more.0),
  ap (option_and_then (λ e. of_members (members_outline rest) (put k e before))) here.1 ∙ more.1,
  λ later. IsUtf8-append _ _ (comma_utf8 later)
      (IsUtf8-append _ _ (IsUtf8-quoted k key) (ascii_before 58 _ refl (IsUtf8-append _ _ here.2 (more.2 true)))),
)
