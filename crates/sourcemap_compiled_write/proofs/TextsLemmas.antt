-- Texts and the text table: one text more, and what is read of them.
use Rattle.std.proofs.Common.{◌≡◌, refl, sym, ap, ◌∙◌, ℕ, zero, suc, ◌+◌, ◌-◌, ◌<◌, ◌≤◌, ◌==◌, ◌||◌}
use Rattle.std.proofs.Common.{List, [], ◌∷◌, ◌++◌, length, slice_index, slice_range, get_or, map, take, drop, arith}
use Rattle.std.proofs.Common.{length-append, take-append-drop, nat_lt, if◌then◌else◌, inl, inr, Option, Some, None}
use Rattle.std.proofs.Common.{Result, Ok, Err}
use Rattle.std.specs.List.{flat_map}
use Rattle.std.proofs.lemmas.Bool.{cases_lt, le-ltb, lt-ltb}
use Rattle.std.proofs.lemmas.Bool.Decides.{nat_tests}
use Rattle.std.proofs.lemmas.List.{append-nil, flat_map_more, map-append, map_more, take_more}
use Rattle.std.proofs.lemmas.List.Concat.{flat_map-append}
use denote.Ref.{Bor}
use Rattle.byteorder.specs.Endian.{little_bytes}
use Rattle.sourcemap_tokens.specs.Items.{item_at}
use Rattle.sourcemap_compiled.specs.declared.errors.CompiledMapError.{CompiledMapError}
use Rattle.sourcemap_compiled.specs.declared.errors.CompiledMapError.TheVariants.{TextOutside}
use Rattle.sourcemap_compiled_write.specs.TextValues.{text_value}
use Rattle.sourcemap_compiled_write.specs.Texts.{text_bytes, text_offsets, texts_bytes}
use Rattle.sourcemap_compiled_write.proofs.StandsLemmas.{Stands, Stands-first, range-there}

-- ---- one text more

-- a loop that appends the bytes of each item
pub flat_map_step : {X : Type 0} (f : X → List ℕ) (bs : List ℕ) (xs : List X) (i : ℕ) (d : X) → i < length xs
    → bs ++ flat_map f (take i xs) ++ f (get_or xs i d) ≡ bs ++ flat_map f (take (i + 1) xs)
flat_map_step f bs xs i d l =
    flat_map_more f bs (take i xs) (get_or xs i d) ∙ ap (λ ys. bs ++ flat_map f ys) (sym (take_more xs i d l))

pub texts_bytes_step : (bs : List ℕ) (texts : List (Option (Bor (List ℕ)))) (i : ℕ) (d : Option (Bor (List ℕ)))
    → i < length texts
    → bs ++ texts_bytes (map text_value (take i texts)) ++ text_bytes (text_value (get_or texts i d))
    ≡ bs ++ texts_bytes (map text_value (take (i + 1) texts))
texts_bytes_step bs texts i d l =
    flat_map_more text_bytes bs (map text_value (take i texts)) (text_value (get_or texts i d))
    ∙ ap (λ (ys : List (Option (List ℕ))). bs ++ texts_bytes ys) (sym (map_more text_value texts i d l))

pub length-texts_more : (texts : List (Option (Bor (List ℕ)))) (i : ℕ) (d : Option (Bor (List ℕ)))
    → i < length texts
    → length (texts_bytes (map text_value (take (i + 1) texts)))
    ≡ length (texts_bytes (map text_value (take i texts))) + length (text_bytes (text_value (get_or texts i d)))
length-texts_more texts i d l =
    ap length (sym (texts_bytes_step [] texts i d l))
    ∙ length-append (texts_bytes (map text_value (take i texts))) (text_bytes (text_value (get_or texts i d)))

pub length-texts-append : (xs ys : List (Option (List ℕ)))
    → length (texts_bytes (xs ++ ys)) ≡ length (texts_bytes xs) + length (texts_bytes ys)
length-texts-append xs ys =
    ap length (flat_map-append text_bytes xs ys) ∙ length-append (texts_bytes xs) (texts_bytes ys)

-- the first texts are no longer than all
pub length-texts-le : (texts : List (Option (Bor (List ℕ)))) (n : ℕ)
    → length (texts_bytes (map text_value (take n texts))) ≤ length (texts_bytes (map text_value texts))
length-texts-le texts n =
    let parts = length-texts-append (map text_value (take n texts)) (map text_value (drop n texts)) in
    let whole : map text_value texts ≡ map text_value (take n texts) ++ map text_value (drop n texts) =
    ap (map text_value) (sym (take-append-drop n texts)) ∙ map-append text_value (take n texts) (drop n texts) in
    let same = ap (λ (ts : List (Option (List ℕ))). length (texts_bytes ts)) whole in
    omega arith

pub length-texts_take : (texts : List (Option (List ℕ))) (k : ℕ) → k < length texts
    → length (texts_bytes (take (k + 1) texts))
    ≡ length (texts_bytes (take k texts)) + length (text_bytes (get_or texts k None))
length-texts_take texts k l =
    let text = get_or texts k None in
    ap (λ (ts : List (Option (List ℕ))). length (texts_bytes ts)) (take_more texts k None l)
    ∙ length-texts-append (take k texts) (text ∷ [])
    ∙ ap (λ (xs : List ℕ). length (texts_bytes (take k texts)) + length xs) (append-nil (text_bytes text))

pub text_offsets-append : (offset : ℕ) (xs ys : List (Option (List ℕ)))
    → text_offsets offset (xs ++ ys) ≡ text_offsets offset xs ++ text_offsets (offset + length (texts_bytes xs)) ys
text_offsets-append offset [] ys =
    let same : offset ≡ offset + 0 = omega arith in ap (λ (n : ℕ). text_offsets n ys) same
text_offsets-append offset (x ∷ xs) ys =
    let next = offset + length (text_bytes x) in
    let there : next + length (texts_bytes xs) ≡ offset + length (text_bytes x ++ texts_bytes xs) =
    omega (arith, length-append (text_bytes x) (texts_bytes xs)) in
    ap (λ (ns : List ℕ). offset ∷ ns) (text_offsets-append next xs ys
    ∙ ap (λ (n : ℕ). text_offsets next xs ++ text_offsets n ys) there)

-- the table of one text more
pub text_offsets_step : (bs : List ℕ) (offset : ℕ) (texts : List (Option (Bor (List ℕ)))) (i : ℕ)
    (d : Option (Bor (List ℕ))) → i < length texts
    → bs ++ flat_map (little_bytes 4) (text_offsets offset (map text_value (take i texts)))
    ++ little_bytes 4 (offset + length (texts_bytes (map text_value (take i texts))))
    ≡ bs ++ flat_map (little_bytes 4) (text_offsets offset (map text_value (take (i + 1) texts)))
text_offsets_step bs offset texts i d l =
    let done = map text_value (take i texts) in
    flat_map_more (little_bytes 4) bs (text_offsets offset done) (offset + length (texts_bytes done))
    ∙ ap (λ (ns : List ℕ). bs ++ flat_map (little_bytes 4) ns)
    (sym (text_offsets-append offset done (text_value (get_or texts i d) ∷ [])))
    ∙ ap (λ (ts : List (Option (List ℕ))). bs ++ flat_map (little_bytes 4) (text_offsets offset ts))
    (sym (map_more text_value texts i d l))

-- ---- what is read

-- a number of the table
pub offset-at : (offset : ℕ) (texts : List (Option (List ℕ))) (k end : ℕ) → k ≤ length texts
    → offset + length (texts_bytes texts) ≡ end
    → slice_index (text_offsets offset texts ++ end ∷ []) k ≡ offset + length (texts_bytes (take k texts))
offset-at offset [] zero end l e = omega arith
offset-at offset [] (suc k) end l e = absurd (omega arith)
offset-at offset (text ∷ texts) zero end l e = omega arith
offset-at offset (text ∷ texts) (suc k) end l e =
    let next = offset + length (text_bytes text) in
    let all = length-append (text_bytes text) (texts_bytes texts) in
    let some = length-append (text_bytes text) (texts_bytes (take k texts)) in
    offset-at next texts k end (omega arith) (omega arith) ∙ omega arith

-- a text between its start and the start of the next one
pub text-there : (bytes : List ℕ) (start end : ℕ) (text : Option (List ℕ)) → start + length (text_bytes text) ≡ end
    → end ≤ length bytes → Stands bytes start (text_bytes text)
    → ◌≡◌ {A = Result (Option (List ℕ)) CompiledMapError}
    (if nat_lt end start || nat_lt (length bytes) end then Err TextOutside
    else if start == end then Ok None else Ok (Some (slice_range bytes start (end - 1))))
    (Ok text)
text-there bytes start end None e l s =
    let same : start ≡ end = omega arith in
    grind (arith, nat_tests)
text-there bytes start end (Some text) e l s =
    let many : start + length text + 1 ≡ end = omega (arith, length-append text (0 ∷ [])) in
    let there = range-there bytes start (end - 1) text (omega arith) (Stands-first bytes start text (0 ∷ []) s) in
    grind (arith, nat_tests)

-- ---- items by id

pub item-there : (items : List (Option (List ℕ))) (k : ℕ) → k < length items
    → item_at items k ≡ get_or items k None
item-there [] k l = absurd (omega arith)
item-there (x ∷ xs) zero l = refl
item-there (x ∷ xs) (suc k) l = item-there xs k (omega arith)

pub item-past : (items : List (Option (List ℕ))) (k : ℕ) → length items ≤ k → item_at items k ≡ None
item-past [] k l = refl
item-past (x ∷ xs) zero l = absurd (omega arith)
item-past (x ∷ xs) (suc k) l = item-past xs k (omega arith)

pub item-first : (xs ys : List (Option (List ℕ))) (k : ℕ) → k < length xs → item_at (xs ++ ys) k ≡ item_at xs k
item-first [] ys k l = absurd (omega arith)
item-first (x ∷ xs) ys zero l = refl
item-first (x ∷ xs) ys (suc k) l = item-first xs ys k (omega arith)

pub item-rest : (xs ys : List (Option (List ℕ))) (n k : ℕ) → length xs + k ≡ n
    → item_at (xs ++ ys) n ≡ item_at ys k
item-rest [] ys n k e = let same : n ≡ k = omega arith in ap (item_at ys) same
item-rest (x ∷ xs) ys zero k e = absurd (omega arith)
item-rest (x ∷ xs) ys (suc n) k e = item-rest xs ys n k (omega arith)

-- a text that is read by its id
pub text_by : (id count : ℕ) (read : Result (Option (List ℕ)) CompiledMapError) (items : List (Option (List ℕ)))
    → count ≡ length items → (id < length items → read ≡ Ok (item_at items id))
    → (if nat_lt id count then read else Ok None) ≡ Ok (item_at items id)
text_by id count read items e inside =
    rw e (elim (cases_lt id (length items)) [
      | inl l ↦ rw (lt-ltb id (length items) l) (inside l)
      | inr m ↦ rw (le-ltb id (length items) m, item-past items id m) refl
    ])
