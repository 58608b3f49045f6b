-- The text of a list, written item by item.
use Rattle.std.proofs.Common.{◌≡◌, ℕ, ◌∷◌, [], List, ◌++◌, Bool, true, Option, map, string_bytes, String, Global, ◌∙◌}
use Rattle.std.proofs.Common.{append_assoc, subst}
use Rattle.std.specs.List.{AllByRecursion}
use Rattle.std.specs.Str.{IsUtf8}
use Rattle.std.proofs.lemmas.Str.{IsUtf8-string_bytes}
use Rattle.serde_json.specs.Data.{Data, array}
use Rattle.serde_json.specs.View.{items_of}
use Rattle.serde_json.specs.Written.{comma_if, compact_text, items_text}
use Rattle.sourcemap_map_encode.specs.Buffered.{Grows, GrowsBy}
use Rattle.sourcemap_map_encode.proofs.BufferedLemmas.{Grows-join}

-- `done` (the text from `[` on) followed by the text of the items `left` (up to `]`) is the text of the whole list
-- `all`. If `later` is true, a comma precedes the first item of `left`
abbrev pub IsListed : List Data → List Data → Bool → List ℕ → Type 0
IsListed all left later done = done ++ items_text later (items_of left) ≡ compact_text (array (items_of all))

-- once the item `d` is written, after a comma if an item precedes, only the items `left` remain
pub listed-more : (all left : List Data) (d : Data) (later : Bool) (h i j k : Option (List ℕ)) (a b c e : List ℕ)
    → GrowsBy (IsListed all (d ∷ left) later) h a i b → Grows i b j c (comma_if later) → Grows j c k e (compact_text d)
    → GrowsBy (IsListed all left true) h a k e
listed-more all left d later h i j k a b c e (done, is, x) y z = (
  (done ++ comma_if later) ++ compact_text d,
  append_assoc (done ++ comma_if later) (compact_text d) (items_text true (items_of left))
      ∙ append_assoc done (comma_if later) (compact_text d ++ items_text true (items_of left)) ∙ is,
  Grows-join h j k a c e (done ++ comma_if later) (compact_text d) (Grows-join h i j a b c done (comma_if later) x y) z,
)

pub texts-utf8 : (texts : List (String Global)) → AllByRecursion IsUtf8 (map (string_bytes {Z = Global}) texts)
texts-utf8 [] = tt
texts-utf8 (t ∷ ts) = (IsUtf8-string_bytes t, texts-utf8 ts)

-- once no item is left, `]` ends the text of the list
pub listed-end : (all : List Data) (later : Bool) (h i j : Option (List ℕ)) (a b c : List ℕ)
    → GrowsBy (IsListed all [] later) h a i b → Grows i b j c (93 ∷ [])
    → Grows h a j c (compact_text (array (items_of all)))
listed-end all later h i j a b c (done, is, x) y =
    subst (λ (t : List ℕ). Grows h a j c t) is (Grows-join h i j a b c done (93 ∷ []) x y)
