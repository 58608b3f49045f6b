-- Ids that are written one after another: `done` are written to the array `old`, and `left` are left.
use Rattle.std.proofs.Common.{◌≡◌, ◌<◌, ◌+◌, ◌∙◌, ℕ, List, [], ◌∷◌, ◌++◌, Bool, true, false, ◌&&◌, append_assoc, ap, drop, filter, get_or, length, refl, set, sym, take}
use Rattle.std.proofs.Math.Seq.{set-append_seam, take-append_seam}
use Rattle.std.proofs.lemmas.List.{drop_more}
use Rattle.std.proofs.lemmas.List.Elements.{filter_agree}
use Rattle.std.specs.BTreeMap.Range.{range_contains}
use Rattle.std.specs.Ordering.{is_le, nat_cmp}
use Rattle.std.specs.declared.ops.Bound.TheVariants.{Included, Unbounded}
use Rattle.sourcemap_c.specs.IgnoreLists.{ids_from}
use Rattle.sourcemap_c.specs.Segments.{fitting, overwritten}

-- the ids of a set in the range from `from` on
pub ids_in_range : (from : ℕ) (ids : List ℕ)
    → filter (range_contains nat_cmp (Included from) Unbounded) ids ≡ ids_from from ids
ids_in_range from ids = filter_agree (range_contains nat_cmp (Included from) Unbounded) (λ id. is_le (nat_cmp from id))
    (λ id. and_true (is_le (nat_cmp from id))) ids
  where
    and_true : (b : Bool) → (b && true) ≡ b
    and_true true = refl
    and_true false = refl

pub set_next_id : (done old : List ℕ) (count id : ℕ) → length done ≡ count → count < length old
    → set (done ++ drop count old) count id ≡ (done ++ id ∷ []) ++ drop (count + 1) old
set_next_id done old count id is space =
    ap (λ rest. set (done ++ rest) count id) (drop_more old count 0 space)
    ∙ ap (λ n. set (done ++ get_or old count 0 ∷ drop (count + 1) old) n id) (sym is)
    ∙ set-append_seam done (get_or old count 0) (drop (count + 1) old) id
    ∙ sym (append_assoc done (id ∷ []) (drop (count + 1) old))

pub all_written : (done left old : List ℕ) (count : ℕ) → length done ≡ count → fitting (done ++ left) old ≡ count
    → done ++ drop count old ≡ overwritten (done ++ left) old
all_written done left old count is fits =
    ap (λ xs. xs ++ drop count old) (sym (take-append_seam done left))
    ∙ ap (λ n. take n (done ++ left) ++ drop count old) (is ∙ sym fits)
    ∙ ap (λ n. take (fitting (done ++ left) old) (done ++ left) ++ drop n old) (sym fits)
