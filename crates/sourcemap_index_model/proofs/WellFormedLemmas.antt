-- Decoded maps are well-formed and have sorted tokens. Well-formed maps have sorted sections.
use Rattle.std.proofs.Common.{◌≡◌, refl, sym, ap, subst, ◌∙◌, ℕ, ◌+◌, ◌≤◌, List, [], ◌∷◌, length, Bool, true, false, Option, Some, None, nat_lt, Result, Ok, Err, inl, inr, arith}
use Rattle.std.specs.Bool.{MatchBool}
use Rattle.std.specs.List.{AllByRecursion}
use Rattle.std.proofs.lemmas.Bool.Decides.{nat_tests}
use Rattle.std.proofs.lemmas.List.{length-map}
use Rattle.sourcemap_map_conversions.specs.FromRecord.{list_or_empty, name_read, source_read}
use Rattle.sourcemap_errors.specs.declared.errors.Error.{Error}
use Rattle.sourcemap_errors.specs.declared.errors.Error.TheVariants.{IncompatibleSourceMap}
use Rattle.sourcemap_tokens.proofs.SortLemmas.{All-sorted_by, length-sorted_by, sorted-sorted_by}
use Rattle.sourcemap_tokens.proofs.TokensLemmas.{AreInOrder-in_order, position_cmp_total}
use Rattle.sourcemap_tokens.specs.Tokens.{AreInOrder}
use Rattle.sourcemap_mappings.proofs.ReadAnswers.{AllWithin-sorted}
use Rattle.sourcemap_mappings.specs.Read.{tokens_of_lines}
use Rattle.sourcemap_records.specs.Jsontypes.{Fields, Tree, plain, indexed, Sections, no_more, bare, mapped}
use Rattle.sourcemap_map_regular.specs.Decode.{RecordDecodes}
use Rattle.sourcemap_map_regular.specs.Map.{MapValue, IsWellFormed as IsWellFormedRegular}
use Rattle.sourcemap_hermes_scopes.specs.ScopeLists.{ScopeEntry}
use Rattle.sourcemap_hermes.specs.Map.{AreFewScopes}
use Rattle.sourcemap_index_model.specs.Decode.{Then, LeafDecodes, TreeDecodes, SectionsDecode, count, by_offset, index_of}
use Rattle.sourcemap_index_model.specs.MapTree.{AtEachLevel, LeafMap, held, regular, hermes, MapTree, leaf, MapSection, section_offset, section_list, sections_from}
use Rattle.sourcemap_index_model.specs.WellFormed.{HasTokensInOrder, IsInOrder, IsWellFormed, IsWellFormedLeaf, AreWellFormedSections}
use Rattle.sourcemap_index_model.proofs.MapTreeLemmas.{InSection, each_section, each_level-weaker, section_list-from}

pub well_formed_in_order : (t : MapTree) → IsWellFormed t → IsInOrder t
well_formed_in_order t h = each_level-weaker (λ m h. tt) (λ ss h. h.1) t h

record_well : (r : Fields) (m : MapValue) → RecordDecodes r (Ok m) → IsWellFormedRegular m
record_well r m (bounds, (decoded_lines, reads, is), same) =
    let tokens = AllWithin-sorted (list_or_empty r.mappings) (list_or_empty r.range_mappings)
    (record { sources = length (list_or_empty r.sources); names = length (list_or_empty r.names) })
    (tokens_of_lines 0 [] decoded_lines) decoded_lines reads refl bounds.names in
    let sources : length m.sources ≡ length (list_or_empty r.sources) =
    ap (λ (m : MapValue). length m.sources) same ∙ length-map (list_or_empty r.sources) source_read in
    let names : length m.names ≡ length (list_or_empty r.names) =
    ap (λ (m : MapValue). length m.names) same ∙ length-map (list_or_empty r.names) name_read in
    rw (sources, names, is) tokens

record_in_order : (r : Fields) (m : MapValue) → RecordDecodes r (Ok m) → AreInOrder m.tokens
record_in_order r m (bounds, (decoded_lines, reads, is), same) =
    subst AreInOrder (sym is) (AreInOrder-in_order (tokens_of_lines 0 [] decoded_lines))

-- what is true of decoded maps. `IsReadLeaf`: the regular map or Hermes map `l` is well-formed, and its tokens are
-- sorted by generated position. `IsRead`: each regular map and each Hermes map in `t` satisfies `IsReadLeaf`, and the
-- sections of each index map in `t` are well-formed (`AreWellFormedSections`)
abbrev IsReadLeaf : LeafMap → Type 0
IsReadLeaf l = IsWellFormedLeaf l × AreInOrder (held l).tokens

abbrev IsRead : MapTree → Type 0
IsRead t = AtEachLevel IsReadLeaf AreWellFormedSections t

leaf_well : (r : Fields) (scopes : Option (List ScopeEntry)) (t : MapTree) → LeafDecodes r scopes (Ok t) → IsRead t
leaf_well r None t (inl (m, f, n)) =
    let same : t ≡ leaf (regular m) = cc in
    subst IsRead (sym same) (record_well r m f, record_in_order r m f)
leaf_well r None t (inr h) = absurd h
leaf_well r (Some entries) t (inl (h, (few, f, as_read, of_entries), n)) =
    let same : t ≡ leaf (hermes h) = cc in
    subst IsRead (sym same) (
      record {
        map = record_well r h.map f;
        few = subst AreFewScopes (sym as_read) few;
        of_entries = of_entries;
      },
      record_in_order r h.map f,
    )
leaf_well r (Some entries) t (inr h) = absurd h

-- there are `many` sections, and the map of each section that has a map satisfies `IsRead`
abbrev AreWell : ℕ → List MapSection → Type 0
AreWell many ss = (length ss ≡ many) × AllByRecursion (InSection IsReadLeaf AreWellFormedSections) ss

index_well : (fields : Fields) (many : ℕ) (ss : List MapSection) → many ≤ 4294967295 → AreWell many ss
    → IsRead (index_of fields ss)
index_well fields many ss few well =
    let sorted : section_list (sections_from (by_offset ss)) ≡ by_offset ss = section_list-from (by_offset ss) in
    let as_many : length (by_offset ss) ≡ length ss = length-sorted_by section_offset position_cmp_total ss in (
      (rw sorted (omega (arith, as_many, well.0)), rw sorted (sorted-sorted_by section_offset position_cmp_total ss)),
      each_section IsReadLeaf AreWellFormedSections (by_offset ss)
          (All-sorted_by section_offset position_cmp_total (InSection IsReadLeaf AreWellFormedSections) ss well.1),
    )

pub not_above : (n : ℕ) → nat_lt 4294967295 n ≡ false → n ≤ 4294967295
not_above n e = grind (arith, nat_tests)

few_well : (fields : Fields) (many : ℕ) (Sections : Result (List MapSection) Error → Type 0)
    → ((ss : List MapSection) → Sections (Ok ss) → AreWell many ss)
    → (b : Bool) → nat_lt 4294967295 many ≡ b → (t : MapTree)
    → MatchBool b (Ok t ≡ Err IncompatibleSourceMap) (Then Sections (λ ss a. a ≡ Ok (index_of fields ss)) (Ok t))
    → IsRead t
few_well fields many Sections each true e t h = cc
few_well fields many Sections each false e t (inl (ss, f, n)) =
    let same : t ≡ index_of fields ss = cc in
    subst IsRead (sym same) (index_well fields many ss (not_above many e) (each ss f))
few_well fields many Sections each false e t (inr h) = absurd h

mutual
  decoded : (r : Tree) (t : MapTree) → TreeDecodes r (Ok t) → IsRead t
  decoded (plain fields) t h = leaf_well fields fields.x_facebook_sources t h
  decoded (indexed fields sections) t h =
      few_well fields (count sections) (λ a. SectionsDecode sections a) (λ ss f. sections_well sections ss f)
      (nat_lt 4294967295 (count sections)) refl t h

  sections_well : (ss : Sections) (out : List MapSection) → SectionsDecode ss (Ok out) → AreWell (count ss) out
  sections_well no_more out h = let same : out ≡ [] = cc in subst (AreWell 0) (sym same) (refl, tt)
  sections_well (bare head rest) out (inl (ss, f, n)) =
      let same : out ≡ record { head = head; map = None } ∷ ss = cc in
      let well = sections_well rest ss f in
      subst (AreWell (1 + count rest)) (sym same) (omega (arith, well.0), (tt, well.1))
  sections_well (bare head rest) out (inr h) = absurd h
  sections_well (mapped head t rest) out (inl (m, f, inl (ss, g, n))) =
      let same : out ≡ record { head = head; map = Some m } ∷ ss = cc in
      let here = decoded t m f in
      let well = sections_well rest ss g in
      subst (AreWell (1 + count rest)) (sym same) (omega (arith, well.0), (here, well.1))
  sections_well (mapped head t rest) out (inl (m, f, inr h)) = absurd h
  sections_well (mapped head t rest) out (inr h) = absurd h

pub decoded_well : (r : Tree) (t : MapTree) → TreeDecodes r (Ok t) → IsWellFormed t
decoded_well r t h = each_level-weaker (λ l both. both.0) (λ ss well. well) t (decoded r t h)

pub decoded_in_order : (r : Tree) (t : MapTree) → TreeDecodes r (Ok t) → HasTokensInOrder t
decoded_in_order r t h = each_level-weaker (λ l both. both.1) (λ ss well. tt) t (decoded r t h)
