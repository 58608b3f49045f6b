-- Changes of the map in a handle, and their errors.
use Rattle.std.specs.Prelude.{◌≡◌, ◌<◌, ◌≤◌, ℕ, List, Bool, [], length, slice_set, Option, Some, None, IsSomeAnd, Result, Ok, Err}
use Rattle.std.specs.BTreeSet.{insert_key}
use Rattle.std.specs.Option.{option_copied}
use Rattle.std.specs.Ordering.{nat_cmp}
use Rattle.sourcemap_errors.specs.declared.errors.Error.{Error}
use Rattle.sourcemap_hermes.specs.Rewrite.{rewritten as hermes_rewritten}
use Rattle.sourcemap_index.specs.DecodedMap.{with_debug_id}
use Rattle.sourcemap_index.specs.Rows.{with_sections}
use Rattle.sourcemap_map_regular.specs.Adjust.{adjusted}
use Rattle.sourcemap_map_regular.specs.Map.{MapValue, fitted}
use Rattle.sourcemap_map_regular.specs.Rewrite.{Removal, rewritten}
use Rattle.sourcemap_index_model.specs.Flat.{FlatAnswer}
use Rattle.sourcemap_index_model.specs.MapTree.{LeafMap, regular, hermes, held, MapTree, leaf, index, IndexValue, index_tree}
use Rattle.sourcemap_index_model.specs.Shift.{HaveRowsLeft, shifted}
use Rattle.sourcemap_c_handles.specs.declared.errors.Failure.{Failure}
use Rattle.sourcemap_c_handles.specs.declared.errors.Failure.TheVariants.{Library, Absent, WrongKind, PastLimit}
use Rattle.sourcemap_c_handles.specs.declared.held.Held.{Held}
use Rattle.sourcemap_c.specs.Codes.{OrNoText}
use Rattle.sourcemap_c.specs.Kinds.{IsAsBefore, tree_in}
use Rattle.sourcemap_c.specs.declared.changing.Change.{Change}
use Rattle.sourcemap_c.specs.declared.changing.Change.TheVariants.{File, Root, Id, Source, Contents, Ignored, NoNames, Down}
use Rattle.sourcemap_c.specs.declared.changing.SourceChange.{SourceChange}

abbrev pub with_held : LeafMap → MapValue → LeafMap
with_held (regular _) m = regular m
with_held (hermes h) m = hermes (record h { map = m })

-- If `l` is a regular map, the result is `m`. If `l` is a Hermes map, the result is `l` with its regular map replaced
-- by `m`.
abbrev pub leaf_of : LeafMap → MapValue → MapTree
leaf_of l m = leaf (with_held l m)

abbrev pub OnLeaf : (MapValue → MapValue) → MapTree → Result MapTree Failure → Type 0
OnLeaf change (leaf l) due = due ≡ Ok (leaf_of l (change (held l)))
OnLeaf change (index _ _) due = due ≡ Err WrongKind

-- a change to the source with this id; `Absent` if the map has no such source, `WrongKind` for an index map
abbrev pub OnSource : ℕ → (MapValue → MapValue) → MapTree → Result MapTree Failure → Type 0
OnSource id change (leaf l) (Ok new) = (id < length (held l).sources) × (new ≡ leaf_of l (change (held l)))
OnSource id change (leaf l) (Err e) = (length (held l).sources ≤ id) × (e ≡ Absent)
OnSource id change (index _ _) due = due ≡ Err WrongKind

abbrev pub HasFile : Option (List ℕ) → MapTree → Result MapTree Failure → Type 0
HasFile file (leaf l) due = due ≡ Ok (leaf_of l (record (held l) { file = file }))
HasFile file (index parts ss) due = due ≡ Ok (index (record parts { file = file }) ss)

abbrev pub HasRoot : Option (List ℕ) → MapTree → Result MapTree Failure → Type 0
HasRoot root = OnLeaf (λ m. record m { root = root })

abbrev pub HasId : Option (List ℕ) → MapTree → Result MapTree Failure → Type 0
HasId id t due = due ≡ Ok (with_debug_id t id)

abbrev pub HasSource : ℕ → List ℕ → MapTree → Result MapTree Failure → Type 0
HasSource id source = OnSource id (λ m. record m { sources = slice_set m.sources id source })

abbrev pub HasContents : ℕ → Option (List ℕ) → MapTree → Result MapTree Failure → Type 0
HasContents id contents =
    OnSource id (λ m. record m { contents = slice_set (fitted (length m.sources) m.contents) id contents })

abbrev pub Ignores : ℕ → MapTree → Result MapTree Failure → Type 0
Ignores id = OnSource id (λ m. record m { ignored = insert_key nat_cmp m.ignored id })

abbrev pub HasNoNames : MapTree → Result MapTree Failure → Type 0
HasNoNames = OnLeaf (λ m. record m { names = [] })

-- the index map with each section moved down by `lines` lines; `PastLimit` if a section would pass line 4294967295,
-- `WrongKind` for other maps
abbrev pub IsDown : ℕ → MapTree → Result MapTree Failure → Type 0
IsDown lines t (Ok new) = (i : IndexValue) × (t ≡ index_tree i) × HaveRowsLeft lines i.sections
    × (new ≡ index_tree (with_sections i (shifted lines i.sections)))
IsDown lines (index parts ss) (Err e) =
    (i : IndexValue) × (index parts ss ≡ index_tree i) × (¬ HaveRowsLeft lines i.sections) × (e ≡ PastLimit)
IsDown lines (leaf _) (Err e) = e ≡ WrongKind

abbrev pub as_regular : Result MapValue Error → Result MapTree Failure
as_regular (Ok m) = Ok (leaf (regular m))
as_regular (Err e) = Err (Library e)

-- the regular map adjusted by `adjustment`, or the error of `adjusted`; `WrongKind` for maps of other kinds
abbrev pub IsAdjusted : MapValue → MapTree → Result MapTree Failure → Type 0
IsAdjusted adjustment (leaf (regular m)) due = due ≡ as_regular (adjusted m adjustment)
IsAdjusted adjustment _ due = due ≡ Err WrongKind

-- the map adjusted by the map in another handle, or the error of `adjusted`; `WrongKind` unless both are regular maps
abbrev pub IsAdjustedBy : Option MapTree → MapTree → Result MapTree Failure → Type 0
IsAdjustedBy (Some (leaf (regular adjustment))) t due = IsAdjusted adjustment t due
IsAdjustedBy _ t due = due ≡ Err WrongKind

-- the map with a change to the source with this id
abbrev pub with_source_change : ℕ → SourceChange → MapValue → MapValue
with_source_change id (SourceChange.Text source) = λ m. record m { sources = slice_set m.sources id source.now }
with_source_change id (SourceChange.Contents contents) = λ m. record m {
  contents = slice_set (fitted (length m.sources) m.contents) id (option_copied contents);
}
with_source_change id SourceChange.Ignored = λ m. record m { ignored = insert_key nat_cmp m.ignored id }

abbrev pub ChangesSource : ℕ → SourceChange → MapTree → Result MapTree Failure → Type 0
ChangesSource id change = OnSource id (with_source_change id change)

abbrev pub ChangesTo : Change → MapTree → Result MapTree Failure → Type 0
ChangesTo (File file) = HasFile (option_copied file)
ChangesTo (Root root) = HasRoot (option_copied root)
ChangesTo (Id id) = HasId id
ChangesTo (Source id source) = HasSource id source.now
ChangesTo (Contents id contents) = HasContents id (option_copied contents)
ChangesTo (Ignored id) = Ignores id
ChangesTo NoNames = HasNoNames
ChangesTo (Down lines) = IsDown lines

-- the rewritten map; `WrongKind` for an index map
abbrev pub IsRewritten : Removal → MapTree → Result MapTree Failure → Type 0
IsRewritten removal (leaf (regular m)) due = due ≡ Ok (leaf (regular (rewritten removal m)))
IsRewritten removal (leaf (hermes h)) due = due ≡ Ok (leaf (hermes (hermes_rewritten removal h)))
IsRewritten removal (index _ _) due = due ≡ Err WrongKind

-- the regular map that an index map is flattened to, or the error of flattening; `WrongKind` for other maps
abbrev pub IsFlat : MapTree → Result MapTree Failure → Type 0
IsFlat (index parts ss) (Ok (leaf (regular m))) = FlatAnswer (index parts ss) (Ok m)
IsFlat (index parts ss) (Err (Library e)) = FlatAnswer (index parts ss) (Err e)
IsFlat (leaf _) (Err e) = e ≡ WrongKind
IsFlat _ _ = ⊥

-- the handle has the changed map
abbrev pub HoldsNew : (MapTree → Result MapTree Failure → Type 0) → (old new : Option Held) → Type 0
HoldsNew Becomes old new = IsSomeAnd (tree_in old) (λ t. IsSomeAnd (tree_in new) (λ n. Becomes t (Ok n)))

-- the error of the change of a map or of a builder; `WrongKind` if there is none
abbrev pub FailsAs : {V : Type 0} → (V → Result V Failure → Type 0) → Option V → Failure → Type 0
FailsAs Becomes (Some v) failure = Becomes v (Err failure)
FailsAs Becomes None failure = failure ≡ WrongKind

-- The contract of a call that changes the map in a handle as `Becomes` says. `Says` is `Does` of a result, or `Answers`
-- of a code and a report.
abbrev pub ChangesMap : (Says : Type 0 → (Failure → Type 0) → Type 0 → Type 0)
    → (MapTree → Result MapTree Failure → Type 0) → (old new : Option Held) → Type 0
ChangesMap Says Becomes old new = Says (HoldsNew Becomes old new) (FailsAs Becomes (tree_in old)) (IsAsBefore old new)

-- the same for a call that sets a text, which may not be UTF-8
abbrev pub SetsText : (Says : Type 0 → (Failure → Type 0) → Type 0 → Type 0) → (present : Bool) → (text : List ℕ)
    → (MapTree → Result MapTree Failure → Type 0) → (old new : Option Held) → Type 0
SetsText Says present text Becomes old new =
    Says (HoldsNew Becomes old new) (OrNoText present text (FailsAs Becomes (tree_in old))) (IsAsBefore old new)
