-- Changes of the builder in a handle, and their errors.
use Rattle.std.specs.Prelude.{◌≡◌, ◌<◌, ◌≤◌, ◌++◌, ◌⊎◌, ℕ, List, Bool, true, length, map, slice_set, take, Option, Some, None, IsSomeAnd, Result, Ok, Err, MatchResult}
use Rattle.std.specs.BTreeSet.{insert_key}
use Rattle.std.specs.Option.{option_copied}
use Rattle.std.specs.Ordering.{nat_cmp}
use Rattle.sourcemap_builder.specs.Builder.{BuilderValue, with_name, with_source}
use Rattle.sourcemap_interning.specs.Interner.{id_for}
use Rattle.sourcemap_map_regular.specs.Map.{fitted}
use Rattle.sourcemap_texts.specs.Prefixes.{without_prefix}
use Rattle.sourcemap_errors.specs.declared.errors.Error.TheVariants.{OutOfMemory}
use Rattle.sourcemap_c_handles.specs.Errors.{Reports}
use Rattle.sourcemap_c_handles.specs.Layout.{raw_token}
use Rattle.sourcemap_c_handles.specs.declared.errors.ErrorReport.{ErrorReport}
use Rattle.sourcemap_c_handles.specs.declared.errors.Failure.{Failure}
use Rattle.sourcemap_c_handles.specs.declared.errors.Failure.TheVariants.{Library, Absent, WrongKind}
use Rattle.sourcemap_c_handles.specs.declared.held.Held.{Held}
use Rattle.sourcemap_c_handles.specs.declared.layout.MapToken.{MapToken}
use Rattle.sourcemap_c.specs.Changing.{FailsAs}
use Rattle.sourcemap_c.specs.Codes.{OrNoText}
use Rattle.sourcemap_c.specs.Kinds.{builder_in}
use Rattle.sourcemap_c.specs.declared.building.Step.{Step}
use Rattle.sourcemap_c.specs.declared.building.Step.TheVariants.{Root, Id, Source, Prefixes, Contents, Ignored}
use Rattle.sourcemap_c.specs.declared.building.Texts.{Texts}
use Rattle.sourcemap_c.specs.declared.changing.SourceChange.{SourceChange}

-- the result of changing a source: the builder `new`, or `Absent` if no source has this id
abbrev pub OnSource : ℕ → BuilderValue → BuilderValue → Result BuilderValue Failure → Type 0
OnSource id old new (Ok due) = (id < length old.sources) × (due ≡ new)
OnSource id old new (Err failure) = (length old.sources ≤ id) × (failure ≡ Absent)

abbrev pub HasRoot : Option (List ℕ) → BuilderValue → Result BuilderValue Failure → Type 0
HasRoot root old due = due ≡ Ok (record old { root = root })

abbrev pub HasId : Option (List ℕ) → BuilderValue → Result BuilderValue Failure → Type 0
HasId id old due = due ≡ Ok (record old { debug_id = id })

abbrev pub HasSource : ℕ → List ℕ → BuilderValue → Result BuilderValue Failure → Type 0
HasSource id source old = OnSource id old (record old { sources = slice_set old.sources id source })

-- `/` is added to each prefix that does not end with `/`. The prefixes are then tried in order on each source. The
-- first prefix that matches the start of the source is removed from the source. If no prefix matches, the source is
-- unchanged.
abbrev pub IsStripped : List (List ℕ) → BuilderValue → Result BuilderValue Failure → Type 0
IsStripped prefixes old due = due ≡ Ok (record old { sources = map (without_prefix prefixes) old.sources })

abbrev pub HasContents : ℕ → Option (List ℕ) → BuilderValue → Result BuilderValue Failure → Type 0
HasContents id contents old =
    OnSource id old (record old { contents = slice_set (fitted (length old.sources) old.contents) id contents })

abbrev pub Ignores : ℕ → BuilderValue → Result BuilderValue Failure → Type 0
Ignores id old = OnSource id old (record old { ignored = insert_key nat_cmp old.ignored id })

abbrev pub ChangesSource : ℕ → SourceChange → BuilderValue → Result BuilderValue Failure → Type 0
ChangesSource id (SourceChange.Text source) = HasSource id source.now
ChangesSource id (SourceChange.Contents contents) = HasContents id (option_copied contents)
ChangesSource id SourceChange.Ignored = Ignores id

abbrev pub StepsTo : Step → BuilderValue → Result BuilderValue Failure → Type 0
StepsTo (Root root) = HasRoot (option_copied root)
StepsTo (Id id) = HasId id
StepsTo (Source id source) = HasSource id source.now
StepsTo (Prefixes prefixes) = IsStripped (map (λ prefix. prefix.now) prefixes.now)
StepsTo (Contents id contents) = HasContents id (option_copied contents)
StepsTo (Ignored id) = Ignores id

-- the handle has the changed builder
abbrev pub HoldsStep : (BuilderValue → Result BuilderValue Failure → Type 0) → (old new : Option Held) → Type 0
HoldsStep Becomes old new = IsSomeAnd (builder_in old) (λ b. IsSomeAnd (builder_in new) (λ n. Becomes b (Ok n)))

-- The contract of a call that changes the builder in a handle as `Becomes` says. `Says` is `Does` of a result, or
-- `Answers` of a code and a report.
abbrev pub Steps : (Says : Type 0 → (Failure → Type 0) → Type 0 → Type 0)
    → (BuilderValue → Result BuilderValue Failure → Type 0) → (old new : Option Held) → Type 0
Steps Says Becomes old new = Says (HoldsStep Becomes old new) (FailsAs Becomes (builder_in old)) (new ≡ old)

-- the same for a call that sets a text, which may not be UTF-8
abbrev pub SetsText : (Says : Type 0 → (Failure → Type 0) → Type 0 → Type 0) → (present : Bool) → (text : List ℕ)
    → (BuilderValue → Result BuilderValue Failure → Type 0) → (old new : Option Held) → Type 0
SetsText Says present text Becomes old new =
    Says (HoldsStep Becomes old new) (OrNoText present text (FailsAs Becomes (builder_in old))) (new ≡ old)

abbrev pub texts_of : Texts → BuilderValue → List (List ℕ)
texts_of Texts.Sources b = b.interned
texts_of Texts.Names b = b.names

abbrev pub with_text : Texts → BuilderValue → List ℕ → BuilderValue
with_text Texts.Sources b text = with_source b text
with_text Texts.Names b text = with_name b text

-- `id` is the id of the added text, and the handle has the builder with this text
abbrev pub Adds : Texts → List ℕ → (id : ℕ) → (old new : Option Held) → Type 0
Adds to text id old new =
    IsSomeAnd (builder_in old) (λ b. (id_for (texts_of to b) text ≡ Ok id)
    × (builder_in new ≡ Some (with_text to b text)))

-- the errors of adding a text: the error of `id_for`, or `WrongKind` if there is no builder
abbrev pub AddsNot : Texts → List ℕ → Option BuilderValue → Failure → Type 0
AddsNot to text (Some b) (Library e) = id_for (texts_of to b) text ≡ Err e
AddsNot to text None failure = failure ≡ WrongKind
AddsNot to text _ _ = ⊥

-- the contract of a call that adds a text, which may not be UTF-8, and writes its id. `old` and `new` are the value of
-- the handle and the written id
abbrev pub AddsText : (Says : Type 0 → (Failure → Type 0) → Type 0 → Type 0) → Texts → List ℕ
    → (old new : Option Held × ℕ) → Type 0
AddsText Says to text old new = Says (Adds to text new.1 old.0 new.0)
    (OrNoText true text (AddsNot to text (builder_in old.0))) ((new.0 ≡ old.0) × (new.1 ≡ old.1))

-- the builder with the first `n` tokens added
abbrev pub with_tokens : BuilderValue → List MapToken → ℕ → BuilderValue
with_tokens b tokens n = record b { tokens = b.tokens ++ map raw_token (take n tokens) }

-- The outcome of adding `count` tokens. With a builder, success means that all tokens were added. The only error is out
-- of memory; after this error fewer tokens were added. Without a builder, no token was added, and the error is
-- `WrongKind`.
abbrev pub AreAdded : Option BuilderValue → (count added : ℕ) → Result (Unit {0}) Failure → Type 0
AreAdded (Some _) count added outcome =
    MatchResult outcome (λ _. added ≡ count) (λ failure. (failure ≡ Library OutOfMemory) × (added < count))
AreAdded None count added outcome = (added ≡ 0) × (outcome ≡ Err WrongKind)

-- The error report after adding `count` tokens. With a builder, either all tokens were added and the report is
-- unchanged, or fewer were added and the report describes `OutOfMemory`. Without a builder, no token was added, and the
-- report describes `WrongKind` or `OutOfMemory` (`Reports`).
abbrev pub AddsAll : Option BuilderValue → (count added : ℕ) → (old new : ErrorReport) → Type 0
AddsAll (Some _) count added old new =
    ((added ≡ count) × (new ≡ old)) ⊎ ((added < count) × ((code : ℕ) × Reports (Library OutOfMemory) code old new))
AddsAll None count added old new = (added ≡ 0) × ((code : ℕ) × Reports WrongKind code old new)
