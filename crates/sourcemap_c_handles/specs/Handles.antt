-- The value of a handle. `EndsAsBefore` says that a borrow of the handle leaves this value unchanged.
use Rattle.std.specs.Prelude.{◌≡◌, Option, ⊤}
use Rattle.std.specs.Borrow.{Fml, MutBor, follows_so}
use mathlib.Core.Option.{none}
use Rattle.sourcemap_c_handles.specs.contracts.handle.Handle.{the_row}
use Rattle.sourcemap_c_handles.specs.declared.handle.Handle.{Handle}
use Rattle.sourcemap_c_handles.specs.declared.held.Held.{Held}

abbrev pub held_in : Handle → Option Held
held_in handle = handle.sealed.content

-- when the borrow `handle` ends, the borrowed handle holds what `handle.now` holds
abbrev pub EndsAsBefore : MutBor Handle → Fml
EndsAsBefore handle = follows_so the_row the_row handle.ghost_name none (λ _ _. ⊤) (λ n. held_in n ≡ held_in handle.now)
