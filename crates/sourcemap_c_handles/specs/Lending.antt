-- The content of a `Sealed` when a borrow of this content ends.
use Rattle.std.specs.Prelude.{Some}
use Rattle.std.specs.Borrow.{Fml, Lends, MutBor}
use Rattle.sourcemap_c_handles.specs.contracts.held.Held.{the_row as held_row}
use Rattle.sourcemap_c_handles.specs.contracts.sealed.Sealed.{the_row}
use Rattle.sourcemap_c_handles.specs.declared.held.Held.{Held}
use Rattle.sourcemap_c_handles.specs.declared.sealed.Sealed.{Sealed}

abbrev pub with_content : Sealed → Held → Sealed
with_content sealed held = record sealed { content = Some held }

-- when the borrow `held` ends, the content of `sealed` becomes the last value of `held`
abbrev pub BorrowsContent : MutBor Sealed → MutBor Held → Fml
BorrowsContent sealed held = Lends the_row held_row sealed held (with_content sealed.now)
