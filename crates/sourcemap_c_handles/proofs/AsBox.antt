-- A `Sealed` with a value owns what a `Box<Held>` owns. A `Parts<Held, Global>` owns the same.
use mir.Syntax.{impl, tnil, dnil}
use mathlib.Core.List.{[]}
use denote.Signature.{Slot, plain}
use Rattle.std_alloc.proofs.BoxSteps.Form.{Bx}
use Rattle.std_heap.specs.contracts.Global as Heap
use Rattle.std_heap.specs.contracts.GlobalAllocator.TheImpl.{ghosts, dict}
use Rattle.std_heap.proofs.Global.TheLaws as heap
use Rattle.sourcemap_c_handles.specs.contracts.held.Held as Held
use Rattle.sourcemap_c_handles.proofs.held.Held.TheLaws as held
use Rattle.sourcemap_c_handles.specs.contracts.sealed.parts.Parts as Parts
use Rattle.sourcemap_c_handles.specs.contracts.sealed.Sealed as Sealed

abbrev pub E : Bx
E = record { row = Held.the_row; laws = held.the_row_laws; al = record { row = Heap.the_row; laws = heap.the_row_laws; g = ghosts; d = dict; drops = impl [] tnil dnil } }

abbrev pub FromParts : Slot 0
FromParts = plain (λ _. Parts.the_row Held.the_row Heap.the_row ghosts)

abbrev pub FromSeal : Slot 0
FromSeal = plain (λ _. Sealed.the_row)
