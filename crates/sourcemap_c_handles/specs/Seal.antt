-- A full `Sealed` owns what a `Box<Held>` owns, and an empty one owns nothing.
use base.Fml.{Fml, ftrue}
use base.Stored.{Coded}
use denote.RawPtr.{Ptr}
use Rattle.std.specs.Prelude.{Option, None, Some}
use Rattle.std.specs.Box.Ownership.{box_owns}
use Rattle.std.specs.Coded.{coded_option}
use Rattle.std.specs.Global.{Global}
use Rattle.std_heap.specs.contracts.GlobalAllocator.TheImpl.{ghosts}
use Rattle.sourcemap_c_handles.specs.contracts.held.Held.{the_row}

abbrev pub sealed_owns : Global → Ptr → Option the_row.Denot → Fml
sealed_owns alloc p None = ftrue
sealed_owns alloc p (Some v) = box_owns (ghosts.dealloc_token alloc) the_row p v

abbrev pub content_coded : Coded (Option the_row.Denot)
content_coded = coded_option the_row.coded
