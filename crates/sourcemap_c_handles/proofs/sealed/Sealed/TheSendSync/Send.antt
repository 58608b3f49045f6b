-- `Sealed` is `Send`, since `Held` is.
use mir.Raw.{raw}
use base.Shift.{Keyless}
use denote.Memory.{lone}
use denote.RawPtr.{Ptr}
use denote.Struct.Struct.{exits_of}
use denote.Struct.Owning.{shape, fields, to}
use denote.Param.Send.{IsSend, AllSend, owning_send, struct_send, sendable}
use Rattle.std.proofs.Crossing as heap
use Rattle.std.specs.Global.{Global}
use Rattle.std.specs.Prelude.{Option, None, Some}
use Rattle.std_alloc.proofs.SendSync.{quiet, lies}
use Rattle.std_heap.proofs.Global.TheSendSync as handle
use Rattle.sourcemap_c_handles.specs.Seal.{sealed_owns}
use Rattle.sourcemap_c_handles.specs.contracts.held.Held as Held
use Rattle.sourcemap_c_handles.proofs.HeldSend.{held_send as held}
use Rattle.sourcemap_c_handles.specs.contracts.sealed.Sealed.{the_row, the_type}

goes : (alloc : Global) (at : Ptr) (content : Option Held.the_row.Denot) → Keyless (sealed_owns alloc at content)
goes alloc at None = tt
goes alloc at (Some x) = (lies Held.the_row held at x, heap.frees.frees alloc (raw (lone Held.the_row.mir)) at)

pub send : IsSend the_row
send =
    let all : AllSend (fields the_type) = (search sendable, (handle.the_field_send, tt)) in
    owning_send the_type all (λ d. goes d.alloc d.at d.content)
    (λ k. quiet (to the_type) (exits_of k (fields the_type)) ((struct_send (shape the_type) all).leaving k))
