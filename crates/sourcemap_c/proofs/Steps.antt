-- This file re-exports the parts of the program logic that the proofs of this crate use to step through code.
pub use Rattle.std.proofs.Common.{◌≡◌, ℕ, List, [], ◌∷◌, refl, w8, MutBor}
pub use Rattle.std.proofs.raw_atomic.Walks.{proved}
pub use base.Logic.{id⊢}
pub use base.Fml.{ftrue, flft}
pub use mir.Syntax.{named}
pub use contract.Monad.{fact}
pub use contract.Running.{tables}
pub use types.Kit.{‵, raw, ◌⊛◌, some, later, ◌$◌, ◌∵◌, !, qed, done, move, keep, drop, use1, use2, split, join, fsplit, pick, await, rewrite, suffices, frame, group}
pub use types.Run.{enter, addr, stop, no_more, and_then, returns}
pub use types.ByLocal.{alloc_all, pass_all, free_all, look_at, get, through, sets, lands_as}
pub use denote.Builtin.{u8}
pub use denote.Laws.{shows}
pub use denote.Plain.{uint_vals, uint_Tells}
pub use denote.Ref.{MutRef, mut_vals, mut_Tells}
pub use denote.Signature.{plain}
pub use denote.Steps.{nothing, heard, peeks}
pub use denote.Triple.Call.{calls_at}
pub use denote.Triple.Clauses.{lasts}
pub use denote.Triple.Spec.{triple_of}
pub use denote.Triple.Walked.{Stays, walk_of, says, stay_dropped, Goes-dropped, ends_at}
pub use denote.Triple.Table.{framed}
