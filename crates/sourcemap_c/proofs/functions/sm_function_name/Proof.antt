-- `sm_function_name` passes the handle to `map_in`, and the result to `put_name_in`.
use Rattle.sourcemap_c.proofs.Steps.{◌≡◌, List, [], ◌∷◌, refl, proved, id⊢, ftrue, flft, named, fact, tables, ‵, raw, ◌⊛◌, ◌$◌, ◌∵◌, !, qed, move, keep, use2, split, join, rewrite, suffices, frame, group, enter, addr, stop, no_more, and_then, returns, alloc_all, pass_all, free_all, look_at, get, through, sets, lands_as, u8, MutRef, mut_vals, mut_Tells, uint_vals, uint_Tells, plain, nothing, Stays, stay_dropped, Goes-dropped, ends_at, framed, done}
use mir.Syntax.{w32}
use base.Logic.{sep}
use contract.Lifetimes.{toks}
use denote.Builtin.{u32}
use denote.Exit.{yes, no}
use denote.RattleType.{Valss, owns}
use denote.Signature.{mut_ref_to, types_at}
use denote.Slice.{shr_slice_vals, shr_slice_Tells}
use denote.Triple.Walked.{gave_ref, Goes-gave_ref, Goes-spent_ref}
use denote.Signature.{shr_slice_of, Slot}
use Rattle.std.specs.Prelude.{Option}
use Rattle.sourcemap_index_model.specs.MapTree.{MapTree}
use Rattle.sourcemap_c_handles.specs.Handles.{held_in}
use Rattle.sourcemap_c_handles.specs.contracts.handle.Handle.{the_row as S}
use Rattle.sourcemap_c.specs.Functions.{NamesIn}
use Rattle.sourcemap_c.specs.Kinds.{view_in}
use Rattle.sourcemap_c.proofs.Lending.{maps, asks, answers, Answers}
use Rattle.sourcemap_c.specs.contracts.functions.sm_function_name as f
use Rattle.sourcemap_c.proofs.functions.sm_function_name.Statement.{statement}
use Rattle.sourcemap_c.proofs.functions.sm_function_name.Code as code
use Rattle.sourcemap_c.proofs.kinds.map_in.Met as getter
use Rattle.sourcemap_c.specs.contracts.functions.put_name_in as h
use Rattle.sourcemap_c.proofs.functions.put_name_in.Met as put

abbrev text_slot : Slot 4
text_slot = shr_slice_of (0 ∷ []) tt (plain (λ _. u8))

abbrev rest : List (Slot 4)
rest = plain (λ _. u32) ∷ plain (λ _. u32) ∷ shr_slice_of (1 ∷ []) tt (plain (λ _. u8)) ∷ mut_ref_to (2 ∷ []) tt (plain (λ _. S)) ∷ mut_ref_to (3 ∷ []) tt text_slot ∷ []

abbrev stayed : Stays f.ended.signature.params f.ended.kept
stayed = (
  stay_dropped (mut_ref_to (0 ∷ []) tt (plain (λ _. S))) no,
  (
    stay_dropped (plain (λ _. u32)) yes,
    (
      stay_dropped (plain (λ _. u32)) yes,
      (stay_dropped (shr_slice_of (1 ∷ []) tt (plain (λ _. u8))) yes, (gave_ref (2 ∷ []) tt (plain (λ _. S)), (gave_ref (3 ∷ []) tt text_slot, tt))),
    ),
  ),
)

pub sm_function_name_spec : {M : Type 1} → statement M
sm_function_name_spec 𝓤 𝓛 𝓜 𝓡 wired =
    let c = f.clauses 𝓛 𝓜.mem 𝓡.returns in let fm = framed 𝓤 𝓛.H 𝓜 (tables 𝓤 𝓛.H 𝓜 𝓡 𝓡.env) in
    let number = Goes-dropped 𝓛 4 (plain (λ _. u32)) yes (λ κs x w. refl) in
    proved 𝓛 f.ended stayed c 𝓜 𝓡
    (Goes-spent_ref 𝓛 4 (0 ∷ []) tt (plain (λ _. S)), (number, (number, (Goes-dropped 𝓛 4 (shr_slice_of (1 ∷ []) tt (plain (λ _. u8))) yes (λ κs x w. refl), (Goes-gave_ref 𝓛 4 2 tt (plain (λ _. S)), (Goes-gave_ref 𝓛 4 3 tt text_slot, tt))))))
    f.Key.name code.function (code.unfolded 𝓤 𝓛.H 𝓜 𝓡 wired)
    (λ κs. (mut_vals, (uint_vals w32, (uint_vals w32, (shr_slice_vals, (mut_vals, (mut_vals, tt)))))))
    (λ κs. (mut_Tells (named 0) κs.0 S, (uint_Tells w32, (uint_Tells w32, (shr_slice_Tells (named 1) κs.1.0 u8, (mut_Tells (named 2) κs.1.1.0 S, (mut_Tells (named 3) κs.1.1.1.0 (text_slot.row κs), tt)))))))
    (λ κs qs bounds a _ are.
    let us : Valss (types_at rest κs) = (uint_vals w32 a.1.0, (uint_vals w32 a.1.1.0, (shr_slice_vals a.1.1.1.0, (mut_vals a.1.1.1.1.0, (mut_vals a.1.1.1.1.1.0, tt))))) in
    qed 𝓛 (((‵ (flft κs.0 qs.0) ⊛ raw (toks 𝓛 3 κs.1 qs.1)) ⊛ ‵ ((MutRef (named 0) κs.0 S).own_val a.0 (mut_vals a.0)) ⊛ ‵ (owns (types_at rest κs) a.1 us)) ∷ ‵ ftrue ∷ []) ∵
    split ! $ split ! $ move ! (2 ∷ []) $ split ! $ keep ! (0 ∷ 2 ∷ 1 ∷ 3 ∷ []) $
    enter ! _ _ _ _ _ $ alloc_all ! (λ l. pass_all ! refl ((tt, tt), ((tt, record { fits = are.1.0.1 }), ((tt, record { fits = are.1.1.0.1 }), ((tt, (tt, (record { fits = are.1.1.1.0.0.1.0 }, tt))), ((tt, tt), ((tt, tt), tt)))))) $
    sets ! (addr ! (through ! refl (stop !))) refl (tt, tt) $
    asks maps 𝓛 κs.0 qs.0 a.0 fm (getter.met 𝓤 𝓛 𝓜 𝓡 (code.calls-sourcemap_c::kinds::map_in 𝓡.env wired)) (and_then ! (get ! refl) (no_more !)) (λ v r is same.
    lands_as ! refl refl is.0 $ sets ! (addr ! (through ! refl (stop !))) refl (tt, tt) $ sets ! (addr ! (through ! refl (stop !))) refl (tt, tt) $
    -- [how the handle ends; what was found; the token of 'a; the other parameters; the other tokens]
    let H = Answers h.ended.signature.outlives h.ended.signature.params h.ended.kept 𝓛 (h.clauses 𝓛 𝓜.mem 𝓡.returns) in
    let x : H.Ghost = ((κs, qs, bounds, (r, a.1), (v ∷ [], us)), tt) in
    move ! (1 ∷ 3 ∷ []) $ join ! $ move ! (2 ∷ 3 ∷ []) $ join ! $ join ! $ nothing ! $ move ! (1 ∷ 0 ∷ []) $ use2 𝓛 (raw (H.pre x)) (id⊢ 𝓤 _) $
    answers h.ended.signature.outlives h.ended.signature.params h.ended.kept 𝓛 (h.clauses 𝓛 𝓜.mem 𝓡.returns) x fm (put.met 𝓤 𝓛 𝓜 𝓡 (code.calls-sourcemap_c::functions::put_name_in 𝓡.env wired))
    (and_then ! (get ! refl) (and_then ! (get ! refl) (and_then ! (get ! refl) (and_then ! (get ! refl) (and_then ! (get ! refl) (and_then ! (get ! refl) (no_more !))))))) (λ w n ws is'.
    lands_as ! refl refl is'.0 $ returns ! (look_at ! 0 refl) $ free_all ! refl $
    suffices ! _ (ends_at 𝓛 f.ended stayed c ((κs, qs, bounds, a, (mut_vals a.0, us)), tt) w n (tt, ws.1) (tt, (tt, (tt, (tt, (tt, (tt, tt))))))) $
    group ! 3 $ rewrite ! 1 (λ (o : Option MapTree). raw (sep 𝓤 (fact 𝓤 (NamesIn o (view_in (held_in a.1.1.1.1.0.now)) a.1.1.1.0.now (a.1.0, a.1.1.0) n a.1.1.1.1.1.0.now.now ws.1.1.1.1.1.0.now)) (fact 𝓤 (held_in ws.1.1.1.1.0 ≡ held_in a.1.1.1.1.0.now)))) same refl $
    frame ! $ move ! (1 ∷ 0 ∷ []) $ done !))))
