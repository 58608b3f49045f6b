-- `sm_bundle_module` passes the handle to `Handle::get`, and the result to `answer_module`.
use Rattle.sourcemap_c.proofs.Steps.{◌≡◌, List, [], ◌∷◌, refl, proved, id⊢, ftrue, flft, named, fact, tables, ‵, raw, ◌⊛◌, ◌$◌, ◌∵◌, !, qed, move, keep, use2, split, join, rewrite, suffices, frame, group, enter, addr, stop, no_more, and_then, returns, alloc_all, pass_all, free_all, look_at, get, through, sets, lands_as, u8, MutRef, mut_vals, mut_Tells, uint_vals, uint_Tells, plain, nothing, Stays, stay_dropped, Goes-dropped, ends_at, framed, done}
use mir.Syntax.{w64}
use contract.Lifetimes.{toks}
use denote.Exit.{yes, no}
use denote.RattleType.{Valss, owns}
use denote.Signature.{mut_ref_to, types_at}
use denote.Triple.Walked.{gave_ref, Goes-gave_ref, Goes-spent_ref}
use denote.Signature.{shr_slice_of, Slot}
use denote.Builtin.{usize}
use denote.Struct.Laws as struct
use denote.Struct.Loose.{loose_lawful}
use Rattle.std.specs.Prelude.{Option, Some, None, Ok, Err, option_map}
use Rattle.std.specs.contracts.alloc.Global as Global
use Rattle.std.proofs.alloc.Global.TheLaws as global
use Rattle.sourcemap_c.specs.Bundles.{bundle_in, module_bytes}
use Rattle.sourcemap_c.specs.Codes.{Answers, OfLibraryKindOrAbsent}
use Rattle.sourcemap_c_handles.specs.contracts.errors.ErrorReport.{the_row as R}
use Rattle.sourcemap_c_handles.specs.contracts.handle.Handle.{the_row as S}
use Rattle.sourcemap_c_handles.specs.declared.held.Held.{Held}
use Rattle.sourcemap_c_handles.proofs.handle.Handle.get.Met as getter
use Rattle.sourcemap_c.proofs.Lending.{handles, asks, answers, Answers as Callee}
use Rattle.sourcemap_c.specs.contracts.bundles.sm_bundle_module as f
use Rattle.sourcemap_c.proofs.bundles.sm_bundle_module.Statement.{statement}
use Rattle.sourcemap_c.proofs.bundles.sm_bundle_module.Code as code
use Rattle.sourcemap_c.specs.contracts.bundles.answer_module as h
use Rattle.sourcemap_c.proofs.bundles.answer_module.Met as put

abbrev text_slot : Slot 3
text_slot = shr_slice_of (0 ∷ []) tt (plain (λ _. u8))

abbrev rest : List (Slot 3)
rest = plain (λ _. usize) ∷ mut_ref_to (1 ∷ []) tt text_slot ∷ mut_ref_to (2 ∷ []) tt (plain (λ _. R)) ∷ []

abbrev stayed : Stays f.ended.signature.params f.ended.kept
stayed = (stay_dropped (plain (λ _. Global.the_row)) yes, (stay_dropped (mut_ref_to (0 ∷ []) tt (plain (λ _. S))) no, (stay_dropped (plain (λ _. usize)) yes, (gave_ref (1 ∷ []) tt text_slot, (gave_ref (2 ∷ []) tt (plain (λ _. R)), tt)))))

pub sm_bundle_module_spec : {M : Type 1} → statement M
sm_bundle_module_spec 𝓤 𝓛 𝓜 𝓡 wired =
    let c = f.clauses 𝓛 𝓜.mem 𝓡.returns in let fm = framed 𝓤 𝓛.H 𝓜 (tables 𝓤 𝓛.H 𝓜 𝓡 𝓡.env) in
    proved 𝓛 f.ended stayed c 𝓜 𝓡
    (Goes-dropped 𝓛 3 (plain (λ _. Global.the_row)) yes (λ κs x w. refl), (Goes-spent_ref 𝓛 3 (0 ∷ []) tt (plain (λ _. S)), (Goes-dropped 𝓛 3 (plain (λ _. usize)) yes (λ κs x w. refl), (Goes-gave_ref 𝓛 3 1 tt text_slot, (Goes-gave_ref 𝓛 3 2 tt (plain (λ _. R)), tt)))))
    f.Key.name code.function (code.unfolded 𝓤 𝓛.H 𝓜 𝓡 wired)
    (λ κs. ((λ x. struct.val Global.the_type global.the_laws x ∷ []), (mut_vals, (uint_vals w64, (mut_vals, (mut_vals, tt))))))
    (λ κs. (struct.tells Global.the_type global.the_laws, (mut_Tells (named 0) κs.0 S, (uint_Tells w64, (mut_Tells (named 1) κs.1.0 (text_slot.row κs), (mut_Tells (named 2) κs.1.1.0 R, tt))))))
    (λ κs qs bounds a _ are.
    let g = struct.val Global.the_type global.the_laws a.0 ∷ [] in
    let us : Valss (types_at rest κs) = (uint_vals w64 a.1.1.0, (mut_vals a.1.1.1.0, (mut_vals a.1.1.1.1.0, tt))) in
    qed 𝓛 (((‵ (flft κs.0 qs.0) ⊛ raw (toks 𝓛 2 κs.1 qs.1)) ⊛ ‵ (Global.the_row.own_val a.0 g) ⊛ ‵ ((MutRef (named 0) κs.0 S).own_val a.1.0 (mut_vals a.1.0)) ⊛ ‵ (owns (types_at rest κs) a.1.1 us)) ∷ ‵ ftrue ∷ []) ∵
    split ! $ split ! $ move ! (2 ∷ []) $ split ! $ move ! (1 ∷ []) $ split ! $ keep ! (0 ∷ 3 ∷ 2 ∷ 1 ∷ 4 ∷ []) $
    enter ! _ _ _ _ _ $ alloc_all ! (λ l. pass_all ! refl (((loose_lawful Global.the_type global.the_loose 𝓛).typed a.0 g are.0).0, ((tt, tt), ((tt, record { fits = are.1.1.0.1 }), ((tt, tt), ((tt, tt), tt))))) $
    sets ! (addr ! (through ! refl (stop !))) refl (tt, tt) $
    asks handles 𝓛 κs.0 qs.0 a.1.0 fm (getter.met 𝓤 𝓛 𝓜 𝓡 (code.calls-sourcemap_c_handles::handle::Handle::get 𝓡.env wired)) (and_then ! (get ! refl) (no_more !)) (λ v r is same.
    lands_as ! refl refl is.0 $ sets ! (addr ! (through ! refl (stop !))) refl (tt, tt) $ sets ! (addr ! (through ! refl (stop !))) refl (tt, tt) $
    -- [how the handle ends; what was found; the token of 'a; the allocator; the other parameters; the other tokens]
    let H = Callee h.ended.signature.outlives h.ended.signature.params h.ended.kept 𝓛 (h.clauses 𝓛 𝓜.mem 𝓡.returns) in
    let x : H.Ghost = ((κs, qs, bounds, (a.0, (r, a.1.1)), (g, (v ∷ [], us))), tt) in
    move ! (1 ∷ 4 ∷ []) $ join ! $ move ! (3 ∷ 0 ∷ []) $ join ! $ move ! (2 ∷ 3 ∷ []) $ join ! $ join ! $ nothing ! $ move ! (1 ∷ 0 ∷ []) $ use2 𝓛 (raw (H.pre x)) (id⊢ 𝓤 _) $
    answers h.ended.signature.outlives h.ended.signature.params h.ended.kept 𝓛 (h.clauses 𝓛 𝓜.mem 𝓡.returns) x fm (put.met 𝓤 𝓛 𝓜 𝓡 (code.calls-sourcemap_c::bundles::answer_module 𝓡.env wired))
    (and_then ! (get ! refl) (and_then ! (get ! refl) (and_then ! (get ! refl) (and_then ! (get ! refl) (and_then ! (get ! refl) (no_more !)))))) (λ w n ws is'.
    lands_as ! refl refl is'.0 $ returns ! (look_at ! 0 refl) $ free_all ! refl $
    suffices ! _ (ends_at 𝓛 f.ended stayed c ((κs, qs, bounds, a, (g, (mut_vals a.1.0, us))), tt) w n (tt, (tt, ws.1.1)) (tt, (tt, (tt, (tt, (tt, tt)))))) $
    group ! 3 $ rewrite ! 1 (λ (o : Option Held). raw (fact 𝓤 (Answers n a.1.1.1.1.0.now ws.1.1.1.1.0 (option_map (λ b. module_bytes b a.1.1.0) (bundle_in o) ≡ Some (Ok (Some ws.1.1.1.0.now))) (OfLibraryKindOrAbsent (λ e. option_map (λ b. module_bytes b a.1.1.0) (bundle_in o) ≡ Some (Err e)) (bundle_in o ≡ None) (option_map (λ b. module_bytes b a.1.1.0) (bundle_in o) ≡ Some (Ok None))) (ws.1.1.1.0.now ≡ a.1.1.1.0.now.now)))) same refl $ frame ! $ move ! (1 ∷ 0 ∷ []) $ done !))))
