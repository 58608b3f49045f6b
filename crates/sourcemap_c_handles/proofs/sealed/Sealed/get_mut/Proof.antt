-- `get_mut` borrows the value in the seal. When the borrow ends, the seal holds the last value of the borrow.
use mathlib.Core.Path.{◌≡◌, refl}
use Prim.Native.Nat.{ℕ}
use mathlib.Core.List.{List, [], ◌∷◌}
use seplogic.Ra.Ura.{Ura}
use base.Fraction.{full_share}
use base.Logic.{SProp, ent, sep, id⊢}
use base.Fml.{Lft, GName, Share, Fml, ftrue, flft, fsep}
use mir.Raw.{raw as bare}
use mir.Syntax.{named}
use mir.Val.{Val, vptr}
use prog.Memory.{Memory}
use prog.Routine.{Routine}
use prog.Wp.{Env, Calls, Loops, WpFn, Tables}
use contract.Monad.{Fun, fact}
use contract.Running.{tables, tables_of}
use sound.WpLaws.{WpFn-mono}
use types.Logic.{Logic, sem}
use types.Kit.{‵, raw, ◌⊛◌, some, later, at_ret, ◌$◌, ◌∵◌, !, qed, by, move, keep, drop, use1, split, join, pick, rewrite, fsplit, fsplit3, fjoin, suffices, frame, done, await, group, fpack}
use types.Part.{whole, sub, look_in}
use types.Run.{stop, fld, load, of_opd, first, blocks, exec, returns, enter, addr}
use types.ByLocal.{alloc_all, pass_all, free_all, look_at, get, through, sets, env, sets_last}
use denote.Exit.{no}
use denote.Follow.{follows, Part, lends_Part}
use denote.Memory.{part_at, mem, cell_at, part_of}
use denote.RattleType.{RattleType, owns}
use denote.RawPtr.{Ptr, block_ptr}
use denote.Ref.{MutRef, mut_vals, mut_Tells}
use denote.Signature.{plain, mut_ref_to}
use denote.Steps.{opens, heard, nothing}
use denote.Triple.Entry.{on_entry}
use denote.Triple.Spec.{Meets, triple_of}
use denote.Triple.Statement.{Contract}
use denote.Triple.Table.{entered}
use denote.Triple.Walked.{says, Stays, stay_dropped, walk_of, ends_at, walked, walk_Meets, Goes-spent_ref}
use Rattle.core.proofs.alloc.Calls.{token}
use Rattle.std.specs.Global.{Global}
use Rattle.std.specs.Prelude.{Option, Some, None, IsTrue, is_some, true, false}
use Rattle.std_alloc.proofs.BoxSteps.Form.{B, D, τ, word, handle}
use Rattle.std_alloc.proofs.BoxSteps.Steps.{box_out, box_in}
use Rattle.sourcemap_c_handles.proofs.AsBox.{E}
use Rattle.sourcemap_c_handles.specs.Lending.{with_content}
use Rattle.sourcemap_c_handles.specs.contracts.held.Held as Held
use Rattle.sourcemap_c_handles.specs.contracts.sealed.Sealed as Sealed
use Rattle.sourcemap_c_handles.specs.contracts.sealed.Sealed.get_mut as F
use Rattle.sourcemap_c_handles.specs.contracts.sealed.Sealed.get_mut.Key.{name as #self}
use Rattle.sourcemap_c_handles.proofs.sealed.Sealed.get_mut.Statement as stated
use Rattle.sourcemap_c_handles.proofs.sealed.Sealed.get_mut.Code as code

abbrev S : RattleType
S = Sealed.the_row

abbrev R : RattleType
R = Held.the_row

abbrev stayed : Stays (F.ended).signature.params (F.ended).kept
stayed = (stay_dropped (mut_ref_to (0 ∷ []) tt (plain (λ _. S))) no, tt)

module _ {M : Type 1} {𝓤 : Ura M} (𝓛 : Logic 𝓤) (at_mem : Memory → SProp 𝓤) (run : Routine → Fun 𝓤) (κ : Lft) (q : Share) (rb ro : ℕ) (γ : GName) (p : Ptr) (a : Global) where
  open 𝓛 use {H, A}

  abbrev W : Contract 𝓤
  W = walk_of 𝓛 F.ended stayed (F.clauses 𝓛 at_mem run)

  abbrev seal : Option R.Denot → S.Denot
  seal content = record { at = p; alloc = a; content = content }

  abbrev bound : Option R.Denot → W.Ghost
  bound content = (((κ, tt), (q, tt), tt, (record { ref_ptr = (rb, ro); ghost_name = γ; now = seal content }, tt), (vptr rb ro ∷ [], tt)), tt)

  abbrev full : R.Denot → S.Denot
  full x = seal (Some x)

  module _ (x : R.Denot) (b o : ℕ) (hv : Val) where
    -- the seal without its value
    abbrev Rest : Fml
    Rest = fsep (fsep (token E.al a (bare (τ E)) (block_ptr b o)) (handle E a hv)) (cell_at full_share S.mir (word E hv b o ∷ []) rb ro)

    back : p ≡ block_ptr b o → (w : R.Denot) → ent 𝓤 (sep 𝓤 (sem 𝓛 ((mem R).own_at w b o)) (sem 𝓛 Rest)) (sem 𝓛 ((mem S).own_at (with_content (full x) w) rb ro))
    unfolding part_of
    back at_b w =
        let d : D E = record { ptr = p; alloc = a; value = w } in
        qed 𝓛 (‵ (part_at R full_share w b o) ∷ ‵ Rest ∷ []) ∵ move ! (1 ∷ []) $ fsplit ! $ fsplit ! $ move ! (3 ∷ []) $
        box_in E ! d b o w at_b refl $ use1 𝓛 (‵ (S.own_val (with_content (full x) w) (word E hv b o ∷ []))) (id⊢ 𝓤 _) $ move ! (1 ∷ 0 ∷ []) $ fjoin ! $
        fpack ! (List Val) (λ us. fsep (cell_at full_share S.mir us rb ro) (S.own_val (with_content (full x) w) us)) (word E hv b o ∷ []) $ done !

    exits : (γ' : GName)
        → ent 𝓤 (sep 𝓤 (sem 𝓛 ((MutRef (named 0) κ R).own_val (record { ref_ptr = (b, o); ghost_name = γ'; now = x }) (vptr b o ∷ []))) (sep 𝓤 (A.lft κ q) (sem 𝓛 (follows S R γ γ' (with_content (full x)))))) (W.post (bound (Some x)) (vptr b o))
    exits γ' =
        qed 𝓛 (‵ ((MutRef (named 0) κ R).own_val (record { ref_ptr = (b, o); ghost_name = γ'; now = x }) (vptr b o ∷ [])) ∷ ‵ (flft κ q) ∷ ‵ (follows S R γ γ' (with_content (full x))) ∷ []) ∵
        suffices ! _ (ends_at 𝓛 F.ended stayed (F.clauses 𝓛 at_mem run) (bound (Some x)) (vptr b o) (record { ref_ptr = (b, o); ghost_name = γ'; now = x }) (tt, tt) (tt, tt)) $
        nothing ! $ nothing ! $ fjoin ! $ join ! $ nothing ! $ move ! (2 ∷ 0 ∷ []) $ join ! $ join ! $ frame ! $ says ! refl $ done !

  module _ (C : Calls 𝓤 H) (Λ : Loops 𝓤 H) where
    walk : (content : Option R.Denot) → ent 𝓤 (sep 𝓤 (on_entry 𝓛 F.signature (κ, tt) (q, tt) (bound content).0.3 (vptr rb ro ∷ [], tt)) (fact 𝓤 (IsTrue (is_some content)))) (WpFn 𝓤 H C Λ code.function (vptr rb ro ∷ []) (W.post (bound content)))
    walk None = qed 𝓛 (raw (on_entry 𝓛 F.signature (κ, tt) (q, tt) (bound None).0.3 (vptr rb ro ∷ [], tt)) ∷ raw (fact 𝓤 (IsTrue false)) ∷ []) ∵ move ! (1 ∷ []) $ heard ! (IsTrue false) (λ no. absurd (let no = no in cc))
    walk (Some x) =
        let Post = W.post (bound (Some x)) in
        let d : D E = record { ptr = p; alloc = a; value = x } in
        qed 𝓛 (((‵ (flft κ q) ⊛ ‵ ftrue) ⊛ ‵ (owns (MutRef (named 0) κ S ∷ []) (bound (Some x)).0.3 (vptr rb ro ∷ [], tt))) ∷ raw (fact 𝓤 (IsTrue true)) ∷ []) ∵
        keep ! (0 ∷ []) $ split ! $ enter ! C Λ code.function (vptr rb ro ∷ []) _ $
        alloc_all ! (λ l. pass_all ! refl ((tt, tt), tt) $
        let En : Env 𝓤 H = env code.function.locals l in
        move ! (1 ∷ []) $ fsplit ! $ fsplit3 ! $ drop ! $ move ! (3 ∷ []) $ split ! $ move ! (2 ∷ 3 ∷ 0 ∷ []) $
        opens ! tt S {h = full x} rb ro (λ vs. move ! (1 ∷ []) $ use1 𝓛 (‵ ((B E).own_val d vs)) (id⊢ 𝓤 _) $
        box_out E ! d vs (λ b o hv at_b ws fa. move ! (1 ∷ 2 ∷ []) $ fjoin ! $ move ! (1 ∷ []) $
        rewrite ! 2 (λ (us : List Val). ‵ (cell_at full_share S.mir us rb ro)) ws refl $
        first ! $ blocks ! $
        sets ! (of_opd ! (load ! (through ! refl (fld ! refl (stop !))) (look_in ! 2 (sub ! 0 refl (whole !))))) refl (tt, tt) $
        sets ! (of_opd ! (get ! refl)) refl (tt, tt) $
        sets_last ! (addr ! (through ! refl (stop !))) refl (tt, tt) $
        exec ! C Λ En code.Mir.t-2 (at_ret En Post) $
        sets ! (of_opd ! (get ! refl)) refl (tt, tt) $
        move ! (1 ∷ 2 ∷ []) $ fjoin ! $ move ! (2 ∷ 3 ∷ 4 ∷ 1 ∷ 0 ∷ []) $ group ! 5 $
        use1 𝓛 (later (some (λ (γ' : GName). raw (Part 𝓛 S R (with_content (full x)) (named 0) κ q rb ro b o γ (sem 𝓛 (Rest x b o hv)) (back x b o hv at_b) x γ'))))
        (lends_Part 𝓛 S R (with_content (full x)) (named 0) κ q rb ro b o γ (sem 𝓛 (Rest x b o hv)) (back x b o hv at_b) (S.coded.code (full x)) (S.coded.code (full x)) x) $ await ! tt $ pick ! (λ γ'.
        returns ! (look_at ! 0 refl) $ free_all ! refl $
        keep ! (0 ∷ []) $ by ! (exits x b o hv γ')))))

pub get_mut_spec : {M : Type 1} → stated.statement M
unfolding tables_of
get_mut_spec 𝓤 𝓛 𝓜 𝓡 wired =
    let 𝓣 : Tables 𝓤 𝓛.H = tables_of 𝓤 𝓛.H 𝓜 (tables 𝓤 𝓛.H 𝓜 𝓡 𝓡.env) in
    let c = F.clauses 𝓛 𝓜.mem 𝓡.returns in
    let meets : Meets 𝓛 F.signature (WpFn 𝓤 𝓛.H 𝓣.C 𝓣.Λ code.function) (F.spec 𝓛 𝓜.mem 𝓡.returns) =
    walk_Meets 𝓛 F.ended stayed (Goes-spent_ref 𝓛 1 (0 ∷ []) tt (plain (λ _. S)), tt) c (WpFn 𝓤 𝓛.H 𝓣.C 𝓣.Λ code.function) (WpFn-mono 𝓤 𝓛.H 𝓛.laws 𝓣 code.function)
    (walked 𝓛 F.ended stayed c (WpFn 𝓤 𝓛.H 𝓣.C 𝓣.Λ code.function) (λ κs. (mut_vals, tt)) (λ κs. (mut_Tells (named 0) κs.0 S, tt))
    (λ κs qs bounds a g are. walk 𝓛 𝓜.mem 𝓡.returns κs.0 qs.0 a.0.ref_ptr.0 a.0.ref_ptr.1 a.0.ghost_name a.0.now.at a.0.now.alloc 𝓣.C 𝓣.Λ a.0.now.content)) in
    entered 𝓤 𝓛.H (triple_of 𝓛 F.signature (F.spec 𝓛 𝓜.mem 𝓡.returns)) 𝓣.C 𝓣.Λ #self code.function (code.unfolded 𝓤 𝓛.H 𝓜 𝓡 wired) meets
