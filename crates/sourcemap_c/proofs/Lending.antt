-- Calls that borrow a value from a handle and write a text of the value to an out parameter. Such a call passes the
-- handle to a getter, which returns a reference or none. The call then passes this result, some numbers and the out
-- parameter to a second function. That function takes no handle, so the handle ends as the getter's contract says.
use Rattle.sourcemap_c.proofs.Steps.{◌≡◌, ℕ, List, [], ◌∷◌, refl, MutBor, proved, id⊢, ftrue, flft, named, fact, tables, ‵, raw, ◌⊛◌, some, later, ◌$◌, ◌∵◌, !, qed, move, keep, drop, use1, use2, split, join, pick, await, suffices, frame, group, enter, addr, stop, no_more, and_then, returns, alloc_all, pass_all, free_all, look_at, get, through, sets, lands_as, u8, MutRef, mut_vals, mut_Tells, uint_vals, uint_Tells, plain, nothing, heard, fsplit, calls_at, lasts, triple_of, Stays, walk_of, stay_dropped, Goes-dropped, says, ends_at, framed, peeks, shows, done, w8}
use Prim.Native.Nat.{zero, suc, ◌+◌}
use mathlib.Core.Path.{subst}
use seplogic.Ra.Ura.{Ura}
use lib.Dec.{T}
use mir.Syntax.{w32, w64, Lifetime, Ty, ty_int, ty_ref, ty_struct, tcons, tnil, mut, imm, erased, Fn, Callee, Body, Local, Opd as Operand, Place, seq, assign, call, return, place, copy, deref, addr_of, local, value_local}
use mir.Val.{Val, WT, has_ty}
use base.Logic.{ent, sep, emp, mono_r}
use base.Fml.{Lft, Share}
use prog.Model.{Model}
use prog.Wp.{WpFn, Closed, Env, Calls, Loops}
use sound.WpLaws.{FmC}
use types.Logic.{Logic, sem}
use types.Kit.{Go, Item, Seq, Post, prop, runs, lands}
use types.Run.{Opds}
use contract.Lifetimes.{Lfts, Shares, AllOutlive, Outlives}
use contract.Running.{Running, MachineTables}
use denote.Bor.{Bor}
use denote.Builtin.{u32, One, RefOf, RefMutOf, SliceRefOf}
use denote.Enum.Declared.{Declared, row}
use denote.Enum.Loose.{loose_lawful}
use denote.Exit.{yes, no}
use denote.Laws.{Are, Lawful, Typed, Spells, valss, Tellss, Ises}
use denote.Plain.{uint_Lawful}
use denote.RattleType.{RattleType, Denots, Valss, owns}
use denote.Ref.{NamedLft}
use denote.Signature.{Slot, mut_ref_to, shr_slice_of, type_at, types_at}
use denote.Struct.Field.{shr_ref_field}
use denote.Struct.Laws.{shr_ref_laws}
use denote.Struct.Loose.{loosen}
use denote.Triple.Clauses.{Ended, Clauses, Lasts, at_exit, closing}
use denote.Triple.End.{Kepts, Fins, Outs, all, lasts_of, outs}
use denote.Triple.Entry.{Args, alive}
use denote.Triple.Spec.{Meets}
use denote.Triple.Statement.{Contract, Triple}
use denote.Triple.Walked.{AllGo, fits_of, has_of, gave_ref, Goes-gave_ref, Goes-spent_ref}
use Rattle.std.specs.contracts.option.Option as option
use Rattle.std.specs.Prelude.{Option, option_copied}
use Rattle.sourcemap_index.specs.contracts.family.DecodedMap as family
use Rattle.sourcemap_index_model.specs.MapTree.{MapTree}
use Rattle.sourcemap_source_views.specs.contracts.sourceview.SourceView as sourceview
use Rattle.sourcemap_c_handles.specs.contracts.report.CheckReport as report_type
use Rattle.sourcemap_c_handles.specs.declared.report.CheckReport.{CheckReport}
use Rattle.sourcemap_c_handles.specs.Handles.{EndsAsBefore, held_in}
use Rattle.sourcemap_c_handles.specs.contracts.handle.Handle.{the_row as S}
use Rattle.sourcemap_c_handles.specs.contracts.held.Held as held_type
use Rattle.sourcemap_c_handles.specs.declared.handle.Handle.{Handle}
use Rattle.sourcemap_c_handles.specs.declared.held.Held.{Held}
use Rattle.sourcemap_c.specs.Kinds.{report_in, tree_in, tree_of, view_in}

-- A getter takes a handle and returns an optional reference to an `Item`. The contract of the getter says that `seen`
-- of the result equals `held` of the handle.
pub record Getter : Type 2 where
  pub Item : RattleType
  pub one : One Item.mir
  pub Seen : Type 0
  pub seen : Option (Bor Item.Denot) → Seen
  pub held : Handle → Seen

-- `map_in`, `view_in`, `report_in` and `Handle::get`
abbrev pub maps : Getter
maps = record { Item = family.the_row; one = tt; Seen = Option MapTree; seen = tree_of; held = λ h. tree_in (held_in h) }

abbrev pub views : Getter
views = record { Item = sourceview.the_row; one = tt; Seen = Option (List ℕ); seen = option_copied; held = λ h. view_in (held_in h) }

abbrev pub reports : Getter
reports = record { Item = report_type.the_row; one = tt; Seen = Option CheckReport; seen = option_copied; held = λ h. report_in (held_in h) }

abbrev pub handles : Getter
handles = record { Item = held_type.the_row; one = tt; Seen = Option Held; seen = option_copied; held = held_in }

-- ---- the parameters after the first: n numbers and the out parameter
abbrev pub text_slot : Slot 2
text_slot = shr_slice_of (0 ∷ []) tt (plain (λ _. u8))

abbrev rest : ℕ → List (Slot 2)
rest zero = RefMutOf (1 ∷ []) tt (SliceRefOf (0 ∷ []) tt (plain (λ _. u8)) (λ _. tt)) (λ _. tt) ∷ []
rest (suc n) = plain (λ _. u32) ∷ rest n

abbrev pub Numbers : ℕ → Type 0
Numbers zero = Unit {0}
Numbers (suc n) = ℕ × Numbers n

module _ (κs : Lfts 2) where
  abbrev numbers : (n : ℕ) → Denots (types_at (rest n) κs) → Numbers n
  numbers zero a = tt
  numbers (suc n) a = (a.0, numbers n a.1)

  abbrev old_text : (n : ℕ) → Denots (types_at (rest n) κs) → List ℕ
  old_text zero a = a.0.now.now
  old_text (suc n) a = old_text n a.1

  abbrev new_text : (n : ℕ) → Outs κs (rest n) (all yes (rest n)) → List ℕ
  new_text zero e = e.0.now.now
  new_text (suc n) e = new_text n e.1

  abbrev spells : (n : ℕ) → Spells (types_at (rest n) κs)
  spells zero = (mut_vals, tt)
  spells (suc n) = (uint_vals w32, spells n)

  tells : (n : ℕ) → Tellss (types_at (rest n) κs) (Ises (types_at (rest n) κs)) (spells n)
  tells zero = (mut_Tells (named 1) κs.1.0 (text_slot.row κs), tt)
  tells (suc n) = (uint_Tells w32, tells n)

abbrev stays : (n : ℕ) → Stays (rest n) (all yes (rest n))
stays zero = (gave_ref (1 ∷ []) tt text_slot, tt)
stays (suc n) = (stay_dropped (plain (λ _. u32)) yes, stays n)

module _ (κs : Lfts 2) where
  fits_all : (n : ℕ) (a : Denots (types_at (rest n) κs)) (ws : Fins κs (rest n) (all yes (rest n)) a) → fits_of κs (rest n) (all yes (rest n)) (stays n) a ws
  fits_all zero a ws = (tt, tt)
  fits_all (suc n) a ws = (tt, fits_all n a.1 ws.1)

  had : {M : Type 1} {𝓤 : Ura M} (𝓛 : Logic 𝓤) (n : ℕ) (a : Denots (types_at (rest n) κs)) (ws : Fins κs (rest n) (all yes (rest n)) a) (us : Valss (types_at (rest n) κs))
      → ent 𝓤 (sem 𝓛 (lasts_of κs (rest n) (all yes (rest n)) a ws)) (sem 𝓛 (has_of κs (rest n) (all yes (rest n)) (stays n) a ws us))
  had {𝓤 = 𝓤} 𝓛 zero a ws us = id⊢ 𝓤 _
  had {𝓤 = 𝓤} 𝓛 (suc n) a ws us = mono_r 𝓤 (emp 𝓤) (had 𝓛 n a.1 ws.1 us.1)

go : {M : Type 1} {𝓤 : Ura M} (𝓛 : Logic 𝓤) (n : ℕ) → AllGo 𝓛 2 (rest n) (all yes (rest n)) (stays n)
go 𝓛 zero = (Goes-gave_ref 𝓛 2 1 tt text_slot, tt)
go 𝓛 (suc n) = (Goes-dropped 𝓛 2 (plain (λ _. u32)) yes (λ κs x w. refl), go 𝓛 n)

-- ---- a call of a function that returns a code
module _ {l : ℕ} (os : List (Outlives l)) (ps : List (Slot l)) (ks : Kepts ps) where
  abbrev pub code_ended : Ended
  code_ended = record { signature = record { lifetimes = l; outlives = os; params = ps; result = plain (λ _. u32) }; kept = ks }

  module _ {M : Type 1} {𝓤 : Ura M} (𝓛 : Logic 𝓤) (c : Clauses 𝓤 code_ended) where
    open 𝓛 use {H}

    abbrev pub Answers : Contract 𝓤
    Answers = triple_of 𝓛 code_ended.signature (closing 𝓛 code_ended c)

    module _ (x : Answers.Ghost) {Γ : List (Item 𝓤)} {E : Env 𝓤 H} {C : Calls 𝓤 H} {Λ : Loops 𝓤 H} {f : Callee} {xs : List Operand} {d : Place} {body : Body} {q : Post 𝓤 H} where
      -- a call turns its precondition into [the lifetime tokens; the last values of the parameters; the code; what the
      -- contract ensures]
      pub answers : FmC 𝓤 H 𝓛.laws C → Triple 𝓤 (C f) Answers → Opds (Go {0}) 𝓛 (raw (Answers.pre x) ∷ Γ) E xs (Answers.args x)
          → ((w : Val) (code : ℕ) (ws : Lasts code_ended x.0.0 x.0.3) → Typed u32.mir (w ∷ [])
          → Seq (Go {0}) 𝓛 (raw (alive 𝓛 code_ended.signature x.0.0 x.0.1) ∷ ‵ (lasts code_ended x.0.0 x.0.3 ws) ∷ ‵ (u32.own_val code (w ∷ []))
          ∷ raw ((c x.0.0 x.0.3).ensures x.1 code (at_exit code_ended x.0.0 x.0.3 ws)) ∷ Γ) (lands C Λ E d w body q))
          → Seq (Go {0}) 𝓛 (raw (Answers.pre x) ∷ Γ) (runs C Λ E (seq (call f xs d) body) q)
      answers fm met ops after =
          calls_at ! fm Answers met x ops (λ w.
          use1 𝓛 (later (some (λ (code : ℕ). (raw (alive 𝓛 code_ended.signature x.0.0 x.0.1) ⊛ ‵ (u32.own_val code (w ∷ []))) ⊛
          some (λ (ws : Lasts code_ended x.0.0 x.0.3). ‵ (lasts code_ended x.0.0 x.0.3 ws) ⊛ raw ((c x.0.0 x.0.3).ensures x.1 code (at_exit code_ended x.0.0 x.0.3 ws)))))) (id⊢ 𝓤 _) $
          await ! tt $ pick ! (λ code. split ! $ split ! $ move ! (1 ∷ []) $
          peeks ! u32 _ (shows 𝓛 u32) code (w ∷ []) (λ is.
          move ! (2 ∷ []) $ pick ! (λ ws. split ! $ move ! (3 ∷ 0 ∷ 2 ∷ 1 ∷ []) $ after w code ws ((uint_Lawful 𝓛 w32).typed code (w ∷ []) is)))))

-- ---- the code: `first` takes the handle; `last` takes the result of `first`, the numbers and the out parameter
abbrev slice : Lifetime → Ty
slice ℓ = ty_struct (38 ∷ 91 ∷ 93 ∷ []) (tcons (ty_ref ℓ imm (ty_int w8)) (tcons (ty_int w64) tnil))

abbrev then_numbers : ℕ → List Local → List Local
then_numbers zero ls = ls
then_numbers (suc n) ls = local (ty_int w32) value_local ∷ then_numbers n ls

abbrev copies : (from count : ℕ) → List Operand → List Operand
copies i zero xs = xs
copies i (suc n) xs = copy (place i []) ∷ copies (suc i) n xs

abbrev lends_fn : (n : ℕ) (named_handle handle found : Ty) (first last : Callee) → Fn
lends_fn n named_handle handle found first last = record {
  lifetimes = 2;
  outlives = (0, 1) ∷ [];
  ty_params = [];
  givens = 0;
  params = n + 2;
  locals = local (ty_int w32) value_local ∷ local (ty_ref (named 0) mut named_handle) value_local ∷ then_numbers n (local (ty_ref (named 1) mut (slice (named 0))) value_local
      ∷ local found value_local ∷ local (ty_ref erased mut named_handle) value_local ∷ local (ty_ref erased mut (slice erased)) value_local ∷ []);
  body = seq (assign (place (n + 4) []) (addr_of (place 1 (deref handle ∷ []))))
      (seq (call first (copy (place (n + 4) []) ∷ []) (place (n + 3) []))
      (seq (assign (place (n + 5) []) (addr_of (place (n + 2) (deref (slice erased) ∷ []))))
      (seq (call last (copy (place (n + 3) []) ∷ copies 2 n (copy (place (n + 5) []) ∷ [])) (place 0 []))
      return)));
}

-- ---- the contracts
module _ (γ : Getter) where
  abbrev pub found_type : Lft → Declared
  found_type κ = option.the_type (shr_ref_field (record { mir = named 0; lft = κ }) γ.Item γ.one).row

  abbrev pub Found : Lft → RattleType
  Found κ = row (found_type κ)

  pub found_lawful : (κ : Lft) {M : Type 1} {𝓤 : Ura M} (𝓛 : Logic 𝓤) → Lawful 𝓛 (Found κ)
  found_lawful κ =
      let a : NamedLft = record { mir = named 0; lft = κ } in
      loose_lawful (found_type κ) (tt, ((loosen (shr_ref_field a γ.Item γ.one) (shr_ref_laws a γ.Item γ.one), tt), tt)) tt

  abbrev pub getter_ended : Ended
  getter_ended = record {
    signature = record {
      lifetimes = 1;
      outlives = [];
      params = RefMutOf (0 ∷ []) tt (plain (λ _. S)) (λ _. tt) ∷ [];
      result = plain (λ κs. option.the_row (type_at {n = 1} (RefOf (0 ∷ []) tt (plain (λ _. γ.Item)) (λ _. γ.one)) κs));
    };
    kept = (no, tt);
  }

  abbrev pub getter_clauses : {M : Type 1} {𝓤 : Ura M} (𝓛 : Logic 𝓤) → Clauses 𝓤 getter_ended
  getter_clauses {𝓤 = 𝓤} 𝓛 κs a = record {
    ghost = Unit {0};
    requires = λ _. emp 𝓤;
    ensures = λ _ r _. sep 𝓤 (sem 𝓛 (EndsAsBefore a.0)) (fact 𝓤 (γ.seen r ≡ γ.held a.0.now));
  }

  module _ {M : Type 1} {𝓤 : Ura M} (𝓛 : Logic 𝓤) where
    open 𝓛 use {H}

    abbrev pub Gets : Contract 𝓤
    Gets = triple_of 𝓛 getter_ended.signature (closing 𝓛 getter_ended (getter_clauses 𝓛))

    module _ (κ : Lft) (s : Share) (handle : MutBor Handle) where
      abbrev pub lent : Gets.Ghost
      lent = (((κ, tt), (s, tt), tt, (handle, tt), (mut_vals handle, tt)), tt)

      module _ {Γ : List (Item 𝓤)} {E : Env 𝓤 H} {C : Calls 𝓤 H} {Λ : Loops 𝓤 H} {f : Callee} {xs : List Operand} {d : Place} {body : Body} {q : Post 𝓤 H} where
        -- [the handle; the lifetime token] becomes [how the handle ends; what was found; the lifetime token]
        pub asks : FmC 𝓤 H 𝓛.laws C → Triple 𝓤 (C f) Gets → Opds (Go {0}) 𝓛 (raw (Gets.pre lent) ∷ Γ) E xs (mut_vals handle)
            → ((v : Val) (r : (Found κ).Denot) → Typed (Found κ).mir (v ∷ []) → γ.seen r ≡ γ.held handle.now
            → Seq (Go {0}) 𝓛 (‵ (EndsAsBefore handle) ∷ ‵ ((Found κ).own_val r (v ∷ [])) ∷ ‵ (flft κ s) ∷ Γ) (lands C Λ E d v body q))
            → Seq (Go {0}) 𝓛 (‵ ((MutRef (named 0) κ S).own_val handle (mut_vals handle)) ∷ ‵ (flft κ s) ∷ Γ) (runs C Λ E (seq (call f xs d) body) q)
        asks fm met ops after =
            nothing ! $ move ! (1 ∷ 0 ∷ []) $ join ! $ nothing ! $ move ! (2 ∷ 0 ∷ []) $ join ! $ join ! $
            nothing ! $ move ! (1 ∷ 0 ∷ []) $ use2 𝓛 (raw (Gets.pre lent)) (id⊢ 𝓤 _) $
            calls_at ! fm Gets met lent ops (λ v.
            use1 𝓛 (later (some (λ (r : (Found κ).Denot). ((‵ (flft κ s) ⊛ ‵ ftrue) ⊛ ‵ ((Found κ).own_val r (v ∷ []))) ⊛
            some (λ (ws : Unit {0} × Unit {0}). ‵ (lasts getter_ended lent.0.0 lent.0.3 ws) ⊛ (‵ (EndsAsBefore handle) ⊛ raw (fact 𝓤 (γ.seen r ≡ γ.held handle.now))))))) (id⊢ 𝓤 _) $
            await ! tt $ pick ! (λ r. split ! $ split ! $ split ! $ move ! (1 ∷ []) $ drop ! $ move ! (1 ∷ []) $
            peeks ! (Found κ) _ (shows 𝓛 (Found κ)) r (v ∷ []) (λ is.
            move ! (2 ∷ []) $ pick ! (λ _. split ! $ drop ! $ split ! $ move ! (1 ∷ []) $ heard ! (γ.seen r ≡ γ.held handle.now) (λ same.
            after v r ((found_lawful κ 𝓛).typed r (v ∷ []) is) same)))))

  module _ (n : ℕ) (W : Numbers n → γ.Seen → ℕ → (old new : List ℕ) → Type 0) where
    abbrev put_ended : Ended
    put_ended = record {
      signature = record {
        lifetimes = 2;
        outlives = record { long = 0; long_ok = tt; short = named 1; short_ok = tt } ∷ [];
        params = plain (λ κs. option.the_row (type_at {n = 2} (RefOf (0 ∷ []) tt (plain (λ _. γ.Item)) (λ _. γ.one)) κs)) ∷ rest n;
        result = plain (λ _. u32);
      };
      kept = (yes, all yes (rest n));
    }

    abbrev put_clauses : {M : Type 1} {𝓤 : Ura M} (𝓛 : Logic 𝓤) → Clauses 𝓤 put_ended
    put_clauses {𝓤 = 𝓤} 𝓛 κs a = record {
      ghost = Unit {0};
      requires = λ _. emp 𝓤;
      ensures = λ _ c e. fact 𝓤 (W (numbers κs n a.1) (γ.seen a.0) c (old_text κs n a.1) (new_text κs n e.1));
    }

    abbrev lends_ended : Ended
    lends_ended = record {
      signature = record {
        lifetimes = 2;
        outlives = record { long = 0; long_ok = tt; short = named 1; short_ok = tt } ∷ [];
        params = RefMutOf (0 ∷ []) tt (plain (λ _. S)) (λ _. tt) ∷ rest n;
        result = plain (λ _. u32);
      };
      kept = (no, all yes (rest n));
    }

    abbrev lends_clauses : {M : Type 1} {𝓤 : Ura M} (𝓛 : Logic 𝓤) → Clauses 𝓤 lends_ended
    lends_clauses {𝓤 = 𝓤} 𝓛 κs a = record {
      ghost = Unit {0};
      requires = λ _. emp 𝓤;
      ensures = λ _ c e. sep 𝓤 (sem 𝓛 (EndsAsBefore a.0)) (fact 𝓤 (W (numbers κs n a.1) (γ.held a.0.now) c (old_text κs n a.1) (new_text κs n e.1)));
    }

    module _ {M : Type 1} (𝓤 : Ura M) (𝓛 : Logic 𝓤) (𝓜 : Model 𝓤 𝓛.H) (𝓡 : Running 𝓤 𝓛.H 𝓜) where
      open 𝓛 use {H}

      abbrev 𝓣 : MachineTables 𝓤 H 𝓜
      𝓣 = tables 𝓤 H 𝓜 𝓡 𝓡.env

      abbrev stayed : Stays lends_ended.signature.params lends_ended.kept
      stayed = (stay_dropped (mut_ref_to (0 ∷ []) tt (plain (λ _. S))) no, stays n)

      abbrev Walk : Contract 𝓤
      Walk = walk_of 𝓛 lends_ended stayed (lends_clauses 𝓛)

      abbrev Puts : Contract 𝓤
      Puts = triple_of 𝓛 put_ended.signature (closing 𝓛 put_ended (put_clauses 𝓛))

      module _ (κs : Lfts 2) (qs : Shares 2) (bounds : AllOutlive 2 lends_ended.signature.outlives κs) (a : Args lends_ended.signature κs) where
        abbrev others : Valss (types_at (rest n) κs)
        others = valss (types_at (rest n) κs) (spells κs n) a.1

        abbrev entry : Walk.Ghost
        entry = ((κs, qs, bounds, a, (mut_vals a.0, others)), tt)

        -- [the handle; the token of its lifetime; the other parameters; the other lifetime tokens]
        abbrev given : List (Item 𝓤)
        given = ‵ ((MutRef (named 0) κs.0 S).own_val a.0 (mut_vals a.0)) ∷ ‵ (flft κs.0 qs.0) ∷ ‵ (owns (types_at (rest n) κs) a.1 others) ∷ (‵ (flft κs.1.0 qs.1.0) ⊛ ‵ ftrue) ∷ []

        is_put : (Found κs.0).Denot → ℕ → Fins κs (rest n) (all yes (rest n)) a.1 → Type 0
        is_put r code ws = W (numbers κs n a.1) (γ.seen r) code (old_text κs n a.1) (new_text κs n (outs κs (rest n) (all yes (rest n)) a.1 ws))

        abbrev put_entry : (r : (Found κs.0).Denot) → Val → Puts.Ghost
        put_entry r v = ((κs, qs, bounds, (r, a.1), (v ∷ [], others)), tt)

        module _ {Γ : List (Item 𝓤)} {E : Env 𝓤 H} {f : Callee} {xs : List Operand} {d : Place} {body : Body} {q : Post 𝓤 H} where
          -- a call of the second function turns [how the handle ends; what was found; the token of the handle's
          -- lifetime; the other parameters; the other lifetime tokens] into [the lifetime tokens; the last values of
          -- the other parameters; the code; how the handle ends]
          puts : (r : (Found κs.0).Denot) (v : Val) → Triple 𝓤 (𝓣.C f) Puts
              → Opds (Go {0}) 𝓛 (raw (Puts.pre (put_entry r v)) ∷ ‵ (EndsAsBefore a.0) ∷ Γ) E xs (Puts.args (put_entry r v))
              → ((w : Val) (code : ℕ) (ws : Fins κs (rest n) (all yes (rest n)) a.1) → Typed u32.mir (w ∷ []) → is_put r code ws
              → Seq (Go {0}) 𝓛 (raw (alive 𝓛 put_ended.signature κs qs) ∷ ‵ (lasts_of κs (rest n) (all yes (rest n)) a.1 ws) ∷ ‵ (u32.own_val code (w ∷ [])) ∷ ‵ (EndsAsBefore a.0) ∷ Γ) (lands 𝓣.C 𝓣.Λ E d w body q))
              → Seq (Go {0}) 𝓛 (‵ (EndsAsBefore a.0) ∷ ‵ ((Found κs.0).own_val r (v ∷ [])) ∷ ‵ (flft κs.0 qs.0) ∷ ‵ (owns (types_at (rest n) κs) a.1 others) ∷ (‵ (flft κs.1.0 qs.1.0) ⊛ ‵ ftrue) ∷ Γ)
              (runs 𝓣.C 𝓣.Λ E (seq (call f xs d) body) q)
          unfolding is_put
          puts r v met ops after =
              let x = put_entry r v in
              move ! (1 ∷ 3 ∷ []) $ join ! $ move ! (2 ∷ 3 ∷ []) $ join ! $ join ! $ nothing ! $ move ! (1 ∷ 0 ∷ []) $ use2 𝓛 (raw (Puts.pre x)) (id⊢ 𝓤 _) $
              answers put_ended.signature.outlives put_ended.signature.params put_ended.kept 𝓛 (put_clauses 𝓛) x (framed 𝓤 H 𝓜 𝓣) met ops (λ w code ws is.
              move ! (3 ∷ []) $ heard ! (is_put r code ws.1) (λ put. move ! (1 ∷ []) $ fsplit ! $ drop ! $ move ! (1 ∷ []) $ after w code ws.1 is put))

        ends : (r : (Found κs.0).Denot) (w : Val) (code : ℕ) (ws : Fins κs (rest n) (all yes (rest n)) a.1) → γ.seen r ≡ γ.held a.0.now → is_put r code ws
            → Seq (Go {0}) 𝓛 (raw (alive 𝓛 put_ended.signature κs qs) ∷ ‵ (lasts_of κs (rest n) (all yes (rest n)) a.1 ws) ∷ ‵ (u32.own_val code (w ∷ [])) ∷ ‵ (EndsAsBefore a.0) ∷ []) (prop (Walk.post entry w))
        unfolding is_put
        ends r w code ws same put =
            move ! (1 ∷ []) $ use1 𝓛 (‵ (has_of κs (rest n) (all yes (rest n)) (stays n) a.1 ws others)) (had κs 𝓛 n a.1 ws others) $
            nothing ! $ join ! $ move ! (1 ∷ 0 ∷ []) $
            suffices ! _ (ends_at 𝓛 lends_ended stayed (lends_clauses 𝓛) entry w code (tt, ws) (tt, fits_all κs n a.1 ws)) $
            group ! 3 $ frame ! $ says ! (subst (λ o. W (numbers κs n a.1) o code (old_text κs n a.1) (new_text κs n (outs κs (rest n) (all yes (rest n)) a.1 ws))) same put) $ done !

      module _ (named_handle handle found : Ty) (first last k : Callee) where
        abbrev Fits : Type 0
        Fits = (κ : Lft) (v : Val) → Typed (Found κ).mir (v ∷ []) → T (has_ty found v) × WT v

        abbrev Lends : Type 2
        Lends = Closed 𝓤 H 𝓣.C 𝓣.Λ k (lends_fn n named_handle handle found first last) → Fits → Triple 𝓤 (𝓣.C first) (Gets 𝓛) → Triple 𝓤 (𝓣.C last) Puts
            → Meets 𝓛 lends_ended.signature (𝓣.C k) (closing 𝓛 lends_ended (lends_clauses 𝓛))

        walks : Closed 𝓤 H 𝓣.C 𝓣.Λ k (lends_fn n named_handle handle found first last)
            → ((κs : Lfts 2) (qs : Shares 2) (bounds : AllOutlive 2 lends_ended.signature.outlives κs) (a : Args lends_ended.signature κs)
            → Are (types_at (rest n) κs) (Ises (types_at (rest n) κs)) a.1 (others κs qs bounds a)
            → Seq (Go {0}) 𝓛 (given κs qs bounds a) (prop (WpFn 𝓤 H 𝓣.C 𝓣.Λ (lends_fn n named_handle handle found first last) (Walk.args (entry κs qs bounds a)) (Walk.post (entry κs qs bounds a)))))
            → Meets 𝓛 lends_ended.signature (𝓣.C k) (closing 𝓛 lends_ended (lends_clauses 𝓛))
        walks unfolded walk =
            proved 𝓛 lends_ended stayed (lends_clauses 𝓛) 𝓜 𝓡 (Goes-spent_ref 𝓛 2 (0 ∷ []) tt (plain (λ _. S)), go 𝓛 n) k (lends_fn n named_handle handle found first last) unfolded
            (λ κs. (mut_vals, spells κs n)) (λ κs. (mut_Tells (named 0) κs.0 S, tells κs n)) (λ κs qs bounds a _ are.
            qed 𝓛 (((‵ (flft κs.0 qs.0) ⊛ ‵ (flft κs.1.0 qs.1.0) ⊛ ‵ ftrue) ⊛ ‵ ((MutRef (named 0) κs.0 S).own_val a.0 (mut_vals a.0)) ⊛ ‵ (owns (types_at (rest n) κs) a.1 (others κs qs bounds a))) ∷ ‵ ftrue ∷ []) ∵
            split ! $ split ! $ move ! (2 ∷ []) $ split ! $ keep ! (0 ∷ 2 ∷ 1 ∷ 3 ∷ []) $ walk κs qs bounds a are.1)

-- ---- the walks, for calls with zero to three number parameters
module _ (γ : Getter) {M : Type 1} (𝓤 : Ura M) (𝓛 : Logic 𝓤) (𝓜 : Model 𝓤 𝓛.H) (𝓡 : Running 𝓤 𝓛.H 𝓜) (named_handle handle found : Ty) (first last k : Callee) where
  pub lends_0 : (W : Numbers 0 → γ.Seen → ℕ → (old new : List ℕ) → Type 0) → Lends γ 0 W 𝓤 𝓛 𝓜 𝓡 named_handle handle found first last k
  lends_0 W unfolded fits gets met = walks γ 0 W 𝓤 𝓛 𝓜 𝓡 named_handle handle found first last k unfolded (λ κs qs bounds a are.
      enter ! _ _ _ _ _ $ alloc_all ! (λ l. pass_all ! refl ((tt, tt), ((tt, tt), tt)) $
      sets ! (addr ! (through ! refl (stop !))) refl (tt, tt) $
      asks γ 𝓛 κs.0 qs.0 a.0 (framed 𝓤 𝓛.H 𝓜 (tables 𝓤 𝓛.H 𝓜 𝓡 𝓡.env)) gets (and_then ! (get ! refl) (no_more !)) (λ v r is same.
      lands_as ! refl refl (fits κs.0 v is) $ sets ! (addr ! (through ! refl (stop !))) refl (tt, tt) $
      puts γ 0 W 𝓤 𝓛 𝓜 𝓡 κs qs bounds a r v met (and_then ! (get ! refl) (and_then ! (get ! refl) (no_more !))) (λ w code ws is' put.
      lands_as ! refl refl is'.0 $ returns ! (look_at ! 0 refl) $ free_all ! refl $ ends γ 0 W 𝓤 𝓛 𝓜 𝓡 κs qs bounds a r w code ws same put))))

  pub lends_1 : (W : Numbers 1 → γ.Seen → ℕ → (old new : List ℕ) → Type 0) → Lends γ 1 W 𝓤 𝓛 𝓜 𝓡 named_handle handle found first last k
  lends_1 W unfolded fits gets met = walks γ 1 W 𝓤 𝓛 𝓜 𝓡 named_handle handle found first last k unfolded (λ κs qs bounds a are.
      enter ! _ _ _ _ _ $ alloc_all ! (λ l. pass_all ! refl ((tt, tt), ((tt, record { fits = are.0.1 }), ((tt, tt), tt))) $
      sets ! (addr ! (through ! refl (stop !))) refl (tt, tt) $
      asks γ 𝓛 κs.0 qs.0 a.0 (framed 𝓤 𝓛.H 𝓜 (tables 𝓤 𝓛.H 𝓜 𝓡 𝓡.env)) gets (and_then ! (get ! refl) (no_more !)) (λ v r is same.
      lands_as ! refl refl (fits κs.0 v is) $ sets ! (addr ! (through ! refl (stop !))) refl (tt, tt) $
      puts γ 1 W 𝓤 𝓛 𝓜 𝓡 κs qs bounds a r v met (and_then ! (get ! refl) (and_then ! (get ! refl) (and_then ! (get ! refl) (no_more !)))) (λ w code ws is' put.
      lands_as ! refl refl is'.0 $ returns ! (look_at ! 0 refl) $ free_all ! refl $ ends γ 1 W 𝓤 𝓛 𝓜 𝓡 κs qs bounds a r w code ws same put))))

  pub lends_2 : (W : Numbers 2 → γ.Seen → ℕ → (old new : List ℕ) → Type 0) → Lends γ 2 W 𝓤 𝓛 𝓜 𝓡 named_handle handle found first last k
  lends_2 W unfolded fits gets met = walks γ 2 W 𝓤 𝓛 𝓜 𝓡 named_handle handle found first last k unfolded (λ κs qs bounds a are.
      enter ! _ _ _ _ _ $ alloc_all ! (λ l. pass_all ! refl ((tt, tt), ((tt, record { fits = are.0.1 }), ((tt, record { fits = are.1.0.1 }), ((tt, tt), tt)))) $
      sets ! (addr ! (through ! refl (stop !))) refl (tt, tt) $
      asks γ 𝓛 κs.0 qs.0 a.0 (framed 𝓤 𝓛.H 𝓜 (tables 𝓤 𝓛.H 𝓜 𝓡 𝓡.env)) gets (and_then ! (get ! refl) (no_more !)) (λ v r is same.
      lands_as ! refl refl (fits κs.0 v is) $ sets ! (addr ! (through ! refl (stop !))) refl (tt, tt) $
      puts γ 2 W 𝓤 𝓛 𝓜 𝓡 κs qs bounds a r v met (and_then ! (get ! refl) (and_then ! (get ! refl) (and_then ! (get ! refl) (and_then ! (get ! refl) (no_more !))))) (λ w code ws is' put.
      lands_as ! refl refl is'.0 $ returns ! (look_at ! 0 refl) $ free_all ! refl $ ends γ 2 W 𝓤 𝓛 𝓜 𝓡 κs qs bounds a r w code ws same put))))

  pub lends_3 : (W : Numbers 3 → γ.Seen → ℕ → (old new : List ℕ) → Type 0) → Lends γ 3 W 𝓤 𝓛 𝓜 𝓡 named_handle handle found first last k
  lends_3 W unfolded fits gets met = walks γ 3 W 𝓤 𝓛 𝓜 𝓡 named_handle handle found first last k unfolded (λ κs qs bounds a are.
      enter ! _ _ _ _ _ $ alloc_all ! (λ l. pass_all ! refl ((tt, tt), ((tt, record { fits = are.0.1 }), ((tt, record { fits = are.1.0.1 }), ((tt, record { fits = are.1.1.0.1 }), ((tt, tt), tt))))) $
      sets ! (addr ! (through ! refl (stop !))) refl (tt, tt) $
      asks γ 𝓛 κs.0 qs.0 a.0 (framed 𝓤 𝓛.H 𝓜 (tables 𝓤 𝓛.H 𝓜 𝓡 𝓡.env)) gets (and_then ! (get ! refl) (no_more !)) (λ v r is same.
      lands_as ! refl refl (fits κs.0 v is) $ sets ! (addr ! (through ! refl (stop !))) refl (tt, tt) $
      puts γ 3 W 𝓤 𝓛 𝓜 𝓡 κs qs bounds a r v met (and_then ! (get ! refl) (and_then ! (get ! refl) (and_then ! (get ! refl) (and_then ! (get ! refl) (and_then ! (get ! refl) (no_more !)))))) (λ w code ws is' put.
      lands_as ! refl refl is'.0 $ returns ! (look_at ! 0 refl) $ free_all ! refl $ ends γ 3 W 𝓤 𝓛 𝓜 𝓡 κs qs bounds a r w code ws same put))))
