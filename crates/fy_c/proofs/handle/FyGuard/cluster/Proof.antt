-- `cluster` lends what the handle points to, and the guard follows it
use Rattle.std.proofs.Common.{◌≡◌, ◌≢◌, ℕ, List, [], ◌∷◌, refl, sym}
use seplogic.Ra.Ura.{Ura}
use base.Fraction.{full_share}
use mir.Syntax.{named}
use mir.Val.{Val, vptr}
use base.Logic.{SProp, ent, sep}
use base.Fml.{Lft, GName, Share, Fml, ftrue, flft, fsep}
use prog.Memory.{Memory}
use prog.Routine.{Routine}
use prog.Wp.{Env, Calls, Loops, WpFn}
use types.Logic.{Logic, sem}
use types.Kit.{‵, ◌⊛◌, some, at_ret, ◌$◌, ◌∵◌, !, qed, by, move, keep, use1, drop, split, join, pick, fsplit, fsplit3, fjoin, suffices, frame, done, raw, later, await, group, fpack, rewrite}
use types.Part.{whole, sub, look_in}
use types.Run.{stop, fld, load, of_opd, first, blocks, exec, returns, enter, addr}
use types.ByLocal.{alloc_all, pass_all, free_all, look_at, get, through, sets, env, sets_last}
use contract.Monad.{Fun, fact}
use contract.Running.{tables}
use denote.RattleType.{RattleType, owns}
use denote.Memory.{part_at, mem, cell_at, part_of}
use denote.RawPtr.{Ptr, block_ptr, null_ptr}
use denote.Ref.{MutRef, mut_vals, mut_Tells}
use denote.Signature.{plain, mut_ref_to}
use denote.Steps.{nothing, opens, heard}
use denote.Exit.{no}
use denote.Follow.{follows, Part, lends_Part}
use denote.Triple.Entry.{on_entry}
use denote.Triple.Walked.{says, Stays, stay_dropped, walk_of, ends_at, Goes-spent_ref}
use denote.Triple.Statement.{Contract}
use mir.Raw.{raw as bare}
use denote.Memory.{lone}
use Rattle.std.proofs.raw_atomic.Walks.{proved}
use Rattle.std_alloc.proofs.VecSteps.Shapes.{after}
use Rattle.std.specs.contracts.impls.GlobalAllocator.TheImpl.{ghosts}
use Rattle.fy_cluster.specs.contracts.cluster.Cluster as inner
use Rattle.fy_c.specs.Handles.{with_cluster}
use Rattle.fy_c.specs.declared.handle.FyGuard.{FyGuard}
use Rattle.fy_c.proofs.Values.{single, handle_out, handle_in}
use Rattle.fy_c.specs.contracts.handle.FyGuard.{the_row as Hd}
use Rattle.fy_c.specs.contracts.handle.FyGuard.cluster.{ended, clauses}
use Rattle.fy_c.specs.contracts.handle.FyGuard.cluster.Key.{name as #self}
use Rattle.fy_c.proofs.handle.FyGuard.cluster.Statement.{statement}
use Rattle.fy_c.proofs.handle.FyGuard.cluster.Code as code

abbrev R : RattleType
R = inner.the_row

abbrev stayed : Stays ended.signature.params ended.kept
stayed = (stay_dropped (mut_ref_to (0 ∷ []) tt (plain (λ _. Hd))) no, tt)

module _ {M : Type 1} {𝓤 : Ura M} (𝓛 : Logic 𝓤) (at_mem : Memory → SProp 𝓤) (run : Routine → Fun 𝓤) (κ : Lft) (q : Share) (rb ro : ℕ) (γ : GName) (h : FyGuard) where
  open 𝓛 use {H, A}

  abbrev W : Contract 𝓤
  W = walk_of 𝓛 ended stayed (clauses 𝓛 at_mem run)

  abbrev bound : W.Ghost
  bound = (((κ, tt), (q, tt), tt, (record { ref_ptr = (rb, ro); ghost_name = γ; now = h }, tt), (vptr rb ro ∷ [], tt)), tt)

  abbrev Post : Val → SProp 𝓤
  Post = W.post bound

  module _ (b o : ℕ) where
    -- all of the guard but its cluster
    abbrev Rest : Fml
    Rest = fsep (ghosts.dealloc_token h.alloc (bare (lone R.mir)) (block_ptr b o)) (cell_at full_share Hd.mir (single (vptr b o) ∷ []) rb ro)

    back : h.at ≡ block_ptr b o → (w : R.Denot) → ent 𝓤 (sep 𝓤 (sem 𝓛 ((mem R).own_at w b o)) (sem 𝓛 Rest)) (sem 𝓛 ((mem Hd).own_at (with_cluster h w) rb ro))
    unfolding part_of
    back at_b w =
        qed 𝓛 (‵ (part_at R full_share w b o) ∷ ‵ Rest ∷ []) ∵ move ! (1 ∷ []) $ fsplit ! $ move ! (2 ∷ 0 ∷ []) $ fjoin ! $
        handle_in ! R b o h.alloc w $
        rewrite ! 0 (λ (p : Ptr). ‵ (Hd.own_val (record { at = p; alloc = h.alloc; value = w }) (single (vptr b o) ∷ []))) (sym at_b) refl $
        move ! (1 ∷ 0 ∷ []) $ fjoin ! $
        fpack ! (List Val) (λ us. fsep (cell_at full_share Hd.mir us rb ro) (Hd.own_val (with_cluster h w) us)) (single (vptr b o) ∷ []) $ done !

    exits : (γ' : GName)
        → ent 𝓤 (sep 𝓤 (sem 𝓛 ((MutRef (named 0) κ R).own_val (record { ref_ptr = (b, o); ghost_name = γ'; now = h.value }) (vptr b o ∷ []))) (sep 𝓤 (A.lft κ q) (sem 𝓛 (follows Hd R γ γ' (with_cluster h))))) (Post (vptr b o))
    exits γ' =
        qed 𝓛 (‵ ((MutRef (named 0) κ R).own_val (record { ref_ptr = (b, o); ghost_name = γ'; now = h.value }) (vptr b o ∷ [])) ∷ ‵ (flft κ q) ∷ ‵ (follows Hd R γ γ' (with_cluster h)) ∷ []) ∵
        suffices ! _ (ends_at 𝓛 ended stayed (clauses 𝓛 at_mem run) bound (vptr b o) (record { ref_ptr = (b, o); ghost_name = γ'; now = h.value }) (tt, tt) (tt, tt)) $
        nothing ! $ nothing ! $ fjoin ! $ join ! $ nothing ! $ move ! (2 ∷ 0 ∷ []) $ join ! $ join ! $ frame ! $ says ! refl $ done !

  module _ (C : Calls 𝓤 H) (Λ : Loops 𝓤 H) where
    walk : ent 𝓤 (sep 𝓤 (on_entry 𝓛 ended.signature (κ, tt) (q, tt) (record { ref_ptr = (rb, ro); ghost_name = γ; now = h }, tt) (vptr rb ro ∷ [], tt)) (fact 𝓤 (h.at ≢ null_ptr))) (WpFn 𝓤 H C Λ code.function (vptr rb ro ∷ []) Post)
    walk =
        qed 𝓛 (((‵ (flft κ q) ⊛ ‵ ftrue) ⊛ ‵ (owns (MutRef (named 0) κ Hd ∷ []) (record { ref_ptr = (rb, ro); ghost_name = γ; now = h }, tt) (vptr rb ro ∷ [], tt))) ∷ raw (fact 𝓤 (h.at ≢ null_ptr)) ∷ []) ∵
        move ! (1 ∷ []) $ heard ! (h.at ≢ null_ptr) (λ some_at. split ! $
        enter ! C Λ code.function (vptr rb ro ∷ []) _ $
        alloc_all ! (λ l. pass_all ! refl ((tt, tt), tt) $
        let En : Env 𝓤 H = env code.function.locals l in
        move ! (1 ∷ []) $ fsplit ! $ fsplit3 ! $ drop ! $ move ! (3 ∷ []) $ split ! $ move ! (2 ∷ 3 ∷ 0 ∷ []) $
        opens ! tt Hd {h = h} rb ro (λ vs. move ! (1 ∷ []) $ handle_out ! R h.at h.alloc h.value vs some_at (λ b o at_b ws. fsplit ! $
        rewrite ! 2 (λ (us : List Val). ‵ (cell_at full_share Hd.mir us rb ro)) ws refl $
        first ! $ blocks ! $
        sets ! (of_opd ! (load ! (through ! refl (fld ! refl (stop !))) (look_in ! 2 (sub ! 0 refl (whole !))))) refl (tt, tt) $
        sets ! (of_opd ! (get ! refl)) refl (tt, tt) $
        sets_last ! (addr ! (through ! refl (stop !))) refl (tt, tt) $
        exec ! C Λ En (after 1 code.function.body) (at_ret En Post) $
        sets ! (of_opd ! (get ! refl)) refl (tt, tt) $
        move ! (1 ∷ 2 ∷ []) $ fjoin ! $ move ! (2 ∷ 3 ∷ 4 ∷ 1 ∷ 0 ∷ []) $ group ! 5 $
        use1 𝓛 (later (some (λ (γ' : GName). raw (Part 𝓛 Hd R (with_cluster h) (named 0) κ q rb ro b o γ (sem 𝓛 (Rest b o)) (back b o at_b) h.value γ'))))
        (lends_Part 𝓛 Hd R (with_cluster h) (named 0) κ q rb ro b o γ (sem 𝓛 (Rest b o)) (back b o at_b) (Hd.coded.code h) (Hd.coded.code h) h.value) $ await ! tt $ pick ! (λ γ'.
        returns ! (look_at ! 0 refl) $ free_all ! refl $
        keep ! (0 ∷ []) $ by ! (exits b o γ'))))))

pub cluster_spec : {M : Type 1} → statement M
cluster_spec 𝓤 𝓛 𝓜 𝓡 wired =
    let 𝓣 = tables 𝓤 𝓛.H 𝓜 𝓡 𝓡.env in
    proved 𝓛 ended stayed (clauses 𝓛 𝓜.mem 𝓡.returns) 𝓜 𝓡 (Goes-spent_ref 𝓛 1 (0 ∷ []) tt (plain (λ _. Hd)), tt)
    #self code.function (code.unfolded 𝓤 𝓛.H 𝓜 𝓡 wired)
    (λ κs. (mut_vals, tt)) (λ κs. (mut_Tells (named 0) κs.0 Hd, tt))
    (λ κs qs bounds a g are. walk 𝓛 𝓜.mem 𝓡.returns κs.0 qs.0 a.0.ref_ptr.0 a.0.ref_ptr.1 a.0.ghost_name a.0.now 𝓣.C 𝓣.Λ)
