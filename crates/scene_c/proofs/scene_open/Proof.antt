-- `scene_open` writes a handle where there is room for one.
use Rattle.std.proofs.Common.{List, [], ◌∷◌, ◌++◌, refl, sym, ap, ◌∙◌, subst, w32}
use mathlib.Core.Bool.{true}
use mir.Val.{Val, has_ty, vint, vptr, vstruct, of_list}
use base.Fraction.{full_share}
use base.Logic.{SProp, ent, sep, ex, ex_i, emp, never, id⊢}
use base.Fml.{ftrue}
use prog.Wp.{WpFn}
use types.Logic.{sem}
use types.Kit.{‵, raw, ◌⊛◌, some, later, ◌$◌, ◌∵◌, !, qed, by, move, keep, drop, split, join, fsplit, fjoin, fpick, pick, suffices, use0, use1, use2, await, rewrite, feq_l, flt_l}
use types.Run.{stop, fld, init, of_opd, no_more, and_then, assigns, returns, enter}
use types.ByLocal.{alloc_all, pass_all, free_all, look_at, get, get_in, through, sets, lands_as}
use types.Part.{sub, whole}
use contract.Monad.{fact, fact_i}
use contract.Running.{tables}
use denote.Builtin.{u32}
use denote.Exit.{yes}
use denote.Laws.{Is}
use denote.Memory.{part_at}
use denote.Param.{layout}
use denote.Plain.{uint_Makes}
use denote.RattleType.{RattleType, owns}
use denote.RawPtr.{Ptr, RawPtr, ptr_val, lies_at, room_at, in_a_block}
use denote.Signature.{types_at, plain}
use denote.Steps.{nothing, heard, owned, only}
use denote.Struct.Tuple.{Tuple}
use denote.Triple.Call.{calls_at}
use denote.Triple.Clauses.{lasts}
use denote.Triple.Spec.{triple_of}
use denote.Triple.Table.{framed}
use denote.Triple.Walked.{Stays, stay_dropped, walk_of, Goes-dropped}
use Rattle.std.proofs.alloc.Calls.{handle_tells}
use Rattle.std.proofs.raw_atomic.Walks.{proved_at, leaves}
use Rattle.scene_c.specs.Calls.{Opens}
use Rattle.scene_c.proofs.Values.{both, both_tt}
use Rattle.scene_c.proofs.HandleValues.{Z, Handle, al}
use Rattle.scene_c.proofs.Placed.{handle_is, placed}
use Rattle.scene_c.specs.contracts.handle.new_handle as callee
use Rattle.scene_c.proofs.handle.new_handle.Met.{met}
use Rattle.scene_c.specs.contracts.scene_open.{ended, clauses}
use Rattle.scene_c.specs.contracts.scene_open.Key.{name as #self}
use Rattle.scene_c.proofs.scene_open.Statement.{statement}
use Rattle.scene_c.proofs.scene_open.Code as code

abbrev Made : RattleType
Made = Tuple (Handle ∷ u32 ∷ [])

pub scene_open_spec : {M : Type 1} → statement M
scene_open_spec 𝓤 𝓛 𝓜 𝓡 wired =
    let H = 𝓛.H in let 𝓣 = tables 𝓤 H 𝓜 𝓡 𝓡.env in let c = clauses 𝓛 𝓜.mem 𝓡.returns in let fn = code.function in
    let hs : Stays ended.signature.params ended.kept = (stay_dropped (plain (λ _. Z)) yes, (stay_dropped (plain (λ _. RawPtr)) yes, tt)) in
    proved_at 𝓛 ended hs c 𝓜 𝓡 (Goes-dropped 𝓛 0 (plain (λ _. Z)) yes (λ κs x f. refl), (Goes-dropped 𝓛 0 (plain (λ _. RawPtr)) yes (λ κs x f. refl), tt)) #self fn (code.unfolded 𝓤 H 𝓜 𝓡 wired) (λ z are.
    let κs = z.0.0 in let a = z.0.3.0 in let p = z.0.3.1.0 in let Post : Val → SProp 𝓤 = (walk_of 𝓛 ended hs c).post z in let Run : List Val → SProp 𝓤 = λ ws. WpFn 𝓤 H 𝓣.C 𝓣.Λ fn ws Post in
    qed 𝓛 ((‵ ftrue ⊛ ‵ (owns (types_at ended.signature.params κs) z.0.3 z.0.4)) ∷ raw ((c κs z.0.3).requires z.1) ∷ []) ∵ split ! $ move ! (1 ∷ []) $ fsplit ! $ handle_tells al ! a z.0.4.0 (λ h eh fits.
    move ! (1 ∷ []) $ fsplit ! $ feq_l ! (λ ep. drop ! $ move ! (2 ∷ []) $ use1 𝓛 (‵ (room_at Handle p)) (id⊢ 𝓤 _) $ in_a_block ! p (room_at Handle) (id⊢ 𝓤 (never 𝓤)) (λ b o e.
    -- [room; the handle of the heap; the tokens]
    suffices ! (Run (h ∷ vptr b o ∷ [])) (subst (λ (us : List Val × List Val). ent 𝓤 (Run (h ∷ vptr b o ∷ [])) (Run (us.0 ++ (us.1 ++ [])))) (λ i. (sym eh i, sym (ep ∙ ap (λ (q : Ptr). ptr_val q ∷ []) e) i)) (id⊢ 𝓤 (Run (h ∷ vptr b o ∷ [])))) $
    enter ! 𝓣.C 𝓣.Λ fn (h ∷ vptr b o ∷ []) Post $ alloc_all ! (λ l. pass_all ! refl (fits, ((tt, tt), tt)) $
    let k = triple_of 𝓛 callee.signature (callee.spec 𝓛 𝓜.mem 𝓡.returns) in let y : k.Ghost = ((κs, z.0.1, tt, (a, tt), (h ∷ [], tt)), tt) in
    nothing ! $ move ! (2 ∷ 0 ∷ []) $ fjoin ! $ move ! (2 ∷ 0 ∷ []) $ join ! $ nothing ! $ move ! (1 ∷ 0 ∷ []) $ join ! $ use1 𝓛 (raw (k.pre y)) (id⊢ 𝓤 (k.pre y)) $
    calls_at ! (framed 𝓤 H 𝓜 𝓣) k (met 𝓤 𝓛 𝓜 𝓡 (code.calls-scene_c::handle::new_handle 𝓡.env wired)) y (and_then ! (get ! refl) (no_more !)) (λ u.
    use1 𝓛 (later (some (λ (r : Made.Denot). (‵ ftrue ⊛ ‵ (Made.own_val r (u ∷ []))) ⊛ some (λ (ws : Unit {0} × Unit {0}). ‵ (lasts callee.ended κs y.0.3 ws) ⊛ raw (fact 𝓤 (Opens r.0.value r.1)))))) (id⊢ 𝓤 (k.post y u)) $
    await ! tt $ pick ! (λ r. split ! $ split ! $ move ! (2 ∷ []) $ pick ! (λ ws. split ! $ drop ! $ heard ! _ (λ opens.
    -- [the tokens; what was made; room]
    move ! (1 ∷ []) $ fpick ! (λ vss. fsplit ! $ feq_l ! (λ eu. fsplit ! $ handle_is ! r.0 vss.0 (λ v ev good. move ! (1 ∷ []) $ fsplit ! $ fsplit ! $ feq_l ! (λ ec. flt_l ! (λ fits_code. drop ! $
    let w = both v (vint w32 r.1) in
    lands_as ! (ap only (eu ∙ (λ j. vstruct (of_list (ev j ++ (ec j ++ []))) ∷ []))) refl (both_tt (has_ty (layout Handle) v) true good.0 tt, (good.1, (record { fits = fits_code }, tt))) $
    sets ! (of_opd ! (get_in ! (fld ! refl (stop !)) (sub ! 0 refl (whole !)))) refl good $ sets ! (of_opd ! (get_in ! (fld ! refl (stop !)) (sub ! 1 refl (whole !)))) refl (tt, record { fits = fits_code }) $
    sets ! (of_opd ! (get ! refl)) refl good $ assigns ! (of_opd ! (get ! refl)) (through ! refl (stop !)) (init ! 2 refl good) $ sets ! (of_opd ! (get ! refl)) refl (tt, record { fits = fits_code }) $
    move ! (2 ∷ 0 ∷ []) $ use2 𝓛 (‵ (part_at Handle full_share r.0 b o)) (placed 𝓛 r.0 b o v) $ rewrite ! 0 (λ (q : Ptr). ‵ (lies_at Handle full_share q r.0)) (sym e) refl $
    let Lying : Handle.Denot → SProp 𝓤 = λ d. sep 𝓤 (sem 𝓛 (lies_at Handle full_share p d)) (fact 𝓤 (Opens d.value r.1)) in
    use0 𝓛 (raw (fact 𝓤 (Opens r.0.value r.1))) (fact_i 𝓤 _ (emp 𝓤) opens) $ move ! (1 ∷ 0 ∷ []) $ join ! $ use1 𝓛 (raw (ex 𝓤 Lying)) (ex_i 𝓤 Lying r.0) $
    owned ! u32 (Is u32) (uint_Makes 𝓛 w32) r.1 (vint w32 r.1 ∷ []) (refl, fits_code) $ nothing ! $ nothing ! $ fjoin ! $ nothing ! $ fjoin ! $
    returns ! (look_at ! 0 refl) $ free_all ! refl $ keep ! (3 ∷ 0 ∷ 1 ∷ 2 ∷ []) $ by ! (leaves 𝓛 ended hs c z (vint w32 r.1) r.1 (tt, (tt, tt)) (tt, (tt, tt)))))))))))))))))
