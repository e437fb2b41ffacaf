-- `scene_answer` lends the bytes of C as a slice, where there are any.
use Rattle.std.proofs.Common.{◌≡◌, ◌<◌, ◌^◌, ◌*◌, ℕ, List, [], ◌∷◌, ◌++◌, length, refl, sym, ap, ◌∙◌, subst, arith, w64}
use Rattle.std.proofs.Math.Facts.{eqb_no}
use lib.Dec.{eqb→eq}
use mir.Syntax.{named, ty_ptr}
use mir.Val.{Val, vint, vptr}
use base.Fraction.{full_share}
use base.Logic.{SProp, ent, emp, never, id⊢}
use base.Fml.{Lft, GName, ftrue, feq, fsep, flt, fat, flft, flent}
use prog.Wp.{WpFn}
use types.Kit.{‵, raw, ◌⊛◌, some, later, at_ret, ◌$◌, ◌∵◌, !, qed, by, move, keep, drop, split, join, fsplit, fsplit3, fjoin, fjoin3, pick, suffices, use0, use1, use3, await, rewrite, feq_i, feq_l, flt_i, flt_l}
use types.Tokens.{lft_new, lft_end}
use types.Run.{stop, lit, bin, addr, no_more, and_then, first, branches, skips, exec, returns, returns_within, enter}
use types.ByLocal.{alloc_all, pass_all, free_all, look_at, get, through, sets, lands_as, take_at, give_at, is, env}
use types.Part.{agg}
use types.SemTy.{cells, Arr}
use contract.Monad.{fact, fact_i}
use contract.Running.{tables}
use denote.Array.{Array}
use denote.Builtin.{u8, usize}
use denote.Exit.{yes}
use denote.Laws.{Is}
use denote.Lend.{lends_slice, slice_back, Held}
use denote.Memory.{mem, part_at}
use denote.Plain.{uint_Makes}
use denote.RattleType.{owns}
use denote.RawPtr.{Ptr, RawPtr, ptr_val, lies_at, in_a_block, rawptr_Lawful}
use denote.RawPtr.Bytes.{bytes, bytes_apart, bytes_whole}
use denote.Ref.{MutBor}
use denote.Signature.{types_at, plain}
use denote.Slice.{MutSlice, slice_val, finally}
use denote.Steps.{nothing, heard, owned, only}
use denote.Triple.Call.{calls_at}
use denote.Triple.Clauses.{lasts}
use denote.Triple.Spec.{triple_of}
use denote.Triple.Table.{framed}
use denote.Triple.Walked.{Stays, stay_dropped, gave_ref, walk_of, Goes-dropped, Goes-gave_ref}
use Rattle.std.proofs.alloc.Calls.{handle_tells}
use Rattle.std.proofs.VecSteps.Shapes.{after}
use Rattle.std.proofs.raw_atomic.Walks.{proved_at, leaves}
use Rattle.scene_c.specs.Calls.{text_now}
use Rattle.scene_c.specs.Memory.{bytes_at, copied}
use Rattle.scene_c.proofs.HandleValues.{Z, Handle, al}
use Rattle.scene_c.proofs.Lent.{copied_none, no_bytes, no_bytes_left, bytes_out, bytes_in, to_cells, of_cells}
use Rattle.scene_c.specs.contracts.texts.text_len as short
use Rattle.scene_c.proofs.texts.text_len.Met as short_thm
use Rattle.scene_c.specs.contracts.texts.copy_text as long
use Rattle.scene_c.proofs.texts.copy_text.Met as long_thm
use Rattle.scene_c.specs.contracts.scene_answer.{ended, clauses}
use Rattle.scene_c.specs.contracts.scene_answer.Key.{name as #self}
use Rattle.scene_c.proofs.scene_answer.Statement.{statement}
use Rattle.scene_c.proofs.scene_answer.Code as code

pub scene_answer_spec : {M : Type 1} → statement M
scene_answer_spec 𝓤 𝓛 𝓜 𝓡 wired =
    let H = 𝓛.H in let 𝓣 = tables 𝓤 H 𝓜 𝓡 𝓡.env in let c = clauses 𝓛 𝓜.mem 𝓡.returns in let fn = code.function in
    let hs : Stays ended.signature.params ended.kept = (stay_dropped (plain (λ _. Z)) yes, (gave_ref (0 ∷ []) tt (plain (λ _. Handle)), (stay_dropped (plain (λ _. RawPtr)) yes, (stay_dropped (plain (λ _. usize)) yes, tt)))) in
    proved_at 𝓛 ended hs c 𝓜 𝓡 (Goes-dropped 𝓛 1 (plain (λ _. Z)) yes (λ κs x f. refl), (Goes-gave_ref 𝓛 1 0 tt (plain (λ _. Handle)), (Goes-dropped 𝓛 1 (plain (λ _. RawPtr)) yes (λ κs x f. refl), (Goes-dropped 𝓛 1 (plain (λ _. usize)) yes (λ κs x f. refl), tt)))) #self fn (code.unfolded 𝓤 H 𝓜 𝓡 wired) (λ z are.
    let κs = z.0.0 in let κ = κs.0 in let q = z.0.1.0 in let a = z.0.3.0 in let s = z.0.3.1.0 in let p = z.0.3.1.1.0 in let n = z.0.3.1.1.1.0 in let xs = z.1 in
    let text = text_now s.now.value in let sb = s.ref_ptr.0 in let so = s.ref_ptr.1 in
    let Post : Val → SProp 𝓤 = (walk_of 𝓛 ended hs c).post z in let Run : List Val → SProp 𝓤 = λ ws. WpFn 𝓤 H 𝓣.C 𝓣.Λ fn ws Post in
    qed 𝓛 (((‵ (flft κ q) ⊛ ‵ ftrue) ⊛ ‵ (owns (types_at ended.signature.params κs) z.0.3 z.0.4)) ∷ raw ((c κs z.0.3).requires z.1) ∷ []) ∵
    split ! $ split ! $ move ! (2 ∷ []) $ fsplit ! $ handle_tells al ! a z.0.4.0 (λ h eh fits. move ! (1 ∷ []) $ fsplit ! $ fsplit3 ! $ feq_l ! (λ es.
    move ! (2 ∷ []) $ fsplit ! $ feq_l ! (λ ep. fsplit ! $ fsplit ! $ feq_l ! (λ en. flt_l ! (λ fits_n. drop ! $
    move ! (5 ∷ []) $ use1 𝓛 (‵ (bytes_at p n xs)) (id⊢ 𝓤 _) $
    -- [the room; obs and the borrow of the handle; the handle of the heap; the token; nothing]
    let given : List Val = h ∷ vptr sb so ∷ ptr_val p ∷ vint w64 n ∷ [] in
    suffices ! (Run given) (subst (λ (us : List Val × List Val × List Val × List Val). ent 𝓤 (Run given) (Run (us.0 ++ (us.1 ++ (us.2 ++ (us.3 ++ [])))))) (λ i. (sym eh i, sym es i, sym ep i, sym en i)) (id⊢ 𝓤 (Run given))) $
    enter ! 𝓣.C 𝓣.Λ fn given Post $ alloc_all ! (λ l. pass_all ! refl (fits, ((tt, tt), (((rawptr_Lawful 𝓛).typed p (ptr_val p ∷ []) refl).0, ((tt, record { fits = fits_n }), tt)))) $
    let En = env fn.locals l in
    sets ! (bin ! (get ! refl) (lit ! tt) tt) refl (tt, tt) $ first ! $ branches ! (get ! refl)
    (λ empty. use1 𝓛 (‵ (feq (List ℕ) xs [])) (no_bytes 𝓛 p n xs (eqb→eq n 0 empty)) $ feq_l ! (λ none.
    sets ! (addr ! (through ! refl (stop !))) refl (tt, tt) $
    let k = triple_of 𝓛 short.signature (short.spec 𝓛 𝓜.mem 𝓡.returns) in let y : k.Ghost = ((κs, z.0.1, tt, (a, (s, tt)), (h ∷ [], (vptr sb so ∷ [], tt))), tt) in
    feq_i ! (List Val) (vptr sb so ∷ []) (vptr sb so ∷ []) refl $ fjoin3 ! $ nothing ! $ move ! (1 ∷ 0 ∷ []) $ fjoin ! $ move ! (1 ∷ 0 ∷ []) $ fjoin ! $
    move ! (1 ∷ 2 ∷ []) $ join ! $ join ! $ nothing ! $ move ! (1 ∷ 0 ∷ []) $ join ! $ use1 𝓛 (raw (k.pre y)) (id⊢ 𝓤 (k.pre y)) $
    calls_at ! (framed 𝓤 H 𝓜 𝓣) k (short_thm.met 𝓤 𝓛 𝓜 𝓡 (code.calls-scene_c::texts::text_len 𝓡.env wired)) y (and_then ! (get ! refl) (and_then ! (get ! refl) (no_more !))) (λ u.
    use1 𝓛 (later (some (λ (r : ℕ). ((‵ (flft κ q) ⊛ ‵ ftrue) ⊛ ‵ (usize.own_val r (u ∷ []))) ⊛ some (λ (ws : Unit {0} × (Handle.Denot × Unit {0})). ‵ (lasts short.ended κs y.0.3 ws)
    ⊛ (raw (fact 𝓤 (r ≡ length text)) ⊛ raw (fact 𝓤 (ws.1.0.value ≡ s.now.value))))))) (id⊢ 𝓤 (k.post y u)) $
    await ! tt $ pick ! (λ r. split ! $ split ! $ split ! $ move ! (3 ∷ []) $ pick ! (λ ws. split ! $ move ! (1 ∷ []) $ split ! $ heard ! _ (λ counts. heard ! _ (λ same.
    -- [what is left of the handle; the token; nothing; the count]
    move ! (3 ∷ []) $ fsplit ! $ feq_l ! (λ eu. flt_l ! (λ fits_r. lands_as ! (ap only eu) refl (tt, record { fits = fits_r }) $
    let w = ws.1.0 in fsplit ! $ drop ! $ fsplit ! $ move ! (1 ∷ []) $ drop ! $
    feq_i ! (List ℕ) (copied text xs) [] (ap (copied text) none ∙ copied_none text) $ use1 𝓛 (‵ (bytes_at p n (copied text xs))) (no_bytes_left 𝓛 p n (copied text xs) (eqb→eq n 0 empty)) $
    -- [the room; what is left of the handle; the token; nothing]
    use0 𝓛 (raw (fact 𝓤 (w.value ≡ s.now.value))) (fact_i 𝓤 _ (emp 𝓤) same) $ use0 𝓛 (raw (fact 𝓤 (r ≡ length text))) (fact_i 𝓤 _ (emp 𝓤) counts) $ join ! $ move ! (1 ∷ 0 ∷ []) $ join ! $ move ! (1 ∷ []) $
    nothing ! $ nothing ! $ fjoin ! $ nothing ! $ fjoin ! $ move ! (1 ∷ 0 ∷ []) $ fjoin ! $ nothing ! $ fjoin ! $ move ! (2 ∷ 3 ∷ []) $ join ! $
    owned ! usize (Is usize) (uint_Makes 𝓛 w64) r (vint w64 r ∷ []) (refl, fits_r) $ move ! (1 ∷ 2 ∷ 0 ∷ []) $
    -- [the token; what is left of the parameters; the count; the room and what is said]
    returns_within ! Post refl (look_at ! 0 refl) $ free_all ! refl $ keep ! (0 ∷ 1 ∷ 2 ∷ 3 ∷ []) $ by ! (leaves 𝓛 ended hs c z (vint w64 r) r (tt, (w, (tt, (tt, tt)))) (tt, (tt, (tt, (tt, tt))))))))))))))
    (λ more. skips ! $ exec ! 𝓣.C 𝓣.Λ En (after 2 fn.body) (at_ret En Post) $
    use1 𝓛 (‵ (fsep (flt n (2 ^ 63)) (lies_at (Array u8 n) full_share p xs))) (bytes_out 𝓛 p n xs (eqb_no more)) $ fsplit ! $ flt_l ! (λ low. in_a_block ! p (λ o. lies_at (Array u8 n) full_share o xs) (id⊢ 𝓤 (never 𝓤)) (λ b o e.
    use1 𝓛 (‵ (fsep (feq ℕ (length xs) n) (bytes full_share xs b o))) (bytes_apart 𝓛 full_share n xs b o) $ fsplit ! $ feq_l ! (λ count. use1 𝓛 (‵ (cells (mem u8) xs b o)) (to_cells 𝓛 xs b o) $
    -- [the bytes; obs and the borrow of the handle; the handle of the heap; the token; nothing]
    sets ! (addr ! (through ! refl (stop !))) refl (tt, tt) $
    take_at ! 3 $ rewrite ! 0 (λ (o : Ptr). ‵ (fat full_share ty_ptr (l 3) 0 (ptr_val o))) e refl $ give_at ! 3 $
    let fits_xs : length xs < 2 ^ 64 = omega (arith, count, low) in let small : length xs * 1 < 2 ^ 63 = omega (arith, count, low) in
    sets ! (is ! (agg ! (and_then ! (get ! refl) (and_then ! (get ! refl) (no_more !)))) (ap (slice_val (b, o)) (sym count))) refl (tt, (tt, (record { fits = fits_xs }, tt))) $
    lft_new ! tt (λ α. let κ' : Lft = α ∷ [] in move ! (1 ∷ []) $
    use1 𝓛 (later (some (λ (γ : GName). ‵ ((MutSlice (named 1) κ' u8).own_val (record { ref_ptr = (b, o); ghost_name = γ; now = xs }) (slice_val (b, o) (length xs) ∷ [])) ⊛ ‵ (flent κ' (Held u8 (length xs) b o γ)))))
    (lends_slice 𝓛 u8 (named 1) κ' xs b o (fits_xs, small)) $ await ! tt $ pick ! (λ γ. split ! $
    -- [the slice; the right to the bytes; its token; obs and the borrow of the handle; the handle of the heap; the
    -- token; nothing]
    let at : MutBor (List ℕ) = record { ref_ptr = (b, o); ghost_name = γ; now = xs } in
    let k = triple_of 𝓛 long.signature (long.spec 𝓛 𝓜.mem 𝓡.returns) in let y : k.Ghost = (((κ, (κ', tt)), (q, (full_share, tt)), tt, (a, (s, (at, tt))), (h ∷ [], (vptr sb so ∷ [], (slice_val (b, o) (length xs) ∷ [], tt)))), tt) in
    nothing ! $ move ! (1 ∷ 0 ∷ []) $ fjoin ! $ move ! (3 ∷ 4 ∷ []) $ feq_i ! (List Val) (vptr sb so ∷ []) (vptr sb so ∷ []) refl $ fjoin3 ! $ fjoin ! $ move ! (3 ∷ 0 ∷ []) $ fjoin ! $
    move ! (2 ∷ 4 ∷ []) $ join ! $ move ! (3 ∷ 0 ∷ []) $ join ! $ join ! $ nothing ! $ move ! (1 ∷ 0 ∷ []) $ join ! $ use1 𝓛 (raw (k.pre y)) (id⊢ 𝓤 (k.pre y)) $
    calls_at ! (framed 𝓤 H 𝓜 𝓣) k (long_thm.met 𝓤 𝓛 𝓜 𝓡 (code.calls-scene_c::texts::copy_text 𝓡.env wired)) y (and_then ! (get ! refl) (and_then ! (get ! refl) (and_then ! (get ! refl) (no_more !)))) (λ u.
    use1 𝓛 (later (some (λ (r : ℕ). ((‵ (flft κ q) ⊛ (‵ (flft κ' full_share) ⊛ ‵ ftrue)) ⊛ ‵ (usize.own_val r (u ∷ []))) ⊛ some (λ (ws : Unit {0} × (Handle.Denot × (List ℕ × Unit {0}))). ‵ (lasts long.ended y.0.0 y.0.3 ws)
    ⊛ (raw (fact 𝓤 (r ≡ length text)) ⊛ (raw (fact 𝓤 (ws.1.1.0 ≡ copied text xs)) ⊛ raw (fact 𝓤 (ws.1.0.value ≡ s.now.value)))))))) (id⊢ 𝓤 (k.post y u)) $
    await ! tt $ pick ! (λ r. split ! $ split ! $ split ! $ move ! (3 ∷ []) $ pick ! (λ ws. split ! $ move ! (1 ∷ []) $ split ! $ heard ! _ (λ counts. split ! $ heard ! _ (λ written. heard ! _ (λ same.
    -- [what is left; the token; the slice's token; the count; the right to the bytes]
    move ! (3 ∷ []) $ fsplit ! $ feq_l ! (λ eu. flt_l ! (λ fits_r. lands_as ! (ap only eu) refl (tt, record { fits = fits_r }) $
    move ! (2 ∷ []) $ split ! $ lft_end ! tt $ move ! (2 ∷ []) $ fsplit ! $ drop ! $ fsplit ! $ move ! (1 ∷ []) $ fsplit ! $ fsplit ! $ fsplit ! $
    -- [the slice's last list; its length; its borrow; nothing; what is left of the handle; its lifetime is over;
    -- nothing; the token; the right to the bytes]
    let w = ws.1.0 in let new = copied text xs in rewrite ! 0 (λ (ys : List ℕ). ‵ (finally u8 γ ys)) written refl $
    move ! (5 ∷ 8 ∷ 0 ∷ []) $ use3 𝓛 (later (‵ ((Arr (mem u8) (length xs)).own_at new b o))) (slice_back 𝓛 u8 κ' γ new (length xs) b o) $ await ! tt $
    -- [the bytes; its length; its borrow; nothing; what is left of the handle; nothing; the token]
    fsplit ! $ feq_l ! (λ as_long. use1 𝓛 (‵ (bytes full_share new b o)) (of_cells 𝓛 new b o) $ feq_i ! ℕ (length new) n (as_long ∙ count) $ fjoin ! $ use1 𝓛 (‵ (part_at (Array u8 n) full_share new b o)) (bytes_whole 𝓛 full_share n new b o) $
    rewrite ! 0 (λ (o : Ptr). ‵ (lies_at (Array u8 n) full_share o new)) (sym e) refl $ flt_i ! n (2 ^ 63) low $ fjoin ! $ use1 𝓛 (‵ (bytes_at p n new)) (bytes_in 𝓛 p n new (eqb_no more)) $
    move ! (0 ∷ 4 ∷ 6 ∷ 5 ∷ []) $
    -- [the room; what is left of the handle; the token; nothing]
    use0 𝓛 (raw (fact 𝓤 (w.value ≡ s.now.value))) (fact_i 𝓤 _ (emp 𝓤) same) $ use0 𝓛 (raw (fact 𝓤 (r ≡ length text))) (fact_i 𝓤 _ (emp 𝓤) counts) $ join ! $ move ! (1 ∷ 0 ∷ []) $ join ! $ move ! (1 ∷ []) $
    nothing ! $ nothing ! $ fjoin ! $ nothing ! $ fjoin ! $ move ! (1 ∷ 0 ∷ []) $ fjoin ! $ nothing ! $ fjoin ! $ move ! (2 ∷ 3 ∷ []) $ join ! $
    owned ! usize (Is usize) (uint_Makes 𝓛 w64) r (vint w64 r ∷ []) (refl, fits_r) $ move ! (1 ∷ 2 ∷ 0 ∷ []) $
    -- [the token; what is left of the parameters; the count; the room and what is said]
    returns ! (look_at ! 0 refl) $ free_all ! refl $ keep ! (0 ∷ 1 ∷ 2 ∷ 3 ∷ []) $ by ! (leaves 𝓛 ended hs c z (vint w64 r) r (tt, (w, (tt, (tt, tt)))) (tt, (tt, (tt, (tt, tt)))))))))))))))))))))))))))
