-- An undo and a redo take each other back.
use Rattle.std.proofs.Common.{◌≡◌, ◌≢◌, suc, ◌+◌, ◌-◌, ◌<◌, true, false, List, [], ◌∷◌, length, take, refl, ap, sym, subst, ◌∙◌, arith, Ok, nat_eq, if◌then◌else◌}
use Rattle.std.proofs.lemmas.List.{take_all}
use Rattle.scene_kinds.specs.Answers.{refuse}
use Rattle.scene_kinds.specs.declared.fault.Fault.TheVariants.{TickFull}
use Rattle.scene_machine.specs.Machine.{Machine, undo, undone_to, redo, redone_to}
use Rattle.scene_model.proofs.Outcomes.{not_ok}
use Rattle.scene_schedule.proofs.StagedSystems.{same_answer}
use Rattle.scene_undo.specs.BackAndForth.{IsWithinDepth, counted_with, UndoThenRedo, RedoThenUndo}
use Rattle.scene_undo.proofs.Machines.{told_apart}

module _ {W : Type 0} (m : Machine W) where
  -- ---- an undo, and then a redo

  abbrev undone_once : W → List W → Machine W
  undone_once w ws = record m { past = ws; now = w; future = m.now ∷ m.future; rewinds = m.rewinds + 1 }

  pub undo_then_redo : IsWithinDepth m → UndoThenRedo m
  undo_then_redo within n = from m.past refl
    where
      from : (ps : List W) → m.past ≡ ps → undone_to m ps ≡ Ok (tt, n) → redo n ≡ Ok (tt, counted_with m m.past)
      from [] is h = absurd (not_ok (tt, n) _ h)
      from (w ∷ ws) is h = elim (nat_eq m.rewinds 18446744073709551615) as (λ b. (if b then refuse TickFull else Ok (tt {0}, undone_once w ws)) ≡ Ok (tt, n) → redo n ≡ Ok (tt, counted_with m m.past)) [
        | true ↦ λ k. absurd (not_ok (tt, n) _ k)
        | false ↦ λ k.
            let all : take m.depth (w ∷ ws) ≡ m.past = ap (take m.depth) (sym is) ∙ take_all m.depth m.past within in
            subst (λ (x : Machine W). redo x ≡ Ok (tt, counted_with m m.past)) (ap (λ p. p.1) (same_answer _ _ k))
            (λ i. Ok (tt, counted_with m (all i)))
      ] h

  -- ---- a redo, and then an undo

  abbrev redone_once : List W → W → List W → Machine W
  redone_once ps w ws = record m { past = ps; now = w; future = ws }

  one_more : 0 < m.depth → take m.depth (m.now ∷ m.past) ≡ m.now ∷ take (m.depth - 1) m.past
  one_more some = ap (λ d. take d (m.now ∷ m.past)) (let e : m.depth ≡ suc (m.depth - 1) = omega (arith, some) in e)

  pub redo_then_undo : (n : Machine W) → redo m ≡ Ok (tt, n) → m.rewinds ≢ 18446744073709551615 → 0 < m.depth → undo n ≡ Ok (tt, counted_with m (take (m.depth - 1) m.past))
  redo_then_undo n h few some = from m.future refl h
    where
      from : (fs : List W) → m.future ≡ fs → redone_to m fs ≡ Ok (tt, n) → undo n ≡ Ok (tt, counted_with m (take (m.depth - 1) m.past))
      from [] is h = absurd (not_ok (tt, n) _ h)
      from (w ∷ ws) is h =
          let rest = take (m.depth - 1) m.past in
          subst (λ (x : Machine W). undo x ≡ Ok (tt, counted_with m rest)) (ap (λ p. p.1) (same_answer _ _ h))
          (ap (λ ps. undo (redone_once ps w ws)) (one_more some)
          ∙ ap (λ b. if b then refuse TickFull else Ok (tt, record m { past = rest; future = w ∷ ws; rewinds = m.rewinds + 1 })) (told_apart m.rewinds 18446744073709551615 few)
          ∙ (λ i. Ok (tt, record m { past = rest; future = sym is i; rewinds = m.rewinds + 1 })))

  pub redo_then_undo_all : (n : Machine W) → redo m ≡ Ok (tt, n) → m.rewinds ≢ 18446744073709551615 → length m.past < m.depth → undo n ≡ Ok (tt, counted_with m m.past)
  redo_then_undo_all n h few less =
      let all : take (m.depth - 1) m.past ≡ m.past = take_all (m.depth - 1) m.past (omega (arith, less)) in
      redo_then_undo n h few (omega (arith, less)) ∙ (λ i. Ok (tt, counted_with m (all i)))

  pub both_ways : RedoThenUndo m
  both_ways = record { same = redo_then_undo_all; dropped = redo_then_undo }
