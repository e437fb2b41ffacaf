-- What an editor's machine becomes where a record goes to its past, or from it.
use Rattle.std.proofs.Common.{◌≡◌, ◌≤◌, ℕ, zero, suc, ◌+◌, ◌-◌, true, false, List, [], ◌∷◌, length, take, arith, refl, ap, sym, subst, ◌∙◌, Ok, nat_eq, if◌then◌else◌}
use Rattle.std.proofs.lemmas.Bool.{eqb-true}
use Rattle.scene_kinds.specs.Answers.{refuse}
use Rattle.scene_kinds.specs.declared.fault.Fault.TheVariants.{TickFull}
use Rattle.scene_machine.specs.Machine.{Machine, accepted, undo, redo}
use Rattle.scene_model.specs.World.{World}
use Rattle.scene_model.specs.Valid.{IsValid}
use Rattle.scene_world.specs.Room.{Room, Holds}
use Rattle.scene_journal.specs.Records.{Record, redone, undone}
use Rattle.scene_journal.proofs.Records.{records_come_back}
use Rattle.scene_undo.specs.Editor.{machine_of, worlds_along}
use Rattle.scene_undo.specs.Kept.{CanUndo, CanRedo, CanUndoAll, CanRedoAll}
use Rattle.scene_undo.proofs.Kept.{undone_can, redone_can}

-- records lead to as many worlds
pub no_more_worlds : (step : Record → World → World) (rs : List Record) (w : World) (depth : ℕ) → length rs ≤ depth → length (worlds_along step rs w) ≤ depth
no_more_worlds step [] w depth few = few
no_more_worlds step (r ∷ rs) w depth few = let rest = no_more_worlds step rs (step r w) (depth - 1) (omega (arith, few)) in omega (arith, few, rest)

-- the worlds of the newest records are the newest worlds
pub along_newest : (step : Record → World → World) (depth : ℕ) (rs : List Record) (w : World)
    → worlds_along step (take depth rs) w ≡ take depth (worlds_along step rs w)
along_newest step zero rs w = refl
along_newest step (suc n) [] w = refl
along_newest step (suc n) (r ∷ rs) w = ap (λ ws. step r w ∷ ws) (along_newest step n rs (step r w))

module _ (room : Room) (r : Record) (w : World) (valid : IsValid w) (held : Holds room w) where
  -- after an undo the world of the record comes first in the future
  pub undone_future : (rs : List Record) → CanUndo room r w → CanRedoAll room rs w → CanRedoAll room (r ∷ rs) (undone r w)
  undone_future rs can rest =
      (undone_can room r w valid held can, subst (CanRedoAll room rs) (sym ((records_come_back r).1.comes_back w valid can.fits)) rest)

  pub undone_worlds : (rs : List Record) → CanUndo room r w → worlds_along redone (r ∷ rs) (undone r w) ≡ w ∷ worlds_along redone rs w
  undone_worlds rs can = ap (λ u. u ∷ worlds_along redone rs u) ((records_come_back r).1.comes_back w valid can.fits)

  -- after a redo it comes first in the past
  pub redone_past : (rs : List Record) → CanRedo room r w → CanUndoAll room rs w → CanUndoAll room (r ∷ rs) (redone r w)
  redone_past rs can rest =
      (redone_can room r w valid held can, subst (CanUndoAll room rs) (sym ((records_come_back r).0.comes_back w valid can.fits)) rest)

  pub redone_worlds : (rs : List Record) → CanRedo room r w → worlds_along undone (r ∷ rs) (redone r w) ≡ w ∷ worlds_along undone rs w
  redone_worlds rs can = ap (λ u. u ∷ worlds_along undone rs u) ((records_come_back r).0.comes_back w valid can.fits)

-- ---- the machine after an undo, and after a redo

module _ (room : Room) (r : Record) (w : World) (rest others : List Record) (rewinds depth : ℕ) (valid : IsValid w) (held : Holds room w) where
  abbrev undone_once : List World → Machine World
  undone_once ws =
      record { past = worlds_along undone rest (undone r w); now = undone r w; future = ws; rewinds = rewinds + 1; depth = depth }

  pub machine_undone : CanUndo room r w → nat_eq rewinds 18446744073709551615 ≡ false
      → undo (machine_of (record { world = w; past = r ∷ rest; future = others; rewinds = rewinds; depth = depth }))
      ≡ Ok (tt, machine_of (record { world = undone r w; past = rest; future = r ∷ others; rewinds = rewinds + 1; depth = depth }))
  machine_undone can few =
      ap (λ b. if b then refuse TickFull else Ok (tt, undone_once (w ∷ worlds_along redone others w))) few
      ∙ ap (λ ws. Ok (tt, undone_once ws)) (sym (undone_worlds room r w valid held others can))

  abbrev redone_once : List World → Machine World
  redone_once ws = record { past = ws; now = redone r w; future = worlds_along redone rest (redone r w); rewinds = rewinds; depth = depth }

  pub machine_redone : CanRedo room r w
      → redo (machine_of (record { world = w; past = others; future = r ∷ rest; rewinds = rewinds; depth = depth }))
      ≡ Ok (tt, machine_of (record { world = redone r w; past = take depth (r ∷ others); future = rest; rewinds = rewinds; depth = depth }))
  machine_redone can = ap (λ ws. Ok (tt, redone_once ws))
      (ap (take depth) (sym (redone_worlds room r w valid held others can)) ∙ sym (along_newest undone depth (r ∷ others) (redone r w)))

-- numbers that aren't equal are told apart
pub told_apart : (m n : ℕ) → (m ≡ n → ⊥) → nat_eq m n ≡ false
told_apart m n differ = elim (nat_eq m n) as (λ b. nat_eq m n ≡ b → b ≡ false) [
  | true ↦ λ h. absurd (differ (eqb-true m n h))
  | false ↦ λ h. refl
] refl

-- ---- the machine after a frame

-- where undoing the frame's record gives the world from before
pub machine_framed : (w v : World) (past future : List Record) (rewinds depth : ℕ) (r : Record) → undone r v ≡ w
    → accepted (machine_of (record { world = w; past = past; future = future; rewinds = rewinds; depth = depth })) v
    ≡ machine_of (record { world = v; past = take depth (r ∷ past); future = []; rewinds = rewinds; depth = depth })
machine_framed w v past future rewinds depth r back =
    (λ i. record { past = take depth (sym back i ∷ worlds_along undone past (sym back i)); now = v; future = []; rewinds = rewinds; depth = depth })
    ∙ (λ i. record { past = sym (along_newest undone depth (r ∷ past) v) i; now = v; future = []; rewinds = rewinds; depth = depth })
