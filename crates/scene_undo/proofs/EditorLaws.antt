-- What an editor keeps from one call to the next.
use Rattle.std.proofs.Common.{◌≡◌, ◌≤◌, ℕ, zero, suc, List, [], ◌∷◌, length, take, refl, sym, ap, subst, arith}
use Rattle.scene_model.specs.World.{World}
use Rattle.scene_world.specs.Room.{Room}
use Rattle.scene_journal.specs.Recorder.{Recording, recording}
use Rattle.scene_journal.specs.Records.{Record, raised, record_of, redone, undone}
use Rattle.scene_deltas.proofs.Truncated.{each_ready, each_ready_on}
use Rattle.scene_journal.proofs.FoundRecords.{fits_back_from, fits_on_from}
use Rattle.scene_undo.specs.Kept.{CanUndoAll, CanRedoAll}

-- ---- where it is known that records can be undone and redone, it is found how

module _ (P : Type 0) (known : ∥ P ∥₁) where
  each_undo : (room : Room) (rs : List Record) (w : World) → (P → CanUndoAll room rs w) → CanUndoAll room rs w
  each_undo room [] w get = tt
  each_undo room (r ∷ rs) w get = (
    record { fits = fits_back_from P known r w (λ p. (get p).0.fits); ready = each_ready P known room r.deltas w (λ p. (get p).0.ready) },
    each_undo room rs (undone r w) (λ p. (get p).1),
  )

  each_redo : (room : Room) (rs : List Record) (w : World) → (P → CanRedoAll room rs w) → CanRedoAll room rs w
  each_redo room [] w get = tt
  each_redo room (r ∷ rs) w get = (
    record { fits = fits_on_from P known r w (λ p. (get p).0.fits); ready = each_ready_on P known room r.deltas (raised w) (λ p. (get p).0.ready) },
    each_redo room rs (redone r w) (λ p. (get p).1),
  )

pub found : (room : Room) (past future : List Record) (w : World) → ∥ CanUndoAll room past w × CanRedoAll room future w ∥₁
    → CanUndoAll room past w × CanRedoAll room future w
found room past future w known =
    let all : Type 0 = CanUndoAll room past w × CanRedoAll room future w in
    (each_undo all known room past w (λ p. p.0), each_redo all known room future w (λ p. p.1))

-- a recorder of the world in which records can be undone and redone, between two frames
pub at_rest : (r : Recording) (w : World) (room : Room) (past future : List Record) → r ≡ recording (record { world = w; room = room }) (record_of w.tick [])
    → CanUndoAll room past w → CanRedoAll room future w
    → (r.frame.deltas ≡ []) × ∥ CanUndoAll r.room past r.world × CanRedoAll r.room future r.world ∥₁
at_rest r w room past future is undoes redoes =
    subst (λ (x : Recording). (x.frame.deltas ≡ []) × ∥ CanUndoAll x.room past x.world × CanRedoAll x.room future x.world ∥₁) (sym is)
    (refl, ∣ (undoes, redoes) ∣₁)

-- the newest records of a past can be undone where all can
pub newest : (room : Room) (depth : ℕ) (rs : List Record) (w : World) → CanUndoAll room rs w → CanUndoAll room (take depth rs) w
newest room zero rs w can = tt
newest room (suc n) [] w can = tt
newest room (suc n) (r ∷ rs) w can = (can.0, newest room n rs (undone r w) can.1)

-- and are no more than the depth says
pub within : (depth d : ℕ) (rs ts : List Record) → ts ≡ take depth rs → d ≡ depth → length ts ≤ d
within depth d rs ts is same = let few = few_taken depth rs in omega (arith, few, ap length is, same)
  where
    few_taken : (n : ℕ) (xs : List Record) → length (take n xs) ≤ n
    few_taken zero xs = omega arith
    few_taken (suc n) [] = omega arith
    few_taken (suc n) (x ∷ xs) = let k = few_taken n xs in omega arith

-- what can be undone and redone, in an equal world with equal room
pub elsewhere : (room other : Room) (w v : World) (past future : List Record) → other ≡ room → v ≡ w
    → CanUndoAll room past w × CanRedoAll room future w → CanUndoAll other past v × CanRedoAll other future v
elsewhere room other w v past future rooms worlds both =
    subst (λ r. CanUndoAll r past v × CanRedoAll r future v) (sym rooms)
    (subst (λ u. CanUndoAll room past u × CanRedoAll room future u) (sym worlds) both)

-- and of equal records
pub of_equal : (room : Room) (w : World) (past other_past future other_future : List Record) → other_past ≡ past → other_future ≡ future
    → CanUndoAll room past w × CanRedoAll room future w → CanUndoAll room other_past w × CanRedoAll room other_future w
of_equal room w past other_past future other_future pasts futures both =
    (subst (λ rs. CanUndoAll room rs w) (sym pasts) both.0, subst (λ rs. CanRedoAll room rs w) (sym futures) both.1)
