-- A spawn that was noted: what its row is told to be, and that it can be taken back.
use Rattle.std.proofs.Common.{◌≡◌, ℕ, Bool, true, List, [], ◌∷◌, ap, sym, subst, ◌∙◌, Ok}
use Rattle.scene_kinds.specs.declared.entity.Entity.{Entity}
use Rattle.scene_kinds.specs.declared.cell.Cell.{Cell}
use Rattle.scene_kinds.specs.declared.value.Value.{Value}
use Rattle.scene_alloc.specs.Slots.{takes_new_slot}
use Rattle.scene_model.specs.World.{World}
use Rattle.scene_model.specs.Can.{can_drop}
use Rattle.scene_model.specs.Commands.{new_cells, spawn}
use Rattle.scene_model.specs.Perform.{Spawn}
use Rattle.scene_model.specs.Raw.{cells_of, drop_last}
use Rattle.scene_model.specs.Valid.{IsValid}
use Rattle.scene_model.proofs.CanParts.{drop, put}
use Rattle.scene_model.proofs.RowCommands.{spawn_puts}
use Rattle.scene_model.proofs.SpawnKeeps.{spawn_keeps}
use Rattle.scene_deltas.specs.declared.delta.Delta.{Delta}
use Rattle.scene_deltas.specs.declared.delta.Delta.TheVariants.{Spawned}
use Rattle.scene_deltas.specs.Notes.{spawned, deltas_of}
use Rattle.scene_deltas.proofs.ComeBack.{deltas_come_back}
use Rattle.scene_deltas.proofs.Ready.{cells_last}

module _ (w v : World) (given : List (ℕ × Value)) (e : Entity) (valid : IsValid w) (is : spawn w given ≡ Ok (e, v)) where
  abbrev new : List (ℕ × Cell)
  new = new_cells w.tick given

  abbrev fresh : Bool
  fresh = takes_new_slot w.slots

  can : can_drop v e new fresh ≡ true
  can =
      let puts = spawn_puts w v given e valid is in
      subst (λ u. can_drop u e new fresh ≡ true) (sym puts.1) ((deltas_come_back (Spawned e new fresh)).0.can_come_back w valid puts.0)

  pub own_cells : cells_of v e ≡ new
  own_cells = cells_last v e new (spawn_keeps w v given e valid is) ((drop v e new fresh).0 can).row

  pub can_leave : (b : Bool) → b ≡ fresh → can_drop v e (cells_of v e) b ≡ true
  can_leave b same = (λ i. can_drop v e (own_cells i) (same i)) ∙ can

  pub dropped_again : (b : Bool) → b ≡ fresh → drop_last v e b ≡ w
  dropped_again b same =
      let puts = spawn_puts w v given e valid is in
      ap (drop_last v e) same ∙ ap (λ u. drop_last u e fresh) puts.1 ∙ (deltas_come_back (Spawned e new fresh)).0.comes_back w valid puts.0

  pub spawn_noted : (b : Bool) (cells : List (ℕ × Cell)) → b ≡ fresh → cells ≡ cells_of v e → ◌≡◌ {A = List Delta} (Spawned e cells b ∷ []) (deltas_of w (Spawn given))
  spawn_noted b cells same own =
      (λ i. Spawned e ((own ∙ own_cells) i) (same i) ∷ []) ∙ sym (ap (spawned w new) ((put w e new fresh).0 (spawn_puts w v given e valid is).0).next)
