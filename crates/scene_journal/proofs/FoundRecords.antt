-- Where it is known that a record fits, but not how, it is found how.
use Rattle.std.proofs.Common.{◌≡◌, ◌<◌, ◌+◌, ℕ}
use Rattle.std.proofs.Math.Logic.{∥∥₁_elim}
use Rattle.std.proofs.Props.{props}
use Rattle.scene_model.specs.World.{World}
use Rattle.scene_model.specs.Can.{can_set_tick}
use Rattle.scene_model.specs.Commands.{highest_tick}
use Rattle.scene_deltas.specs.Deltas.{back_all}
use Rattle.scene_deltas.proofs.Truncated.{each_fits_back, each_fits_on, passes-prop}
use Rattle.scene_journal.specs.Records.{Record, raised, RecordFitsBack, RecordFitsOn}

same-prop : (m n : ℕ) → IsProp (m ≡ n)
same-prop m n = Prim.hlevel props

below-prop : (m n : ℕ) → IsProp (m < n)
below-prop m n = Prim.hlevel props

module _ (P : Type 0) (known : ∥ P ∥₁) where
  pub fits_back_from : (r : Record) (w : World) → (P → RecordFitsBack r w) → RecordFitsBack r w
  fits_back_from r w get = record {
    tick = ∥∥₁_elim known (same-prop w.tick (r.tick_before + 1)) (λ p. (get p).tick);
    deltas = each_fits_back P known r.deltas w (λ p. (get p).deltas);
    timely = ∥∥₁_elim known (passes-prop (can_set_tick (back_all r.deltas w) r.tick_before)) (λ p. (get p).timely);
  }

  pub fits_on_from : (r : Record) (w : World) → (P → RecordFitsOn r w) → RecordFitsOn r w
  fits_on_from r w get = record {
    tick = ∥∥₁_elim known (same-prop w.tick r.tick_before) (λ p. (get p).tick);
    low = ∥∥₁_elim known (below-prop w.tick highest_tick) (λ p. (get p).low);
    deltas = each_fits_on P known r.deltas (raised w) (λ p. (get p).deltas);
  }
