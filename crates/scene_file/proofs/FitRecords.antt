-- Records that fit on a valid world, or fit back there, one after another, can be written.
use Rattle.std.proofs.Common.{◌≡◌, ◌+◌, ◌^◌, ◌<◌, List, [], ◌∷◌, reverse, refl, sym, subst, ◌∙◌, arith, Option, Some, None}
use Rattle.std.specs.List.{AllByRecursion}
use Rattle.std.proofs.lemmas.Grind.{reverse_onto}
use Rattle.std.proofs.lemmas.List.{reverse-reverse}
use Rattle.scene_kinds.specs.declared.cells.Row.{Row}
use Rattle.scene_kinds.specs.Schema.{Kinds}
use Rattle.scene_table.specs.declared.home.Home.{Home}
use Rattle.scene_model.specs.World.{World, row_of}
use Rattle.scene_model.specs.Valid.{IsValid}
use Rattle.scene_model.specs.Raw.{by_row}
use Rattle.scene_model.proofs.ResourceBack.{ticks_come_back}
use Rattle.scene_deltas.specs.declared.delta.Delta.{Delta}
use Rattle.scene_deltas.specs.declared.delta.Delta.TheVariants.{Spawned, Despawned, Shifted, CellSet, Linked, ResourceSet}
use Rattle.scene_deltas.specs.Deltas.{fwd, back, fwd_all, back_all, AllFitOn}
use Rattle.scene_deltas.proofs.ComeBack.{deltas_come_back}
use Rattle.scene_journal.specs.Records.{Record, raised, redone, undone, RecordFitsOn, RecordFitsBack}
use Rattle.scene_journal.proofs.Records.{records_come_back, can_raise}
use Rattle.scene_journal.specs.FirstFaults.{PastFits, FutureFits}
use Rattle.scene_validate.proofs.Tests.{all_with, all_append}
use Rattle.scene_file_records.specs.Writable.{IsWritable, IsWritableDelta}
use Rattle.scene_file.proofs.FitDeltas.{IsTold, fitting_told}

-- a record can be written, its tick too
pub record IsRecordTold (schema : Kinds) (r : Record) : Type 0 where
  pub tick : r.tick_before < 2 ^ 64
  pub deltas : AllByRecursion (IsTold schema) r.deltas

-- ---- deltas keep the kinds

row_keeps_schema : (w : World) (o : Option (Home × Row)) (change : Home → Row → World) → ((h : Home) (r : Row) → (change h r).schema ≡ w.schema)
    → (by_row w o change).schema ≡ w.schema
row_keeps_schema w None change keeps = refl
row_keeps_schema w (Some p) change keeps = keeps p.0 p.1

fwd_keeps_schema : (d : Delta) (w : World) → (fwd d w).schema ≡ w.schema
fwd_keeps_schema (Spawned e cells fresh) w = refl
fwd_keeps_schema (Despawned e place cells link retired) w = row_keeps_schema w (row_of w e) _ (λ h r. refl)
fwd_keeps_schema (Shifted e place kind cell inward) w = row_keeps_schema w (row_of w e) _ (λ h r. refl)
fwd_keeps_schema (CellSet e kind before after) w = row_keeps_schema w (row_of w e) _ (λ h r. refl)
fwd_keeps_schema (Linked e before after) w = refl
fwd_keeps_schema (ResourceSet name before after) w = refl

back_keeps_schema : (d : Delta) (w : World) → (back d w).schema ≡ w.schema
back_keeps_schema (Spawned e cells fresh) w = row_keeps_schema w (row_of w e) _ (λ h r. refl)
back_keeps_schema (Despawned e place cells link retired) w = refl
back_keeps_schema (Shifted e place kind cell inward) w = row_keeps_schema w (row_of w e) _ (λ h r. refl)
back_keeps_schema (CellSet e kind before after) w = row_keeps_schema w (row_of w e) _ (λ h r. refl)
back_keeps_schema (Linked e before after) w = refl
back_keeps_schema (ResourceSet name before after) w = refl

fwd_all_keeps_schema : (ds : List Delta) (w : World) → (fwd_all ds w).schema ≡ w.schema
fwd_all_keeps_schema [] w = refl
fwd_all_keeps_schema (d ∷ ds) w = fwd_all_keeps_schema ds (fwd d w) ∙ fwd_keeps_schema d w

back_all_keeps_schema : (ds : List Delta) (w : World) → (back_all ds w).schema ≡ w.schema
back_all_keeps_schema [] w = refl
back_all_keeps_schema (d ∷ ds) w = back_keeps_schema d (back_all ds w) ∙ back_all_keeps_schema ds w

-- ---- one record

deltas_told : (ds : List Delta) (w : World) → IsValid w → AllFitOn ds w → AllByRecursion (IsTold w.schema) ds
deltas_told [] w v f = tt
deltas_told (d ∷ ds) w v f = (
  fitting_told w v d f.0,
  subst (λ s. AllByRecursion (IsTold s) ds) (fwd_keeps_schema d w) (deltas_told ds (fwd d w) ((deltas_come_back d).0.keeps w v f.0) f.1),
)

redo_told : (r : Record) (w : World) → IsValid w → RecordFitsOn r w → IsRecordTold w.schema r
redo_told r w v f =
    let low = f.low in
    let same = f.tick in
    let valid = (ticks_come_back w.tick (w.tick + 1)).keeps w v (refl, can_raise w v f.low) in
    record { tick = omega (arith, low, same); deltas = deltas_told r.deltas (raised w) valid f.deltas }

undo_told : (r : Record) (w : World) → IsValid w → RecordFitsBack r w → IsRecordTold w.schema r
undo_told r w v f =
    let back = (records_come_back r).1 in
    subst (λ s. IsRecordTold s r) (back_all_keeps_schema r.deltas w) (redo_told r (undone r w) (back.keeps w v f) (back.can_come_back w v f))

-- ---- records one after another

-- the records of a future, the next one first
pub future_told : (rs : List Record) (w : World) → IsValid w → FutureFits rs w → AllByRecursion (IsRecordTold w.schema) rs
future_told [] w v f = tt
future_told (r ∷ rs) w v f = (
  redo_told r w v f.0,
  subst (λ s. AllByRecursion (IsRecordTold s) rs) (fwd_all_keeps_schema r.deltas (raised w))
      (future_told rs (redone r w) ((records_come_back r).0.keeps w v f.0) f.1),
)

-- those of a past, the newest first
newest_told : (rs : List Record) (w : World) → IsValid w → PastFits rs w → AllByRecursion (IsRecordTold w.schema) rs
newest_told [] w v f = tt
newest_told (r ∷ rs) w v f = (
  undo_told r w v f.0,
  subst (λ s. AllByRecursion (IsRecordTold s) rs) (back_all_keeps_schema r.deltas w)
      (newest_told rs (undone r w) ((records_come_back r).1.keeps w v f.0) f.1),
)

turned : {X : Type 0} (P : X → Type 0) (xs : List X) → AllByRecursion P xs → AllByRecursion P (reverse xs)
turned P [] h = tt
turned P (x ∷ xs) h = subst (AllByRecursion P) (sym (reverse_onto xs x [])) (all_append P (reverse xs) (x ∷ []) (turned P xs h.1) (h.0, tt))

-- and the oldest first
pub past_told : (rs : List Record) (w : World) → IsValid w → PastFits (reverse rs) w → AllByRecursion (IsRecordTold w.schema) rs
past_told rs w v f = subst (AllByRecursion (IsRecordTold w.schema)) (reverse-reverse rs)
    (turned (IsRecordTold w.schema) (reverse rs) (newest_told (reverse rs) w v f))

-- ---- so they are read again

pub told_writable : (schema : Kinds) (rs : List Record) → AllByRecursion (IsRecordTold schema) rs → AllByRecursion (IsWritable schema) rs
told_writable schema rs h = all_with (IsRecordTold schema) (IsWritable schema)
    (λ r k. all_with (IsTold schema) (IsWritableDelta schema) (λ d t. t.writable) r.deltas k.deltas) rs h
