-- Lists of deltas that are taken back from the last, and the cells of a last row.
use Rattle.std.proofs.Common.{◌≡◌, ℕ, List, [], ◌∷◌, ◌++◌, refl, ap, subst}
use Rattle.scene_kinds.specs.declared.entity.Entity.{Entity}
use Rattle.scene_kinds.specs.declared.cell.Cell.{Cell}
use Rattle.scene_table.specs.Tables.{row_for}
use Rattle.scene_model.specs.World.{World}
use Rattle.scene_model.specs.Raw.{listed_cells, cells_of}
use Rattle.scene_model.specs.Valid.{IsValid}
use Rattle.scene_model.proofs.CanParts.{HasLastRow}
use Rattle.scene_model.proofs.LastRows.{last_home, last_row_there}
use Rattle.scene_model.proofs.RowOf.{row_stands}
use Rattle.scene_world.specs.Room.{Room}
use Rattle.scene_deltas.specs.declared.delta.Delta.{Delta}
use Rattle.scene_deltas.specs.Deltas.{back, back_all}
use Rattle.scene_deltas.specs.Ready.{IsReady, AreReady}
use Rattle.scene_deltas.proofs.Lists.{before_appended, undo_appended}

-- later deltas go first
pub back_appended : (ds es : List Delta) (w : World) → back_all (ds ++ es) w ≡ back_all ds (back_all es w)
back_appended = before_appended back

pub back_pushed : (ds : List Delta) (d : Delta) (w : World) → back_all (ds ++ d ∷ []) w ≡ back_all ds (back d w)
back_pushed ds d w = back_appended ds (d ∷ []) w

pub ready_appended : (room : Room) (ds es : List Delta) (w : World) → AreReady room es w → AreReady room ds (back_all es w) → AreReady room (ds ++ es) w
ready_appended room = undo_appended (IsReady room) back

pub ready_pushed : (room : Room) (ds : List Delta) (d : Delta) (w : World) → AreReady room (ds ++ d ∷ []) w → IsReady room d w × AreReady room ds (back d w)
ready_pushed room [] d w h = (h.1, tt)
ready_pushed room (x ∷ ds) d w h = let k = ready_pushed room ds d w h.0 in (k.0, (k.1, subst (IsReady room x) (back_pushed ds d w) h.1))

-- an entity whose row is the last of a table has just that row's cells
pub cells_last : (w : World) (e : Entity) (cells : List (ℕ × Cell)) → IsValid w → HasLastRow w e cells → cells_of w e ≡ cells
cells_last w e cells v last = ap listed_cells (row_stands w e (last_home w.tables (row_for e cells)) (row_for e cells) v.rows.once (last_row_there w.tables (row_for e cells) last) refl)
