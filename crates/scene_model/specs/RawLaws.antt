-- Laws of the raw changes: each keeps a valid world valid where it may be made, and is taken back exactly by its other
-- one.
use Rattle.std.specs.Prelude.{◌≡◌, ℕ, List, Bool, true, Option}
use Rattle.scene_kinds.specs.declared.entity.Entity.{Entity}
use Rattle.scene_kinds.specs.declared.cell.Cell.{Cell}
use Rattle.scene_model.specs.World.{World}
use Rattle.scene_model.specs.Valid.{IsValid}
use Rattle.scene_model.specs.Raw.{put_row, drop_last, cut_row, uncut_row, shift_row, unshift_row, set_cell, set_link, set_resource, set_tick}
use Rattle.scene_model.specs.Can.{can_put, can_drop, can_cut, can_uncut, can_shift, can_unshift, can_set_cell, can_set_link, can_set_resource, can_set_tick}

-- in a valid world where a change may be made: the world after it is valid, its other one may be made there, and gives
-- the world from before
pub record IsTakenBack (may : World → Type 0) (change : World → World) (may_undo : World → Type 0) (undo : World → World) : Type 0 where
  pub keeps : (w : World) → IsValid w → may w → IsValid (change w)
  pub can_come_back : (w : World) → IsValid w → may w → may_undo (change w)
  pub comes_back : (w : World) → IsValid w → may w → undo (change w) ≡ w

-- both ways
abbrev pub TakeEachOtherBack : (World → Type 0) → (World → World) → (World → Type 0) → (World → World) → Type 0
TakeEachOtherBack may change may_undo undo = IsTakenBack may change may_undo undo × IsTakenBack may_undo undo may change

-- a row that comes last, with its slot, and leaves
abbrev pub RowsComeBack : Type 0
RowsComeBack = (e : Entity) (cells : List (ℕ × Cell)) (fresh : Bool)
    → TakeEachOtherBack (λ w. can_put w e cells fresh ≡ true) (λ w. put_row w e cells)
    (λ w. can_drop w e cells fresh ≡ true) (λ w. drop_last w e fresh)

-- a row that leaves, with its slot and its link, and comes back to its place
abbrev pub CutRowsComeBack : Type 0
CutRowsComeBack = (e : Entity) (place : ℕ) (cells : List (ℕ × Cell)) (link : Option (Entity × ℕ)) (retired : Bool)
    → TakeEachOtherBack (λ w. can_cut w e place cells link retired ≡ true) (λ w. cut_row w e)
    (λ w. can_uncut w e place cells link retired ≡ true) (λ w. uncut_row w e place cells link retired)

-- a row that moves to another table, and back to its place
abbrev pub ShiftedRowsComeBack : Type 0
ShiftedRowsComeBack = (e : Entity) (place kind : ℕ) (cell : Cell) (inward : Bool)
    → TakeEachOtherBack (λ w. can_shift w e place kind cell inward ≡ true) (λ w. shift_row w e kind cell inward)
    (λ w. can_unshift w e place kind cell inward ≡ true) (λ w. unshift_row w e place kind cell inward)

-- a cell, a link and a resource that are set, and set to what they were: this is one change, so one way says both

-- setting a cell is taken back by setting the one from before
abbrev pub CellsComeBack : Type 0
CellsComeBack = (e : Entity) (kind : ℕ) (before after : Cell)
    → IsTakenBack (λ w. can_set_cell w e kind before after ≡ true) (λ w. set_cell w e kind after)
    (λ w. can_set_cell w e kind after before ≡ true) (λ w. set_cell w e kind before)

-- setting a link is taken back by setting the one from before
abbrev pub LinksComeBack : Type 0
LinksComeBack = (e : Entity) (before after : Option (Entity × ℕ))
    → IsTakenBack (λ w. can_set_link w e before after ≡ true) (λ w. set_link w e after)
    (λ w. can_set_link w e after before ≡ true) (λ w. set_link w e before)

-- setting a resource is taken back by setting the one from before
abbrev pub ResourcesComeBack : Type 0
ResourcesComeBack = (name : List ℕ) (before after : Option Cell)
    → IsTakenBack (λ w. can_set_resource w name before after ≡ true) (λ w. set_resource w name after)
    (λ w. can_set_resource w name after before ≡ true) (λ w. set_resource w name before)

-- the tick, and the one from before
abbrev pub TicksComeBack : Type 0
TicksComeBack = (before after : ℕ)
    → IsTakenBack (λ w. (w.tick ≡ before) × (can_set_tick w after ≡ true)) (λ w. set_tick w after)
    (λ w. (w.tick ≡ after) × (can_set_tick w before ≡ true)) (λ w. set_tick w before)
