-- Lists of changes, each told by what was noted of it: they are made one after another, and taken back from the last to
-- the first.
use Rattle.std.specs.Prelude.{◌≡◌, ℕ, List, [], ◌∷◌, Bool, true, Option, Ok, ⊤, map as each}
use Rattle.scene_kinds.specs.declared.entity.Entity.{Entity}
use Rattle.scene_kinds.specs.declared.cell.Cell.{Cell}
use Rattle.scene_links.specs.Forest.{post}
use Rattle.scene_model.specs.World.{World}
use Rattle.scene_model.specs.Commands.{despawn_recursive}
use Rattle.scene_model.specs.Valid.{IsValid}
use Rattle.scene_model.specs.Raw.{cut_row, uncut_row}
use Rattle.scene_model.specs.Can.{can_cut, can_uncut}
use Rattle.scene_model.specs.RawLaws.{TakeEachOtherBack}

module _ {D : Type 0} where
  -- the world after all changes
  abbrev pub after_all : (D → World → World) → List D → World → World
  after_all change [] w = w
  after_all change (d ∷ ds) w = after_all change ds (change d w)

  -- each change may be made at its turn
  abbrev pub MayAll : (D → World → Type 0) → (D → World → World) → List D → World → Type 0
  MayAll may change [] w = ⊤
  MayAll may change (d ∷ ds) w = may d w × MayAll may change ds (change d w)

  -- the world before all changes
  abbrev pub before_all : (D → World → World) → List D → World → World
  before_all undo [] w = w
  before_all undo (d ∷ ds) w = undo d (before_all undo ds w)

  -- each change may be taken back at its turn, the last first
  abbrev pub MayUndoAll : (D → World → Type 0) → (D → World → World) → List D → World → Type 0
  MayUndoAll may undo [] w = ⊤
  MayUndoAll may undo (d ∷ ds) w = MayUndoAll may undo ds w × may d (before_all undo ds w)

  -- lists of changes take each other back, made from the first to the last and taken back from the last to the first
  abbrev pub ListsComeBack : (D → World → Type 0) → (D → World → World) → (D → World → Type 0) → (D → World → World) → Type 0
  ListsComeBack may change may_undo undo = (ds : List D) → TakeEachOtherBack (MayAll may change ds) (after_all change ds)
      (MayUndoAll may_undo undo ds) (before_all undo ds)

-- ---- rows that are cut one after another

-- what is noted of a row that is cut
pub record CutNote : Type 0 where
  pub entity : Entity
  pub place : ℕ
  pub cells : List (ℕ × Cell)
  pub link : Option (Entity × ℕ)
  pub retired : Bool

-- where a row that is noted may be cut
abbrev pub CanCutNoted : CutNote → World → Type 0
CanCutNoted n w = can_cut w n.entity n.place n.cells n.link n.retired ≡ true

-- the world without it
abbrev pub cut_noted : CutNote → World → World
cut_noted n w = cut_row w n.entity

-- where it may come back
abbrev pub CanUncutNoted : CutNote → World → Type 0
CanUncutNoted n w = can_uncut w n.entity n.place n.cells n.link n.retired ≡ true

-- the world with it again
abbrev pub uncut_noted : CutNote → World → World
uncut_noted n w = uncut_row w n.entity n.place n.cells n.link n.retired

-- rows that are cut one after another come back in the other order
abbrev pub CutListsComeBack : Type 0
CutListsComeBack = ListsComeBack CanCutNoted cut_noted CanUncutNoted uncut_noted

-- a recursive despawn cuts the rows of the entity and of those below it, children first, each as it stands at its turn
abbrev pub DespawnRecursiveCuts : Type 0
DespawnRecursiveCuts = (w v : World) (e : Entity) → IsValid w → despawn_recursive w e ≡ Ok (tt, v)
    → (notes : List CutNote) × ((each (λ n. n.entity) notes ≡ post w.children e)
    × (MayAll CanCutNoted cut_noted notes w × (v ≡ after_all cut_noted notes w)))
