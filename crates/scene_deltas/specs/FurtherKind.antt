-- Deltas in a world in which a kind is declared: none of them reads the schema.
use Rattle.std.specs.Prelude.{◌≡◌, ℕ, List}
use Rattle.scene_kinds.specs.declared.shape.Shape.{Shape}
use Rattle.scene_model.specs.World.{World}
use Rattle.scene_world.specs.FurtherKind.{with_kind_in}
use Rattle.scene_deltas.specs.declared.delta.Delta.{Delta}
use Rattle.scene_deltas.specs.Deltas.{AllFitBack, AllFitOn, back_all, fwd_all}

-- with a further kind, deltas lead to the same world with it, there and back, and fit where they did
pub record AreUnchanged (ds : List Delta) (name : List ℕ) (shape : Shape) (w : World) : Type 0 where
  pub made : fwd_all ds (with_kind_in name shape w) ≡ with_kind_in name shape (fwd_all ds w)
  pub taken_back : back_all ds (with_kind_in name shape w) ≡ with_kind_in name shape (back_all ds w)
  pub fit : AllFitOn ds w → AllFitOn ds (with_kind_in name shape w)
  pub fit_back : AllFitBack ds w → AllFitBack ds (with_kind_in name shape w)

-- a kind that is declared changes no deltas
abbrev pub DeclaredKindsChangeNoDeltas : Type 0
DeclaredKindsChangeNoDeltas = (ds : List Delta) (name : List ℕ) (shape : Shape) (w : World) → AreUnchanged ds name shape w
