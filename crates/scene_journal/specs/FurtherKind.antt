-- Records in a world in which a kind is declared.
use Rattle.std.specs.Prelude.{◌≡◌, ℕ, List}
use Rattle.scene_kinds.specs.declared.shape.Shape.{Shape}
use Rattle.scene_model.specs.World.{World}
use Rattle.scene_world.specs.FurtherKind.{with_kind_in}
use Rattle.scene_journal.specs.Records.{Record, RecordFitsBack, RecordFitsOn, redone, undone}

-- with a further kind, a record leads to the same world with it, redone and undone, and fits where it did
pub record IsUnchanged (r : Record) (name : List ℕ) (shape : Shape) (w : World) : Type 0 where
  pub made : redone r (with_kind_in name shape w) ≡ with_kind_in name shape (redone r w)
  pub taken_back : undone r (with_kind_in name shape w) ≡ with_kind_in name shape (undone r w)
  pub fit : RecordFitsOn r w → RecordFitsOn r (with_kind_in name shape w)
  pub fit_back : RecordFitsBack r w → RecordFitsBack r (with_kind_in name shape w)

-- a kind that is declared changes no record
abbrev pub DeclaredKindsChangeNoRecord : Type 0
DeclaredKindsChangeNoRecord = (r : Record) (name : List ℕ) (shape : Shape) (w : World) → IsUnchanged r name shape w
