-- The copies with which records are undone and redone without memory.
use Rattle.std.specs.Prelude.{◌≡◌, ⊤, List, [], ◌∷◌, reverse}
use Rattle.std.specs.Global.{Vec}
use Rattle.std.specs.List.{filter}
use Rattle.scene_deltas.specs.declared.delta.Delta.{Delta}
use Rattle.scene_deltas.specs.Copies.{copies_again, copies_back}
use Rattle.scene_journal.specs.Records.{Record}
use Rattle.scene_undo.specs.declared.direction.Direction.{Direction}
use Rattle.scene_undo.specs.declared.direction.Direction.TheVariants.{Undo, Redo}

-- the deltas of a record that bring what only memory can copy
abbrev pub copied : Direction → Record → List Delta
copied Undo r = filter copies_back r.deltas
copied Redo r = reverse (filter copies_again r.deltas)

-- the copies of the first of these records
abbrev pub AreOfFirst : Direction → List Delta → List Record → Type 0
AreOfFirst way copies [] = ⊥
AreOfFirst way copies (r ∷ rs) = copies ≡ copied way r

-- the copies of as many of them, in their order
abbrev pub AreOfEach : Direction → List (Vec Delta) → List Record → Type 0
AreOfEach way [] rs = ⊤
AreOfEach way (copies ∷ others) [] = ⊥
AreOfEach way (copies ∷ others) (r ∷ rs) = (copies.items ≡ copied way r) × AreOfEach way others rs
