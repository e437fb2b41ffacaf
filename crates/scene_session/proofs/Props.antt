-- What is known of a state is known in one way only.
use Rattle.std.proofs.Common.{List, [], ◌∷◌}
use Rattle.std.proofs.Math.Logic.{∥∥₁_elim}
use Rattle.std.specs.Coded.{Coded, Coded-set, codes, coded_list, ×_prop, Unit-prop, le_prop}
use Rattle.scene_kinds.specs.contracts.entity.Entity as entity
use Rattle.scene_kinds.specs.contracts.refusal.Refusal as refusal
use Rattle.scene_undo.specs.Editor.{EditorState}
use Rattle.scene_session.specs.declared.entry.Entry.{Entry}
use Rattle.scene_session.specs.declared.state.Beginning.{Beginning}
use Rattle.scene_session.specs.Calls.{Answer}
use Rattle.scene_session.specs.Codes.{whole_code}
use Rattle.scene_session.specs.History.{AreTrue}
use Rattle.scene_session.specs.Whole.{Whole, next, IsTrue}
use Rattle.scene_session.specs.State.{IsReplayOf}

answer_code : Coded Answer
answer_code = Prim.hlevel (codes, coded_list entity.the_row.coded, refusal.the_row.coded)

true-prop : (w : Whole) (es : List Entry) → IsProp (AreTrue next IsTrue w es)
true-prop w [] = Unit-prop
true-prop w (e ∷ es) = ×_prop (Coded-set answer_code _ _) (true-prop (next w e) es)

pub kept : (o : Beginning) (history : List Entry) (editor : EditorState) → ∥ IsReplayOf o history editor ∥₁ → IsReplayOf o history editor
kept o history editor known = ∥∥₁_elim known (×_prop (Coded-set whole_code _ _) (×_prop (true-prop _ history) le_prop)) (λ k. k)
