-- What is asked of the editor, as the lines print it.
use Rattle.std.proofs.Common.{◌≡◌, ◌≢◌, ℕ, List, Result, Ok, Err, IfOk, OnOk, sym, ap, subst, ◌∙◌}
use Rattle.std.specs.Global.{Vec}
use Rattle.scene_kinds.specs.Answers.{refusal_of}
use Rattle.scene_kinds.specs.declared.fault.Fault.TheVariants.{NoMemory}
use Rattle.scene_kinds.specs.declared.refusal.Refusal.{Refusal}
use Rattle.scene_model.specs.World.{World}
use Rattle.scene_pass.specs.declared.cell_name.CellName.{CellName}
use Rattle.scene_systems.specs.declared.filter.Filter.{Filter}
use Rattle.scene_undo.specs.Cursor.{since}
use Rattle.scene_session.specs.declared.call.Reply.TheVariants.{Refused}
use Rattle.scene_session.specs.Queries.{ListsAfter, ListsSince}
use Rattle.scene_session.specs.Owner.{OwnerState, machine_at}
use Rattle.scene_interpreter.specs.declared.answer.LineAnswer.{LineAnswer}
use Rattle.scene_interpreter.specs.declared.answer.LineAnswer.TheVariants.{Replied}
use Rattle.scene_interpreter.specs.Answer.{Says}
use Rattle.scene_interpreter.specs.Play.{PlayState, no_filter, now, query_reply, since_said, with_owner}
use Rattle.scene_interpreter.specs.Said.{Said, refused}

-- a list of cells is what was asked
pub listed_cells : (said : List CellName → Said) (list : ℕ → List CellName) (o : Result ℕ Refusal) (names : Vec CellName)
    → ListsAfter list o (Ok names) → said names.items ≡ since_said said list o
listed_cells said list (Ok tick) names t = ap said t
listed_cells said list (Err r) names t = absurd (let k : Ok names ≡ Err r = t in cc)

-- and so is a refusal, which is not want of memory
pub listed_refusal : (said : List CellName → Said) (list : ℕ → List CellName) (o : Result ℕ Refusal) (r : Refusal)
    → ListsAfter list o (Err r) → r ≢ refusal_of NoMemory → refused r ≡ since_said said list o
listed_refusal said list (Ok tick) r t other = absurd (other t)
listed_refusal said list (Err q) r t other = ap refused (cc t)

-- what holds of the answer of a success, by a further fact of it
pub told_both : {A E P : Type 0} (r : Result A E) (x : A) (Q : A → Type 0) → (P → Q x) → IfOk r (λ a. a ≡ x) → OnOk r P → IfOk r Q
told_both (Ok a) x Q f is p = subst Q (sym is) (f p)
told_both (Err e) x Q f is p = tt

-- a state whose owner is as it was is as it was
pub owner_kept : (s : PlayState) (h : OwnerState) → h ≡ s.owner → with_owner s h ≡ s
owner_kept s h same =
    (λ i. record { owner = same i; schema = s.schema; cursor = s.cursor; frame = s.frame; phases = s.phases })

-- cells since a cursor that were refused, with a filter that every kind set matches
pub since_refused : {E : Type 0} (said : List CellName → Said) (list : World → Filter → ℕ → List CellName) (s : PlayState)
    (f : Filter) (h : OwnerState) (r : Refusal) (result : Result LineAnswer E) → f.need ≡ 0 → f.without ≡ 0
    → ListsSince list s.cursor f (machine_at s.owner) (Err r) → h ≡ s.owner
    → IfOk result (λ answer. answer ≡ Replied (Refused r)) → OnOk result (r ≢ refusal_of NoMemory)
    → IfOk result (λ answer. Says answer (with_owner s h)
    (query_reply s (since_said said (list (now s) no_filter) (since s.cursor (machine_at s.owner)))))
since_refused said list s f h r result need without t same is memory =
    let tick = since s.cursor (machine_at s.owner) in
    let cells : Filter → ℕ → List CellName = list (now s) in
    let every : f ≡ no_filter = (λ i. record { need = need i; without = without i }) in
    let is_said : r ≢ refusal_of NoMemory → refused r ≡ since_said said (cells no_filter) tick = λ other.
    listed_refusal said (cells f) tick r t other
    ∙ ap (λ (g : Filter). since_said said (cells g) tick) every in
    told_both result (Replied (Refused r))
    (λ answer. Says answer (with_owner s h) (query_reply s (since_said said (cells no_filter) tick)))
    (λ other. (is_said other, owner_kept s h same)) is memory
