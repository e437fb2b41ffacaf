-- An editor of parts: what it keeps, and the first fault of its records.
use Rattle.std.proofs.Common.{◌≡◌, ◌+◌, ◌<◌, ℕ, List, ◌∷◌, length, Result, Ok, IfErr, IsErrAnd, refl, ap, subst, sym, ◌∙◌, arith}
use Rattle.std.specs.Prelude.{Err}
use Rattle.std.proofs.lemmas.List.{length-append}
use Rattle.scene_kinds.specs.declared.refusal.Refusal.{Refusal}
use Rattle.scene_kinds.specs.declared.fault.Fault.TheVariants.{BadRecord, NoMemory}
use Rattle.scene_kinds.specs.Answers.{refusal_of}
use Rattle.scene_model.specs.World.{World}
use Rattle.scene_world.specs.Room.{Room, IsWider}
use Rattle.scene_journal.specs.Records.{Record}
use Rattle.scene_undo.specs.declared.direction.Direction.{Direction}
use Rattle.scene_undo.specs.declared.direction.Direction.TheVariants.{Undo, Redo}
use Rattle.scene_undo.specs.Direction.{AllFit, CanAll}
use Rattle.scene_undo.specs.Kept.{CanRedoAll, CanUndoAll}
use Rattle.scene_undo.specs.Parts.{IsFirstFault, NamesFrame}
use Rattle.scene_journal.specs.FirstFaults.{IsFaultOf}
use Rattle.scene_undo.proofs.Kept.{undo_wider}
use Rattle.scene_undo.proofs.Turns.{no_fault}

-- both lists as the editor keeps them
pub kept : (room wider : Room) (past future : List Record) (w : World) → IsWider room wider → CanAll Undo room past w → CanAll Redo wider future w
    → CanUndoAll wider past w × CanRedoAll wider future w
kept room wider past future w wide undoes redoes = (undo_wider room wider past w wide undoes, redoes)

-- the number of a frame at fault is one of the list
pub in_range : (way : Direction) (rs : List Record) (w : World) (r : Refusal) → NamesFrame (IsFirstFault way rs w) r → (frame delta : ℕ)
    → r.fault ≡ BadRecord frame delta → frame < length rs
in_range way rs w r named frame delta is =
    let found = named (λ none. absurd (let both : BadRecord frame delta ≡ NoMemory = sym is ∙ ap (λ (q : Refusal). q.fault) none in cc)) in
    let same : BadRecord found.0 found.1 ≡ BadRecord frame delta = sym (ap (λ (q : Refusal). q.fault) found.2.0) ∙ is in
    let number : found.0 ≡ frame = cc in
    let before = found.2.1.number in
    let all : length rs ≡ length found.2.1.before + length (found.2.1.unfit ∷ found.2.1.behind) =
    ap length found.2.1.cut ∙ length-append found.2.1.before (found.2.1.unfit ∷ found.2.1.behind) in
    omega (arith, number, before, all)

pub past_fault : (past future : List Record) (w : World) (r : Refusal) → NamesFrame (IsFirstFault Undo past w) r
    → NamesFrame (IsFaultOf past future w) r
past_fault past future w r named other =
    let found = named other in (
      found.0,
      found.1,
      (found.2.0, record { in_past = λ unfit. found.2.1; in_future = λ all. absurd (no_fault Undo past w found.0 found.1 found.2.1 all) }),
    )

pub future_fault : (past future : List Record) (w : World) (r later : Refusal) → AllFit Undo past w → NamesFrame (IsFirstFault Redo future w) r
    → ((frame delta : ℕ) → r ≡ refusal_of (BadRecord frame delta) → later ≡ refusal_of (BadRecord (length past + frame) delta))
    → (r ≡ refusal_of NoMemory → later ≡ refusal_of NoMemory) → NamesFrame (IsFaultOf past future w) later
future_fault past future w r later all named same memory differs =
    let found = named (λ none. differs (memory none)) in (
      length past + found.0,
      found.1,
      (
        same found.0 found.1 found.2.0,
        record { in_past = λ unfit. absurd (unfit all); in_future = λ fits. (found.0, (refl, found.2.1)) },
      ),
    )

-- a refusal that is handed on
pub handed_on : {A E : Type 0} (P : E → Type 0) (r : Result A E) (e : E) → IsErrAnd r (λ f. f ≡ e) → P e → IfErr r P
handed_on P (Ok a) e is h = tt
handed_on P (Err f) e is h = subst P (sym is) h
