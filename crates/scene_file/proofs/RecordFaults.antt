-- Which editor a world makes with records, or which of them is the first that doesn't fit.
use Rattle.std.proofs.Common.{◌≡◌, ◌≢◌, ℕ, List, Result, Ok, Err, reverse, refl, sym, ap, subst, ◌∙◌}
use Rattle.scene_kinds.specs.Answers.{refusal_of}
use Rattle.scene_kinds.specs.declared.fault.Fault.TheVariants as fault
use Rattle.scene_kinds.specs.declared.refusal.Refusal.{Refusal}
use Rattle.scene_model.specs.World.{World}
use Rattle.scene_journal.specs.Records.{Record}
use Rattle.scene_journal.specs.FirstFaults.{IsFaultOf, PastFits, FutureFits}
use Rattle.scene_journal.proofs.FoundFaults.{first_faults_are_found}
use Rattle.scene_undo.specs.Editor.{EditorState}
use Rattle.scene_undo.specs.Parts.{NamesFrame}
use Rattle.scene_json_forms.specs.declared.fault.FileFault.{FileFault}
use Rattle.scene_json_forms.specs.declared.fault.FileFault.TheVariants as file
use Rattle.scene_json_forms.specs.Outcome.{IsTextFault}
use Rattle.scene_json_forms.specs.Reading.{◌>>=◌}
use Rattle.scene_file.specs.EditorScene.{editor_of, editor_saved_as, if_fit, loaded_editor, said_in, with_records}
use Rattle.scene_file.specs.EditorWalk.{Saved, saved_in}
use Rattle.scene_file.specs.Scene.{json_in}
use Rattle.scene_json_forms.proofs.Walking.{fault_stays}

-- ---- records

pub records_fit : (depth : ℕ) (past future : List Record) (w : World) (e : EditorState) → e ≡ editor_of depth past future w
    → PastFits (reverse past) w → FutureFits future w → with_records depth past future w ≡ Ok e
records_fit depth past future w e same undoes redoes =
    ap (λ o. if_fit o (editor_of depth past future w)) ((first_faults_are_found.both (reverse past) future w).none.1 (undoes, redoes))
    ∙ ap (λ x. Ok x) (sym same)

pub records_faulty : (depth : ℕ) (past future : List Record) (w : World) (r : Refusal) (frame delta : ℕ)
    → NamesFrame (IsFaultOf (reverse past) future w) r → r.fault ≡ fault.BadRecord frame delta
    → with_records depth past future w ≡ Err (file.BadRecord frame delta)
records_faulty depth past future w r frame delta named is =
    let not : r ≢ refusal_of fault.NoMemory = λ k. absurd (let b : fault.NoMemory ≡ fault.BadRecord frame delta = sym (ap (λ (x : Refusal). x.fault) k) ∙ is in cc) in
    let n = named not in
    let same : fault.BadRecord n.0 n.1 ≡ fault.BadRecord frame delta = sym (ap (λ (x : Refusal). x.fault) n.2.0) ∙ is in
    let a : n.0 ≡ frame = cc same in
    let b : n.1 ≡ delta = cc same in
    ap (λ o. if_fit o (editor_of depth past future w)) (((first_faults_are_found.both (reverse past) future w).some (n.0, n.1)).1 n.2.1)
    ∙ (λ i. Err (file.BadRecord (a i) (b i)))

pub ruleset records = (records_fit, records_faulty)

-- ---- texts

-- the value, the walk and the editor, one after another
along : {A B C : Type 0} (x : Result A FileFault) (f : A → Result B FileFault) (g : B → Result C FileFault)
    → (x >>= λ a. f a >>= g) ≡ ((x >>= f) >>= g)
along (Ok a) f g = refl
along (Err e) f g = refl

pub text_said : (depth : ℕ) (text : List ℕ) (s : Saved) → said_in text ≡ Ok s → loaded_editor depth text ≡ editor_saved_as depth s
text_said depth text s h = along (json_in text) saved_in (editor_saved_as depth) ∙ ap (λ r. r >>= editor_saved_as depth) h

pub text_faulty : (depth : ℕ) (text : List ℕ) (e : FileFault) → IsTextFault e (said_in text) → IsTextFault e (loaded_editor depth text)
text_faulty depth text e h = subst (IsTextFault e) (sym (along (json_in text) saved_in (editor_saved_as depth)))
    (fault_stays e (json_in text >>= saved_in) (editor_saved_as depth) h)

pub ruleset texts = (text_said, text_faulty)
