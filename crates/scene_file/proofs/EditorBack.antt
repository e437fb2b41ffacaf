-- The value of a valid world with records that fit is read again.
use Rattle.std.proofs.Common.{◌≡◌, ℕ, List, [], ◌∷◌, ◌++◌, reverse, refl, ap, ◌∙◌, Ok, codes}
use Rattle.std.specs.List.{AllByRecursion}
use Rattle.std.proofs.Math.Seq.{take-nil}
use Rattle.serde_json.specs.Data.{Data, Members}
use Rattle.scene_model.specs.World.{World}
use Rattle.scene_model.specs.Valid.{IsValid}
use Rattle.scene_journal.specs.Records.{Record}
use Rattle.scene_journal.proofs.FoundFaults.{first_faults_are_found}
use Rattle.scene_validate.specs.Parts.{Parts, parts_of}
use Rattle.scene_validate.proofs.WorldRules.{none_broken, world_is}
use Rattle.scene_validate.proofs.OwnParts.{own_parts}
use Rattle.scene_json_forms.specs.Reading.{◌>>=◌, key_of}
use Rattle.scene_json_forms.specs.Text.{members_of}
use Rattle.scene_json_forms.proofs.ListsBack.{after}
use Rattle.scene_file_records.specs.Text.{records_text}
use Rattle.scene_file_records.specs.Walk.{records_at}
use Rattle.scene_file_records.proofs.RecordsBack.{records_back}
use Rattle.scene_undo.specs.Editor.{new_editor}
use Rattle.scene_file.specs.Text.{first_text, last_text, world_text}
use Rattle.scene_file.specs.EditorText.{editor_parts_text, editor_text}
use Rattle.scene_file.specs.Walk.{head_of, tail_of}
use Rattle.scene_file.specs.EditorWalk.{Saved, saved_in}
use Rattle.scene_file.specs.Scene.{if_unbroken}
use Rattle.scene_file.specs.SavedLaws.{FitTogether}
use Rattle.scene_file.specs.EditorScene.{editor_of, if_fit, with_records, editor_saved_as, editor_in}
use Rattle.scene_file.proofs.SceneBack.{AreReadable, head_part, head_back, tail_back, key_back, parts_back}
use Rattle.scene_file.proofs.WorldBack.{readable}
use Rattle.scene_file.proofs.FitRecords.{IsRecordTold, past_told, future_told, told_writable}

-- what parts and records say
abbrev pub said_as : Parts → (past future : List Record) → Saved
said_as p past future = record { parts = p; past = past; future = future }

-- the members of their value
abbrev pub editor_members : Parts → (past future : List Record) → List (List ℕ × Data)
editor_members p past future = first_text p ++ ((codes "redo", records_text future) ∷ (last_text 2 p ++ ((codes "undo", records_text past) ∷ [])))

-- parts and records are read again
pub saved_parts_back : (p : Parts) (past future : List Record) → AreReadable p → AllByRecursion (IsRecordTold p.schema) past
    → AllByRecursion (IsRecordTold p.schema) future → saved_in (editor_parts_text p past future) ≡ Ok (said_as p past future)
saved_parts_back p past future h old new =
    let ms : Members = members_of (editor_members p past future) in
    after (head_of ms) (head_part p)
    (λ head. key_of (records_at head.schema) [] (codes "redo") ms >>= λ next. tail_of head ms
    >>= λ parts. key_of (records_at parts.schema) [] (codes "undo") ms >>= λ before. Ok (said_as parts before next)) (Ok (said_as p past future))
    (head_back ms p (record { children = refl; free = refl; generations = refl; schema = refl; limit = refl }) h)
    (after (key_of (records_at p.schema) [] (codes "redo") ms) future
    (λ next. tail_of (head_part p) ms
    >>= λ parts. key_of (records_at parts.schema) [] (codes "undo") ms >>= λ before. Ok (said_as parts before next)) (Ok (said_as p past future))
    (key_back (records_at p.schema) records_text (codes "redo") ms future refl
    (records_back p.schema future (told_writable p.schema future new)))
    (after (tail_of (head_part p) ms) p
    (λ parts. key_of (records_at parts.schema) [] (codes "undo") ms >>= λ before. Ok (said_as parts before future)) (Ok (said_as p past future))
    (tail_back ms p (record { resources = refl; tables = refl; tick = refl }) h)
    (after (key_of (records_at p.schema) [] (codes "undo") ms) past (λ before. Ok (said_as p before future)) (Ok (said_as p past future))
    (key_back (records_at p.schema) records_text (codes "undo") ms past refl
    (records_back p.schema past (told_writable p.schema past old))) refl)))

pub said_back : (w : World) (past future : List Record) → FitTogether w past future
    → saved_in (editor_text w past future) ≡ Ok (said_as (parts_of w) past future)
said_back w past future f =
    saved_parts_back (parts_of w) past future (readable w f.valid) (past_told past w f.valid f.back) (future_told future w f.valid f.on)

-- the editor is read again
pub editor_back : (depth : ℕ) (w : World) (past future : List Record) → FitTogether w past future
    → editor_in depth (editor_text w past future) ≡ Ok (editor_of depth past future w)
editor_back depth w past future f =
    let p : Parts = parts_of w in
    let own = own_parts w in
    ap (λ r. r >>= editor_saved_as depth) (said_back w past future f)
    ∙ ap (λ o. if_unbroken o p >>= with_records depth past future) (none_broken p w f.valid own)
    ∙ ap (with_records depth past future) (world_is p w own)
    ∙ ap (λ o. if_fit o (editor_of depth past future w)) ((first_faults_are_found.both (reverse past) future w).none.1 (f.back, f.on))

-- a world alone is read as an editor that has done nothing
pub world_editor_back : (depth : ℕ) (w : World) → IsValid w → editor_in depth (world_text w) ≡ Ok (new_editor w depth)
world_editor_back depth w v =
    let p : Parts = parts_of w in
    let own = own_parts w in
    ap (λ r. (r >>= λ parts. Ok (said_as parts [] [])) >>= editor_saved_as depth) (parts_back p (readable w v))
    ∙ ap (λ o. if_unbroken o p >>= with_records depth [] []) (none_broken p w v own)
    ∙ ap (with_records depth [] []) (world_is p w own)
    ∙ ap (λ old. Ok (record (new_editor w depth) { past = old })) (take-nil depth)
