-- The bytes that are saved of a valid world, and of its records, are loaded as what they were saved of.
use Rattle.std.proofs.Common.{◌≡◌, ℕ, Bool, true, false, List, [], ◌∷◌, ◌++◌, ap, sym, ◌∙◌, Result, Ok, Err, cond, nat_le, length, reverse, take, arith}
use Rattle.std.specs.Prelude.{IfOk}
use Rattle.std.proofs.lemmas.List.{reverse-reverse}
use Rattle.std.proofs.lemmas.Str.{is_utf8-from_IsUtf8}
use Rattle.serde_json.specs.Data.{Data}
use Rattle.serde_json.specs.Read.{read}
use Rattle.serde_json.specs.Written.{compact_text}
use Rattle.scene_model.specs.World.{World}
use Rattle.scene_model.specs.Valid.{IsValid}
use Rattle.scene_validate.specs.Parts.{parts_of, world_of}
use Rattle.scene_validate.proofs.WorldRules.{world_is}
use Rattle.scene_validate.proofs.OwnParts.{own_parts}
use Rattle.scene_journal.specs.Records.{Record}
use Rattle.scene_streams.specs.Limits.{most_bytes}
use Rattle.scene_json_forms.specs.declared.fault.FileFault.{FileFault}
use Rattle.scene_json_forms.specs.declared.fault.FileFault.TheVariants.{NotJson, TooLong}
use Rattle.scene_json_forms.specs.Reading.{◌>>=◌}
use Rattle.scene_json_forms.proofs.GoodSteps.{ok_is}
use Rattle.scene_undo.specs.Editor.{EditorState, new_editor}
use Rattle.scene_file.specs.Text.{saved, world_text}
use Rattle.scene_file.specs.EditorText.{editor_text, editor_saved}
use Rattle.scene_file.specs.Scene.{if_json, json_in, loaded, world_in}
use Rattle.scene_file.specs.EditorWalk.{Saved, saved_in}
use Rattle.scene_file.specs.EditorScene.{editor_of, editor_in, loaded_again, loaded_editor}
use Rattle.scene_file.specs.SavedLaws.{FitTogether}
use Rattle.scene_file.specs.Saving.{if_short, save_of}
use Rattle.scene_file.proofs.PlainData.{saved_back, saved_is_utf8}
use Rattle.scene_file.proofs.PlainValues.{IsFine}
use Rattle.scene_file.proofs.PlainWorlds.{world_members_fine, parts_fine}
use Rattle.scene_file.proofs.PlainRecords.{editor_fine}
use Rattle.scene_file.proofs.FitRecords.{past_told, future_told}
use Rattle.scene_file.proofs.WorldBack.{world_back}
use Rattle.scene_file.proofs.EditorBack.{said_as, said_back, editor_back, world_editor_back}

-- the bytes that are saved of a value say that value
json_back : (d : Data) → IsFine 8 d → json_in (compact_text d ++ 10 ∷ []) ≡ Ok d
json_back d fine =
    let bytes : List ℕ = compact_text d ++ 10 ∷ [] in
    let shallow = fine.1 in
    ap (λ b. cond b (if_json (read bytes)) (Err NotJson)) (is_utf8-from_IsUtf8 bytes (saved_is_utf8 d fine.0))
    ∙ ap if_json (saved_back d fine.0 (omega (arith, shallow)))

-- ---- worlds

world_json : (w : World) → IsValid w → json_in (saved w) ≡ Ok (world_text w)
world_json w v = json_back (world_text w) (parts_fine (parts_of w) (world_members_fine w v))

pub world_loaded : (w : World) → IsValid w → loaded (saved w) ≡ Ok w
world_loaded w v = ap (λ r. r >>= world_in) (world_json w v) ∙ world_back w v

pub same_saves : (v w : World) → IsValid v → IsValid w → saved v ≡ saved w → v ≡ w
same_saves v w x y e = ok_is v w (sym (world_loaded v x) ∙ ap loaded e ∙ world_loaded w y)

-- a text that isn't too long is saved as it is
pub short_is : (bytes text : List ℕ) → if_short bytes ≡ Ok text → bytes ≡ text
short_is bytes text e = from (nat_le (length bytes) most_bytes) e
  where
    from : (b : Bool) → ◌≡◌ {A = Result (List ℕ) FileFault} (cond b (Ok bytes) (Err TooLong)) (Ok text) → bytes ≡ text
    from true h = ok_is bytes text h
    from false h = absurd (cc h)

pub text_loads : {S E : Type 0} (bytes : S → List ℕ) (w : World) → IsValid w → (r : Result S E) → IfOk r (λ s. save_of w ≡ Ok (bytes s))
    → IfOk r (λ s. loaded (bytes s) ≡ Ok w)
text_loads bytes w v (Ok s) e = ap loaded (sym (short_is (saved w) (bytes s) e)) ∙ world_loaded w v
text_loads bytes w v (Err f) e = tt

-- ---- editors

editor_json : (w : World) (past future : List Record) → FitTogether w past future
    → json_in (editor_saved w past future) ≡ Ok (editor_text w past future)
editor_json w past future f =
    json_back (editor_text w past future) (editor_fine (parts_of w) past future f.valid.schema.few (world_members_fine w f.valid)
    (past_told past w f.valid f.back) (future_told future w f.valid f.on))

pub editor_loaded : (depth : ℕ) (w : World) (past future : List Record) → FitTogether w past future
    → loaded_editor depth (editor_saved w past future) ≡ Ok (editor_of depth past future w)
editor_loaded depth w past future f = ap (λ r. r >>= editor_in depth) (editor_json w past future f) ∙ editor_back depth w past future f

-- an editor has its past newest first, and its text oldest first
pub own_editor_loaded : (depth : ℕ) (e : EditorState) → FitTogether e.world (reverse e.past) e.future
    → loaded_editor depth (editor_saved e.world (reverse e.past) e.future) ≡ Ok (loaded_again depth e)
own_editor_loaded depth e f =
    editor_loaded depth e.world (reverse e.past) e.future f
    ∙ (λ i. Ok (record { world = e.world; past = take depth (reverse-reverse e.past i); future = e.future; rewinds = 0; depth = depth }))

pub world_editor_loaded : (depth : ℕ) (w : World) → IsValid w → loaded_editor depth (saved w) ≡ Ok (new_editor w depth)
world_editor_loaded depth w v = ap (λ r. r >>= editor_in depth) (world_json w v) ∙ world_editor_back depth w v

own_world : (w : World) → world_of (parts_of w) ≡ w
own_world w = world_is (parts_of w) w (own_parts w)

pub same_editor_texts : (v w : World) (past future older later : List Record) → FitTogether v past future → FitTogether w older later
    → editor_text v past future ≡ editor_text w older later → (v ≡ w) × (past ≡ older) × (future ≡ later)
same_editor_texts v w past future older later f g e =
    let same = ok_is (said_as (parts_of v) past future) (said_as (parts_of w) older later)
    (sym (said_back v past future f) ∙ ap saved_in e ∙ said_back w older later g) in (
      sym (own_world v) ∙ ap (λ (s : Saved). world_of s.parts) same ∙ own_world w,
      ap (λ (s : Saved). s.past) same,
      ap (λ (s : Saved). s.future) same,
    )

pub same_editor_saves : (v w : World) (past future older later : List Record) → FitTogether v past future → FitTogether w older later
    → editor_saved v past future ≡ editor_saved w older later → (v ≡ w) × (past ≡ older) × (future ≡ later)
same_editor_saves v w past future older later f g e =
    same_editor_texts v w past future older later f g
    (ok_is (editor_text v past future) (editor_text w older later)
    (sym (editor_json v past future f) ∙ ap json_in e ∙ editor_json w older later g))
