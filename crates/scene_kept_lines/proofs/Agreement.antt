-- Editors of one text.
use Rattle.std.proofs.Common.{◌≡◌, ℕ, ◌+◌, List, take, Result, Ok, Err, length, sym, ap, ◌∙◌, arith}
use Rattle.std.proofs.lemmas.List.{take_all}
use Rattle.scene_model.specs.World.{World}
use Rattle.scene_journal.specs.Records.{Record}
use Rattle.scene_undo.specs.Editor.{EditorState}
use Rattle.scene_json_forms.specs.declared.fault.FileFault.{FileFault}
use Rattle.scene_file.specs.EditorScene.{loaded_again, loaded_editor}
use Rattle.scene_session.specs.Whole.{Whole, whole_of}
use Rattle.scene_kept_lines.specs.Compacted.{unrewound}

-- what an editor has but its count of undos
abbrev whole_with : World → (past future : List Record) → ℕ → Whole
whole_with w past future depth = unrewound (whole_of (record { world = w; past = past; future = future; rewinds = 0; depth = depth }))

-- the longest past of two is kept whole by a depth
past_of : (a b : EditorState) → ((depth : ℕ) → loaded_again depth a ≡ loaded_again depth b) → a.past ≡ b.past
past_of a b same =
    let n = length a.past + length b.past in
    let is : take n a.past ≡ take n b.past = ap (λ (e : EditorState). e.past) (same n) in
    sym (take_all n a.past (omega arith)) ∙ is ∙ take_all n b.past (omega arith)

-- editors of one depth whose texts are loaded as the same
same_whole : (a b : EditorState) → a.depth ≡ b.depth → ((depth : ℕ) → loaded_again depth a ≡ loaded_again depth b)
    → unrewound (whole_of a) ≡ unrewound (whole_of b)
same_whole a b deep same =
    let worlds : a.world ≡ b.world = ap (λ (e : EditorState). e.world) (same 0) in
    let futures : a.future ≡ b.future = ap (λ (e : EditorState). e.future) (same 0) in
    let pasts = past_of a b same in
    ap (λ w. whole_with w a.past a.future a.depth) worlds
    ∙ ap (λ past. whole_with b.world past a.future a.depth) pasts
    ∙ ap (λ future. whole_with b.world b.past future a.depth) futures
    ∙ ap (λ depth. whole_with b.world b.past b.future depth) deep

abbrev editor_or : EditorState → Result EditorState FileFault → EditorState
editor_or e (Ok a) = a
editor_or e (Err fault) = e

-- and so are those of two editors that have one text
pub same_texts : (scene text : List ℕ) (a b : EditorState) → text ≡ scene → a.depth ≡ b.depth
    → ((depth : ℕ) → loaded_editor depth scene ≡ Ok (loaded_again depth a)) → ((depth : ℕ) → loaded_editor depth text ≡ Ok (loaded_again depth b))
    → unrewound (whole_of a) ≡ unrewound (whole_of b)
same_texts scene text a b same deep has_scene has_text =
    same_whole a b deep (λ depth. ap (editor_or a) (sym (has_scene depth) ∙ ap (loaded_editor depth) (sym same) ∙ has_text depth))
