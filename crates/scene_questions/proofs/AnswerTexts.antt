-- The texts of answers of an editor.
use Rattle.std.proofs.Common.{◌≡◌, ◌∙◌, ℕ, List, ◌++◌, ap, append_assoc, length, refl}
use Rattle.std.specs.Prelude.{codes, decimal}
use Rattle.serde_json.proofs.OnLiterals.{serde_json_on_literals}
use Rattle.serde_json.specs.Written.{compact_text}
use Rattle.scene_kinds.specs.Schema.{Kinds}
use Rattle.scene_json_forms.specs.Text.{list_text}
use Rattle.scene_file.specs.Text.{kind_text}
use Rattle.scene_undo.specs.Cursor.{cursor_of}
use Rattle.scene_undo.specs.Editor.{EditorState, machine_of}
use Rattle.scene_questions.specs.Printing.{cursor_text, frames_text, slots_text}
use Rattle.scene_questions.specs.Questions.{kinds_answer, status_answer}

pub kinds_is : (kinds : Kinds) → compact_text (kinds_answer kinds)
    ≡ codes "{\"answer\":\"kinds\",\"kinds\":" ++ (compact_text (list_text kind_text kinds) ++ codes "}")
unfolding serde_json_on_literals
kinds_is kinds = refl

status_parts : (s : EditorState) → compact_text (status_answer s)
    ≡ codes "{\"answer\":\"status\",\"tick\":" ++ (decimal s.world.tick ++ (codes ",\"rewinds\":" ++ (decimal s.rewinds
    ++ (codes ",\"past\":" ++ (decimal (length s.past) ++ (codes ",\"future\":" ++ (decimal (length s.future)
    ++ (codes ",\"depth\":" ++ (decimal s.depth ++ slots_text (length s.world.slots.generations) s.world.slots.limit)))))))))
unfolding serde_json_on_literals
status_parts s = refl

four : (a b c d e : List ℕ) → a ++ (b ++ (c ++ (d ++ e))) ≡ (a ++ (b ++ (c ++ d))) ++ e
four a b c d e = simp append_assoc refl

six : (a b c d e f g : List ℕ) → a ++ (b ++ (c ++ (d ++ (e ++ (f ++ g))))) ≡ (a ++ (b ++ (c ++ (d ++ (e ++ f))))) ++ g
six a b c d e f g = simp append_assoc refl

pub status_is : (s : EditorState) → compact_text (status_answer s)
    ≡ cursor_text (cursor_of (machine_of s))
    ++ (frames_text (length s.past) (length s.future) s.depth ++ slots_text (length s.world.slots.generations) s.world.slots.limit)
status_is s =
    let last = slots_text (length s.world.slots.generations) s.world.slots.limit in
    let frames = frames_text (length s.past) (length s.future) s.depth in
    status_parts s
    ∙ ap (λ t. codes "{\"answer\":\"status\",\"tick\":" ++ (decimal s.world.tick ++ (codes ",\"rewinds\":" ++ (decimal s.rewinds ++ t))))
    (six (codes ",\"past\":") (decimal (length s.past)) (codes ",\"future\":") (decimal (length s.future)) (codes ",\"depth\":") (decimal s.depth) last)
    ∙ four (codes "{\"answer\":\"status\",\"tick\":") (decimal s.world.tick) (codes ",\"rewinds\":") (decimal s.rewinds) (frames ++ last)
