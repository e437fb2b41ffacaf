use Rattle.std.proofs.Common.{◌∙◌, ◌++◌, ap, length, string_bytes}
use Rattle.scene_json_forms.proofs.ListsWritten.{as_text, chain, so}
use Rattle.scene_questions.specs.Printing.{cursor_text, frames_text, slots_text}
use Rattle.scene_questions.proofs.AnswerTexts.{status_is}
use Rattle.scene_questions.proofs.answers.write_status.Goals as goal

pub returns : goal.returns
returns c =
    let s0 = string_bytes c.args.out.now in
    let s1 = string_bytes c.write_cursor.new.out in
    let s2 = string_bytes c.write_frames.new.out in
    let state = c.slots-slots.ensures ∙ ap (λ w. w.slots) c.world.ensures in
    let count = c.len.ensures.count ∙ ap (λ s. length s.generations) state in
    let limit = c.limit.ensures.limit ∙ ap (λ s. s.limit) state in
    so c.write_slots.result c.write_slots.ensures (λ last.
    as_text s0 _ _ _ (status_is c.args.editor.now)
    (chain s0 _ _ s1 _ (c.in_ok-write_cursor.ensures ∙ (λ i. s0 ++ cursor_text (c.cursor.ensures i)))
    (chain s1 _ _ s2 _ (c.in_ok-write_frames.ensures ∙ (λ i. s1 ++ frames_text (c.undo_len.ensures i) (c.redo_len.ensures i) (c.depth.ensures i)))
    (last ∙ (λ i. s2 ++ slots_text (count i) (limit i))))))
