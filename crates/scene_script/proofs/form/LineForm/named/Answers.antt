use Rattle.std.proofs.Common.{[], ◌∷◌, ap, arith, sym, ◌∙◌}
use Rattle.std.proofs.lemmas.Slice.Eq.{text_from_reads}
use Rattle.scene_script.specs.Forms.{form_named}
use Rattle.scene_script.proofs.form.LineForm.named.Goals as goal

pub returns-in-spawn : goal.returns-in-spawn
returns-in-spawn c =
    let read = text_from_reads c.as_bytes.result.now (115 ∷ 112 ∷ 97 ∷ 119 ∷ 110 ∷ []) (omega arith) (omega arith, (omega arith, (omega arith, (omega arith, (omega arith, tt))))) in
    sym (ap form_named (sym c.as_bytes.ensures.value ∙ read))

pub returns-in-insert : goal.returns-in-insert
returns-in-insert c =
    let read = text_from_reads c.as_bytes.result.now (105 ∷ 110 ∷ 115 ∷ 101 ∷ 114 ∷ 116 ∷ []) (omega arith) (omega arith, (omega arith, (omega arith, (omega arith, (omega arith, (omega arith, tt)))))) in
    sym (ap form_named (sym c.as_bytes.ensures.value ∙ read))

pub returns-in-remove : goal.returns-in-remove
returns-in-remove c =
    let read = text_from_reads c.as_bytes.result.now (114 ∷ 101 ∷ 109 ∷ 111 ∷ 118 ∷ 101 ∷ []) (omega arith) (omega arith, (omega arith, (omega arith, (omega arith, (omega arith, (omega arith, tt)))))) in
    sym (ap form_named (sym c.as_bytes.ensures.value ∙ read))

pub returns-in-parent : goal.returns-in-parent
returns-in-parent c =
    let read = text_from_reads c.as_bytes.result.now (112 ∷ 97 ∷ 114 ∷ 101 ∷ 110 ∷ 116 ∷ []) (omega arith) (omega arith, (omega arith, (omega arith, (omega arith, (omega arith, (omega arith, tt)))))) in
    sym (ap form_named (sym c.as_bytes.ensures.value ∙ read))

pub returns-in-despawn : goal.returns-in-despawn
returns-in-despawn c =
    let read = text_from_reads c.as_bytes.result.now (100 ∷ 101 ∷ 115 ∷ 112 ∷ 97 ∷ 119 ∷ 110 ∷ []) (omega arith) (omega arith, (omega arith, (omega arith, (omega arith, (omega arith, (omega arith, (omega arith, tt))))))) in
    sym (ap form_named (sym c.as_bytes.ensures.value ∙ read))
