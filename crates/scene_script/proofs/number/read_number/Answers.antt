use Rattle.std.proofs.Common.{◌≡◌, ℕ, List, true, false, sym, ◌∙◌, subst, w64}
use Rattle.std.specs.Str.Parse.{ParsesSigned}
use Rattle.scene_script.specs.Begins.{BeginsWhole}
use Rattle.scene_script.proofs.NumberLaws.{begins_text, whole_is}
use Rattle.scene_script.proofs.number.read_number.Goals as goal

pub returns-then-not-begins_whole-clause-only : goal.returns-then-not-begins_whole-clause-only
returns-then-not-begins_whole-clause-only c = λ z fits e.
    let passed = c.begins_whole.ensures.1 (subst BeginsWhole (sym c.as_bytes-bytes.ensures.value) (begins_text c.args.text.now z fits e)) in
    absurd (let k : false ≡ true = sym c.if-not-begins_whole.true ∙ passed in cc)

pub returns-then-bytes-le-SURE_DIGITS-clause-value : goal.returns-then-bytes-le-SURE_DIGITS-clause-value
returns-then-bytes-le-SURE_DIGITS-clause-value c =
    let same = c.as_bytes-bytes.ensures.value in
    c.ok.ensures.value
    ∙ whole_is c.args.text.now c.short_number.result (subst (λ (bs : List ℕ). ParsesSigned w64 10 bs c.short_number.result) same c.short_number.ensures)
    (subst BeginsWhole same (c.begins_whole.ensures.0 c.if-not-begins_whole.false))

pub returns-clause-value : goal.returns-clause-value
returns-clause-value c =
    c.ok-2.ensures.value
    ∙ whole_is c.args.text.now c.parse.result c.parse.ensures.value.0 (subst BeginsWhole c.as_bytes-bytes.ensures.value (c.begins_whole.ensures.0 c.if-not-begins_whole.false))
