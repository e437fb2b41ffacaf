use Rattle.std.proofs.Common.{◌≡◌, true, false, ap, sym, ◌∙◌, Some}
use Rattle.std.proofs.lemmas.Option.{same_Some}
use Rattle.scene_kinds.specs.Entity.{is_same}
use Rattle.scene_links.proofs.Held.{same_parts}
use Rattle.scene_links.proofs.LinkLaws.{same_is, same_self}
use Rattle.scene_deltas.proofs.CountWithout.{some_there, one_fewer, as_many}
use Rattle.scene_deltas.proofs.fits.count_without.Goals as goal

pub overflow_sub-result : goal.overflow_sub-result
overflow_sub-result c =
    let own = same_is c.in-Some.own c.args.parent (sym (same_parts c.in-Some.own c.args.parent) ∙ sym c.eq.ensures ∙ c.if-eq.true) in
    some_there c.args.links.now.forest c.args.child c.args.parent c.children_of-count.result.now c.children_of-count.ensures.forest c.children_of-count.ensures.value
    (sym c.in-Some.ensures.value ∙ ap (λ p. Some p) own)

pub returns-in-Some : goal.returns-in-Some
returns-in-Some c =
    let own = same_is c.in-Some.own c.args.parent (sym (same_parts c.in-Some.own c.args.parent) ∙ sym c.eq.ensures ∙ c.if-eq.true) in
    one_fewer c.args.links.now.forest c.args.child c.args.parent c.children_of-count.result.now c.children_of-count.ensures.forest c.children_of-count.ensures.value
    (sym c.in-Some.ensures.value ∙ ap (λ p. Some p) own)

pub returns-in_default : goal.returns-in_default
returns-in_default c =
    as_many c.args.links.now.forest c.args.child c.args.parent c.children_of-count.result.now c.children_of-count.ensures.forest c.children_of-count.ensures.value (λ h.
    let own : c.in-Some.own ≡ c.args.parent = same_Some _ _ (c.in-Some.ensures.value ∙ h) in
    let no : true ≡ false = sym (same_self c.in-Some.own) ∙ ap (is_same c.in-Some.own) own ∙ sym (same_parts c.in-Some.own c.args.parent) ∙ sym c.eq.ensures ∙ c.if-eq.false in
    absurd (cc))
