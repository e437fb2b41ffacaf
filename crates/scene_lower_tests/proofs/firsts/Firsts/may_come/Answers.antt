use Rattle.std.proofs.Common.{◌∙◌, ap, sym, subst, length, arith}
use Rattle.std.proofs.lemmas.Bool.{eqb-true, leb-true}
use Rattle.std.proofs.lemmas.List.{nil_from_length}
use Rattle.scene_kinds.proofs.Choices.{none_of_false}
use Rattle.scene_links.specs.Room.{LinksState, CanRelink}
use Rattle.scene_links.proofs.Held.{same_parts}
use Rattle.scene_lower_tests.proofs.FirstLinks.{can_come}
use Rattle.scene_lower_tests.proofs.firsts.Firsts.may_come.Goals as goal

pub returns : goal.returns
returns c within = subst (λ (s : LinksState). CanRelink s.forest c.args.child c.args.parent c.args.place) c.self.view_is
    (can_come c.self.inside.links.forest c.self.invariant c.args.child c.args.parent c.args.place c.requires.child c.requires.parent
    (sym (same_parts c.args.child c.args.parent) ∙ sym c.if-eq.ensures)
    (sym c.parent_of.ensures.value ∙ none_of_false _ (sym c.is_some.ensures ∙ c.if-is_some.false))
    (sym c.children_of.ensures.value ∙ nil_from_length _ (eqb-true _ _ (sym c.is_empty.ensures ∙ c.if-not-is_empty.false)))
    (omega (arith, leb-true _ _ within, ap length c.children_of-2.ensures.value)))
