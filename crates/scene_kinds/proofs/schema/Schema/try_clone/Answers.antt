use Rattle.std.proofs.Common.{◌∙◌, rules, sym, subst}
use Rattle.scene_kinds.specs.Schema.{IsSchema}
use Rattle.scene_kinds.proofs.Named.{named_clone}
use Rattle.scene_kinds.proofs.schema.Schema.try_clone.Goals as goal

pub returns : goal.returns
returns c = named_clone _ (λ x y h. search rules) c.self.inside.kinds.entries c.in_ok-clone.field-0.entries c.in_ok-clone.ensures.cases ∙ c.self.view_is

pub invariant_of-result : goal.invariant_of-result
invariant_of-result c = subst IsSchema (sym (named_clone _ (λ x y h. search rules) c.self.inside.kinds.entries c.in_ok-clone.field-0.entries c.in_ok-clone.ensures.cases)) c.self.invariant
