use Rattle.std.proofs.Common.{◌∙◌, ap}
use Rattle.scene_kinds.specs.Schema.{number_of}
use Rattle.scene_kinds.proofs.Named.{number_of_keys}
use Rattle.scene_kinds.proofs.schema.Schema.hashed_number_of.Goals as goal

pub returns-in_err-number : goal.returns-in_err-number
returns-in_err-number c =
    c.from_residual.ensures ∙ c.in_err-number.ensures.index ∙ number_of_keys c.args.name.now c.self.inside.kinds.entries
    ∙ ap (λ k. number_of k c.args.name.now) c.self.view_is

pub returns : goal.returns
returns c =
    c.in_ok-number.ensures.index ∙ number_of_keys c.args.name.now c.self.inside.kinds.entries
    ∙ ap (λ k. number_of k c.args.name.now) c.self.view_is
