use Rattle.std.proofs.Common.{◌∙◌, ap, String}
use Rattle.std.specs.Prelude.{option_map}
use Rattle.std.specs.declared.alloc.Global.{Global}
use Rattle.scene_kinds.specs.declared.shape.Shape.{Shape}
use Rattle.scene_kinds.specs.Schema.{shape_of}
use Rattle.scene_kinds.proofs.Named.{shape_named_at}
use Rattle.scene_kinds.proofs.schema.Schema.shape_of.Goals as goal

pub returns : goal.returns
returns c =
    ap (option_map (λ (e : String Global × Shape). e.1)) c.in_ok-shape.ensures.entry ∙ shape_named_at c.self.inside.kinds.entries c.args.kind
    ∙ ap (λ k. shape_of k c.args.kind) c.self.view_is
