use Rattle.std.proofs.Common.{◌∙◌, ap, refl}
use Rattle.std.proofs.lemmas.Iterator.{items_from_collect, YieldsList-from_map, YieldsList-from_slice}
use Rattle.scene_validate.proofs.row_rules.kind_sets.Goals as goal

pub returns : goal.returns
returns c = items_from_collect c.collect.result c.collect.ensures.ran
    (YieldsList-from_map _ (λ t. t.0) (YieldsList-from_slice c.args.tables.now (ap (λ s. s.rest.now) c.map.ensures.source ∙ c.iter.ensures.rest)) c.map.ensures.closure (λ x r q k. (refl, search)))
