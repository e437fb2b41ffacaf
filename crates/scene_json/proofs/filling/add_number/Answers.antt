use Rattle.std.proofs.Common.{ap, option_map}
use Rattle.serde_json.specs.Data.{number}
use Rattle.scene_json.proofs.Filled.{on_ok}
use Rattle.scene_json.proofs.Growing.{grows_one}
use Rattle.scene_json.proofs.filling.add_number.Goals as goal

pub returns-in-Some-clause-added : goal.returns-in-Some-clause-added
returns-in-Some-clause-added c =
    let n = c.in-Some.ensures in
    on_ok c.add.result (λ e. (
      number n.0,
      ap (option_map number) n.1,
      grows_one c.args.nodes.now.items c.add.new.nodes.items c.in-Some.node (number n.0) e n.2 n.3,
    )) c.add.ensures.added
