use Rattle.std.proofs.Common.{◌≡◌, None, lit<, rules, sym, ◌∙◌}
use Rattle.std.specs.Option.{option_map}
use Rattle.std.proofs.lemmas.Str.Pattern.{strip_prefix_char}
use Rattle.scene_kinds.specs.EntityReading.{entity_in}
use Rattle.scene_commands.specs.declared.target.Target.TheVariants as target
use Rattle.scene_script.proofs.TargetLaws.{target_in-entity}
use Rattle.scene_script.proofs.target.read_target.Goals as goal

pub returns-in-None : goal.returns-in-None
returns-in-None c =
    let same = target_in-entity c.args.word.now (strip_prefix_char 43 c.args.word.now None c.in-None.ensures.cases (lit< tt)) in
    let mapped : c.map-in-None.result ≡ option_map (λ e. target.Id e) (entity_in c.args.word.now) = search rules in
    mapped ∙ sym same
