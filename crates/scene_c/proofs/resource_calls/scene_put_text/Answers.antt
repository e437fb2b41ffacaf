use Rattle.std.proofs.Common.{◌∙◌, ap, sym}
use Rattle.std.specs.Option.{option_map}
use Rattle.scene_kinds.specs.declared.value.Value.TheVariants.{Text}
use Rattle.scene_c.specs.Arguments.{text_of}
use Rattle.scene_c.proofs.ResourceLaws.{bad_name, no_room}
use Rattle.scene_c.proofs.resource_calls.scene_put_text.Goals as goal

pub returns-then-not-is_text : goal.returns-then-not-is_text
returns-then-not-is_text c = bad_name (option_map Text (text_of c.args.bytes.now)) c.args.name.now c.args.scene.now.value (sym c.is_text.ensures ∙ c.if-not-is_text.true)

pub returns-in-Err : goal.returns-in-Err
returns-in-Err c = no_room (option_map Text (text_of c.args.bytes.now)) (Text c.args.bytes.now) c.args.name.now c.args.scene.now.value (ap (option_map Text) c.in-Err.ensures.memory) (sym c.is_text.ensures ∙ c.if-not-is_text.false)
