use Rattle.std.proofs.Common.{string_bytes}
use Rattle.scene_json_forms.proofs.ListsWritten.{accepted, as_text, chain}
use Rattle.scene_file.proofs.Objects.{world_is}
use Rattle.scene_file.proofs.write_world.write_world.Goals as goal

pub returns : goal.returns
returns c = accepted c.push_str.result _ _ _ c.push_str.ensures.bytes (λ last.
    as_text (string_bytes c.args.out.now) _ _ _ (world_is c.args.world.now.world)
    (chain (string_bytes c.args.out.now) _ _ _ _ c.in_ok-write_first_members.ensures
    (chain (string_bytes c.write_first_members.new.out) _ _ _ _ c.in_ok-write_last_members.ensures last)))
