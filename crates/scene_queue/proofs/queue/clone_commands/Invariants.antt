use Rattle.std.proofs.Common.{◌≡◌, take}
use Rattle.scene_queue.proofs.queue.clone_commands.Given as goal

-- the commands so far were copied
abbrev pub invariant-loop-command : goal.invariant-loop-command
invariant-loop-command l = l.copies.items ≡ take l.command-index l.commands
