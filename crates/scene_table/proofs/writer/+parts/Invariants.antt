use Rattle.std.proofs.Common.{◌+◌, ◌*◌}
use Rattle.scene_table.proofs.writer.+parts.Given as goal

abbrev pub decreases-put_parts : goal.decreases-put_parts
decreases-put_parts g l = 4 * l.parts

abbrev pub decreases-put_first : goal.decreases-put_first
decreases-put_first g l = 4 * l.parts + 3

abbrev pub decreases-put_first-write_others : goal.decreases-put_first-write_others
decreases-put_first-write_others g l = 4 * l.parts + 1
