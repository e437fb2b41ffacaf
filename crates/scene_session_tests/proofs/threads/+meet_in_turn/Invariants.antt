use Rattle.std.specs.Prelude.{vec_len}
use Rattle.scene_session_tests.proofs.threads.+meet_in_turn.Given as goal

abbrev pub decreases-meet_in_turn : goal.decreases-meet_in_turn
decreases-meet_in_turn l = vec_len l.ended
