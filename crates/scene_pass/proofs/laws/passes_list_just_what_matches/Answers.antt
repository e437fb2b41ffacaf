use Rattle.std.proofs.Common.{◌<◌, nat_lt}
use Rattle.scene_pass.proofs.Listed.{matching_listed, cells_listed, above}
use Rattle.scene_pass.proofs.laws.passes_list_just_what_matches.Goals as goal

pub returns-clause-matching : goal.returns-clause-matching
returns-clause-matching c = matching_listed

pub returns-clause-changed : goal.returns-clause-changed
returns-clause-changed c = λ w f tick n. cells_listed (λ cell. nat_lt tick cell.changed) (λ cell. tick < cell.changed) (λ cell. above tick cell.changed) w f n

pub returns-clause-added : goal.returns-clause-added
returns-clause-added c = λ w f tick n. cells_listed (λ cell. nat_lt tick cell.added) (λ cell. tick < cell.added) (λ cell. above tick cell.added) w f n
