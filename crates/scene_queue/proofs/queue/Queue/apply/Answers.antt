use Rattle.std.proofs.Common.{Result, Ok, Err}
use Rattle.std.specs.Prelude.{IfOk, IfErr}
use Rattle.scene_queue.specs.Requests.{requests}
use Rattle.scene_queue.proofs.Worlds.{whole_world, refused_world}
use Rattle.scene_queue.proofs.queue.Queue.apply.Goals as goal

-- what follows from what holds of a success, and of a refusal
mapped : {A E : Type 0} {P Q : A → Type 0} (r : Result A E) → ((a : A) → P a → Q a) → IfOk r P → IfOk r Q
mapped (Ok a) f h = f a h
mapped (Err e) f h = h

mapped_err : {A E : Type 0} {P Q : E → Type 0} (r : Result A E) → ((e : E) → P e → Q e) → IfErr r P → IfErr r Q
mapped_err (Ok a) f h = h
mapped_err (Err e) f h = f e h

pub returns-clause-world : goal.returns-clause-world
returns-clause-world g c =
    mapped c.apply_at.result (λ spawned h. whole_world g.S.Stage.note (requests c.args.self.now.commands) _ _ _ h) c.apply_at.ensures.whole

pub returns-clause-world_refused : goal.returns-clause-world_refused
returns-clause-world_refused g c =
    mapped_err c.apply_at.result (λ r h named. refused_world g.S.Stage.note (requests c.args.self.now.commands) _ _ r (h named)) c.apply_at.ensures.refused
