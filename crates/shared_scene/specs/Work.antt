-- What a session's work adds to what it has seen.
use Rattle.std.specs.Prelude.{◌≡◌, ◌+◌, ℕ, length}
use Rattle.scene_editor.specs.History.{entries_of}
use Rattle.scene_editor.specs.Session.{SessionView, IsSame, by_session}
use Rattle.shared_scene.specs.declared.worker.Worker.{Worker}
use Rattle.shared_scene.specs.declared.worker.Worker.TheVariants as worker

-- how many entries of its own a session has seen
abbrev pub own_count : SessionView → ℕ
own_count s = length (entries_of by_session s.pass.session s.pass.seen)

-- the same session has seen so many more entries of its own
abbrev pub HasEntered : ℕ → SessionView → SessionView → Type 0
HasEntered count before after = IsSame before after × (own_count after ≡ own_count before + count)

-- how many calls a worker makes
abbrev pub call_count : Worker → ℕ
call_count worker.Tool = 4
call_count worker.Importer = 4
call_count worker.Simulation = 5
