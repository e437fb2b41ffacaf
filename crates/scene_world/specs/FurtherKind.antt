-- A kind that is declared in a world that is there.
use Rattle.std.specs.Prelude.{ℕ, List, [], ◌∷◌, ◌++◌, Ok, Err}
use Rattle.scene_kinds.specs.declared.shape.Shape.{Shape}
use Rattle.scene_kinds.specs.Answers.{Outcome}
use Rattle.scene_kinds.specs.Schema.{Kinds, with_kind}
use Rattle.scene_model.specs.World.{World}

-- the world with a further kind, which is the last of its schema
abbrev pub with_kind_in : List ℕ → Shape → World → World
with_kind_in name shape w = record w { schema = w.schema ++ (name, shape) ∷ [] }

-- the world with the schema that has the kind, or the schema's refusal
abbrev pub with_schema_of : World → Outcome ℕ Kinds → Outcome ℕ World
with_schema_of w (Ok p) = Ok (p.0, record w { schema = p.1 })
with_schema_of w (Err r) = Err r

-- a kind is declared: its number, and the world with it last in its schema
abbrev pub declare : World → List ℕ → Shape → Outcome ℕ World
declare w name shape = with_schema_of w (with_kind w.schema name shape)
