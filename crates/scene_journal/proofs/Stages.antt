-- A command on a stage does to its world what it does to the world alone, and appends its notes.
use Rattle.std.proofs.Common.{◌≡◌, Bool, true, false, List, [], refl, ap, sym, ◌∙◌, Some, None, Ok, if◌then◌else◌}
use Rattle.std.specs.Prelude.{Err}
use Rattle.std.proofs.lemmas.List.{append-nil}
use Rattle.scene_kinds.specs.declared.entity.Entity.{Entity}
use Rattle.scene_kinds.specs.Answers.{Outcome}
use Rattle.scene_model.specs.World.{World, is_live}
use Rattle.scene_model.specs.Commands.{spawn, despawn, despawn_recursive, insert, remove, set_parent, remove_parent, put_resource, remove_resource}
use Rattle.scene_model.specs.Perform.{Command, Spawn, Despawn, DespawnRecursive, DespawnRecursiveIfAlive, Insert, Remove, SetParent, RemoveParent, PutResource, RemoveResource, answering, perform}
use Rattle.scene_world.specs.Stage.{Staged, Note, noting, noted, act}

-- an answer may become another one before or after the notes
noting_answers : {A B N : Type 0} (f : A → B) (s : Staged N) (ns : List N) (o : Outcome A World) → answering f (noting s ns o) ≡ noting s ns (answering f o)
noting_answers f s ns (Ok p) = refl
noting_answers f s ns (Err r) = refl

-- a note of a despawn that passes over the dead is that of the despawn, and nothing of a dead entity
abbrev pub PassesOver : {N : Type 0} → Note N → Type 0
PassesOver note = (w : World) (e : Entity) → note w (DespawnRecursiveIfAlive e) ≡ (if is_live w e then note w (DespawnRecursive e) else [])

module _ {N : Type 0} (note : Note N) (passes : PassesOver note) where
  passed_over : (s : Staged N) (e : Entity) → act note s (DespawnRecursiveIfAlive e) ≡ noting s (note s.world (DespawnRecursiveIfAlive e)) (perform s.world (DespawnRecursiveIfAlive e))
  passed_over s e =
      from (is_live s.world e)
      ∙ ap (λ ns. noting s ns (perform s.world (DespawnRecursiveIfAlive e))) (sym (passes s.world e))
    where
      from : (b : Bool) → (if b then noted note s (DespawnRecursive e) (λ w. despawn_recursive w e) (λ a. None) else Ok (None, s))
          ≡ noting s (if b then note s.world (DespawnRecursive e) else []) (answering (λ a. None) (if b then despawn_recursive s.world e else Ok (tt, s.world)))
      from true = noting_answers (λ a. None) s (note s.world (DespawnRecursive e)) (despawn_recursive s.world e)
      from false = λ i. Ok (None, record { world = s.world; notes = sym (append-nil s.notes) i })

  pub act_is : (s : Staged N) (c : Command) → act note s c ≡ noting s (note s.world c) (perform s.world c)
  act_is s (Spawn cells) = noting_answers Some s (note s.world (Spawn cells)) (spawn s.world cells)
  act_is s (Despawn e) = noting_answers (λ a. None) s (note s.world (Despawn e)) (despawn s.world e)
  act_is s (DespawnRecursive e) = noting_answers (λ a. None) s (note s.world (DespawnRecursive e)) (despawn_recursive s.world e)
  act_is s (DespawnRecursiveIfAlive e) = passed_over s e
  act_is s (Insert e kind value) = noting_answers (λ a. None) s (note s.world (Insert e kind value)) (insert s.world e kind value)
  act_is s (Remove e kind) = noting_answers (λ a. None) s (note s.world (Remove e kind)) (remove s.world e kind)
  act_is s (SetParent c p) = noting_answers (λ a. None) s (note s.world (SetParent c p)) (set_parent s.world c p)
  act_is s (RemoveParent c) = noting_answers (λ a. None) s (note s.world (RemoveParent c)) (remove_parent s.world c)
  act_is s (PutResource name value) = noting_answers (λ a. None) s (note s.world (PutResource name value)) (put_resource s.world name value)
  act_is s (RemoveResource name) = noting_answers (λ a. None) s (note s.world (RemoveResource name)) (remove_resource s.world name)
