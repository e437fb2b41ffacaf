-- A frame of one command.
use Rattle.std.proofs.Common.{◌≡◌, ◌≢◌, List, [], ◌∷◌, ◌++◌, ap, sym, ◌∙◌, Option, Ok, append-nil}
use Rattle.std.specs.Prelude.{Err}
use Rattle.scene_kinds.specs.declared.entity.Entity.{Entity}
use Rattle.scene_kinds.specs.declared.refusal.Refusal.{Refusal}
use Rattle.scene_kinds.specs.declared.fault.Fault.TheVariants.{NoMemory}
use Rattle.scene_kinds.specs.Answers.{Outcome, refusal_of}
use Rattle.scene_model.specs.Commands.{and_then}
use Rattle.scene_model.specs.Perform.{Act}
use Rattle.scene_machine.specs.Queue.{Request, reached, refused_at, and_spawned, unless_refused, request, play_from}
use Rattle.scene_machine.specs.Frame.{whole_or_refused, queues_from}

module _ {S : Type 0} (act : Act S) (r : Request) (s : S) where
  -- what the frame comes to, by what its command does where nothing is spawned yet
  abbrev after_one : Outcome (Option Entity) S → Outcome (List Entity) S
  after_one o =
      and_then (whole_or_refused 0 (unless_refused 0 (reached s []) o (play_from act 1 []))) (λ es t. and_then (Ok ([], t)) (λ fs u. Ok (es ++ fs, u)))

  -- accepted
  pub lone_done : (given es : List Entity) (a : Option Entity) (t : S) → given ≡ [] → request act r (reached s given) ≡ Ok (a, t)
      → es ≡ and_spawned given a → queues_from act 0 ((r ∷ []) ∷ []) s ≡ Ok (es, t)
  lone_done given es a t none is noted =
      ap (λ gs. after_one (request act r (reached s gs))) (sym none) ∙ ap after_one is
      ∙ ap (λ gs. Ok (gs, t)) (append-nil (and_spawned [] a) ∙ ap (λ gs. and_spawned gs a) (sym none) ∙ sym noted)

  -- refused
  pub lone_refused : (given : List Entity) (why found : Refusal) → given ≡ [] → (why ≢ refusal_of NoMemory → request act r (reached s given) ≡ Err why)
      → found ≡ refused_at 0 0 why.fault → found ≢ refusal_of NoMemory → queues_from act 0 ((r ∷ []) ∷ []) s ≡ Err found
  lone_refused given why found none fact is other =
      let named : why ≢ refusal_of NoMemory = λ e. other (is ∙ ap (λ (w : Refusal). refused_at 0 0 w.fault) e) in
      ap (λ gs. after_one (request act r (reached s gs))) (sym none) ∙ ap after_one (fact named) ∙ ap (λ w. Err w) (sym is)
