-- A queue that is played a few commands at a time.
use Rattle.std.proofs.Common.{◌≡◌, ◌≢◌, ℕ, ◌+◌, ◌<◌, List, [], ◌∷◌, ◌++◌, length, take, drop, map, get_or, ap, sym, ◌∙◌, arith, Option, Some, None, Ok}
use Rattle.std.specs.Prelude.{Err}
use Rattle.std.proofs.lemmas.List.{map-append, take_more, take-append-drop, drop_more, length-take-le, length-map, take-map}
use Rattle.scene_kinds.specs.declared.entity.Entity.{Entity}
use Rattle.scene_kinds.specs.declared.refusal.Refusal.{Refusal}
use Rattle.scene_kinds.specs.declared.fault.Fault.TheVariants.{NoMemory}
use Rattle.scene_kinds.specs.Answers.{Outcome, refusal_of}
use Rattle.scene_model.specs.Perform.{Act}
use Rattle.scene_machine.specs.Queue.{Request, Progress, reached, refused_at, and_spawned, whole, stopped, unless_refused, request, play_from, play}
use Rattle.scene_queue.specs.Queue.{IsPassed, Stops}

module _ {S : Type 0} (act : Act S) where
  -- what some commands made, the others go on with
  play_more : (rs more : List Request) (i : ℕ) (p q : Progress S) → play_from act i rs p ≡ whole q
      → play_from act i (rs ++ more) p ≡ play_from act (i + length rs) more q
  play_more [] more i p q h =
      ap (λ e. play_from act i more e.progress) h ∙ ap (λ k. play_from act k more q) (let e : i ≡ i + 0 = omega arith in e)
  play_more (r ∷ rs) more i p q h = from (request act r p) (λ p g. play_more rs more (i + 1) p q g) h
    where
      from : (o : Outcome (Option Entity) S)
          → ((p : Progress S) → play_from act (i + 1) rs p ≡ whole q → play_from act (i + 1) (rs ++ more) p ≡ play_from act ((i + 1) + length rs) more q)
          → unless_refused i p o (play_from act (i + 1) rs) ≡ whole q
          → unless_refused i p o (play_from act (i + 1) (rs ++ more)) ≡ play_from act (i + length (r ∷ rs)) more q
      from (Ok a) go g =
          go (reached a.1 (and_spawned p.spawned a.0)) g
          ∙ ap (λ k. play_from act k more q) (let e : (i + 1) + length rs ≡ i + length (r ∷ rs) = omega arith in e)
      from (Err f) go g = absurd (let k : Some (i, f) ≡ None = ap (λ e. e.refused) g in cc)

  -- a command that is accepted
  pub played_one : {X : Type 0} (f : X → Request) (xs : List X) (i : ℕ) (d : X) (s : S) (q : Progress S) (a : Option Entity) (t : S) → i < length xs
      → play act (map f (take i xs)) s ≡ whole q → request act (f (get_or xs i d)) q ≡ Ok (a, t)
      → play act (map f (take (i + 1) xs)) s ≡ whole (reached t (and_spawned q.spawned a))
  played_one f xs i d s q a t lt so is =
      ap (λ ys. play act (map f ys) s) (take_more xs i d lt)
      ∙ ap (λ rs. play act rs s) (map-append f (take i xs) (get_or xs i d ∷ []))
      ∙ play_more (map f (take i xs)) (f (get_or xs i d) ∷ []) 0 (reached s []) q so
      ∙ ap (λ o. unless_refused (0 + length (map f (take i xs))) q o (play_from act ((0 + length (map f (take i xs))) + 1) [])) is

  -- a command that is refused ends the queue
  pub stopped_at : {X : Type 0} (f : X → Request) (xs : List X) (i : ℕ) (d : X) (s : S) (q : Progress S) (r : Refusal) → i < length xs
      → play act (map f (take i xs)) s ≡ whole q → request act (f (get_or xs i d)) q ≡ Err r
      → play act (map f xs) s ≡ stopped q i r
  stopped_at f xs i d s q r lt so is =
      let rest = map f (drop (i + 1) xs) in
      ap (λ ys. play act (map f ys) s) (sym (take-append-drop i xs) ∙ ap (λ ys. take i xs ++ ys) (drop_more xs i d lt))
      ∙ ap (λ rs. play act rs s) (map-append f (take i xs) (get_or xs i d ∷ drop (i + 1) xs))
      ∙ play_more (map f (take i xs)) (f (get_or xs i d) ∷ rest) 0 (reached s []) q so
      ∙ ap (λ o. unless_refused (0 + length (map f (take i xs))) q o (play_from act ((0 + length (map f (take i xs))) + 1) rest)) is
      ∙ ap (λ k. stopped q k r) (let n : length (map f (take i xs)) ≡ i = length-map (take i xs) f ∙ length-take-le i xs (omega (arith, lt)) in let e : 0 + length (map f (take i xs)) ≡ i = omega (arith, n) in e)

  -- the first commands of a list, done
  pub passed_over : {X : Type 0} (f : X → Request) (xs : List X) (i : ℕ) (s t u : S) (es : List Entity) → i < length xs → u ≡ t
      → play act (map f (take i xs)) s ≡ whole (reached t es) → IsPassed act (map f xs) s u
  passed_over f xs i s t u es lt kept so =
      let within : i < length (map f xs) = omega (arith, lt, length-map xs f) in
      (i, (within, (es, ap (λ rs. play act rs s) (take-map f i xs) ∙ so ∙ ap (λ v. whole (reached v es)) (sym kept))))

  -- one more command, accepted; it was given the entities spawned so far
  pub goes_on : {X : Type 0} (f : X → Request) (xs : List X) (i : ℕ) (x : X) (s t u : S) (es given after : List Entity) (a : Option Entity) → i < length xs
      → x ≡ get_or xs i x → given ≡ es → play act (map f (take i xs)) s ≡ whole (reached t es)
      → request act (f x) (reached t given) ≡ Ok (a, u) → after ≡ and_spawned es a
      → play act (map f (take (i + 1) xs)) s ≡ whole (reached u after)
  goes_on f xs i x s t u es given after a lt here same so is noted =
      played_one f xs i x s (reached t es) a u lt so (ap (λ y. request act (f y) (reached t es)) (sym here) ∙ ap (λ gs. request act (f x) (reached t gs)) (sym same) ∙ is)
      ∙ ap (λ gs. whole (reached u gs)) (sym noted)

  -- the command at a place, refused
  pub stops_there : {X : Type 0} (f : X → Request) (q : ℕ) (xs : List X) (i at : ℕ) (x : X) (s t u : S) (es given : List Entity) (why r : Refusal) → i < length xs
      → at ≡ i → x ≡ get_or xs i x → given ≡ es → u ≡ t → play act (map f (take i xs)) s ≡ whole (reached t es)
      → (why ≢ refusal_of NoMemory → request act (f x) (reached t given) ≡ Err why) → r ≡ refused_at q at why.fault
      → r ≢ refusal_of NoMemory → Stops act q (map f xs) s u r
  stops_there f q xs i at x s t u es given why r lt count here same kept so fact is ne =
      let named : why ≢ refusal_of NoMemory = λ e. ne (is ∙ ap (λ (w : Refusal). refused_at q at w.fault) e) in
      let refuses = ap (λ y. request act (f y) (reached t es)) (sym here) ∙ ap (λ gs. request act (f x) (reached t gs)) (sym same) ∙ fact named in
      let there = stopped_at f xs i x s (reached t es) why lt so refuses in
      (i, (es, (why, (there ∙ ap (λ v. stopped (reached v es) i why) (sym kept), is ∙ ap (λ k. refused_at q k why.fault) count))))
