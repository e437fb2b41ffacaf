-- A frame that is applied a queue at a time.
use Rattle.std.proofs.Common.{◌≡◌, ℕ, ◌+◌, ◌<◌, List, [], ◌∷◌, ◌++◌, length, take, drop, map, get_or, refl, ap, sym, subst, ◌∙◌, arith, Ok, append_assoc, append-nil}
use Rattle.std.specs.Prelude.{Err}
use Rattle.std.proofs.lemmas.List.{map-append, take_more, take-append-drop, drop_more, length-take-le, length-map, take-map, get_or-map}
use Rattle.scene_kinds.specs.declared.entity.Entity.{Entity}
use Rattle.scene_kinds.specs.declared.refusal.Refusal.{Refusal}
use Rattle.scene_kinds.specs.Answers.{Outcome}
use Rattle.scene_model.specs.Commands.{and_then}
use Rattle.scene_model.specs.Perform.{Act}
use Rattle.scene_machine.specs.Queue.{Request, reached, whole, play}
use Rattle.scene_machine.specs.Frame.{whole_or_refused, queue, queues_from}
use Rattle.scene_model.proofs.Outcomes.{same_world}
use Rattle.scene_queue.specs.Queue.{IsLeft, IsPassed, Stops}
use Rattle.scene_queue.specs.Frames.{ArePassed}

-- an outcome with more entities before its own
abbrev after : {S : Type 0} → List Entity → Outcome (List Entity) S → Outcome (List Entity) S
after es o = and_then o (λ fs u. Ok (es ++ fs, u))

after_none : {S : Type 0} (o : Outcome (List Entity) S) → o ≡ after [] o
after_none (Ok p) = refl
after_none (Err r) = refl

after_both : {S : Type 0} (es fs : List Entity) (o : Outcome (List Entity) S) → after es (after fs o) ≡ after (es ++ fs) o
after_both es fs (Ok p) = ap (λ gs. Ok (gs, p.1)) (sym (append_assoc es fs p.0))
after_both es fs (Err r) = refl

module _ {S : Type 0} (act : Act S) where
  -- what some queues made, the others go on with
  queues_more : (rss more : List (List Request)) (q : ℕ) (s t : S) (es : List Entity) → queues_from act q rss s ≡ Ok (es, t)
      → queues_from act q (rss ++ more) s ≡ after es (queues_from act (q + length rss) more t)
  queues_more [] more q s t es h =
      let both = same_world [] es s t h in
      let none : [] ≡ es = both.0 in
      let same : s ≡ t = both.1 in
      after_none (queues_from act q more s) ∙ ap (λ u. after [] (queues_from act q more u)) same
      ∙ ap (λ k. after [] (queues_from act k more t)) (let e : q ≡ q + 0 = omega arith in e) ∙ ap (λ fs. after fs (queues_from act (q + 0) more t)) none
  queues_more (rs ∷ rss) more q s t es h = from (queue act q rs s) (λ u v gs k. queues_more rss more (q + 1) u v gs k) h
    where
      within : (fs : List Entity) (u : S) (o : Outcome (List Entity) S)
          → ((gs : List Entity) (v : S) → o ≡ Ok (gs, v) → queues_from act (q + 1) (rss ++ more) u ≡ after gs (queues_from act ((q + 1) + length rss) more v))
          → after fs o ≡ Ok (es, t) → after fs (queues_from act (q + 1) (rss ++ more) u) ≡ after es (queues_from act (q + length (rs ∷ rss)) more t)
      within fs u (Ok p) later g =
          let both = same_world (fs ++ p.0) es p.1 t g in
          let all : fs ++ p.0 ≡ es = both.0 in
          let last : p.1 ≡ t = both.1 in
          ap (after fs) (later p.0 p.1 refl) ∙ after_both fs p.0 (queues_from act ((q + 1) + length rss) more p.1)
          ∙ ap (λ gs. after gs (queues_from act ((q + 1) + length rss) more p.1)) all ∙ ap (λ v. after es (queues_from act ((q + 1) + length rss) more v)) last
          ∙ ap (λ k. after es (queues_from act k more t)) (let e : (q + 1) + length rss ≡ q + length (rs ∷ rss) = omega arith in e)
      within fs u (Err r) later g = absurd (let wrong : Err r ≡ Ok (es, t) = g in cc)

      from : (o : Outcome (List Entity) S)
          → ((u v : S) (gs : List Entity) → queues_from act (q + 1) rss u ≡ Ok (gs, v) → queues_from act (q + 1) (rss ++ more) u ≡ after gs (queues_from act ((q + 1) + length rss) more v))
          → and_then o (λ fs u. after fs (queues_from act (q + 1) rss u)) ≡ Ok (es, t)
          → and_then o (λ fs u. after fs (queues_from act (q + 1) (rss ++ more) u)) ≡ after es (queues_from act (q + length (rs ∷ rss)) more t)
      from (Ok p) later g = within p.0 p.1 (queues_from act (q + 1) rss p.1) (λ gs v k. later p.1 v gs k) g
      from (Err r) later g = absurd (let wrong : Err r ≡ Ok (es, t) = g in cc)

  -- one more queue of a list, whole
  pub whole_one : {X : Type 0} (f : X → List Request) (xs : List X) (i : ℕ) (x : X) (s t u : S) (es fs : List Entity) → i < length xs → x ≡ get_or xs i x
      → queues_from act 0 (map f (take i xs)) s ≡ Ok (es, t) → play act (f x) t ≡ whole (reached u fs)
      → queues_from act 0 (map f (take (i + 1) xs)) s ≡ Ok (es ++ fs, u)
  whole_one f xs i x s t u es fs lt here so is =
      ap (λ ys. queues_from act 0 (map f ys) s) (take_more xs i x lt)
      ∙ ap (λ rss. queues_from act 0 rss s) (map-append f (take i xs) (get_or xs i x ∷ []))
      ∙ queues_more (map f (take i xs)) (f (get_or xs i x) ∷ []) 0 s t es so
      ∙ ap (λ y. after es (queues_from act (0 + length (map f (take i xs))) (f y ∷ []) t)) (sym here)
      ∙ ap (λ e. after es (and_then (whole_or_refused (0 + length (map f (take i xs))) e) (λ gs v. after gs (Ok ([], v))))) is
      ∙ ap (λ gs. Ok (es ++ gs, u)) (append-nil fs)

  -- a queue that is refused ends the frame
  pub refused_one : {X : Type 0} (f : X → List Request) (xs : List X) (i at : ℕ) (x : X) (s t u : S) (es : List Entity) (r : Refusal) → i < length xs → x ≡ get_or xs i x
      → at ≡ i → queues_from act 0 (map f (take i xs)) s ≡ Ok (es, t) → Stops act at (f x) t u r
      → queues_from act 0 (map f xs) s ≡ Err r
  refused_one f xs i at x s t u es r lt here count so is =
      let rest = map f (drop (i + 1) xs) in
      let n : length (map f (take i xs)) ≡ i = length-map (take i xs) f ∙ length-take-le i xs (omega (arith, lt)) in
      let place : 0 + length (map f (take i xs)) ≡ at = omega (arith, n, count) in
      ap (λ ys. queues_from act 0 (map f ys) s) (sym (take-append-drop i xs) ∙ ap (λ ys. take i xs ++ ys) (drop_more xs i x lt))
      ∙ ap (λ rss. queues_from act 0 rss s) (map-append f (take i xs) (get_or xs i x ∷ drop (i + 1) xs))
      ∙ queues_more (map f (take i xs)) (f (get_or xs i x) ∷ rest) 0 s t es so
      ∙ ap (λ y. after es (queues_from act (0 + length (map f (take i xs))) (f y ∷ rest) t)) (sym here)
      ∙ ap (λ k. after es (queues_from act k (f x ∷ rest) t)) place
      ∙ ap (λ e. after es (and_then (whole_or_refused at e) (λ gs v. after gs (queues_from act (at + 1) rest v)))) is.1.1.1.0
      ∙ ap (λ w. Err w) (sym is.1.1.1.1)

  -- some queues of a list, whole, and the first commands of the next
  pub passed_some : {X : Type 0} (f : X → List Request) (xs : List X) (i : ℕ) (x : X) (s t u : S) (es : List Entity) → i < length xs → x ≡ get_or xs i x
      → queues_from act 0 (map f (take i xs)) s ≡ Ok (es, t) → IsPassed act (f x) t u → ArePassed act (map f xs) s u
  passed_some f xs i x s t u es lt here so is =
      let next : f x ≡ get_or (map f xs) i [] = ap f here ∙ sym (get_or-map f xs i x [] lt) in
      (i, (t, (es, (ap (λ rss. queues_from act 0 rss s) (take-map f i xs) ∙ so, (is.0, subst (λ rs. IsLeft act rs is.0 t u) next is.1.1)))))

  -- and none of the next
  pub passed_whole : {X : Type 0} (f : X → List Request) (xs : List X) (i : ℕ) (s t : S) (es : List Entity) → queues_from act 0 (map f (take i xs)) s ≡ Ok (es, t)
      → ArePassed act (map f xs) s t
  passed_whole f xs i s t es so = (i, (t, (es, (ap (λ rss. queues_from act 0 rss s) (take-map f i xs) ∙ so, (0, ([], refl))))))
