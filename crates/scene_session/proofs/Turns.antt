-- Several undos and redos of a session.
use Rattle.std.proofs.Common.{◌≡◌, ℕ, zero, suc, ◌+◌, ◌-◌, ◌<◌, ◌≤◌, List, [], ◌∷◌, ◌++◌, length, take, drop, reverse, replicate, if◌then◌else◌, Bool, refl, ap, sym, ◌∙◌, arith, Ok, Result, OnOk, OnErr, IfErr}
use Rattle.std.specs.Prelude.{Err}
use Rattle.std.proofs.lemmas.Bool.{lt-ltb, le-ltb}
use Rattle.std.proofs.lemmas.List.{append-nil, append_assoc, length-append, length-replicate, take_all}
use Rattle.scene_kinds.specs.declared.entity.Entity.{Entity}
use Rattle.scene_kinds.specs.declared.fault.Fault.TheVariants.{HistoryFull}
use Rattle.scene_kinds.specs.declared.refusal.Refusal.{Refusal}
use Rattle.scene_kinds.specs.Answers.{Answers, Outcome, refuse, refusal_of}
use Rattle.scene_model.specs.Commands.{and_then}
use Rattle.scene_model.specs.World.{World}
use Rattle.scene_model.proofs.Outcomes.{not_ok}
use Rattle.scene_schedule.proofs.StagedSystems.{same_answer}
use Rattle.scene_machine.specs.Machine.{Machine, redo, redone_to, undo}
use Rattle.scene_machine.specs.Frame.{call, spawning_none}
use Rattle.scene_journal.specs.Records.{Record, undone}
use Rattle.scene_undo.specs.BackAndForth.{IsWithinDepth}
use Rattle.scene_undo.specs.Editor.{EditorState, machine_of}
use Rattle.scene_undo.specs.Several.{redo_by, several, undo_by}
use Rattle.scene_undo.proofs.SeveralCalls.{as_many_worlds, cut_behind, refused_sooner, several_added, turned_over}
use Rattle.scene_session.specs.declared.way.Way.{Way}
use Rattle.scene_session.specs.declared.way.Way.TheVariants.{Back, On}
use Rattle.scene_session.specs.Calls.{Answer, Asked, Redo, Refused, Undo, accepted_answer, machine_call}
use Rattle.scene_session.specs.History.{replay}
use Rattle.scene_session.specs.Owner.{MadeCall, OwnerState, entered, next, whole_at}
use Rattle.scene_session.specs.Turns.{answer_along, call_along, done, done_whole, owner_by, turned, unless_refused, whole_by}
use Rattle.scene_session.specs.Whole.{Whole, accepted_whole, moved, step, stepped, whole_of}
use Rattle.scene_session.proofs.Replays.{replay_entered}
use Rattle.scene_session.proofs.Wholes.{step_done}

drop_none : {A : Type 0} (n : ℕ) → ◌≡◌ {A = List A} (drop n []) []
drop_none zero = refl
drop_none (suc n) = refl

take_none : {A : Type 0} (n : ℕ) → ◌≡◌ {A = List A} (take n []) []
take_none zero = refl
take_none (suc n) = refl

-- a refusal of one call as that of another
same_refusal : {A B : Type 0} (q r : Refusal) → ◌≡◌ {A = Result A Refusal} (Err q) (Err r) → ◌≡◌ {A = Result B Refusal} (Err q) (Err r)
same_refusal q r h = let same : q ≡ r = cc in ap (λ x. Err x) same

-- the answer of a call that is done is no refusal
unrefused : {W : Type 0} (way : Way) (es : List Entity) (w : W) → unless_refused w (accepted_answer (call_along way) es) ≡ Ok (tt, w)
unrefused Back es w = refl
unrefused On es w = refl

answered : (way : Way) (es : List Entity) → accepted_answer (call_along way) es ≡ answer_along way
answered Back es = refl
answered On es = refl

-- ---- the machine with its records

-- a call of the machine that is refused, is so of the whole
whole_refused : (w : Whole) (a : Asked) (r : Refusal) → call w.machine (machine_call a) ≡ Err r → done_whole a w ≡ Err r
whole_refused w a r is = ap (λ o. unless_refused (stepped w a o).0 (stepped w a o).1) is

-- the whole that several undos of the machine lead to
pub undos_whole : (n : ℕ) (w : Whole) (m : Machine World) → undo_by n w.machine ≡ Ok (tt, m)
    → whole_by Back n w ≡ Ok (tt, record { machine = m; past = drop n w.past; future = reverse (take n w.past) ++ w.future })
undos_whole zero w m is = let same : w.machine ≡ m = ap (λ p. p.1) (same_answer _ _ is) in λ i. Ok (tt, record w { machine = same i })
undos_whole (suc n) w m is = by (λ v k. undos_whole n v m k) (undo w.machine) refl is
  where
    past_moved : (past future : List Record) → drop n (moved past future).0 ≡ drop (suc n) past
    past_moved [] future = drop_none n
    past_moved (r ∷ past) future = refl

    future_moved : (past future : List Record) → reverse (take n (moved past future).0) ++ (moved past future).1 ≡ reverse (take (suc n) past) ++ future
    future_moved [] future = ap (λ rs. reverse rs ++ future) (take_none n)
    future_moved (r ∷ past) future = sym (turned_over r (take n past) future)

    Rest : Type 0
    Rest = (v : Whole) → undo_by n v.machine ≡ Ok (tt, m) → whole_by Back n v ≡ Ok (tt, record { machine = m; past = drop n v.past; future = reverse (take n v.past) ++ v.future })

    Goal : Type 0
    Goal = whole_by Back (suc n) w ≡ Ok (tt, record { machine = m; past = drop (suc n) w.past; future = reverse (take (suc n) w.past) ++ w.future })

    by : Rest → (o : Outcome (Unit {0}) (Machine World)) → undo w.machine ≡ o → and_then o (λ a. undo_by n) ≡ Ok (tt, m) → Goal
    by rest (Err r) at h = absurd (not_ok (tt, m) r h)
    by rest (Ok p) at h =
        let v = accepted_whole w Undo p.1 in
        ap (λ s. and_then (unless_refused s.0 s.1) (λ a. whole_by Back n)) (step_done w Undo [] p.1 (ap spawning_none at))
        ∙ rest v h
        ∙ (λ i. Ok (tt, record { machine = m; past = past_moved w.past w.future i; future = future_moved w.past w.future i }))

-- a redo leaves the depth
depth_stays : (m k : Machine World) → redo m ≡ Ok (tt, k) → k.depth ≡ m.depth
depth_stays m k is = by m.future is
  where
    by : (ws : List World) → redone_to m ws ≡ Ok (tt, k) → k.depth ≡ m.depth
    by [] h = absurd (not_ok (tt, k) _ h)
    by (w ∷ ws) h = ap (λ (x : Machine World). x.depth) (sym (ap (λ p. p.1) (same_answer _ _ h)))

-- the whole that several redos lead to, where the past is within the depth
pub redos_whole : (n : ℕ) (w : Whole) (m : Machine World) → take w.machine.depth w.past ≡ w.past → redo_by n w.machine ≡ Ok (tt, m)
    → whole_by On n w ≡ Ok (tt, record { machine = m; past = take w.machine.depth (reverse (take n w.future) ++ w.past); future = drop n w.future })
redos_whole zero w m within is =
    let same : w.machine ≡ m = ap (λ p. p.1) (same_answer _ _ is) in λ i. Ok (tt, record { machine = same i; past = sym within i; future = w.future })
redos_whole (suc n) w m within is = by (λ v short k. redos_whole n v m short k) (redo w.machine) refl is
  where
    Rest : Type 0
    Rest = (v : Whole) → take v.machine.depth v.past ≡ v.past → redo_by n v.machine ≡ Ok (tt, m)
        → whole_by On n v ≡ Ok (tt, record { machine = m; past = take v.machine.depth (reverse (take n v.future) ++ v.past); future = drop n v.future })

    Goal : Type 0
    Goal = whole_by On (suc n) w ≡ Ok (tt, record { machine = m; past = take w.machine.depth (reverse (take (suc n) w.future) ++ w.past); future = drop (suc n) w.future })

    d : ℕ
    d = w.machine.depth

    future_moved : (future past : List Record) → drop n (moved future past).0 ≡ drop (suc n) future
    future_moved [] past = drop_none n
    future_moved (r ∷ future) past = refl

    past_moved : (future past : List Record) → take d (reverse (take n (moved future past).0) ++ take d (moved future past).1) ≡ take d (reverse (take (suc n) future) ++ past)
    past_moved [] past = ap (λ rs. take d (reverse rs ++ take d past)) (take_none n) ∙ cut_behind d [] past
    past_moved (r ∷ future) past = cut_behind d (reverse (take n future)) (r ∷ past) ∙ ap (take d) (sym (turned_over r (take n future) past))

    by : Rest → (o : Outcome (Unit {0}) (Machine World)) → redo w.machine ≡ o → and_then o (λ a. redo_by n) ≡ Ok (tt, m) → Goal
    by rest (Err r) at h = absurd (not_ok (tt, m) r h)
    by rest (Ok p) at h =
        let v = accepted_whole w Redo p.1 in
        let same : p.1.depth ≡ d = depth_stays w.machine p.1 at in
        ap (λ s. and_then (unless_refused s.0 s.1) (λ a. whole_by On n)) (step_done w Redo [] p.1 (ap spawning_none at))
        ∙ rest v (ap (λ k. take k v.past) same ∙ cut_behind d [] (moved w.future w.past).1) h
        ∙ (λ i. Ok (tt, record { machine = m; past = (ap (λ k. take k (reverse (take n v.future) ++ v.past)) same ∙ past_moved w.future w.past) i; future = future_moved w.future w.past i }))

-- a refusal of the machine on the way is that of the whole
module _ (way : Way) (goes : Machine World → Outcome (Unit {0}) (Machine World)) (is_call : (m : Machine World) → call m (machine_call (call_along way)) ≡ spawning_none (goes m))
    (moves : (w : Whole) (m : Machine World) → (accepted_whole w (call_along way) m).machine ≡ m) where
  pub turns_refused : (n : ℕ) (w : Whole) (r : Refusal) → several goes n w.machine ≡ Err r → whole_by way n w ≡ Err r
  turns_refused zero w r is = absurd (not_ok (tt, w.machine) r (sym is))
  turns_refused (suc n) w r is = by (λ v k. turns_refused n v r k) (goes w.machine) refl is
    where
      by : ((v : Whole) → several goes n v.machine ≡ Err r → whole_by way n v ≡ Err r) → (o : Outcome (Unit {0}) (Machine World)) → goes w.machine ≡ o → and_then o (λ a. several goes n) ≡ Err r → whole_by way (suc n) w ≡ Err r
      by rest (Err q) at h = ap (λ o. and_then o (λ a. whole_by way n)) (whole_refused w (call_along way) q (is_call w.machine ∙ ap spawning_none at)) ∙ same_refusal q r h
      by rest (Ok p) at h =
          let v = accepted_whole w (call_along way) p.1 in
          ap (λ s. and_then (unless_refused s.0 s.1) (λ a. whole_by way n)) (step_done w (call_along way) [] p.1 (is_call w.machine ∙ ap spawning_none at))
          ∙ ap (λ o. and_then o (λ a. whole_by way n)) (unrefused way [] v)
          ∙ rest v (ap (several goes n) (moves w p.1) ∙ h)

-- what an editor answers to several undos, of the whole
module _ (n : ℕ) (old : EditorState) where
  pub undos_answer : (r : Result (Unit {0}) Refusal) (new : EditorState) → Answers r (machine_of old) (machine_of new) (undo_by n (machine_of old))
      → OnOk r ((new.past ≡ drop n old.past) × (new.future ≡ reverse (take n old.past) ++ old.future)) → OnErr r (new ≡ old)
      → Answers r (whole_of old) (whole_of new) (whole_by Back n (whole_of old))
  undos_answer (Ok u) new is records same = undos_whole n (whole_of old) (machine_of new) is
      ∙ (λ i. Ok (tt, record { machine = machine_of new; past = sym records.0 i; future = sym records.1 i }))
  undos_answer (Err r) new is records same =
      (ap whole_of same, λ other. turns_refused Back undo (λ m. refl) (λ w m. refl) n (whole_of old) r (is.1 other))

  pub undos_possible : (r : Result (Unit {0}) Refusal) → OnOk r ((m : Machine World) × (undo_by n (machine_of old) ≡ Ok (tt, m)))
      → OnOk r ((w : Whole) × (whole_by Back n (whole_of old) ≡ Ok (tt, w)))
  undos_possible (Ok u) is = (record { machine = is.0; past = drop n old.past; future = reverse (take n old.past) ++ old.future }, undos_whole n (whole_of old) is.0 is.1)
  undos_possible (Err r) is = tt

  pub undos_impossible : (r : Result (Unit {0}) Refusal) → IfErr r (λ x. undo_by n (machine_of old) ≡ Err x)
      → IfErr r (λ x. whole_by Back n (whole_of old) ≡ Err x)
  undos_impossible (Ok u) is = tt
  undos_impossible (Err r) is = turns_refused Back undo (λ m. refl) (λ w m. refl) n (whole_of old) r is

  -- and to several redos
  all_within : IsWithinDepth (machine_of old) → take old.depth old.past ≡ old.past
  all_within within = let worlds = as_many_worlds undone old.past old.world in take_all old.depth old.past (omega (arith, within, worlds))

  pub redos_answer : (r : Result (Unit {0}) Refusal) (new : EditorState) → IsWithinDepth (machine_of old)
      → Answers r (machine_of old) (machine_of new) (redo_by n (machine_of old))
      → OnOk r ((new.future ≡ drop n old.future) × (new.past ≡ take old.depth (reverse (take n old.future) ++ old.past))) → OnErr r (new ≡ old)
      → Answers r (whole_of old) (whole_of new) (whole_by On n (whole_of old))
  redos_answer (Ok u) new within is records same = redos_whole n (whole_of old) (machine_of new) (all_within within) is
      ∙ (λ i. Ok (tt, record { machine = machine_of new; past = sym records.1 i; future = sym records.0 i }))
  redos_answer (Err r) new within is records same =
      (ap whole_of same, λ other. turns_refused On redo (λ m. refl) (λ w m. refl) n (whole_of old) r (is.1 other))

  pub redos_possible : (r : Result (Unit {0}) Refusal) → IsWithinDepth (machine_of old) → OnOk r ((m : Machine World) × (redo_by n (machine_of old) ≡ Ok (tt, m)))
      → OnOk r ((w : Whole) × (whole_by On n (whole_of old) ≡ Ok (tt, w)))
  redos_possible (Ok u) within is = (
    record { machine = is.0; past = take old.depth (reverse (take n old.future) ++ old.past); future = drop n old.future },
    redos_whole n (whole_of old) is.0 (all_within within) is.1,
  )
  redos_possible (Err r) within is = tt

  pub redos_impossible : (r : Result (Unit {0}) Refusal) → IfErr r (λ x. redo_by n (machine_of old) ≡ Err x)
      → IfErr r (λ x. whole_by On n (whole_of old) ≡ Err x)
  redos_impossible (Ok u) is = tt
  redos_impossible (Err r) is = turns_refused On redo (λ m. refl) (λ w m. refl) n (whole_of old) r is

-- ---- the owner

-- the owner with so many such calls of the session whose turn it is
abbrev pub with_turns : Way → OwnerState → ℕ → OwnerState
with_turns way h n = record h { history = h.history ++ replicate n (turned h.session way) }

abbrev by_room : OwnerState → Asked → Bool → OwnerState × Answer
by_room h a b = if b then (entered h a, (step (whole_at h) a).1) else (h, Refused (refusal_of (HistoryFull h.limit)))

module _ (way : Way) where
  abbrev a : Asked
  a = call_along way

  abbrev one : ℕ → MadeCall
  one session = turned session way

  -- one that is done
  one_done : (h : OwnerState) (es : List Entity) (m : Machine World) → length h.history < h.limit → call (whole_at h).machine (machine_call a) ≡ Ok (es, m)
      → (done a h ≡ Ok (tt, with_turns way h 1)) × (whole_at (with_turns way h 1) ≡ accepted_whole (whole_at h) a m)
  one_done h es m room is =
      let stepped_is = step_done (whole_at h) a es m is in
      let answer : (step (whole_at h) a).1 ≡ answer_along way = ap (λ s. s.1) stepped_is ∙ answered way es in (
        ap (λ b. unless_refused (by_room h a b).0 (by_room h a b).1) (lt-ltb (length h.history) h.limit room)
            ∙ (λ i. unless_refused (record h { history = h.history ++ record { session = h.session; call = a; answer = answer i } ∷ [] }) (ap (λ s. s.1) stepped_is i))
            ∙ unrefused way es (with_turns way h 1),
        replay_entered next h.opening h.history (one h.session) ∙ ap (λ s. s.0) stepped_is,
      )

  -- one that is refused
  one_refused : (h : OwnerState) (r : Refusal) → length h.history < h.limit → call (whole_at h).machine (machine_call a) ≡ Err r → done a h ≡ Err r
  one_refused h r room is =
      ap (λ b. unless_refused (by_room h a b).0 (by_room h a b).1) (lt-ltb (length h.history) h.limit room)
      ∙ ap (λ o. unless_refused (entered h a) (stepped (whole_at h) a o).1) is

  -- one for which there is no room
  one_full : (h : OwnerState) → h.limit ≤ length h.history → done a h ≡ refuse (HistoryFull h.limit)
  one_full h full = ap (λ b. unless_refused (by_room h a b).0 (by_room h a b).1) (le-ltb (length h.history) h.limit full)

  one_more : (h : OwnerState) (n : ℕ) → with_turns way (with_turns way h 1) n ≡ with_turns way h (suc n)
  one_more h n = ap (λ calls. record h { history = calls }) (append_assoc h.history (one h.session ∷ []) (replicate n (one h.session)))

  longer : (h : OwnerState) (n : ℕ) → length (with_turns way h n).history ≡ length h.history + n
  longer h n =
      let both = length-append h.history (replicate n (one h.session)) in
      let count = length-replicate n (one h.session) in
      omega (arith, both, count)

  -- so many that are done
  pub all_done : (n : ℕ) (h : OwnerState) (w : Whole) → length h.history + n ≤ h.limit → whole_by way n (whole_at h) ≡ Ok (tt, w)
      → (owner_by way n h ≡ Ok (tt, with_turns way h n)) × (whole_at (with_turns way h n) ≡ w)
  all_done zero h w room is =
      let same : whole_at h ≡ w = ap (λ p. p.1) (same_answer _ _ is) in (
        λ i. Ok (tt, record h { history = sym (append-nil h.history) i }),
        ap (replay next h.opening) (append-nil h.history) ∙ same,
      )
  all_done (suc n) h w room is = by (λ g few k. all_done n g w few k) (call (whole_at h).machine (machine_call a)) refl is
    where
      Rest : Type 0
      Rest = (g : OwnerState) → length g.history + n ≤ g.limit → whole_by way n (whole_at g) ≡ Ok (tt, w)
          → (owner_by way n g ≡ Ok (tt, with_turns way g n)) × (whole_at (with_turns way g n) ≡ w)

      by : Rest → (o : Outcome (List Entity) (Machine World)) → call (whole_at h).machine (machine_call a) ≡ o
          → and_then (unless_refused (stepped (whole_at h) a o).0 (stepped (whole_at h) a o).1) (λ u. whole_by way n) ≡ Ok (tt, w)
          → (owner_by way (suc n) h ≡ Ok (tt, with_turns way h (suc n))) × (whole_at (with_turns way h (suc n)) ≡ w)
      by go (Err r) at k = absurd (not_ok (tt, w) r k)
      by go (Ok p) at k =
          let g = with_turns way h 1 in
          let long = longer h 1 in
          let first = one_done h p.0 p.1 (omega (arith, room)) at in
          let v = accepted_whole (whole_at h) a p.1 in
          let left : whole_by way n v ≡ Ok (tt, w) = ap (λ o. and_then o (λ u. whole_by way n)) (sym (unrefused way p.0 v)) ∙ k in
          let rest = go g (omega (arith, room, long)) (ap (whole_by way n) first.1 ∙ left) in (
            ap (λ o. and_then o (λ u. owner_by way n)) first.0 ∙ rest.0 ∙ ap (λ x. Ok (tt, x)) (one_more h n),
            ap whole_at (sym (one_more h n)) ∙ rest.1,
          )

  -- the first that is refused
  pub first_refused : (n : ℕ) (h : OwnerState) (r : Refusal) → length h.history + n ≤ h.limit → whole_by way n (whole_at h) ≡ Err r → owner_by way n h ≡ Err r
  first_refused zero h r room is = absurd (not_ok (tt, whole_at h) r (sym is))
  first_refused (suc n) h r room is = by (λ g few k. first_refused n g r few k) (call (whole_at h).machine (machine_call a)) refl is
    where
      Rest : Type 0
      Rest = (g : OwnerState) → length g.history + n ≤ g.limit → whole_by way n (whole_at g) ≡ Err r → owner_by way n g ≡ Err r

      by : Rest → (o : Outcome (List Entity) (Machine World)) → call (whole_at h).machine (machine_call a) ≡ o
          → and_then (unless_refused (stepped (whole_at h) a o).0 (stepped (whole_at h) a o).1) (λ u. whole_by way n) ≡ Err r
          → owner_by way (suc n) h ≡ Err r
      by go (Err q) at k = ap (λ o. and_then o (λ u. owner_by way n)) (one_refused h q (omega (arith, room)) at) ∙ same_refusal q r k
      by go (Ok p) at k =
          let g = with_turns way h 1 in
          let long = longer h 1 in
          let first = one_done h p.0 p.1 (omega (arith, room)) at in
          let v = accepted_whole (whole_at h) a p.1 in
          let left : whole_by way n v ≡ Err r = ap (λ o. and_then o (λ u. whole_by way n)) (sym (unrefused way p.0 v)) ∙ k in
          ap (λ o. and_then o (λ u. owner_by way n)) first.0 ∙ go g (omega (arith, room, long)) (ap (whole_by way n) first.1 ∙ left)

  -- where the calls that may be are fewer
  pub refused_before_full : (n room : ℕ) (h : OwnerState) (r : Refusal) → room < n → room + length h.history ≡ h.limit
      → whole_by way room (whole_at h) ≡ Err r → owner_by way n h ≡ Err r
  refused_before_full n room h r less left is =
      refused_sooner (done a) room n h r (omega (arith, less)) (first_refused room h r (omega (arith, left)) is)

  pub full : (n room : ℕ) (h : OwnerState) (w : Whole) → room < n → room + length h.history ≡ h.limit
      → whole_by way room (whole_at h) ≡ Ok (tt, w) → owner_by way n h ≡ refuse (HistoryFull h.limit)
  full n room h w less left is =
      let j = n - room - 1 in
      let parts : n ≡ room + suc j = omega (arith, less) in
      let g = with_turns way h room in
      let long = longer h room in
      ap (λ k. owner_by way k h) parts
      ∙ several_added (done a) room (suc j) h
      ∙ ap (λ o. and_then o (λ u. owner_by way (suc j))) (all_done room h w (omega (arith, left)) is).0
      ∙ ap (λ o. and_then o (λ u. owner_by way j)) (one_full g (omega (arith, left, long)))

-- ---- the owner of an editor

module _ (way : Way) (h : OwnerState) (e : EditorState) (is : whole_of e ≡ whole_at h) where
  -- there is room for fewer calls than are wanted
  module _ (room : ℕ) (left : room + length h.history ≡ h.limit) where
    pub editor_full : (w : Whole) × (whole_by way room (whole_of e) ≡ Ok (tt, w)) → (n : ℕ) → h.limit < length h.history + n → owner_by way n h ≡ refuse (HistoryFull h.limit)
    editor_full done n less = full way n room h done.0 (omega (arith, left, less)) left (ap (whole_by way room) (sym is) ∙ done.1)

    pub editor_refused : (r : Refusal) → whole_by way room (whole_of e) ≡ Err r → (n : ℕ) → h.limit < length h.history + n → owner_by way n h ≡ Err r
    editor_refused r refused n less = refused_before_full way n room h r (omega (arith, left, less)) left (ap (whole_by way room) (sym is) ∙ refused)

  -- there is room for all
  module _ (n : ℕ) (room : length h.history + n ≤ h.limit) where
    pub editor_done : (v : EditorState) → whole_by way n (whole_of e) ≡ Ok (tt, whole_of v)
        → (owner_by way n h ≡ Ok (tt, with_turns way h n)) × (whole_at (with_turns way h n) ≡ whole_of v)
    editor_done v done = all_done way n h (whole_of v) room (ap (whole_by way n) (sym is) ∙ done)

    pub editor_stopped : (r : Refusal) → whole_by way n (whole_of e) ≡ Err r → owner_by way n h ≡ Err r
    editor_stopped r refused = first_refused way n h r room (ap (whole_by way n) (sym is) ∙ refused)
