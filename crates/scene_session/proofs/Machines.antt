-- The machine and the answers of an owner over a lock are those of its state.
use Rattle.std.proofs.Common.{◌≡◌, ◌≢◌, ◌<◌, ◌≤◌, ◌+◌, ℕ, List, [], ◌∷◌, ◌++◌, map, length, Result, Ok, Err, IfOk, IfErr, MatchResult, nat_lt, if◌then◌else◌, true, false, Bool, refl, sym, ap, ◌∙◌, arith}
use Rattle.std.proofs.lemmas.Bool.{lt-ltb, ltb-true}
use Rattle.std.proofs.lemmas.List.{length-append, length-map, map-append}
use Rattle.scene_kinds.specs.declared.fault.Fault.TheVariants.{HistoryFull, NoMemory}
use Rattle.scene_kinds.specs.declared.refusal.Refusal.{Refusal}
use Rattle.scene_kinds.specs.Answers.{refusal_of}
use Rattle.scene_session.specs.declared.call.Call.{Call}
use Rattle.scene_session.specs.declared.call.Reply.{Reply}
use Rattle.scene_session.specs.declared.call.Stopped.{Stopped}
use Rattle.scene_session.specs.declared.entry.Entry.{Entry}
use Rattle.scene_session.specs.declared.state.Beginning.{Beginning}
use Rattle.scene_session.specs.Calls.{Answer, Asked, Refused, asked, told}
use Rattle.scene_session.specs.History.{replay}
use Rattle.scene_session.specs.AllPasses.{IsOnlyCall}
use Rattle.scene_session.specs.State.{HasEntered, IsLegal, answer_after, replayed, stopping_at}
use Rattle.scene_session.specs.Whole.{Whole, step, whole_of}
use Rattle.scene_session.specs.Whole as whole
use Rattle.scene_session.specs.Owner.{OwnerState, entered, owner_of, made, next, performed, whole_at}

-- the entries of a state lead where the calls lead that were made
whole_replayed : (w : Whole) (es : List Entry) → replay whole.next w es ≡ replay next w (map made es)
whole_replayed w [] = refl
whole_replayed w (e ∷ es) = whole_replayed (whole.next w e) es

pub whole_is : (o : Beginning) (h : List Entry) (n : ℕ) → replayed o h ≡ whole_at (owner_of (record { opening = o; history = h }) n)
whole_is o h n = whole_replayed (whole_of o.editor) h

-- and so does the answer to a call
answer_is : (o : Beginning) (h : List Entry) (n : ℕ) (a : Asked) → answer_after o h a ≡ (step (whole_at (owner_of (record { opening = o; history = h }) n)) a).1
answer_is o h n a = ap (λ w. (step w a).1) (whole_is o h n)

-- what is stopped for want of memory had room in the history
pub had_room : (r : Refusal) (limit n : ℕ) → r ≡ stopping_at limit n → r.fault ≡ NoMemory → n < limit
had_room r limit n is lack = by_room (nat_lt n limit) refl is
  where
    by_room : (b : Bool) → nat_lt n limit ≡ b → r ≡ (if b then refusal_of NoMemory else refusal_of (HistoryFull limit)) → n < limit
    by_room true less same = ltb-true n limit less
    by_room false more same = let full : r.fault ≡ HistoryFull limit = ap (λ (x : Refusal). x.fault) same in absurd (cc (lack, full))

-- what is performed where a test says whether there is room
abbrev performed_by : OwnerState → Asked → Bool → OwnerState × Answer
performed_by h a b = if b then (entered h a, (step (whole_at h) a).1) else (h, Refused (refusal_of (HistoryFull h.limit)))

module _ (o : Beginning) (h : List Entry) (n : ℕ) where
  abbrev H : OwnerState
  H = owner_of (record { opening = o; history = h }) n

  -- a call that was entered, was performed
  pub performed_done : (after : List Entry) (c : Call) (r : Reply) → HasEntered h n c r after → told r ≡ answer_after o h (asked c) → IsLegal o after
      → performed H (asked c) ≡ (owner_of (record { opening = o; history = after }) n, told r)
  performed_done after c r t answer legal =
      let e = t.0 in
      let long : length after ≡ length h + 1 = ap length t.1 ∙ length-append h (e ∷ []) in
      let few : length (map made h) < o.limit = omega (arith, long, legal.1, length-map h made) in
      let given : (step (whole_at H) (asked c)).1 ≡ told r = sym (answer_is o h n (asked c)) ∙ sym answer in
      let all : map made after ≡ map made h ++ made e ∷ [] = ap (map made) t.1 ∙ map-append made h (e ∷ []) in
      ap (performed_by H (asked c)) (lt-ltb (length (map made h)) o.limit few)
      ∙ (λ i. (
        record {
          opening = H.opening;
          limit = o.limit;
          session = n;
          history = map made h ++ record { session = sym t.2 i; call = sym t.3 i; answer = (given ∙ sym t.4) i } ∷ [];
        },
        given i,
      ))
      ∙ (λ i. (record { opening = H.opening; limit = o.limit; session = n; history = sym all i }, told r))

  -- a call that found memory and was stopped all the same, was refused since the history is full
  pub performed_full : (x : Refusal) (a : Asked) → x ≡ stopping_at o.limit (length h) → x ≢ refusal_of NoMemory → performed H a ≡ (H, Refused x)
  performed_full x a is other = by_room (nat_lt (length (map made h)) o.limit)
      (is ∙ ap (λ k. stopping_at o.limit k) (sym (length-map h made)))
    where
      by_room : (b : Bool) → x ≡ (if b then refusal_of NoMemory else refusal_of (HistoryFull o.limit)) → performed_by H a b ≡ (H, Refused x)
      by_room true same = absurd (other same)
      by_room false same = ap (λ r. (H, Refused r)) (sym same)

  module _ (after : List Entry) (c : Call) where
    abbrev A : OwnerState
    A = owner_of (record { opening = o; history = after }) n

    -- what an only call came to, told of the owner
    pub only_done : (r : Result Reply Stopped) → IsOnlyCall o n c h r after → IfOk r (λ reply. performed H (asked c) ≡ (A, told reply))
    only_done (Ok r) t = performed_done after c r t.0 t.1 t.2
    only_done (Err x) t = tt

    pub only_full : (r : Result Reply Stopped) → IsOnlyCall o n c h r after
        → IfErr r (λ x. x.refusal ≢ refusal_of NoMemory → performed H (asked c) ≡ (A, Refused x.refusal))
    only_full (Ok r) t = tt
    only_full (Err x) t = λ other. performed_full x.refusal (asked c) t.1.1 other
        ∙ ap (λ l. (owner_of (record { opening = o; history = l }) n, Refused x.refusal)) (sym t.0)

    pub only_stopped : (r : Result Reply Stopped) → IsOnlyCall o n c h r after
        → IfErr r (λ x. (A ≡ H) × (x.call ≡ c) × (x.refusal ≡ stopping_at H.limit (length H.history)))
    only_stopped (Ok r) t = tt
    only_stopped (Err x) t = (
      ap (λ l. owner_of (record { opening = o; history = l }) n) t.0,
      t.1.0,
      t.1.1 ∙ ap (stopping_at o.limit) (sym (length-map h made)),
    )

    pub only_room : (r : Result Reply Stopped) → IsOnlyCall o n c h r after
        → IfErr r (λ x. x.refusal.fault ≡ NoMemory → length H.history < H.limit)
    only_room (Ok r) t = tt
    only_room (Err x) t = had_room x.refusal o.limit (length (map made h)) (t.1.1 ∙ ap (stopping_at o.limit) (sym (length-map h made)))

    -- what is entered had room, and takes it
    pub only_where_room : (r : Result Reply Stopped) → IsOnlyCall o n c h r after → (room : ℕ) → room + length h ≡ o.limit → IfOk r (λ _. 1 ≤ room)
    only_where_room (Ok r) t room left = let long = ap length t.0.1 ∙ length-append h (t.0.0 ∷ []) in let few = t.2.1 in omega (arith, long, few, left)
    only_where_room (Err x) t room left = tt

    pub only_takes_room : (r : Result Reply Stopped) → IsOnlyCall o n c h r after → (room next : ℕ) → room + length h ≡ o.limit
        → MatchResult r (λ _. next + 1 ≡ room) (λ _. next ≡ room) → next + length after ≡ o.limit
    only_takes_room (Ok r) t room next left less = let long = ap length t.0.1 ∙ length-append h (t.0.0 ∷ []) in omega (arith, long, left, less)
    only_takes_room (Err x) t room next left same = let long = ap length t.0 in omega (arith, long, left, same)
