-- Several undos and redos, one after another.
use Rattle.std.proofs.Common.{◌≡◌, ℕ, zero, suc, ◌≢◌, ◌+◌, ◌-◌, ◌<◌, ◌≤◌, ◌^◌, true, false, List, [], ◌∷◌, ◌++◌, length, take, drop, get_or, reverse, refl, ap, sym, subst, ◌∙◌, arith, Ok, nat_eq, if◌then◌else◌}
use Rattle.std.specs.Prelude.{Err}
use Rattle.std.specs.Global.{Vec}
use Rattle.std.proofs.lemmas.Bool.{eq-eqb}
use Rattle.std.proofs.lemmas.List.{append_assoc, drop_more, reverse-append, take_all}
use Rattle.std.proofs.Math.ListN.{drop_of_length-le}
use Rattle.scene_kinds.specs.declared.refusal.Refusal.{Refusal}
use Rattle.scene_kinds.specs.Answers.{Outcome, refuse}
use Rattle.scene_kinds.specs.declared.fault.Fault.TheVariants.{NothingToRedo, NothingToUndo, TickFull}
use Rattle.scene_model.specs.Commands.{and_then}
use Rattle.scene_model.specs.World.{World}
use Rattle.scene_machine.specs.Machine.{Machine, redo, undo}
use Rattle.scene_journal.specs.Records.{Record, redone, undone}
use Rattle.scene_deltas.specs.declared.delta.Delta.{Delta}
use Rattle.scene_undo.specs.declared.direction.Direction.{Direction}
use Rattle.scene_undo.specs.declared.direction.Direction.TheVariants.{Undo, Redo}
use Rattle.scene_undo.specs.BackAndForth.{IsWithinDepth}
use Rattle.scene_undo.specs.Copies.{AreOfEach, AreOfFirst, copied}
use Rattle.scene_undo.specs.Editor.{EditorState, machine_of, worlds_along}
use Rattle.scene_undo.specs.Several.{redo_by, several, undo_by}
use Rattle.scene_undo.specs.Stacks.{IsRedone, IsUndone}
use Rattle.scene_undo.proofs.Machines.{told_apart}

-- records lead to as many worlds
pub as_many_worlds : (step : Record → World → World) (rs : List Record) (w : World) → length (worlds_along step rs w) ≡ length rs
as_many_worlds step [] w = refl
as_many_worlds step (r ∷ rs) w = ap suc (as_many_worlds step rs (step r w))

-- ---- which of them are done, and the first refusal

module _ {W : Type 0} where
  -- as long as there are frames, and the undos can be counted
  pub undos_done : (n : ℕ) (past : List W) (now : W) (future : List W) (rewinds depth : ℕ) → n ≤ length past → rewinds + n < 2 ^ 64
      → (m : Machine W) × (undo_by n (record { past = past; now = now; future = future; rewinds = rewinds; depth = depth }) ≡ Ok (tt, m))
  undos_done zero past now future rewinds depth enough few = (record { past = past; now = now; future = future; rewinds = rewinds; depth = depth }, refl)
  undos_done (suc n) [] now future rewinds depth enough few = absurd (omega (arith, enough))
  undos_done (suc n) (w ∷ ws) now future rewinds depth enough few =
      let rest = undos_done n ws w (now ∷ future) (rewinds + 1) depth (omega (arith, enough)) (omega (arith, few)) in
      let told : nat_eq rewinds 18446744073709551615 ≡ false = told_apart rewinds 18446744073709551615 (λ is. absurd (omega (arith, is, few))) in (
        rest.0,
        ap (λ b. and_then (if b then refuse TickFull else Ok (tt, record { past = ws; now = w; future = now ∷ future; rewinds = rewinds + 1; depth = depth })) (λ a. undo_by n)) told ∙ rest.1,
      )

  -- where there are too few frames
  pub undos_missing : (n : ℕ) (past : List W) (now : W) (future : List W) (rewinds depth : ℕ) → length past < n → rewinds + length past < 2 ^ 64
      → undo_by n (record { past = past; now = now; future = future; rewinds = rewinds; depth = depth }) ≡ refuse NothingToUndo
  undos_missing zero past now future rewinds depth missing few = absurd (omega (arith, missing))
  undos_missing (suc n) [] now future rewinds depth missing few = refl
  undos_missing (suc n) (w ∷ ws) now future rewinds depth missing few =
      let told : nat_eq rewinds 18446744073709551615 ≡ false = told_apart rewinds 18446744073709551615 (λ is. absurd (omega (arith, is, few))) in
      ap (λ b. and_then (if b then refuse TickFull else Ok (tt, record { past = ws; now = w; future = now ∷ future; rewinds = rewinds + 1; depth = depth })) (λ a. undo_by n)) told
      ∙ undos_missing n ws w (now ∷ future) (rewinds + 1) depth (omega (arith, missing)) (omega (arith, few))

  -- where they can't be counted
  pub undos_uncounted : (n : ℕ) (past : List W) (now : W) (future : List W) (rewinds depth : ℕ) → rewinds < 2 ^ 64 → 2 ^ 64 ≤ rewinds + n → 2 ^ 64 ≤ rewinds + length past
      → undo_by n (record { past = past; now = now; future = future; rewinds = rewinds; depth = depth }) ≡ refuse TickFull
  undos_uncounted zero past now future rewinds depth low many more = absurd (omega (arith, low, many))
  undos_uncounted (suc n) [] now future rewinds depth low many more = absurd (omega (arith, low, more))
  undos_uncounted (suc n) (w ∷ ws) now future rewinds depth low many more = elim (nat_eq rewinds 18446744073709551615) as (λ b. nat_eq rewinds 18446744073709551615 ≡ b
      → and_then (if b then refuse TickFull else Ok (tt {0}, record { past = ws; now = w; future = now ∷ future; rewinds = rewinds + 1; depth = depth })) (λ a. undo_by n) ≡ refuse TickFull) [
        | true ↦ λ is. refl
        | false ↦ λ is.
            undos_uncounted n ws w (now ∷ future) (rewinds + 1) depth
            (lower (λ same. not_same rewinds 18446744073709551615 is same)) (omega (arith, many)) (omega (arith, more))
      ] refl
    where
      not_same : (a b : ℕ) → nat_eq a b ≡ false → a ≢ b
      not_same a b is same = absurd (let e : true ≡ false = sym (eq-eqb a b same) ∙ is in cc)

      lower : rewinds ≢ 18446744073709551615 → rewinds + 1 < 2 ^ 64
      lower differ = omega (arith, low, differ)

  pub redos_done : (n : ℕ) (past : List W) (now : W) (future : List W) (rewinds depth : ℕ) → n ≤ length future
      → (m : Machine W) × (redo_by n (record { past = past; now = now; future = future; rewinds = rewinds; depth = depth }) ≡ Ok (tt, m))
  redos_done zero past now future rewinds depth enough = (record { past = past; now = now; future = future; rewinds = rewinds; depth = depth }, refl)
  redos_done (suc n) past now [] rewinds depth enough = absurd (omega (arith, enough))
  redos_done (suc n) past now (w ∷ ws) rewinds depth enough = redos_done n (take depth (now ∷ past)) w ws rewinds depth (omega (arith, enough))

  pub redos_missing : (n : ℕ) (past : List W) (now : W) (future : List W) (rewinds depth : ℕ) → length future < n
      → redo_by n (record { past = past; now = now; future = future; rewinds = rewinds; depth = depth }) ≡ refuse NothingToRedo
  redos_missing zero past now future rewinds depth missing = absurd (omega (arith, missing))
  redos_missing (suc n) past now [] rewinds depth missing = refl
  redos_missing (suc n) past now (w ∷ ws) rewinds depth missing = redos_missing n (take depth (now ∷ past)) w ws rewinds depth (omega (arith, missing))

-- ---- the same of an editor

module _ (n : ℕ) (s : EditorState) where
  past_worlds : length (worlds_along undone s.past s.world) ≡ length s.past
  past_worlds = as_many_worlds undone s.past s.world

  future_worlds : length (worlds_along redone s.future s.world) ≡ length s.future
  future_worlds = as_many_worlds redone s.future s.world

  pub can_undo : n ≤ length s.past → s.rewinds + n < 2 ^ 64 → (m : Machine World) × (undo_by n (machine_of s) ≡ Ok (tt, m))
  can_undo enough few =
      undos_done n (worlds_along undone s.past s.world) s.world (worlds_along redone s.future s.world) s.rewinds s.depth (omega (arith, enough, past_worlds)) few

  pub undo_missing : length s.past < n → s.rewinds + length s.past < 2 ^ 64 → undo_by n (machine_of s) ≡ refuse NothingToUndo
  undo_missing missing few =
      undos_missing n (worlds_along undone s.past s.world) s.world (worlds_along redone s.future s.world) s.rewinds s.depth (omega (arith, missing, past_worlds))
      (omega (arith, few, past_worlds))

  pub undo_uncounted : s.rewinds < 2 ^ 64 → 2 ^ 64 ≤ s.rewinds + n → 2 ^ 64 ≤ s.rewinds + length s.past → undo_by n (machine_of s) ≡ refuse TickFull
  undo_uncounted low many more =
      undos_uncounted n (worlds_along undone s.past s.world) s.world (worlds_along redone s.future s.world) s.rewinds s.depth low many
      (omega (arith, more, past_worlds))

  pub can_redo : n ≤ length s.future → (m : Machine World) × (redo_by n (machine_of s) ≡ Ok (tt, m))
  can_redo enough =
      redos_done n (worlds_along undone s.past s.world) s.world (worlds_along redone s.future s.world) s.rewinds s.depth (omega (arith, enough, future_worlds))

  pub redo_missing : length s.future < n → redo_by n (machine_of s) ≡ refuse NothingToRedo
  redo_missing missing =
      redos_missing n (worlds_along undone s.past s.world) s.world (worlds_along redone s.future s.world) s.rewinds s.depth (omega (arith, missing, future_worlds))

-- ---- copies

-- those of the record that comes next
pub one_copy_more : (way : Direction) (all : List (Vec Delta)) (copies : Vec Delta) (rs : List Record) (r : Record) → AreOfEach way all rs
    → length all < length rs → r ≡ get_or rs (length all) r → copies.items ≡ copied way r → AreOfEach way (all ++ copies ∷ []) rs
one_copy_more way [] copies [] r are low is of = absurd (omega (arith, low))
one_copy_more way [] copies (s ∷ rs) r are low is of = (of ∙ ap (copied way) is, tt)
one_copy_more way (c ∷ cs) copies [] r are low is of = absurd are
one_copy_more way (c ∷ cs) copies (s ∷ rs) r are low is of = (are.0, one_copy_more way cs copies rs r are.1 (omega (arith, low)) is of)

-- those of the first record
pub of_first : (way : Direction) (copies : Vec Delta) (others : List (Vec Delta)) (rs : List Record) → AreOfEach way (copies ∷ others) rs → AreOfFirst way copies.items rs
of_first way copies others [] are = are
of_first way copies others (r ∷ rs) are = are.0

-- ---- lists

module _ {A : Type 0} where
  pub turned_over : (x : A) (xs ys : List A) → reverse (x ∷ xs) ++ ys ≡ reverse xs ++ x ∷ ys
  turned_over x xs ys = ap (λ zs. zs ++ ys) (reverse-append (x ∷ []) xs) ∙ append_assoc (reverse xs) (x ∷ []) ys

  -- what is cut behind others may be cut before
  pub cut_behind : (n : ℕ) (xs ys : List A) → take n (xs ++ take n ys) ≡ take n (xs ++ ys)
  cut_behind n xs ys = cut_by n n xs ys (omega arith)
    where
      cut_by : (n m : ℕ) (xs ys : List A) → n ≤ m → take n (xs ++ take m ys) ≡ take n (xs ++ ys)
      cut_by zero m xs ys low = refl
      cut_by (suc n) m (x ∷ xs) ys low = ap (λ zs. x ∷ zs) (cut_by n m xs ys (omega (arith, low)))
      cut_by (suc n) zero [] ys low = absurd (omega (arith, low))
      cut_by (suc n) (suc m) [] [] low = refl
      cut_by (suc n) (suc m) [] (y ∷ ys) low = ap (λ zs. y ∷ zs) (cut_by n m [] ys (omega (arith, low)))

-- ---- undos that are under way

-- so many undos of an editor have come to another, and as many are left as there are copies
pub record AreLeftBack (n : ℕ) (start : EditorState) (all : List (Vec Delta)) (now : EditorState) : Type 0 where
  pub copies : AreOfEach Undo all now.past
  pub counted : now.rewinds + length all < 2 ^ 64
  pub machine : undo_by (length all) (machine_of now) ≡ undo_by n (machine_of start)
  pub past : drop (length all) now.past ≡ drop n start.past
  pub future : reverse (take (length all) now.past) ++ now.future ≡ reverse (take n start.past) ++ start.future

pub one_back : (n : ℕ) (start : EditorState) (copies : Vec Delta) (others : List (Vec Delta)) (now after : EditorState)
    → AreLeftBack n start (copies ∷ others) now → undo (machine_of now) ≡ Ok (tt, machine_of after)
    → IsUndone now.past now.future after.past after.future → after.rewinds ≡ now.rewinds + 1 → AreLeftBack n start others after
one_back n start copies others now after left done moved count =
    let r = moved.0 in
    let few = left.counted in
    let k = length others in record {
      copies = (subst (AreOfEach Undo (copies ∷ others)) moved.1.0 left.copies).1;
      counted = omega (arith, few, count);
      machine = sym (ap (λ o. and_then o (λ a. undo_by k)) done) ∙ left.machine;
      past = sym (ap (drop (suc k)) moved.1.0) ∙ left.past;
      future = ap (λ fs. reverse (take k after.past) ++ fs) moved.1.1 ∙ sym (turned_over r (take k after.past) now.future)
          ∙ sym (ap (λ rs. reverse (take (suc k) rs) ++ now.future) moved.1.0) ∙ left.future;
    }

-- by the place of the copies
pub next_back : (n : ℕ) (start : EditorState) (all : List (Vec Delta)) (k : ℕ) (copies : Vec Delta) (now after : EditorState)
    → (k < length all) × (copies ≡ get_or all k copies) → AreLeftBack n start (drop k all) now → undo (machine_of now) ≡ Ok (tt, machine_of after)
    → IsUndone now.past now.future after.past after.future → after.rewinds ≡ now.rewinds + 1 → AreLeftBack n start (drop (k + 1) all) after
next_back n start all k copies now after here left =
    let cut : drop k all ≡ copies ∷ drop (k + 1) all = drop_more all k copies here.0 ∙ ap (λ c. c ∷ drop (k + 1) all) (sym here.1) in
    one_back n start copies (drop (k + 1) all) now after (subst (λ cs. AreLeftBack n start cs now) cut left)

-- those that can be undone
pub can_back : (n : ℕ) (start : EditorState) (all : List (Vec Delta)) (k : ℕ) (copies : Vec Delta) (now : EditorState)
    → (k < length all) × (copies ≡ get_or all k copies) → AreLeftBack n start (drop k all) now → AreOfFirst Undo copies.items now.past × (now.rewinds < 18446744073709551615)
can_back n start all k copies now here left =
    let cut : drop k all ≡ copies ∷ drop (k + 1) all = drop_more all k copies here.0 ∙ ap (λ c. c ∷ drop (k + 1) all) (sym here.1) in
    let few : now.rewinds + length (copies ∷ drop (k + 1) all) < 2 ^ 64 = subst (λ cs. now.rewinds + length cs < 2 ^ 64) cut left.counted in
    (of_first Undo copies (drop (k + 1) all) now.past (subst (λ cs. AreOfEach Undo cs now.past) cut left.copies), omega (arith, few))

-- none are left
pub all_back : (n k : ℕ) (start : EditorState) (all : List (Vec Delta)) (now : EditorState) → length all ≤ k → AreLeftBack n start (drop k all) now
    → (undo_by n (machine_of start) ≡ Ok (tt, machine_of now)) × (now.past ≡ drop n start.past) × (now.future ≡ reverse (take n start.past) ++ start.future)
all_back n k start all now end left =
    let last = subst (λ cs. AreLeftBack n start cs now) (drop_of_length-le all end) left in
    (sym last.machine, last.past, last.future)

-- ---- redos that are under way

pub record AreLeftOn (n : ℕ) (start : EditorState) (all : List (Vec Delta)) (now : EditorState) : Type 0 where
  pub copies : AreOfEach Redo all now.future
  pub machine : redo_by (length all) (machine_of now) ≡ redo_by n (machine_of start)
  pub future : drop (length all) now.future ≡ drop n start.future
  pub past : take start.depth (reverse (take (length all) now.future) ++ now.past) ≡ take start.depth (reverse (take n start.future) ++ start.past)
  pub depth : now.depth ≡ start.depth

pub one_on : (n : ℕ) (start : EditorState) (copies : Vec Delta) (others : List (Vec Delta)) (now after : EditorState)
    → AreLeftOn n start (copies ∷ others) now → redo (machine_of now) ≡ Ok (tt, machine_of after)
    → IsRedone now.depth now.past now.future after.past after.future → after.depth ≡ now.depth → AreLeftOn n start others after
one_on n start copies others now after left done moved same =
    let r = moved.0 in
    let d = start.depth in
    let k = length others in
    let fs = take k after.future in record {
      copies = (subst (AreOfEach Redo (copies ∷ others)) moved.1.0 left.copies).1;
      machine = sym (ap (λ o. and_then o (λ a. redo_by k)) done) ∙ left.machine;
      future = sym (ap (drop (suc k)) moved.1.0) ∙ left.future;
      past = ap (λ rs. take d (reverse fs ++ rs)) (moved.1.1 ∙ ap (λ e. take e (r ∷ now.past)) left.depth)
          ∙ cut_behind d (reverse fs) (r ∷ now.past)
          ∙ ap (take d) (sym (turned_over r fs now.past))
          ∙ sym (ap (λ rs. take d (reverse (take (suc k) rs) ++ now.past)) moved.1.0) ∙ left.past;
      depth = same ∙ left.depth;
    }

pub next_on : (n : ℕ) (start : EditorState) (all : List (Vec Delta)) (k : ℕ) (copies : Vec Delta) (now after : EditorState)
    → (k < length all) × (copies ≡ get_or all k copies) → AreLeftOn n start (drop k all) now → redo (machine_of now) ≡ Ok (tt, machine_of after)
    → IsRedone now.depth now.past now.future after.past after.future → after.depth ≡ now.depth → AreLeftOn n start (drop (k + 1) all) after
next_on n start all k copies now after here left =
    let cut : drop k all ≡ copies ∷ drop (k + 1) all = drop_more all k copies here.0 ∙ ap (λ c. c ∷ drop (k + 1) all) (sym here.1) in
    one_on n start copies (drop (k + 1) all) now after (subst (λ cs. AreLeftOn n start cs now) cut left)

pub can_on : (n : ℕ) (start : EditorState) (all : List (Vec Delta)) (k : ℕ) (copies : Vec Delta) (now : EditorState)
    → (k < length all) × (copies ≡ get_or all k copies) → AreLeftOn n start (drop k all) now → AreOfFirst Redo copies.items now.future
can_on n start all k copies now here left =
    let cut : drop k all ≡ copies ∷ drop (k + 1) all = drop_more all k copies here.0 ∙ ap (λ c. c ∷ drop (k + 1) all) (sym here.1) in
    of_first Redo copies (drop (k + 1) all) now.future (subst (λ cs. AreOfEach Redo cs now.future) cut left.copies)

pub all_on : (n k : ℕ) (start : EditorState) (all : List (Vec Delta)) (now : EditorState) → length all ≤ k → AreLeftOn n start (drop k all) now
    → IsWithinDepth (machine_of now)
    → (redo_by n (machine_of start) ≡ Ok (tt, machine_of now)) × (now.future ≡ drop n start.future)
    × (now.past ≡ take start.depth (reverse (take n start.future) ++ start.past))
all_on n k start all now end left within =
    let last = subst (λ cs. AreLeftOn n start cs now) (drop_of_length-le all end) left in
    let few : length now.past ≤ start.depth = let as_many = as_many_worlds undone now.past now.world in omega (arith, as_many, within, last.depth) in
    (sym last.machine, last.future, sym (take_all start.depth now.past few) ∙ last.past)

-- ---- several calls in two parts

module _ {W : Type 0} (call : W → Outcome (Unit {0}) W) where
  pub several_added : (k j : ℕ) (w : W) → several call (k + j) w ≡ and_then (several call k w) (λ a. several call j)
  several_added zero j w = ap (λ n. several call n w) (let none : 0 + j ≡ j = omega arith in none)
  several_added (suc k) j w = ap (λ n. several call n w) (let more : suc k + j ≡ suc (k + j) = omega arith in more) ∙ by (several_added k j) (call w)
    where
      by : ((v : W) → several call (k + j) v ≡ and_then (several call k v) (λ a. several call j)) → (o : Outcome (Unit {0}) W)
          → and_then o (λ a. several call (k + j)) ≡ and_then (and_then o (λ a. several call k)) (λ a. several call j)
      by rest (Ok p) = rest p.1
      by rest (Err r) = refl

  -- what is refused is refused too where more are wanted
  pub refused_sooner : (k n : ℕ) (w : W) (r : Refusal) → k ≤ n → several call k w ≡ Err r → several call n w ≡ Err r
  refused_sooner k n w r low is =
      let more : n ≡ k + (n - k) = omega (arith, low) in
      ap (λ m. several call m w) more ∙ several_added k (n - k) w ∙ ap (λ o. and_then o (λ a. several call (n - k))) is
