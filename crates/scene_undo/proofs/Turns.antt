-- Records that are gone through and back, and the first fault that one of them has.
use Rattle.std.proofs.Common.{◌≡◌, ◌+◌, ◌<◌, ◌≤◌, ℕ, List, [], ◌∷◌, ◌++◌, length, take, drop, get_or, reverse, slice_get, Some, Result, Ok, OnOk, refl, ap, sym, subst, ◌∙◌, arith}
use Rattle.std.specs.Prelude.{Err}
use Rattle.std.proofs.lemmas.List.{length-take-le, reverse-append, reverse-reverse}
use Rattle.std.proofs.lemmas.Option.{get_or_from_slice_get, slice_get_within}
use Rattle.scene_kinds.specs.declared.refusal.Refusal.{Refusal}
use Rattle.scene_kinds.specs.declared.fault.Fault.TheVariants.{BadRecord, NoMemory}
use Rattle.scene_kinds.specs.Answers.{refusal_of}
use Rattle.scene_model.specs.World.{World}
use Rattle.scene_model.specs.Valid.{IsValid}
use Rattle.scene_world.specs.Room.{Room, Holds, IsWider}
use Rattle.scene_journal.specs.Faults.{Names}
use Rattle.scene_journal.specs.Records.{Record}
use Rattle.scene_deltas.proofs.Lists.{after_appended, cut_here, may_appended, may_more, may_parts}
use Rattle.scene_journal.proofs.Records.{records_come_back}
use Rattle.scene_journal.proofs.SomeDeltas.{faults_are_faults}
use Rattle.scene_undo.specs.declared.direction.Direction.{Direction}
use Rattle.scene_undo.specs.declared.direction.Direction.TheVariants.{Undo, Redo}
use Rattle.scene_undo.specs.Direction.{AllFit, Can, CanAll, Fits, IsFault, after, in_turn, opposite, step}
use Rattle.scene_undo.specs.Parts.{IsFirstFault, NamesFrame}
use Rattle.scene_undo.proofs.Kept.{one_redo_wider, one_undo_wider, redone_can, redone_held, undone_can, undone_held}

-- what holds of two clauses of a call that was accepted
pub both_ok : {A E : Type 0} {P Q R : Type 0} (r : Result A E) → (P → Q → R) → OnOk r P → OnOk r Q → OnOk r R
both_ok (Ok a) f p q = f p q
both_ok (Err e) f p q = tt

-- ---- one record

can_fits : (way : Direction) (room : Room) (r : Record) (w : World) → Can way room r w → Fits way r w
can_fits Undo room r w can = can.fits
can_fits Redo room r w can = can.fits

can_wider : (way : Direction) (room wider : Room) → IsWider room wider → (r : Record) (w : World) → Can way room r w → Can way wider r w
can_wider Undo = one_undo_wider
can_wider Redo = one_redo_wider

fault_unfits : (way : Direction) (r : Record) (w : World) (k : ℕ) → IsFault way r w k → Fits way r w → ⊥
fault_unfits Undo r w k = (faults_are_faults r w k).1
fault_unfits Redo r w k = (faults_are_faults r w k).0

-- the world that it leads to, and the way back
record Turns (way : Direction) (room : Room) (r : Record) (w : World) : Type 0 where
  valid : IsValid (step way r w)
  held : Holds room (step way r w)
  can : Can (opposite way) room r (step way r w)
  back : step (opposite way) r (step way r w) ≡ w

turns : (way : Direction) (room : Room) (r : Record) (w : World) → IsValid w → Holds room w → Can way room r w → Turns way room r w
turns Undo room r w valid held can = record {
  valid = (records_come_back r).1.keeps w valid can.fits;
  held = undone_held room r w valid held can;
  can = undone_can room r w valid held can;
  back = (records_come_back r).1.comes_back w valid can.fits;
}
turns Redo room r w valid held can = record {
  valid = (records_come_back r).0.keeps w valid can.fits;
  held = redone_held room r w valid held can;
  can = redone_can room r w valid held can;
  back = (records_come_back r).0.comes_back w valid can.fits;
}

-- ---- records one after another

pub all_fit : (way : Direction) (room : Room) (rs : List Record) (w : World) → CanAll way room rs w → AllFit way rs w
all_fit way room = may_more (Can way room) (step way) (Fits way) (can_fits way room)

pub all_wider : (way : Direction) (room wider : Room) → IsWider room wider → (rs : List Record) (w : World) → CanAll way room rs w
    → CanAll way wider rs w
all_wider way room wider wide = may_more (Can way room) (step way) (Can way wider) (can_wider way room wider wide)

-- the way home of a list is that of its reverse
pub home_turn : (way : Direction) (fs : List Record) → in_turn (opposite way) fs ≡ reverse (in_turn way fs)
home_turn Undo fs = sym (reverse-reverse fs)
home_turn Redo fs = refl

turned : (r : Record) (rs : List Record) → reverse (r ∷ rs) ≡ reverse rs ++ r ∷ []
turned r rs = reverse-append (r ∷ []) rs

pub record IsHome (way : Direction) (room : Room) (rs : List Record) (w : World) : Type 0 where
  pub valid : IsValid (after way rs w)
  pub held : Holds room (after way rs w)
  pub can : CanAll (opposite way) room (reverse rs) (after way rs w)
  pub back : after (opposite way) (reverse rs) (after way rs w) ≡ w

pub home : (way : Direction) (room : Room) (rs : List Record) (w : World) → IsValid w → Holds room w → CanAll way room rs w → IsHome way room rs w
home way room [] w valid held can = record { valid = valid; held = held; can = tt; back = λ i. w }
home way room (r ∷ rs) w valid held can =
    let turn = turns way room r w valid held can.0 in
    let rest = home way room rs (step way r w) turn.valid turn.held can.1 in
    let there = after way rs (step way r w) in
    let last : Can (opposite way) room r (after (opposite way) (reverse rs) there) = subst (Can (opposite way) room r) (sym rest.back) turn.can in
    record {
      valid = rest.valid;
      held = rest.held;
      can = subst (λ xs. CanAll (opposite way) room xs there) (sym (turned r rs))
          (may_appended (Can (opposite way) room) (step (opposite way)) (reverse rs) (r ∷ []) there rest.can (last, tt));
      back = ap (λ xs. after (opposite way) xs there) (turned r rs)
          ∙ after_appended (step (opposite way)) (reverse rs) (r ∷ []) there
          ∙ ap (step (opposite way) r) rest.back
          ∙ turn.back;
    }

-- ---- the first fault

pub no_fault : (way : Direction) (rs : List Record) (w : World) (n k : ℕ) → IsFirstFault way rs w n k → AllFit way rs w → ⊥
no_fault way rs w n k f all =
    fault_unfits way f.unfit (after way f.before w) k f.fault
    (may_parts (Fits way) (step way) f.before (f.unfit ∷ f.behind) w (subst (λ xs. AllFit way xs w) f.cut all)).1.0

-- the record whose turn it is, by its place
pub here : (rs : List Record) (n : ℕ) (r : Record) → slice_get rs n ≡ Some r → r ≡ get_or rs n r
here rs n r is = sym (get_or_from_slice_get rs n r r is)

module _ (way : Direction) (room : Room) (rs : List Record) (w v : World) (n : ℕ) (r : Record) (is : slice_get rs n ≡ Some r)
    (made : v ≡ after way (take n rs) w) (can : CanAll way room (take n rs) w) where
  low : n < length rs
  low = slice_get_within rs n r is

  pub fault_here : (refusal other : Refusal) → Names (IsFault way r v) refusal
      → ((k : ℕ) → refusal ≡ refusal_of (BadRecord 0 k) → other ≡ refusal_of (BadRecord n k))
      → (refusal ≡ refusal_of NoMemory → other ≡ refusal_of NoMemory)
      → NamesFrame (IsFirstFault way rs w) other
  fault_here refusal other named same memory differs =
      let found = named (λ none. differs (memory none)) in
      let short = low in
      let all : n ≤ length rs = omega (arith, short) in (
        n,
        found.0,
        (
          same found.0 found.1.0,
          record {
            before = take n rs;
            unfit = r;
            behind = drop (n + 1) rs;
            cut = cut_here (step way) rs w v n r low (here rs n r is) made;
            number = sym (length-take-le n rs all);
            fit = all_fit way room (take n rs) w can;
            fault = subst (λ x. IsFault way r x found.0) made found.1.1;
          },
        ),
      )
