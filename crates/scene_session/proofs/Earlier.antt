-- Calls before an owner knew of any.
use Rattle.std.proofs.Common.{◌≡◌, ℕ, zero, suc, ◌+◌, List, [], ◌∷◌, Bool, true, false, if◌then◌else◌, length, replicate, Ok, refl, sym, ap, ◌∙◌}
use Rattle.std.specs.Prelude.{nat_eq}
use Rattle.std.proofs.lemmas.List.{length-replicate}
use Rattle.scene_kinds.specs.declared.entity.Entity.{Entity}
use Rattle.scene_kinds.specs.declared.fault.Fault.TheVariants.{TickFull}
use Rattle.scene_kinds.specs.Answers.{Outcome, refuse}
use Rattle.scene_kinds.specs.Schema.{Kinds}
use Rattle.scene_model.specs.Commands.{and_then, highest_tick}
use Rattle.scene_model.specs.Perform.{perform}
use Rattle.scene_model.specs.World.{World}
use Rattle.scene_machine.specs.Machine.{submitted}
use Rattle.scene_schedule.specs.Schedule.{same_kinds}
use Rattle.scene_schedule.specs.Systems.{advance_of, if_for, phases_from}
use Rattle.scene_undo.specs.Editor.{EditorState, with_rewinds}
use Rattle.scene_session.specs.Earlier.{call_before, other_kinds, refused_call}
use Rattle.scene_session.specs.History.{replay}
use Rattle.scene_session.specs.Owner.{MadeCall, OwnerState, next, whole_at}
use Rattle.scene_session.specs.Resumed.{IsResumed, whole_rewound}
use Rattle.scene_session.specs.Whole.{Whole, stepped, whole_of}

are_others : (kinds : Kinds) → same_kinds (other_kinds kinds) kinds ≡ false
are_others [] = refl
are_others (k ∷ ks) = refl

-- the world with its tick raised, by whether it is the highest
abbrev raised : World → World
raised w = record w { tick = w.tick + 1 }

abbrev raised_by : World → Bool → Outcome (Unit {0}) World
raised_by w full = if full then refuse TickFull else Ok (tt, raised w)

-- a schedule for other kinds
abbrev does : Whole → World → Outcome (List Entity) World
does w = advance_of perform (λ v. v) (record { schema = other_kinds w.machine.now.schema; phases = [] })

-- one leaves the machine
leaves : (w : Whole) → next w (call_before w) ≡ w
leaves w = by (nat_eq w.machine.now.tick highest_tick)
  where
    by : (full : Bool) → (stepped w (refused_call w) (submitted w.machine (and_then (raised_by w.machine.now full) (λ a v. does w v)))).0 ≡ w
    by true = refl
    by false =
        ap (λ b. (stepped w (refused_call w) (submitted w.machine (if_for b (phases_from perform (λ v. v) 0 [] (raised w.machine.now))))).0)
        (are_others w.machine.now.schema)

-- and so do several
pub all_leave : (n : ℕ) (w : Whole) → replay next w (replicate n (call_before w)) ≡ w
all_leave zero w = refl
all_leave (suc n) w = ap (λ v. replay next v (replicate n (call_before w))) (leaves w) ∙ all_leave n w

-- an owner of a machine behind so many of them
pub resumed : (rewinds n limit session : ℕ) (h : OwnerState) (w : Whole) (calls : List MadeCall) → w ≡ whole_rewound rewinds (whole_at h)
    → calls ≡ replicate n (call_before w) → limit ≡ h.limit → session ≡ h.session
    → IsResumed rewinds n h (record { opening = w; limit = limit; history = calls; session = session })
resumed rewinds n limit session h w calls whole made most turn = record {
  whole = ap (replay next w) made ∙ all_leave n w ∙ whole;
  limit = most;
  count = ap length made ∙ length-replicate n (call_before w);
  session = turn;
}
