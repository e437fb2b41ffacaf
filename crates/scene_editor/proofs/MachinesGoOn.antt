-- Calls of a machine keep its worlds in order, and lead to a machine that comes after.
use Rattle.std.proofs.Common.{◌≡◌, ◌≤◌, ◌+◌, ℕ, zero, suc, Bool, true, false, nat_eq, List, [], ◌∷◌, take, refl, subst, arith, Ok, if◌then◌else◌}
use Rattle.std.specs.Prelude.{Err}
use Rattle.scene_kinds.specs.declared.entity.Entity.{Entity}
use Rattle.scene_kinds.specs.declared.fault.Fault.TheVariants.{TickFull}
use Rattle.scene_kinds.specs.Answers.{Outcome, refuse}
use Rattle.scene_model.specs.World.{World}
use Rattle.scene_machine.specs.Machine.{Machine, accepted, submitted, undone_to, redone_to}
use Rattle.scene_machine.specs.Frame.{Call, Submit, Advance, Undo, Redo, frame, framed, spawning_none, replied, step, after_calls}
use Rattle.scene_editor.specs.GoesOn.{GoesOn, HasSoundRows}
use Rattle.scene_editor.specs.Order.{GoesBack, GoesForth, IsInOrder, ComesAfter, IsPlain}
use Rattle.scene_editor.specs.Laws.{MachinesGoOn}
use Rattle.scene_editor.proofs.CellsFrom.{goes_on_itself, goes_on_then}
use Rattle.scene_editor.proofs.FramesGoOn.{frames_go_on, framed_goes_on}

-- ---- machines after one another

itself_after : (m : Machine World) → ComesAfter m m
itself_after m = record { rewinds = omega arith; goes_on = λ e. goes_on_itself m.now }

-- the undos of the machine in between, where they didn't grow in all
same_low : (a b c : ℕ) → a ≤ b → b ≤ c → a ≡ c → a ≡ b
same_low a b c l m e = omega (arith, l, m, e)

same_high : (a b c : ℕ) → a ≤ b → b ≤ c → a ≡ c → b ≡ c
same_high a b c l m e = omega (arith, l, m, e)

no_less : (a b c : ℕ) → a ≤ b → b ≤ c → a ≤ c
no_less a b c l m = omega (arith, l, m)

after_then : (a b c : Machine World) → ComesAfter a b → ComesAfter b c → ComesAfter a c
after_then a b c g h = record {
  rewinds = no_less a.rewinds b.rewinds c.rewinds g.rewinds h.rewinds;
  goes_on = λ e. goes_on_then a.now b.now c.now (g.goes_on (same_low a.rewinds b.rewinds c.rewinds g.rewinds h.rewinds e))
      (h.goes_on (same_high a.rewinds b.rewinds c.rewinds g.rewinds h.rewinds e));
}

-- ---- one call

-- a machine after a call of another one
record IsNext (m n : Machine World) : Type 0 where
  order : IsInOrder n
  after : ComesAfter m n

stays : (m : Machine World) → IsInOrder m → IsNext m m
stays m order = record { order = order; after = itself_after m }

-- the newest of the worlds before
newest_go_back : (depth : ℕ) (w : World) (vs : List World) → GoesBack w vs → GoesBack w (take depth vs)
newest_go_back zero w vs back = tt
newest_go_back (suc n) w [] back = tt
newest_go_back (suc n) w (v ∷ vs) back = (back.0, newest_go_back n v vs back.1)

-- an accepted frame
framed_next : (m : Machine World) (v : World) → IsInOrder m → HasSoundRows v × GoesOn m.now v → IsNext m (accepted m v)
framed_next m v order new = record {
  order = record { sound = new.0; past = newest_go_back m.depth v (m.now ∷ m.past) ((order.sound, new.1), order.past); future = tt };
  after = record { rewinds = omega arith; goes_on = λ e. new.1 };
}

submitted_next : (m : Machine World) (o : Outcome (List Entity) World) → IsInOrder m
    → ((es : List Entity) (v : World) → o ≡ Ok (es, v) → HasSoundRows v × GoesOn m.now v) → IsNext m (replied m (submitted m o)).0
submitted_next m (Ok p) order new = framed_next m p.1 order (new p.0 p.1 refl)
submitted_next m (Err r) order new = stays m order

no_more : (n : ℕ) → n ≡ n + 1 → ⊥
no_more n e = omega (arith, e)

undone_next : (m : Machine World) (ws : List World) → m.past ≡ ws → IsInOrder m → IsNext m (replied m (spawning_none (undone_to m ws))).0
undone_next m [] is order = stays m order
undone_next m (w ∷ ws) is order = from (nat_eq m.rewinds 18446744073709551615)
  where
    back : GoesBack m.now (w ∷ ws)
    back = subst (GoesBack m.now) is order.past

    from : (b : Bool)
        → IsNext m (replied m (spawning_none (if b then refuse TickFull else Ok (tt, record m { past = ws; now = w; future = m.now ∷ m.future; rewinds = m.rewinds + 1 })))).0
    from true = stays m order
    from false = record {
      order = record { sound = back.0.0; past = back.1; future = ((order.sound, back.0.1), order.future) };
      after = record { rewinds = omega arith; goes_on = λ e. absurd (no_more m.rewinds e) };
    }

redone_next : (m : Machine World) (ws : List World) → m.future ≡ ws → IsInOrder m → IsNext m (replied m (spawning_none (redone_to m ws))).0
redone_next m [] is order = stays m order
redone_next m (w ∷ ws) is order =
    let forth : GoesForth m.now (w ∷ ws) = subst (GoesForth m.now) is order.future in
    record {
      order = record { sound = forth.0.0; past = newest_go_back m.depth w (m.now ∷ m.past) ((order.sound, forth.0.1), order.past); future = forth.1 };
      after = record { rewinds = omega arith; goes_on = λ e. forth.0.1 };
    }

call_next : (m : Machine World) (c : Call) → IsPlain c → IsInOrder m → IsNext m (step m c).0
call_next m (Submit queues) plain order = submitted_next m (frame queues m.now) order (λ es v is. frames_go_on queues m.now v es order.sound is)
call_next m (Advance does) plain order = submitted_next m (framed does m.now) order (λ es v is. framed_goes_on does m.now v es plain order.sound is)
call_next m Undo plain order = undone_next m m.past refl order
call_next m Redo plain order = redone_next m m.future refl order

pub machines_go_on : MachinesGoOn
machines_go_on [] m plain order = (order, itself_after m)
machines_go_on (c ∷ cs) m plain order =
    let n = call_next m c plain.0 order in
    let rest = machines_go_on cs (step m c).0 plain.1 n.order in
    (rest.0, after_then m (step m c).0 (after_calls (step m c).0 cs) n.after rest.1)
