-- The record of an accepted frame leads from the world before it to the world after it, and has few deltas.
use Rattle.std.proofs.Common.{◌≡◌, ℕ, ◌+◌, ◌≤◌, true, List, [], ◌∷◌, ◌++◌, length, sum, refl, subst, sym, ◌∙◌, arith, Option, Some, None, Ok}
use Rattle.std.specs.Prelude.{Err, ⊤, sum_by}
use Rattle.std.proofs.lemmas.List.{length-append}
use Rattle.std.proofs.lemmas.List.Sums.{sum_by-append, sum_by-cons}
use Rattle.scene_kinds.specs.declared.entity.Entity.{Entity}
use Rattle.scene_kinds.specs.declared.refusal.Refusal.{Refusal}
use Rattle.scene_kinds.specs.Answers.{Outcome}
use Rattle.scene_model.specs.World.{World}
use Rattle.scene_model.specs.Commands.{and_then, raise_tick}
use Rattle.scene_machine.specs.Frame.{all_or_refused, queue, queues_from}
use Rattle.scene_machine.specs.Laws.{AreInRange, QueuesAreInRange}
use Rattle.scene_model.specs.Perform.{Command, perform, are_in_range}
use Rattle.scene_machine.specs.Queue.{Request, reached, play}
use Rattle.scene_world.specs.Stage.{Staged, noting, act}
use Rattle.scene_model.specs.Valid.{IsValid}
use Rattle.scene_model.proofs.CommandKeeps.{commands_keep}
use Rattle.scene_model.proofs.MoveKeeps.{raise_keeps}
use Rattle.scene_model.proofs.CanParts.{set_tick as tick_decides}
use Rattle.scene_model.proofs.PartCommands.{raise_sets_tick}
use Rattle.scene_model.proofs.Outcomes.{not_ok, same_world}
use Rattle.scene_deltas.specs.declared.delta.Delta.{Delta}
use Rattle.scene_deltas.specs.Deltas.{fwd}
use Rattle.scene_journal.specs.Records.{raised}
use Rattle.scene_deltas.specs.Notes.{deltas_of}
use Rattle.scene_deltas.specs.CommandLaws.{LeadTo, along}
use Rattle.scene_journal.specs.Frames.{after_queue, after_queues, FramesAreRecords, FramesMakeFewDeltas}
use Rattle.scene_deltas.proofs.Commands.{commands_lead}
use Rattle.scene_deltas.proofs.Counts.{commands_make_few}
use Rattle.scene_journal.proofs.Folds.{BothDo, both_play}
use Rattle.scene_journal.proofs.Stages.{PassesOver, act_is}

deltas_pass_over : PassesOver deltas_of
deltas_pass_over w e = refl

along_passes_over : PassesOver along
along_passes_over w e = refl

-- ---- lists of deltas that lead on

-- deltas, and then others
pub lead_on : (ds es : List Delta) (u w v : World) → LeadTo ds u w → LeadTo es w v → LeadTo (ds ++ es) u v
lead_on [] es u w v first rest = subst (λ x. LeadTo es x v) first.made rest
lead_on (d ∷ ds) es u w v first rest =
    let more = lead_on ds es (fwd d u) w v (record { fit = first.fit.1; made = first.made }) rest in
    record { fit = (first.fit.0, more.fit); made = more.made }

-- ---- a stage that records

-- the notes of a stage lead from a world to the stage's world, which is valid
record Records (base : World) (s : Staged Delta) : Type 0 where
  valid : IsValid s.world
  lead : LeadTo s.notes base s.world

-- a world, and a stage that records on that world
abbrev InStep : World → ℕ → World → Staged Delta → Type 0
InStep base k w s = (s.world ≡ w) × Records base s

module _ (base : World) where
  records_more : (k : ℕ) (w : World) (s : Staged Delta) (c : Command) → are_in_range c ≡ true → InStep base k w s → BothDo (InStep base (k + 1)) (perform w c) (act deltas_of s c)
  records_more k w s c held now =
      subst (BothDo (InStep base (k + 1)) (perform w c)) (sym (act_is deltas_of deltas_pass_over s c))
      (subst (λ x. BothDo (InStep base (k + 1)) (perform x c) (noting s (deltas_of s.world c) (perform s.world c))) now.0 (from (perform s.world c) refl))
    where
      from : (o : Outcome (Option Entity) World) → perform s.world c ≡ o → BothDo (InStep base (k + 1)) o (noting s (deltas_of s.world c) o)
      from (Ok p) is = (
        refl,
        (
          refl,
          record {
            valid = commands_keep s.world p.1 c p.0 now.1.valid held is;
            lead = lead_on s.notes (deltas_of s.world c) base s.world p.1 now.1.lead (commands_lead s.world p.1 c p.0 now.1.valid held is);
          },
        ),
      )
      from (Err r) is = tt

  queue_records : (rs : List Request) (w : World) (s : Staged Delta) → AreInRange rs → InStep base 0 w s → InStep base 0 (play perform rs w).progress.state (after_queue deltas_of rs s)
  queue_records rs w s held now =
      both_play perform (act deltas_of) (InStep base) (λ c. are_in_range c ≡ true) AreInRange (λ r rs h. h) (λ k n w s h. h) records_more 0 0 0 rs (reached w []) (reached s []) held refl now

  -- the world of a queue that isn't refused
  whole_queue : (q : ℕ) (w v : World) (es fs : List Entity) (r : Option (ℕ × Refusal)) → all_or_refused q w es r ≡ Ok (fs, v) → w ≡ v
  whole_queue q w v es fs None is = (same_world es fs w v is).1
  whole_queue q w v es fs (Some r) is = absurd (not_ok (fs, v) _ is)

  -- the first of two calls that were accepted, and the second
  both_accepted : {A B : Type 0} (o : Outcome A World) (rest : A → World → Outcome B World) (b : B) (v : World) → and_then o rest ≡ Ok (b, v)
      → (a : A) × ((u : World) × ((o ≡ Ok (a, u)) × (rest a u ≡ Ok (b, v))))
  both_accepted (Ok p) rest b v h = (p.0, (p.1, (refl, h)))
  both_accepted (Err r) rest b v h = absurd (not_ok (b, v) r h)

  queues_record : (q : ℕ) (rss : List (List Request)) (w v : World) (es : List Entity) (s : Staged Delta) → QueuesAreInRange rss → InStep base 0 w s → queues_from perform q rss w ≡ Ok (es, v)
      → InStep base 0 v (after_queues deltas_of rss s)
  queues_record q [] w v es s held now is = (now.0 ∙ (same_world [] es w v is).1, now.1)
  queues_record q (rs ∷ rss) w v es s held now is =
      let parts = both_accepted (queue perform q rs w) (λ es v. and_then (queues_from perform (q + 1) rss v) (λ fs u. Ok (es ++ fs, u))) es v is in
      let e = play perform rs w in
      let u = parts.1.0 in
      let after : e.progress.state ≡ u = whole_queue q e.progress.state u e.progress.spawned parts.0 e.refused parts.1.1.0 in
      let others = both_accepted (queues_from perform (q + 1) rss u) (λ fs u. Ok (parts.0 ++ fs, u)) es v parts.1.1.1 in
      let last = others.1.0 in
      let end : last ≡ v = (same_world (parts.0 ++ others.0) es last v others.1.1.1).1 in
      let done = queue_records rs w s held.0 now in
      let rest = queues_record (q + 1) rss u last others.0 (after_queue deltas_of rs s) held.1 (done.0 ∙ after, done.1) others.1.1.0 in
      (rest.0 ∙ end, rest.1)

pub frames_are_records : FramesAreRecords
frames_are_records queues w v es valid held is =
    let parts = both_accepted w (raise_tick w) (λ a u. queues_from perform 0 queues u) es v is in
    let u = parts.1.0 in
    let raises = raise_sets_tick w u valid parts.1.1.0 in
    let tick = ((tick_decides w (w.tick + 1)).0 raises.0).low in
    let start : InStep (raised w) 0 u (record { world = raised w; notes = [] }) = (
      sym raises.1,
      record { valid = subst IsValid raises.1 (raise_keeps w u valid parts.1.1.0); lead = record { fit = tt; made = refl } },
    ) in
    let end = queues_record (raised w) 0 queues u v es (record { world = raised w; notes = [] }) held start parts.1.1.1 in
    (record { tick = refl; low = omega (arith, tick); deltas = end.1.lead.fit }, sym end.0 ∙ end.1.lead.made)

-- ---- how many deltas

-- a stage that notes deltas, and one that notes how many descendants went along, after as many commands at most
record Counts (k : ℕ) (s : Staged Delta) (t : Staged ℕ) : Type 0 where
  same : t.world ≡ s.world
  few : length s.notes ≤ k + sum t.notes

counts_more : (k n : ℕ) (s : Staged Delta) (t : Staged ℕ) → Counts k s t → Counts (k + n) s t
counts_more k n s t now = let few = now.few in record { same = now.same; few = omega (arith, few) }

noted_counts : (k : ℕ) (s : Staged Delta) (t : Staged ℕ) (ds : List Delta) (ns : List ℕ) (o : Outcome (Option Entity) World) → Counts k s t → length ds ≤ 1 + sum ns
    → BothDo (Counts (k + 1)) (noting s ds o) (noting t ns o)
noted_counts k s t ds ns (Ok p) now fewer =
    let few = now.few in
    let all = length-append s.notes ds in
    let total : sum (t.notes ++ ns) ≡ sum t.notes + sum ns = sum_by-append (λ n. n) t.notes ns in
    (refl, record { same = refl; few = omega (arith, few, all, total, fewer) })
noted_counts k s t ds ns (Err r) now fewer = tt

command_counts : (k : ℕ) (s : Staged Delta) (t : Staged ℕ) (c : Command) → ⊤ → Counts k s t → BothDo (Counts (k + 1)) (act deltas_of s c) (act along t c)
command_counts k s t c held now =
    subst (λ o. BothDo (Counts (k + 1)) o (act along t c)) (sym (act_is deltas_of deltas_pass_over s c))
    (subst (BothDo (Counts (k + 1)) (noting s (deltas_of s.world c) (perform s.world c))) (sym (act_is along along_passes_over t c))
    (subst (λ w. BothDo (Counts (k + 1)) (noting s (deltas_of s.world c) (perform s.world c)) (noting t (along w c) (perform w c))) (sym now.same)
    (noted_counts k s t (deltas_of s.world c) (along s.world c) (perform s.world c) now (commands_make_few s.world c))))

queues_count : (k : ℕ) (rss : List (List Request)) (s : Staged Delta) (t : Staged ℕ) → Counts k s t → Counts (k + sum_by length rss) (after_queues deltas_of rss s) (after_queues along rss t)
queues_count k [] s t now = counts_more k 0 s t now
queues_count k (rs ∷ rss) s t now =
    let first = both_play (act deltas_of) (act along) Counts (λ c. ⊤) (λ rs. ⊤) (λ r rs h. ((λ spawned c is. tt), tt)) counts_more command_counts 0 0 k rs (reached s []) (reached t []) tt refl now in
    let rest = queues_count (k + length rs) rss (after_queue deltas_of rs s) (after_queue along rs t) first in
    let few = rest.few in
    let all : sum_by length (rs ∷ rss) ≡ length rs + sum_by length rss = sum_by-cons length rs rss in
    record { same = rest.same; few = omega (arith, few, all) }

pub frames_make_few : FramesMakeFewDeltas
frames_make_few queues w =
    let start : Counts 0 (record { world = raised w; notes = [] }) (record { world = raised w; notes = [] }) = record { same = refl; few = omega arith } in
    let end = queues_count 0 queues (record { world = raised w; notes = [] }) (record { world = raised w; notes = [] }) start in
    let few = end.few in
    omega (arith, few)
