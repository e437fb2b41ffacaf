-- A phase on a stage whose systems write in their turn.
use Rattle.std.proofs.Common.{◌≡◌, ◌<◌, ◌≤◌, ℕ, ◌+◌, List, [], ◌∷◌, ◌++◌, append_assoc, append-nil, length, get_or, drop, map, refl, ap, sym, ◌∙◌, Ok}
use Rattle.std.specs.Prelude.{Err}
use Rattle.std.proofs.lemmas.List.{drop_all, map-append}
use Rattle.std.proofs.lemmas.Simd.{map-map}
use Rattle.scene_kinds.specs.declared.entity.Entity.{Entity}
use Rattle.scene_kinds.specs.declared.refusal.Refusal.{Refusal}
use Rattle.scene_kinds.specs.Answers.{Outcome}
use Rattle.scene_model.specs.World.{World}
use Rattle.scene_model.specs.Commands.{and_then}
use Rattle.scene_model.specs.Perform.{perform}
use Rattle.scene_machine.specs.Frame.{queue, queues_from, whole_or_refused}
use Rattle.scene_queue.specs.Queue.{QueueState}
use Rattle.scene_queue.specs.Frames.{frame_of, on_world}
use Rattle.scene_queue.specs.Requests.{requests}
use Rattle.scene_world.specs.Stage.{Staged, Note, act}
use Rattle.scene_systems.specs.declared.system_rule.SystemRule.{SystemRule}
use Rattle.scene_schedule.specs.Systems.{SystemOutput, changes_of, phase, queued_by, system, systems_from, unless_over, writes_of}
use Rattle.scene_schedule.specs.TableWrites.{OverflowsAs, WroteOn}
use Rattle.scene_schedule.proofs.Stages.{systems_world}
use Rattle.scene_schedule.proofs.Walks.{at_place}

-- what a system makes that wrote on a stage
abbrev pub made_on : World → World → SystemRule → SystemOutput
made_on before after rule = record { rows = changes_of before rule; commands = queued_by after rule }

-- outputs before those of an outcome
abbrev pub behind : {S : Type 0} → List SystemOutput → Outcome (List SystemOutput) S → Outcome (List SystemOutput) S
behind outs o = and_then o (λ more u. Ok (outs ++ more, u))

behind_both : {S : Type 0} (outs more : List SystemOutput) (o : Outcome (List SystemOutput) S) → behind outs (behind more o) ≡ behind (outs ++ more) o
behind_both outs more (Ok p) = ap (λ xs. Ok (xs, p.1)) (sym (append_assoc outs more p.0))
behind_both outs more (Err r) = refl

behind_none : {S : Type 0} (o : Outcome (List SystemOutput) S) → o ≡ behind [] o
behind_none (Ok p) = refl
behind_none (Err r) = refl

-- one more queue
pub queued_more : (queues items : List QueueState) (queue : QueueState) (outs : List SystemOutput) (out : SystemOutput) → items ≡ queues ++ queue ∷ [] → queue.commands ≡ out.commands
    → map (λ (q : QueueState). q.commands) queues ≡ map (λ (out : SystemOutput). out.commands) outs
    → map (λ (q : QueueState). q.commands) items ≡ map (λ (out : SystemOutput). out.commands) (outs ++ out ∷ [])
queued_more queues items queue outs out pushed same before =
    ap (map (λ (q : QueueState). q.commands)) pushed ∙ map-append (λ (q : QueueState). q.commands) queues (queue ∷ [])
    ∙ (λ i. before i ++ same i ∷ []) ∙ sym (map-append (λ (out : SystemOutput). out.commands) outs (out ∷ []))

module _ {N : Type 0} (note : Note N) where
  -- a system that wrote
  system_wrote : (at : ℕ) (rule : SystemRule) (s t : Staged N) → WroteOn note (changes_of s.world rule) s t
      → system (act note) (λ t. t.world) at rule s ≡ Ok (made_on s.world t.world rule, t)
  system_wrote at rule s t h =
      let rest = λ (es : List Entity) (t : Staged N). Ok (made_on s.world t.world rule, t) in
      ap (λ o. unless_over at o (and_then (queue (act note) at (writes_of (changes_of s.world rule)) s) rest)) h.fit
      ∙ ap (λ e. and_then (whole_or_refused at e) rest) h.wrote

  -- and one that overflows
  system_over : (at : ℕ) (rule : SystemRule) (s : Staged N) (r : Refusal) → OverflowsAs (changes_of s.world rule) at r
      → system (act note) (λ t. t.world) at rule s ≡ Err r
  system_over at rule s r h =
      let rest = λ (es : List Entity) (t : Staged N). Ok (made_on s.world t.world rule, t) in
      ap (λ o. unless_over at o (and_then (queue (act note) at (writes_of (changes_of s.world rule)) s) rest)) h.first
      ∙ ap (λ e. Err e) (sym h.refused)

  module _ (rules : List SystemRule) (start : Staged N) where
    -- the systems before a place made these outputs
    abbrev pub HaveRun : ℕ → List SystemOutput → Staged N → Type 0
    HaveRun at outs s =
        behind outs (systems_from (act note) (λ t. t.world) at (drop at rules) s) ≡ systems_from (act note) (λ t. t.world) 0 rules start

    pub none_ran : HaveRun 0 [] start
    none_ran = sym (behind_none (systems_from (act note) (λ t. t.world) 0 rules start))

    left_at : (at : ℕ) (rule : SystemRule) (s : Staged N) (outs : List SystemOutput) → at < length rules → rule ≡ get_or rules at rule → HaveRun at outs s
        → behind outs (systems_from (act note) (λ t. t.world) at (rule ∷ drop (at + 1) rules) s) ≡ systems_from (act note) (λ t. t.world) 0 rules start
    left_at at rule s outs lt is h = ap (λ rs. behind outs (systems_from (act note) (λ t. t.world) at rs s)) (sym (at_place rules at rule lt is)) ∙ h

    -- one more system
    pub one_ran : (at : ℕ) (rule : SystemRule) (s t : Staged N) (outs : List SystemOutput) → at < length rules → rule ≡ get_or rules at rule → HaveRun at outs s
        → WroteOn note (changes_of s.world rule) s t → HaveRun (at + 1) (outs ++ made_on s.world t.world rule ∷ []) t
    one_ran at rule s t outs lt is h wrote =
        let out = made_on s.world t.world rule in
        let rest = λ (out : SystemOutput) (t : Staged N). behind (out ∷ []) (systems_from (act note) (λ t. t.world) (at + 1) (drop (at + 1) rules) t) in
        sym (behind_both outs (out ∷ []) (rest_of t)) ∙ sym (ap (λ o. behind outs (and_then o rest)) (system_wrote at rule s t wrote)) ∙ left_at at rule s outs lt is h
      where
        rest_of : Staged N → Outcome (List SystemOutput) (Staged N)
        rest_of t = systems_from (act note) (λ t. t.world) (at + 1) (drop (at + 1) rules) t

    -- one more system, which overflows
    pub one_over : (at : ℕ) (rule : SystemRule) (s : Staged N) (outs : List SystemOutput) (r : Refusal) → at < length rules → rule ≡ get_or rules at rule → HaveRun at outs s
        → OverflowsAs (changes_of s.world rule) at r → phase perform (λ v. v) rules start.world ≡ Err r
    one_over at rule s outs r lt is h over =
        let rest = λ (out : SystemOutput) (t : Staged N). behind (out ∷ []) (systems_from (act note) (λ t. t.world) (at + 1) (drop (at + 1) rules) t) in
        let refused : systems_from (act note) (λ t. t.world) 0 rules start ≡ Err r =
        sym (left_at at rule s outs lt is h) ∙ ap (λ o. behind outs (and_then o rest)) (system_over at rule s r over) in
        ap (λ o. and_then o (λ outs u. queues_from perform 0 (map (λ (out : SystemOutput). requests out.commands) outs) u)) (sym (systems_world note 0 rules start) ∙ ap on_world refused)

    module _ (at : ℕ) (s : Staged N) (outs : List SystemOutput) (queues : List QueueState) (end : length rules ≤ at) (ran : HaveRun at outs s)
        (same : map (λ (q : QueueState). q.commands) queues ≡ map (λ (out : SystemOutput). out.commands) outs) where
      all_ran : systems_from (act note) (λ t. t.world) 0 rules start ≡ Ok (outs, s)
      all_ran =
          sym ran ∙ ap (λ rs. behind outs (systems_from (act note) (λ t. t.world) at rs s)) (drop_all at rules end)
          ∙ ap (λ xs. Ok (xs, s)) (append-nil outs)

      -- what the queues ask
      asked : map (λ (out : SystemOutput). requests out.commands) outs ≡ frame_of queues
      asked =
          sym (map-map requests (λ (out : SystemOutput). out.commands) outs) ∙ ap (map requests) (sym same)
          ∙ map-map requests (λ (q : QueueState). q.commands) queues

      -- then the phase is what the queues do
      pub phase_in_turn : (t : Staged N) (es : List Entity) → queues_from (act note) 0 (frame_of queues) s ≡ Ok (es, t) → phase (act note) (λ t. t.world) rules start ≡ Ok (es, t)
      phase_in_turn t es h =
          ap (λ o. and_then o (λ outs u. queues_from (act note) 0 (map (λ (out : SystemOutput). requests out.commands) outs) u)) all_ran
          ∙ ap (λ rss. queues_from (act note) 0 rss s) asked ∙ h

      pub refused_in_turn : (r : Refusal) → queues_from perform 0 (frame_of queues) s.world ≡ Err r → phase perform (λ v. v) rules start.world ≡ Err r
      refused_in_turn r h =
          ap (λ o. and_then o (λ outs u. queues_from perform 0 (map (λ (out : SystemOutput). requests out.commands) outs) u))
          (sym (systems_world note 0 rules start) ∙ ap on_world all_ran)
          ∙ ap (λ rss. queues_from perform 0 rss s.world) asked ∙ h
