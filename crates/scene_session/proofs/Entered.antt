-- What becomes of a state by a call that is entered, or stopped.
use Rattle.std.proofs.Common.{◌≡◌, ◌<◌, ◌≤◌, ◌+◌, ℕ, List, [], ◌∷◌, ◌++◌, length, Option, Some, None, IfSome, IfNone, Result, Ok, Err, IfOk, IfErr, if◌then◌else◌, sym, ap, subst, ◌∙◌, arith, length-append}
use Rattle.std.proofs.lemmas.Bool.{lt-ltb, le-ltb}
use Rattle.scene_kinds.specs.declared.fault.Fault.TheVariants.{HistoryFull, NoMemory}
use Rattle.scene_kinds.specs.Answers.{refusal_of}
use Rattle.scene_undo.specs.Editor.{EditorState}
use Rattle.scene_session.specs.declared.call.Call.{Call}
use Rattle.scene_session.specs.declared.call.Reply.{Reply}
use Rattle.scene_session.specs.declared.call.Stopped.{Stopped}
use Rattle.scene_session.specs.declared.entry.Entry.{Entry}
use Rattle.scene_session.specs.declared.state.Beginning.{Beginning}
use Rattle.scene_session.specs.Calls.{asked, told}
use Rattle.scene_session.specs.Whole.{whole_of, next, step, IsTrue}
use Rattle.scene_session.specs.State.{HasEntered, IsReplayOf, answer_after, replayed, stopping_at}
use Rattle.scene_session.proofs.Replays.{replay_entered, true_entered}

-- a full history stops a call, whatever memory there is
pub stopping_full : (limit count : ℕ) → limit ≤ count → stopping_at limit count ≡ refusal_of (HistoryFull limit)
stopping_full limit count full = ap (λ b. if b then refusal_of NoMemory else refusal_of (HistoryFull limit)) (le-ltb count limit full)

-- a history that isn't full stops a call by want of memory alone
pub stopping_short : (limit count : ℕ) → count < limit → stopping_at limit count ≡ refusal_of NoMemory
stopping_short limit count few = ap (λ b. if b then refusal_of NoMemory else refusal_of (HistoryFull limit)) (lt-ltb count limit few)

-- an entry with the answer of the editor's call keeps the state
entered : (o : Beginning) (h : List Entry) (e : Entry) (old new : EditorState) → IsReplayOf o h old → length h < o.limit
    → step (whole_of old) (asked e.call) ≡ (whole_of new, told e.reply) → IsReplayOf o (h ++ e ∷ []) new
entered o h e old new k few is =
    let there : step (replayed o h) (asked e.call) ≡ (whole_of new, told e.reply) = ap (λ w. step w (asked e.call)) (sym k.0) ∙ is in
    let long : length (h ++ e ∷ []) ≡ length h + 1 = length-append h (e ∷ []) in (
      sym (replay_entered next (whole_of o.editor) h e ∙ ap (λ p. p.0) there),
      (true_entered next IsTrue (whole_of o.editor) h e k.1.0 (sym (ap (λ p. p.1) there)), omega (arith, few, long)),
    )

-- ---- a call whose replies were made, or none

-- Once there is room, a call is done on the editor, and entered where its replies were made
module _ (o : Beginning) (h roomy after : List Entry) (same : roomy ≡ h) (old new : EditorState) (session : ℕ) (c : Call) (replies : Option (Reply × Reply))
    (before : IsReplayOf o h old) (few : length h < o.limit)
    (done : IfSome replies (λ p. step (whole_of old) (asked c) ≡ (whole_of new, told p.0))) (none : IfNone replies (new ≡ old)) where
  abbrev Has : Result Reply Stopped → Type 0
  Has result = IfOk result (λ r. HasEntered roomy session c r after)

  abbrev Gives : Result Reply Stopped → Type 0
  Gives result = IfOk result (λ r. (p : Reply × Reply) × (replies ≡ Some p) × (told r ≡ told p.0))

  abbrev Stops : Result Reply Stopped → Type 0
  Stops result = IfErr result (λ x. (replies ≡ None) × (after ≡ roomy) × (x.call ≡ c) × (x.refusal ≡ refusal_of NoMemory))

  done_of : (p : Reply × Reply) → replies ≡ Some p → step (whole_of old) (asked c) ≡ (whole_of new, told p.0)
  done_of p is = subst (λ q. IfSome q (λ (p : Reply × Reply). step (whole_of old) (asked c) ≡ (whole_of new, told p.0))) is done

  none_of : replies ≡ None → new ≡ old
  none_of is = subst (λ q. IfNone q (new ≡ old)) is none

  -- the state is kept
  pub kept_after : (result : Result Reply Stopped) → Has result → Gives result → Stops result → IsReplayOf o after new
  kept_after (Ok r) t u s = subst (λ l. IsReplayOf o l new) (sym (t.1 ∙ ap (λ l. l ++ t.0 ∷ []) same)) (entered o h t.0 old new before few
      (ap (step (whole_of old)) t.3 ∙ done_of u.0 u.1 ∙ (λ i. (whole_of new, sym (t.4 ∙ u.2) i))))
  kept_after (Err x) t u s = subst (λ l. IsReplayOf o l new) (sym (s.1 ∙ same)) (subst (IsReplayOf o h) (sym (none_of s.0)) before)

  -- the reply is the machine's
  pub reply_after : (result : Result Reply Stopped) → Gives result → IfOk result (λ r. told r ≡ answer_after o h (asked c))
  reply_after (Ok r) u = u.2 ∙ sym (ap (λ (p : _ × _). p.1) (done_of u.0 u.1)) ∙ ap (λ w. (step w (asked c)).1) before.0
  reply_after (Err x) u = tt
