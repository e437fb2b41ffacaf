-- Steps of the walks over workers' turns.
use Rattle.std.proofs.Common.{◌≡◌, ◌≢◌, ◌≤◌, ◌<◌, ◌+◌, ◌%◌, ℕ, Bool, true, false, List, [], ◌∷◌, ◌++◌, length, get_or, set, refl, ap, sym, subst, ◌∙◌, arith, Option, Some, None, Ok}
use Rattle.std.specs.Prelude.{Result, Err, IfOk, IfErr, nat_eq, slice_get}
use Rattle.std.proofs.lemmas.Bool.{eqb-true, eqb-false}
use Rattle.std.proofs.lemmas.Grind.{get_or-set_at}
use Rattle.std.proofs.lemmas.Option.{slice_get-get_or}
use Rattle.std.proofs.lemmas.List.{get_or-set_other, get_or_append_left, length-set}
use Rattle.std.proofs.Math.Seq.{get_or-append_seam}
use Rattle.scene_kinds.specs.Answers.{refusal_of}
use Rattle.scene_kinds.specs.declared.fault.Fault.TheVariants.{NoMemory}
use Rattle.scene_model.specs.World.{World}
use Rattle.scene_systems.specs.declared.system_rule.SystemRule.{SystemRule}
use Rattle.scene_schedule.specs.AtOnce.{IsMadeOf, Overflows}
use Rattle.scene_schedule.specs.Turns.{SystemMade, Passed, IsMade, IsTurn, AreTurns, AreLeft, turn_in, emptied}

-- later turns are turns
later_turns : (passed : Passed) (workers worker : ℕ) (w : World) (at : ℕ) (rules : List SystemRule) (turns : List (Option SystemMade)) → AreTurns passed workers worker w at rules turns
    → AreTurns passed workers worker w (at + 1) rules turns
later_turns passed workers worker w at rules turns h i rule less there = h i rule (omega (arith, less)) there

-- one that is taken out is none of the later ones
emptied_turns : {E : Type 0} (passed : Passed) (workers worker : ℕ) (w : World) (at : ℕ) (rules : List SystemRule) (slot : Result (List (Option SystemMade)) E)
    → IfOk slot (AreTurns passed workers worker w at rules) → IfOk (emptied at slot) (AreTurns passed workers worker w (at + 1) rules)
emptied_turns passed workers worker w at rules (Ok turns) h = λ i rule less there.
    subst (IsTurn passed workers worker w i rule) (sym (get_or-set_other turns at i None None (apart i less))) (h i rule (omega (arith, less)) there)
  where
    apart : (i : ℕ) → at + 1 ≤ i → i ≢ at
    apart i less e = omega (arith, less, e)
emptied_turns passed workers worker w at rules (Err e) h = tt

later_slot : {E : Type 0} (passed : Passed) (workers worker : ℕ) (w : World) (at : ℕ) (rules : List SystemRule) (slot : Result (List (Option SystemMade)) E)
    → IfOk slot (AreTurns passed workers worker w at rules) → IfOk slot (AreTurns passed workers worker w (at + 1) rules)
later_slot passed workers worker w at rules (Ok turns) h = later_turns passed workers worker w at rules turns h
later_slot passed workers worker w at rules (Err e) h = tt

-- ---- the turns that are left

module _ {E : Type 0} (passed : Passed) (w : World) (at : ℕ) (rules : List SystemRule) where
  -- once the turn of a place is taken out, those behind it are left
  pub left_taken : (left : List (Result (List (Option SystemMade)) E)) (k : ℕ) (slot : Result (List (Option SystemMade)) E) → k < length left → slot ≡ get_or left k slot
      → AreLeft passed w at rules left → AreLeft passed w (at + 1) rules (set left k (emptied at slot))
  left_taken left k slot below here h worker s less there =
      subst (λ n. IfOk s (AreTurns passed n worker w (at + 1) rules)) (sym (length-set left k (emptied at slot))) (from (nat_eq worker k) refl)
    where
      from : (b : Bool) → nat_eq worker k ≡ b → IfOk s (AreTurns passed (length left) worker w (at + 1) rules)
      from true e =
          let same : worker ≡ k = eqb-true worker k e in
          let is : s ≡ emptied at slot = there ∙ get_or-set_at left k worker (emptied at slot) s same below in
          subst (λ r. IfOk r (AreTurns passed (length left) worker w (at + 1) rules)) (sym is)
          (subst (λ n. IfOk (emptied at slot) (AreTurns passed (length left) n w (at + 1) rules)) (sym same)
          (emptied_turns passed (length left) k w at rules slot (h k slot below here)))
      from false e =
          let other : worker ≢ k = eqb-false worker k e in
          let is : s ≡ get_or left worker s = there ∙ get_or-set_other left k worker (emptied at slot) s other in
          let within : worker < length left = omega (arith, less, length-set left k (emptied at slot)) in
          later_slot passed (length left) worker w at rules s (h worker s within is)

  -- the turn of a place, which just one worker has
  pub turn_made : (workers worker : ℕ) (rule : SystemRule) (slot : Result (List (Option SystemMade)) E) (made : SystemMade) → IfOk slot (AreTurns passed workers worker w at rules)
      → slice_get rules at ≡ Some rule → turn_in slot at ≡ Some made → (at % workers ≡ worker) × passed worker at × IsMade w at rule made
  turn_made workers worker rule (Ok turns) made h there is = subst (IsTurn passed workers worker w at rule) is (h at rule (omega arith) there)
  turn_made workers worker rule (Err e) made h there is = absurd (cc)

-- ---- what was made

pub made_ok : (w : World) (at : ℕ) (rule : SystemRule) (made : SystemMade) → IsMade w at rule made → IfOk made (λ m. IsMadeOf w rule m.0 m.1.commands)
made_ok w at rule (Ok m) h = h
made_ok w at rule (Err r) h = tt

pub made_err : (w : World) (at : ℕ) (rule : SystemRule) (made : SystemMade) → IsMade w at rule made → IfErr made (λ r. r ≢ refusal_of NoMemory → Overflows w at rule r)
made_err w at rule (Ok m) h = tt
made_err w at rule (Err r) h = h

-- ---- turns that are pushed

pub turn_pushed : (passed : Passed) (workers worker : ℕ) (w : World) (at : ℕ) (rules : List SystemRule) (turns : List (Option SystemMade)) (rule : SystemRule) (turn : Option SystemMade)
    → length turns ≡ at → at < length rules → rule ≡ get_or rules at rule → IsTurn passed workers worker w at rule turn
    → ((i : ℕ) (r : SystemRule) → i < at → slice_get rules i ≡ Some r → IsTurn passed workers worker w i r (get_or turns i None))
    → (i : ℕ) (r : SystemRule) → i < at + 1 → slice_get rules i ≡ Some r → IsTurn passed workers worker w i r (get_or (turns ++ turn ∷ []) i None)
turn_pushed passed workers worker w at rules turns rule turn count below here is h i r less there = from (nat_eq i at) refl
  where
    from : (b : Bool) → nat_eq i at ≡ b → IsTurn passed workers worker w i r (get_or (turns ++ turn ∷ []) i None)
    from true e =
        let same : i ≡ at = eqb-true i at e in
        let found : Some rule ≡ Some r = sym (slice_get-get_or rules at rule below ∙ ap Some (sym here)) ∙ ap (slice_get rules) (sym same) ∙ there in
        let rule_is : rule ≡ r = cc in
        let last : get_or (turns ++ turn ∷ []) i None ≡ turn = ap (λ n. get_or (turns ++ turn ∷ []) n None) (same ∙ sym count) ∙ get_or-append_seam turns turn [] None in
        subst (λ n. IsTurn passed workers worker w n r (get_or (turns ++ turn ∷ []) i None)) (sym same)
        (subst (IsTurn passed workers worker w at r) (sym last) (subst (λ x. IsTurn passed workers worker w at x turn) rule_is is))
    from false e =
        let other : i ≢ at = eqb-false i at e in
        let before : i < at = omega (arith, less, other) in
        subst (IsTurn passed workers worker w i r) (sym (get_or_append_left turns (turn ∷ []) None i (omega (arith, before, count)))) (h i r before there)
