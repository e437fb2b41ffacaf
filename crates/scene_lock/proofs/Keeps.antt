-- Each kind of step keeps the rule of the lock.
use Rattle.std.proofs.Common.{◌≡◌, ◌≢◌, ◌<◌, ℕ, eqb, Bool, true, false, List, [], ◌∷◌, ◌++◌, length, get_or, set, Option, Some, refl, sym, ap, ◌∙◌, subst, ⊎_elim, inl, inr, arith, length-set, get_or-set_same, unwrap_or}
use Rattle.std.proofs.lemmas.Bool.{false≢true}
use Rattle.std.specs.List.{All}
use Rattle.std.proofs.lemmas.List.Elements.{All-nil}
use mathlib.Core.Option.{some, none}
use mathlib.Core.List.{append-nil}
use lib.ListN.{get_elem?}
use lib.Seq.{set-get_or}
use prog.Atomic.{either}
use Rattle.atomic_table.specs.Table.{State, Me, Act, Valid, step, keeps, takes, gives, stepped, carried_after, put_back, rest, opening, Allows, Splits, Joins}
use Rattle.atomic_table.proofs.Lists.{at_set, exchanged}
use Rattle.scene_lock.specs.declared.knowledge.Kind.{Kind}
use Rattle.scene_lock.specs.declared.knowledge.Knowledge.{Knowledge}
use Rattle.scene_lock.specs.declared.knowledge.Member.{Member}
use Rattle.scene_lock.specs.declared.knowledge.Step.{Step}
use Rattle.scene_lock.specs.declared.knowledge.Terms.{Terms}
use Rattle.scene_lock.specs.History.{BeginsWith, entries_of, IsLegal}
use Rattle.scene_lock.specs.Members.{member, IsMember, all_stepping, other_members, opening_seat, first_seat, others_seat, joined_seat, spent_seat, holding_seat, seeing}
use Rattle.scene_lock.specs.Rule.{IsTrueOfPass, IsTrueOf, IsHome, IsKept, Tells, Sees, looked, taken, PutsHome, put}
use Rattle.scene_lock.specs.Steps.{IsFree, Turns, Moves, Leads, step_of, steps_of}
use Rattle.scene_lock.proofs.Growth.{begins-itself, begins-further, entries_of-own, entries_of-other, all_below-entered}
use Rattle.scene_lock.proofs.Owners.{member-append, member-first, member-others, member-seeing, member-new, distinct-seeing, distinct-first, distinct-others, distinct-append, distinct-new, first-apart, owner_with, owner-member, owner-else}
use Rattle.scene_lock.proofs.Places.{views-set, views-push, one_view, holder-pass, placed-set, placed-push, taken_out, put_home}
use Rattle.scene_lock.proofs.Walks.{leads-more, free-not_out, turns-taking, turns-putting, moves-grown}

abbrev carried_or : {X : Type 0} → X → List (ℕ × Option X) → X
carried_or d [] = d
carried_or d (p ∷ ps) = unwrap_or p.1 d

abbrev head_or : {A : Type 0} → A → List A → A
head_or d [] = d
head_or d (x ∷ xs) = x

module _ {X E O : Type 0} (good : O → X → Type 0) (history : X → List E) (legal : O → List E → Type 0) (by : E → ℕ) (terms : Terms O) where
  abbrev V : Type 0
  V = Knowledge E O

  abbrev M : Type 0
  M = Me (Option X) V

  abbrev Kept : State (Option X) V → Type 0
  Kept = IsKept good history legal by terms

  abbrev True : List E → List Step → (ℕ → ℕ) → ℕ → V → Type 0
  True whole made owner seat k = IsTrueOf legal by terms whole made owner seat k

  abbrev TrueOf : List E → List Step → (ℕ → ℕ) → ℕ → Option (Terms O) → Member E → Type 0
  TrueOf whole made owner seat named p = IsTrueOfPass legal by terms whole made owner seat named p

  -- what a seat knows stays true of a longer history and of more steps, none of them of its passes
  stays : (h h' : List E) (t t' : List Step) (owner owner' : ℕ → ℕ) (seat : ℕ) (k : V) → True h t owner seat k → BeginsWith h' h
      → ((p : Member E) → IsMember k.members p
      → (owner' p.session ≡ owner p.session) × (entries_of by p.session h' ≡ entries_of by p.session h) × (steps_of p.session t' ≡ steps_of p.session t))
      → True h' t' owner' seat k
  stays h h' t t' owner owner' seat k it longer same = record {
    each = λ p i. let e = it.each p i in let s = same p i in record {
      lock = e.lock;
      seated = s.0 ∙ e.seated;
      below = e.below;
      lawful = e.lawful;
      early = begins-further p.seen h h' e.early longer;
      own = e.own ∙ sym s.1;
      steps = e.steps ∙ sym s.2;
    };
    distinct = it.distinct;
  }

  -- members who are made to see the whole history know the truth
  sees_whole : (h : List E) (t : List Step) (owner : ℕ → ℕ) (seat : ℕ) (k : V) → True h t owner seat k → IsLegal legal by terms h → True h t owner seat (seeing h k)
  sees_whole h t owner seat k it lawful = record {
    each = λ p i. let q = member-seeing h k.members p i in let e = it.each q.0 q.1 in subst (λ z. TrueOf h t owner seat k.terms z) q.2 (record {
      lock = e.lock;
      seated = e.seated;
      below = e.below;
      lawful = lawful;
      early = begins-itself h;
      own = refl;
      steps = e.steps;
    });
    distinct = distinct-seeing h k.members it.distinct;
  }

  -- the one member of a seat knows the truth after its step
  steps_on : (h h' : List E) (t : List Step) (owner : ℕ → ℕ) (seat : ℕ) (named : Option (Terms O)) (p : Member E) (kind : Kind) (before after : ℕ) (b : Bool)
      → TrueOf h t owner seat named p → IsLegal legal by terms h'
      → True h' (t ++ step_of p.session kind before after ∷ []) owner seat
      (record { terms = Some terms; members = member p.session h' (p.steps ++ step_of p.session kind before after ∷ []) ∷ []; holding = b })
  steps_on h h' t owner seat named p kind before after b e lawful = let made = step_of p.session kind before after in record {
    each = λ q i. ⊎_elim (λ is. subst (λ z. TrueOf h' (t ++ made ∷ []) owner seat (Some terms) z) is (record {
      lock = refl;
      seated = e.seated;
      below = e.below;
      lawful = lawful;
      early = begins-itself h';
      own = refl;
      steps = ap (λ l. l ++ made ∷ []) e.steps ∙ sym (entries_of-own (λ s. s.session) p.session t made refl);
    })) (λ nobody. absurd nobody) i;
    distinct = ((λ q nobody. absurd nobody), tt);
  }

  -- a pass that another seat stands for
  reseated : (h : List E) (t : List Step) (owner owner' : ℕ → ℕ) (seat seat' : ℕ) (named : Option (Terms O)) (p : Member E) → TrueOf h t owner seat named p → owner' p.session ≡ seat'
      → TrueOf h t owner' seat' named p
  reseated h t owner owner' seat seat' named p e seated =
      record { lock = e.lock; seated = seated; below = e.below; lawful = e.lawful; early = e.early; own = e.own; steps = e.steps }

  -- the steps of the passes of another seat, after a step of this pass
  others_steps : (t : List Step) (owner : ℕ → ℕ) (seat other : ℕ) (p q : Member E) (kind : Kind) (before after : ℕ) → owner p.session ≡ seat → owner q.session ≡ other → other ≢ seat
      → steps_of q.session (t ++ step_of p.session kind before after ∷ []) ≡ steps_of q.session t
  others_steps t owner seat other p q kind before after mine theirs apart =
      entries_of-other (λ s. s.session) q.session t (step_of p.session kind before after) (λ same. apart (sym theirs ∙ (ap owner (sym same) ∙ mine)))

  -- what a look at the whole history tells
  tells_whole : (h : List E) (t : List Step) (owner : ℕ → ℕ) (seat : ℕ) (k : V) → True h t owner seat k → IsLegal legal by terms h → Tells legal by k h
  tells_whole h t owner seat k it lawful p i = let e = it.each p i in
      ((e.early, sym e.own), (λ ts named. subst (λ z. IsLegal legal by z h) (ap (λ z. unwrap_or z terms) (sym e.lock ∙ named)) lawful))

  -- a look changes what the seat has seen, and nothing else
  look_keeps : (id : ℕ) (m : M) → m.0.holding ≡ false → (s : State (Option X) V) (r : Kept s) → get_elem? s.views id ≡ some m.0
      → Kept record { words = set s.words 0 (get_or s.words 0 0); homes = s.homes; views = set s.views id (seeing r.whole m.0) } × Sees legal by m (seeing r.whole m.0, m.1)
  look_keeps id m idle s r at =
      let it = r.seats id m.0 at in (
        subst (λ ws. Kept record { words = ws; homes = s.homes; views = set s.views id (seeing r.whole m.0) }) (sym (set-get_or s.words 0 0)) (record {
          whole = r.whole;
          made = r.made;
          owner = r.owner;
          one_word = r.one_word;
          lawful = r.lawful;
          leads = r.leads;
          sessions = r.sessions;
          placed = placed-set good history terms s.homes s.views r.whole (get_or s.words 0 0) id m.0 (seeing r.whole m.0) at idle idle r.placed;
          seats = views-set (True r.whole r.made r.owner) s.views id (seeing r.whole m.0)
              (sees_whole r.whole r.made r.owner id m.0 it r.lawful) (λ j d other there. r.seats j d there);
        }),
        (r.whole, refl, tells_whole r.whole r.made r.owner id m.0 it r.lawful),
      )

  pub looking : (n id : ℕ) (m : M) → m.0.holding ≡ false → Allows Kept n id m 0 (λ k. k) (looked legal by (step n 0 0 0 none) m)
  looking n id m idle s r deep at small = let k = look_keeps id m idle s r at in (seeing r.whole m.0, keeps, tt, k.0, k.1)

  pub taking : (n id from : ℕ) (kind : Kind) (m : M) (p : Member E) → Turns kind from 1 → m.1 ≡ [] → m.0.holding ≡ false → m.0.members ≡ p ∷ []
      → Allows Kept n id m 0 (λ k. either (eqb k from) 1 k) (taken good history legal by kind (step n 0 from 1 none) m)
  taking n id from kind m p turns empty idle alone s r deep at small =
      let F : ℕ → Type 0 = λ k. (w : V) × (a : Act (Option X)) × Valid s.homes m.1 a × Kept (stepped s 0 k id m.1 w a)
      × taken good history legal by kind (step n 0 from 1 none) m (get_or s.words 0 0) (w, carried_after m.1 a) in
      let free : from ≢ 1 = free-not_out from (turns-taking kind from turns) in
      let it = r.seats id m.0 at in let made = step_of p.session kind from 1 in
      let mine = it.each p (subst (λ l. IsMember l p) (sym alone) (inl refl)) in
      exchanged (get_or s.words 0 0) from 1 F
      (λ hit. ⊎_elim
      (λ home. let x = home.1.state in let h = history x in
      let w : V = holding_seat terms (member p.session h (p.steps ++ made ∷ [])) in
      let is : w ≡ record m.0 { members = all_stepping h kind (get_or s.words 0 0) 1 m.0.members; holding = true } =
      λ i. record { terms = sym mine.lock i; members = all_stepping h kind (sym hit i) 1 (sym alone i); holding = true } in
      let word : get_or (set s.words 0 1) 0 0 ≡ 1 = get_or-set_same s.words 0 1 0 (omega (arith, r.one_word)) in
      let lawful : IsLegal legal by terms h = subst (IsLegal legal by terms) (sym home.1.kept) r.lawful in (
        w,
        takes 0 (Some x),
        home.1.there,
        record {
          whole = h;
          made = r.made ++ made ∷ [];
          owner = r.owner;
          one_word = length-set s.words 0 1 ∙ r.one_word;
          lawful = lawful;
          leads = subst (λ z. Leads 0 (r.made ++ made ∷ []) z) (sym word) (leads-more 0 (get_or s.words 0 0) r.made made r.leads (sym hit) turns);
          sessions = all_below-entered (λ t. t.session) terms.passes r.made made r.sessions mine.below;
          placed = inr (word, taken_out good history terms s.homes s.views r.whole id m.0 (member p.session h (p.steps ++ made ∷ [])) home.1 at);
          seats = views-set (True h (r.made ++ made ∷ []) r.owner) s.views id w
              (steps_on r.whole h r.made r.owner id m.0.terms p kind from 1 true mine lawful)
              (λ j d other there. let td = r.seats j d there in stays r.whole h r.made (r.made ++ made ∷ []) r.owner r.owner j d td
              (subst (λ l. BeginsWith h l) home.1.kept (begins-itself h))
              (λ q i. (refl, ap (entries_of by q.session) home.1.kept, others_steps r.made r.owner id j p q kind from 1 mine.seated (td.each q i).seated other)));
        },
        (
          (λ _. (
            subst (λ z. Turns kind z 1) (sym hit) turns,
            (
              x,
              (λ i. (is i, (0, Some x) ∷ empty i)),
              (λ q i. let e = it.each q i in (
                (subst (λ l. BeginsWith l q.seen) (sym home.1.kept) e.early, ap (entries_of by q.session) home.1.kept ∙ sym e.own),
                (λ ts named. subst (λ z. IsLegal legal by z h) (ap (λ z. unwrap_or z terms) (sym e.lock ∙ named)) lawful),
              )),
              (λ q ts i named. subst (λ z. good z.opening x) (ap (λ z. unwrap_or z terms) (sym (it.each q i).lock ∙ named)) home.1.is_good),
            ),
          )),
          (λ miss. absurd (miss hit)),
        ),
      ))
      (λ out. absurd (free (sym hit ∙ out.0))) r.placed)
      (λ miss. let k = look_keeps id m idle s r at in (seeing r.whole m.0, keeps, tt, k.0, ((λ hit. absurd (miss hit)), (λ _. k.1))))

  pub putting : (n id word : ℕ) (kind : Kind) (m : M) (x : X) (p : Member E) → Turns kind 1 word → m.1 ≡ (0, Some x) ∷ [] → m.0.holding ≡ true → m.0.members ≡ p ∷ []
      → good terms.opening x → legal terms.opening (history x) → Moves by kind p.session p.seen (history x)
      → Allows Kept n id m 0 (λ _. word) (put history legal by kind (step n 0 word 0 none) m)
  putting n id word kind m x p turns carries holding alone ok legally moved s r deep at small =
      let it = r.seats id m.0 at in let h = history x in let made = step_of p.session kind 1 word in let word' = get_or (set s.words 0 word) 0 0 in
      let now : word' ≡ word = get_or-set_same s.words 0 word 0 (omega (arith, r.one_word)) in
      let mine = it.each p (subst (λ l. IsMember l p) (sym alone) (inl refl)) in
      let w : V = record { terms = Some terms; members = member p.session h (p.steps ++ made ∷ []) ∷ []; holding = false } in
      let is : w ≡ record m.0 { members = all_stepping h kind 1 word m.0.members; holding = false } =
      λ i. record { terms = sym mine.lock i; members = all_stepping h kind 1 word (sym alone i); holding = false } in
      ⊎_elim (λ home. absurd (false≢true (sym (home.1.idle id m.0 at) ∙ holding)))
      (λ out. let o = out.1 in
      let same : p ≡ o.pass = ap (head_or p) (sym alone ∙ holder-pass good history terms s.homes s.views r.whole id m.0 at holding o) in
      let whole : p.seen ≡ r.whole = ap (λ (z : Member E). z.seen) same ∙ o.seen in
      let grown = moves-grown by kind p.session p.seen h moved in
      let longer : BeginsWith h r.whole = subst (λ l. BeginsWith h l) whole (⊎_elim (λ e. ([], e ∙ sym (append-nil p.seen))) (λ t. (t.0 ∷ [], t.1)) grown) in
      let others : (i : ℕ) → r.owner i ≢ id → entries_of by i h ≡ entries_of by i r.whole = λ i other. ⊎_elim (λ e. ap (entries_of by i) (e ∙ whole))
      (λ t. ap (entries_of by i) t.1 ∙ (entries_of-other by i p.seen t.0 (λ e. other (ap r.owner (sym e ∙ t.2) ∙ mine.seated)) ∙ ap (entries_of by i) whole)) grown in
      let before : All (λ e. by e < terms.passes) p.seen = subst (All (λ e. by e < terms.passes)) (sym whole) r.lawful.1 in
      let below : All (λ e. by e < terms.passes) h = ⊎_elim (λ e. subst (All (λ z. by z < terms.passes)) (sym e) before)
      (λ t. subst (All (λ z. by z < terms.passes)) (sym t.1) (all_below-entered by terms.passes p.seen t.0 before (subst (λ i. i < terms.passes) (sym t.2) mine.below))) grown in (
        w,
        gives,
        tt,
        record {
          whole = h;
          made = r.made ++ made ∷ [];
          owner = r.owner;
          one_word = length-set s.words 0 word ∙ r.one_word;
          lawful = (legally, below);
          leads = subst (λ z. Leads 0 (r.made ++ made ∷ []) z) (sym now) (leads-more 0 (get_or s.words 0 0) r.made made r.leads (sym out.0) turns);
          sessions = all_below-entered (λ t. t.session) terms.passes r.made made r.sessions mine.below;
          placed = inl (
            subst IsFree (sym now) (turns-putting kind word turns),
            subst (λ c. IsHome good history terms (put_back s.homes c) (set s.views id w) h) (sym carries) (put_home good history terms s.homes s.views r.whole id m.0 w x o at holding refl ok),
          );
          seats = views-set (True h (r.made ++ made ∷ []) r.owner) s.views id w
              (steps_on r.whole h r.made r.owner id m.0.terms p kind 1 word false mine (legally, below))
              (λ j d other there. let td = r.seats j d there in stays r.whole h r.made (r.made ++ made ∷ []) r.owner r.owner j d td longer
              (λ q i. (refl, others q.session (λ e. other (sym (td.each q i).seated ∙ e)), others_steps r.made r.owner id j p q kind 1 word mine.seated (td.each q i).seated other)));
        },
        (
          subst (λ z. Turns kind z word) (sym out.0) turns,
          (λ y carried. subst (λ z. PutsHome history legal by kind word z m (w, rest m.1)) (ap (carried_or x) (sym carries ∙ carried)) (
            (λ i. (is i, rest (carries i))),
            (λ q i. (
              subst (λ z. Moves by kind z.session z.seen h) (⊎_elim (λ e. e) (λ nobody. absurd nobody) (subst (λ l. IsMember l q) alone i)) moved,
              (λ ts named. subst (λ z. IsLegal legal by z h) (ap (λ z. unwrap_or z terms) (sym (it.each q i).lock ∙ named)) (legally, below)),
            )),
          )),
        ),
      )) r.placed

  pub parting : (id : ℕ) (k : V) → k.holding ≡ false → Splits Kept id k (first_seat k) (others_seat k)
  parting id k idle s r at =
      let it = r.seats id k at in let views = set s.views id (first_seat k) in let last = length views in let ms = other_members k.members in
      let owner : ℕ → ℕ = owner_with ms last r.owner in
      let seat_first : True r.whole r.made owner id (first_seat k) = record {
        each = λ p i. reseated r.whole r.made r.owner owner id id k.terms p (it.each p (member-first k.members p i)) (owner-else ms last r.owner p.session (λ q j. first-apart k.members it.distinct p q i j) ∙ (it.each p (member-first k.members p i)).seated);
        distinct = distinct-first k.members it.distinct;
      } in
      let seat_last : True r.whole r.made owner last (others_seat k) = record {
        each = λ p i. reseated r.whole r.made r.owner owner id last k.terms p (it.each p (member-others k.members p i)) (owner-member ms last r.owner p i);
        distinct = distinct-others k.members it.distinct;
      } in
      record {
        whole = r.whole;
        made = r.made;
        owner = owner;
        one_word = r.one_word;
        lawful = r.lawful;
        leads = r.leads;
        sessions = r.sessions;
        placed = placed-push good history terms s.homes views r.whole (get_or s.words 0 0) (others_seat k) refl
            (placed-set good history terms s.homes s.views r.whole (get_or s.words 0 0) id k (first_seat k) at idle refl r.placed);
        seats = views-push (True r.whole r.made owner) views (others_seat k)
            (views-set (True r.whole r.made owner) s.views id (first_seat k) seat_first (λ j d other there. let td = r.seats j d there in record {
              each = λ p i. let e = td.each p i in reseated r.whole r.made r.owner owner j j d.terms p e
                  (owner-else ms last r.owner p.session
                  (λ q j' same. other (sym e.seated ∙ (ap r.owner (sym same) ∙ (it.each q (member-others k.members q j')).seated))) ∙ e.seated);
              distinct = td.distinct;
            })) seat_last;
      }

  pub joining : (id other : ℕ) (k l : V) → k.holding ≡ false → l.holding ≡ false → k.terms ≡ l.terms → Joins Kept id k other l (joined_seat k l) spent_seat
  joining id other k l idle idle' named s r at apart there =
      let it = r.seats id k at in let views = set s.views id (joined_seat k l) in
      let at' : get_elem? s.views other ≡ some l = ⊎_elim (λ (z : (other ≡ id) × (joined_seat k l ≡ l)). absurd (apart z.0)) (λ (z : (other ≢ id) × (get_elem? s.views other ≡ some l)). z.1)
      (at_set s.views id other (joined_seat k l) l there) in
      let it' = r.seats other l at' in
      let owner : ℕ → ℕ = owner_with l.members id r.owner in
      let differ : (p q : Member E) → IsMember k.members p → IsMember l.members q → q.session ≢ p.session = λ p q i j same. apart (sym (it'.each q j).seated ∙ (ap r.owner same ∙ (it.each p i).seated)) in
      let joined : True r.whole r.made owner id (joined_seat k l) = record {
        each = λ p i. ⊎_elim (λ a. reseated r.whole r.made r.owner owner id id k.terms p (it.each p a) (owner-else l.members id r.owner p.session (λ q j. differ p q a j) ∙ (it.each p a).seated))
            (λ b. reseated r.whole r.made r.owner owner other id k.terms p (subst (λ z. TrueOf r.whole r.made r.owner other z p) (sym named) (it'.each p b)) (owner-member l.members id r.owner p b))
            (member-append k.members l.members p i);
        distinct = distinct-append k.members l.members it.distinct it'.distinct differ;
      } in
      let spent : True r.whole r.made owner other spent_seat = record { each = λ p nobody. absurd nobody; distinct = tt } in
      let else : (j : ℕ) (d : V) → j ≢ other → get_elem? s.views j ≡ some d → True r.whole r.made owner j d = λ j d not_other e. let td = r.seats j d e in record {
        each = λ p i. let f = td.each p i in reseated r.whole r.made r.owner owner j j d.terms p f
            (owner-else l.members id r.owner p.session (λ q j' same. not_other (sym f.seated ∙ (ap r.owner (sym same) ∙ (it'.each q j').seated))) ∙ f.seated);
        distinct = td.distinct;
      } in
      record {
        whole = r.whole;
        made = r.made;
        owner = owner;
        one_word = r.one_word;
        lawful = r.lawful;
        leads = r.leads;
        sessions = r.sessions;
        placed = placed-set good history terms s.homes views r.whole (get_or s.words 0 0) other l spent_seat there idle' refl
            (placed-set good history terms s.homes s.views r.whole (get_or s.words 0 0) id k (joined_seat k l) at idle refl r.placed);
        seats = views-set (True r.whole r.made owner) views other spent_seat spent (λ j d not_other e.
            ⊎_elim (λ (z : (j ≡ id) × (joined_seat k l ≡ d)). subst (λ (y : ℕ × V). True r.whole r.made owner y.0 y.1) (λ i. (sym z.0 i, z.1 i)) joined)
            (λ (z : (j ≢ id) × (get_elem? s.views j ≡ some d)). else j d not_other z.1) (at_set s.views id j (joined_seat k l) d e));
      }

  pub founding : (x : X) → good terms.opening x → legal terms.opening (history x) → history x ≡ [] → Kept (opening (0 ∷ []) (Some x ∷ []) (opening_seat terms))
  founding x ok legally empty = let lawful : IsLegal legal by terms [] = (subst (legal terms.opening) empty legally, All-nil (λ e. by e < terms.passes)) in record {
    whole = [];
    made = [];
    owner = λ _. 0;
    one_word = refl;
    lawful = lawful;
    leads = refl;
    sessions = All-nil (λ t. t.session < terms.passes);
    placed = inl (inl refl, record { state = x; there = refl; is_good = ok; kept = empty; idle = one_view (λ j (d : V). d.holding ≡ false) (opening_seat terms) refl });
    seats = one_view (True [] [] (λ _. 0)) (opening_seat terms) (record {
      each = λ p i. let b = member-new terms.passes 0 p i in subst (λ z. TrueOf [] [] (λ _. 0) 0 (Some terms) z) b.2 (record {
        lock = refl;
        seated = refl;
        below = omega (arith, b.1);
        lawful = lawful;
        early = begins-itself [];
        own = refl;
        steps = refl;
      });
      distinct = distinct-new E terms.passes 0;
    });
  }
