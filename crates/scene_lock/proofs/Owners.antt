-- The members of seats, and which seat each belongs to.
use Rattle.std.proofs.Common.{◌≡◌, ◌≢◌, ◌⊎◌, ◌<◌, ◌≤◌, ◌+◌, ℕ, zero, suc, Bool, true, false, List, [], ◌∷◌, ◌++◌, cond, eqb, eq-eqb, ne_eqb, refl, sym, ap, ◌∙◌, ⊎_elim, inl, inr, arith}
use mathlib.Core.Logic.{dite}
use native.Mathlib.Decide.{ℕ_discrete}
use Rattle.scene_lock.specs.declared.knowledge.Member.{Member}
use Rattle.scene_lock.specs.Members.{member, IsMember, AreDistinct, all_seeing, new_members, first_member, other_members}

module _ {E : Type 0} where
  pub member-append : (ms ns : List (Member E)) (p : Member E) → IsMember (ms ++ ns) p → IsMember ms p ⊎ IsMember ns p
  member-append [] ns p i = inr i
  member-append (m ∷ ms) ns p i = ⊎_elim (λ e. inl (inl e)) (λ t. ⊎_elim (λ a. inl (inr a)) (λ b. inr b) (member-append ms ns p t)) i

  pub member-first : (ms : List (Member E)) (p : Member E) → IsMember (first_member ms) p → IsMember ms p
  member-first [] p i = i
  member-first (m ∷ ms) p i = ⊎_elim (λ e. inl e) (λ none. absurd none) i

  pub member-others : (ms : List (Member E)) (p : Member E) → IsMember (other_members ms) p → IsMember ms p
  member-others [] p i = i
  member-others (m ∷ ms) p i = inr i

  -- one who was made to see h is one of the members but for that
  pub member-seeing : (h : List E) (ms : List (Member E)) (p : Member E) → IsMember (all_seeing h ms) p → (q : Member E) × IsMember ms q × (record q { seen = h } ≡ p)
  member-seeing h [] p i = absurd i
  member-seeing h (m ∷ ms) p i = ⊎_elim (λ e. (m, inl refl, e)) (λ t. let q = member-seeing h ms p t in (q.0, inr q.1, q.2)) i

  pub member-new : (n session : ℕ) (p : Member E) → IsMember (new_members n session) p → (session ≤ p.session) × (p.session < session + n) × (member p.session [] [] ≡ p)
  member-new zero session p i = absurd i
  member-new (suc n) session p i = ⊎_elim (λ e. let here : session ≡ p.session = ap (λ z. z.session) e in (omega arith, omega arith, ap (λ s. member s [] []) (sym here) ∙ e))
      (λ t. let r = member-new n (session + 1) p t in (omega (arith, r.0), omega (arith, r.1), r.2)) i

  pub distinct-seeing : (h : List E) (ms : List (Member E)) → AreDistinct ms → AreDistinct (all_seeing h ms)
  distinct-seeing h [] d = tt
  distinct-seeing h (m ∷ ms) d = ((λ p i same. let q = member-seeing h ms p i in d.0 q.0 q.1 (ap (λ z. z.session) q.2 ∙ same)), distinct-seeing h ms d.1)

  pub distinct-first : (ms : List (Member E)) → AreDistinct ms → AreDistinct (first_member ms)
  distinct-first [] d = tt
  distinct-first (m ∷ ms) d = ((λ p i. absurd i), tt)

  pub distinct-others : (ms : List (Member E)) → AreDistinct ms → AreDistinct (other_members ms)
  distinct-others [] d = tt
  distinct-others (m ∷ ms) d = d.1

  pub distinct-append : (ms ns : List (Member E)) → AreDistinct ms → AreDistinct ns → ((p q : Member E) → IsMember ms p → IsMember ns q → q.session ≢ p.session) → AreDistinct (ms ++ ns)
  distinct-append [] ns a b apart = b
  distinct-append (m ∷ ms) ns a b apart = (
    (λ p i. ⊎_elim (λ t. a.0 p t) (λ t. apart m p (inl refl) t) (member-append ms ns p i)),
    distinct-append ms ns a.1 b (λ p q i j. apart p q (inr i) j),
  )

  pub first-apart : (ms : List (Member E)) → AreDistinct ms → (p q : Member E) → IsMember (first_member ms) p → IsMember (other_members ms) q → q.session ≢ p.session
  first-apart [] d p q i j = absurd i
  first-apart (m ∷ ms) d p q i j = λ e. ⊎_elim (λ same. d.0 q j (e ∙ ap (λ z. z.session) (sym same))) (λ none. absurd none) i

  -- whether a session is that of a member
  abbrev pub has_session : List (Member E) → ℕ → Bool
  has_session [] session = false
  has_session (m ∷ ms) session = cond (eqb m.session session) true (has_session ms session)

  -- the owners once these members belong to this seat
  abbrev pub owner_with : List (Member E) → ℕ → (ℕ → ℕ) → ℕ → ℕ
  owner_with ms seat owner session = cond (has_session ms session) seat (owner session)

  abbrev IsEither : List (Member E) → ℕ → (ℕ → ℕ) → ℕ → Type 0
  IsEither ms seat owner session = ((p : Member E) × IsMember ms p × (p.session ≡ session) × (owner_with ms seat owner session ≡ seat))
      ⊎ (((p : Member E) → IsMember ms p → p.session ≢ session) × (owner_with ms seat owner session ≡ owner session))

  either_owner : (ms : List (Member E)) (seat : ℕ) (owner : ℕ → ℕ) (session : ℕ) → IsEither ms seat owner session
  either_owner [] seat owner session = inr ((λ p none. absurd none), refl)
  either_owner (m ∷ ms) seat owner session = dite (ℕ_discrete m.session session)
      (λ e. inl (m, inl refl, e, ap (λ b. cond (cond b true (has_session ms session)) seat (owner session)) (eq-eqb m.session session e)))
      (λ ne. let same : owner_with (m ∷ ms) seat owner session ≡ owner_with ms seat owner session = ap (λ b. cond (cond b true (has_session ms session)) seat (owner session)) (ne_eqb m.session session ne) in
      ⊎_elim (λ t. inl (t.0, inr t.1, t.2, same ∙ t.3))
      (λ t. inr ((λ p i. ⊎_elim (λ e here. ne (ap (λ q. q.session) e ∙ here)) (λ later. t.0 p later) i), same ∙ t.1)) (either_owner ms seat owner session))

  pub owner-member : (ms : List (Member E)) (seat : ℕ) (owner : ℕ → ℕ) (p : Member E) → IsMember ms p → owner_with ms seat owner p.session ≡ seat
  owner-member ms seat owner p i = ⊎_elim (λ t. t.3) (λ t. absurd (t.0 p i refl)) (either_owner ms seat owner p.session)

  pub owner-else : (ms : List (Member E)) (seat : ℕ) (owner : ℕ → ℕ) (session : ℕ) → ((p : Member E) → IsMember ms p → p.session ≢ session) → owner_with ms seat owner session ≡ owner session
  owner-else ms seat owner session none = ⊎_elim (λ t. absurd (none t.0 t.1 t.2)) (λ t. t.1) (either_owner ms seat owner session)

pub distinct-new : (E : Type 0) (n session : ℕ) → AreDistinct {E = E} (new_members n session)
distinct-new E zero session = tt
distinct-new E (suc n) session = ((λ p i e. let r = member-new n (session + 1) p i in omega (arith, r.0, e)), distinct-new E n (session + 1))
