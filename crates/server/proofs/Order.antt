-- How what a crash may leave goes on, in order of time, by one call more.
use Rattle.std.proofs.Common.{◌≡◌, inl, inr, ⊎_elim, ℕ, ◌≤◌, List, [], ◌∷◌, ◌++◌, refl, sym, subst, arith}
use Rattle.std.specs.Prelude.{nat_le, true, false, Bool}
use Rattle.std.proofs.lemmas.Bool.Decides.{nat_tests}
use Rattle.page.specs.History.{History, Sector, KeepsWord, IsImage}
use Rattle.page.specs.Crash.{ExtendsHistory, LeavesOnly}
use Rattle.entry_model.specs.State.{Collection}
use Rattle.opening.specs.Holding.{HoldsCollections}
use Rattle.server.specs.Moment.{TurnEnd, last_collections, LeavesBetween, HoldsEither, LeavesInOrder}

-- a moment of time alone
pub moved_between : (h : History) (P : (ℕ → List ℕ) → Type 0) → ((image : ℕ → List ℕ) → IsImage (h.moment h.clock) image → P image)
    → LeavesBetween h h.clock h.clock P
moved_between h P here t after before image left =
    let same : t ≡ h.clock = omega arith in
    here image (subst (λ (n : ℕ). IsImage (h.moment n) image) same left)

module _ (h k : History) (extends : ExtendsHistory h k) (keeps : KeepsWord k) where
  -- the moments up to now stay as they are
  between_on : (from to : ℕ) (P : (ℕ → List ℕ) → Type 0) → to ≤ h.clock → LeavesBetween h from to P → LeavesBetween k from to P
  between_on from to P within leaves t after before image left =
      leaves t after before image (subst (λ (s : ℕ → Sector). IsImage s image) (extends.past keeps t (omega (arith, within, before))) left)

  -- the moments up to now, and those of one call more
  between_more : (from : ℕ) (P : (ℕ → List ℕ) → Type 0) → LeavesBetween h from h.clock P → LeavesOnly h k P → LeavesBetween k from k.clock P
  between_more from P leaves more t after before image left = at (nat_le t h.clock) refl
    where
      at : (b : Bool) → nat_le t h.clock ≡ b → P image
      at true e =
          let early : t ≤ h.clock = grind (arith, nat_tests) in
          leaves t after early image (subst (λ (s : ℕ → Sector). IsImage s image) (extends.past keeps t early) left)
      at false e =
          let late : h.clock ≤ t = grind (arith, nat_tests) in
          more keeps image (record { at = t; after = late; before = before; left = left })

  module _ (now last : List Collection) (safe : LeavesOnly h k (HoldsEither now last)) where
    tail_on : (from : ℕ) (before : List Collection) → now ≡ before → LeavesBetween h from h.clock (HoldsEither before now)
        → LeavesBetween k from k.clock (HoldsEither before last)
    tail_on from before is leaves =
        between_more from (HoldsEither before last)
        (λ t after early image left. inl (⊎_elim (λ holds. holds) (λ holds. subst (HoldsCollections image) is holds) (leaves t after early image left)))
        (λ word image left. ⊎_elim (λ holds. inl (subst (HoldsCollections image) is holds)) (λ holds. inr holds) (safe word image left))

    pub in_order_further : (from : ℕ) (before : List Collection) (ends : List TurnEnd) → now ≡ last_collections before ends
        → LeavesInOrder h from before ends now → LeavesInOrder k from before ends last
    in_order_further from before [] is order = (omega (arith, order.0, extends.clock), tail_on from before is order.1)
    in_order_further from before (e ∷ later) is order = (
      order.0,
      omega (arith, order.1, extends.clock),
      between_on from e.at.clock (HoldsEither before e.collections) order.1 order.2,
      in_order_further e.at.clock e.collections later is order.3,
    )

  module _ (now : List Collection) (end : TurnEnd) (at_end : end.at.clock ≡ k.clock) (safe : LeavesOnly h k (HoldsEither now end.collections))
      (holds : (image : ℕ → List ℕ) → IsImage (k.moment k.clock) image → HoldsCollections image end.collections) where
    pub in_order_ended : (from : ℕ) (before : List Collection) (ends : List TurnEnd) → now ≡ last_collections before ends → LeavesInOrder h from before ends now
        → LeavesInOrder k from before (ends ++ end ∷ []) end.collections
    in_order_ended from before [] is order = (
      omega (arith, order.0, extends.clock, at_end),
      omega (arith, at_end),
      subst (λ (n : ℕ). LeavesBetween k from n (HoldsEither before end.collections)) (sym at_end) (tail_on now end.collections safe from before is order.1),
      (
        omega (arith, at_end),
        subst (λ (n : ℕ). LeavesBetween k n k.clock (HoldsEither end.collections end.collections)) (sym at_end)
            (moved_between k (HoldsEither end.collections end.collections) (λ image here. inl (holds image here))),
      ),
    )
    in_order_ended from before (e ∷ later) is order = (
      order.0,
      omega (arith, order.1, extends.clock),
      between_on from e.at.clock (HoldsEither before e.collections) order.1 order.2,
      in_order_ended e.at.clock e.collections later is order.3,
    )

-- a call after which no turn has answered
pub in_order_on : (h k : History) (from : ℕ) (before : List Collection) (ends : List TurnEnd) (now last : List Collection) → ExtendsHistory h k → KeepsWord k
    → now ≡ last_collections before ends → LeavesOnly h k (HoldsEither now last) → LeavesInOrder h from before ends now → LeavesInOrder k from before ends last
in_order_on h k from before ends now last extends keeps is safe order = in_order_further h k extends keeps now last safe from before ends is order

-- a turn that answered
pub in_order_turned : (h k : History) (from : ℕ) (before : List Collection) (ends : List TurnEnd) (now : List Collection) (end : TurnEnd)
    → end.at.clock ≡ k.clock → ExtendsHistory h k → KeepsWord k
    → now ≡ last_collections before ends → LeavesOnly h k (HoldsEither now end.collections)
    → ((image : ℕ → List ℕ) → IsImage (k.moment k.clock) image → HoldsCollections image end.collections)
    → LeavesInOrder h from before ends now → LeavesInOrder k from before (ends ++ end ∷ []) end.collections
in_order_turned h k from before ends now end at_end extends keeps is safe holds order =
    in_order_ended h k extends keeps now end at_end safe holds from before ends is order
