-- What an update makes of the documents of a collection keeps what was kept of them.
use Rattle.std.proofs.Common.{◌≡◌, ℕ, zero, suc, ◌<◌, Bool, true, false, List, [], ◌∷◌, ◌++◌, length, get_or, Ok, refl, sym, ap, subst, arith, append_assoc}
use Rattle.std.specs.Prelude.{not, if◌then◌else◌, All}
use Rattle.std.specs.declared.cmp.Ordering.TheVariants as orders
use Rattle.std.proofs.lemmas.List.{append-nil}
use Rattle.std.proofs.lemmas.List.Elements.{All-cons}
use Rattle.bson.specs.Tree.{Tree, Pairs}
use Rattle.value_order.specs.Order.{compare}
use Rattle.filter.specs.Matches.{matches}
use Rattle.outcome.specs.Outcome.{◌>>=◌}
use Rattle.update_model.specs.Applying.{apply}
use Rattle.command_model.specs.OutcomeLaws.{step_of}
use Rattle.command_model.specs.Update.{UpdateStatement, IsRead}
use Rattle.database_model.specs.Documents.{key_of}
use Rattle.database_model.specs.Lawful.{IsStored}
use Rattle.entry_model.specs.LawfulState.{IsRising}
use Rattle.database_model.specs.Update.{Changed, passed_over, changed_to, update_from}
use Rattle.statements.proofs.Applied.{kept_key, kept_stored}

-- ---- documents that are found by the same keys

abbrev pub SameKeys : List Pairs → List Pairs → Type 0
SameKeys [] [] = Unit {0}
SameKeys [] (e ∷ es) = ⊥
SameKeys (d ∷ ds) [] = ⊥
SameKeys (d ∷ ds) (e ∷ es) = (key_of d ≡ key_of e) × SameKeys ds es

SameKeys-refl : (ds : List Pairs) → SameKeys ds ds
SameKeys-refl [] = tt
SameKeys-refl (d ∷ ds) = (refl, SameKeys-refl ds)

SameKeys-append : (xs ys us vs : List Pairs) → SameKeys xs us → SameKeys ys vs → SameKeys (xs ++ ys) (us ++ vs)
SameKeys-append [] ys [] vs h k = k
SameKeys-append [] ys (u ∷ us) vs h k = absurd h
SameKeys-append (x ∷ xs) ys [] vs h k = absurd h
SameKeys-append (x ∷ xs) ys (u ∷ us) vs h k = (h.0, SameKeys-append xs ys us vs h.1 k)

SameKeys-length : (xs us : List Pairs) → SameKeys xs us → length xs ≡ length us
SameKeys-length [] [] h = refl
SameKeys-length [] (u ∷ us) h = absurd h
SameKeys-length (x ∷ xs) [] h = absurd h
SameKeys-length (x ∷ xs) (u ∷ us) h = ap suc (SameKeys-length xs us h.1)

same_key_at : (xs us : List Pairs) (i : ℕ) (d : Pairs) → SameKeys xs us → i < length us → key_of (get_or xs i d) ≡ key_of (get_or us i d)
same_key_at [] [] i d h below = absurd (omega arith)
same_key_at [] (u ∷ us) i d h below = absurd h
same_key_at (x ∷ xs) [] i d h below = absurd h
same_key_at (x ∷ xs) (u ∷ us) zero d h below = h.0
same_key_at (x ∷ xs) (u ∷ us) (suc i) d h below = same_key_at xs us i d h.1 (omega (arith, below))

pub SameKeys-rising : (xs us : List Pairs) → SameKeys xs us → IsRising us → IsRising xs
SameKeys-rising xs us h up i j d lt below =
    let long : j < length us = omega (arith, below, SameKeys-length xs us h) in
    subst (λ (t : Tree). compare t (key_of (get_or xs j d)) ≡ orders.Less) (sym (same_key_at xs us i d h (omega (arith, lt, long))))
    (subst (λ (t : Tree). compare (key_of (get_or us i d)) t ≡ orders.Less) (sym (same_key_at xs us j d h long)) (up i j d lt long))

All-both : {X : Type 0} (P : X → Type 0) (xs ys : List X) → All P xs → All P ys → All P (xs ++ ys)
All-both P [] ys h k = k
All-both P (x ∷ xs) ys h k = All-cons P x (xs ++ ys) (h 0 x (omega arith)) (All-both P xs ys (λ i d below. h (suc i) d (omega arith)) k)

All-one : {X : Type 0} (P : X → Type 0) (x : X) → P x → All P (x ∷ [])
All-one P x h = All-cons P x [] h (λ i d below. absurd (omega arith))

-- ---- documents one after the other

abbrev AreKept : List Pairs → List Pairs → Type 0
AreKept ds from = SameKeys ds from × All IsStored ds

module _ (s : UpdateStatement) (read : IsRead s.change) where
  kept_from : (so_far : Changed) (front ds : List Pairs) (c : Changed) → AreKept so_far.documents front → All IsStored ds → update_from s so_far ds ≡ Ok c
      → AreKept c.documents (front ++ ds)
  kept_from so_far front [] c h stored e =
      let same : so_far ≡ c = cc in
      subst (λ (x : Changed). AreKept x.documents (front ++ [])) same (subst (AreKept so_far.documents) (sym (append-nil front)) h)
  kept_from so_far front (d ∷ ds) c h stored e =
      at (matches s.filter d) (λ next before k f. kept_from next before ds c k (λ i x below. stored (suc i) x (omega arith)) f) e
    where
      -- what holds of the others
      Goes : Type 0
      Goes = (next : Changed) (before : List Pairs) → AreKept next.documents before → update_from s next ds ≡ Ok c → AreKept c.documents (before ++ ds)

      others : All IsStored ds
      others = λ i x below. stored (suc i) x (omega arith)

      one : IsStored d
      one = stored 0 d (omega arith)

      grown : (new : Pairs) → key_of new ≡ key_of d → IsStored new → AreKept (so_far.documents ++ new ∷ []) (front ++ d ∷ [])
      grown new key kept = (
        SameKeys-append so_far.documents (new ∷ []) front (d ∷ []) h.0 (key, tt),
        All-both IsStored so_far.documents (new ∷ []) h.1 (All-one IsStored new kept),
      )

      together : (front ++ d ∷ []) ++ ds ≡ front ++ d ∷ ds
      together = append_assoc front (d ∷ []) ds

      by : Goes → (multi : Bool) (new : Pairs) → key_of new ≡ key_of d → IsStored new
          → (if multi then update_from s (changed_to d new so_far) ds
          else (let last = changed_to d new so_far in Ok (record last { documents = last.documents ++ ds }))) ≡ Ok c → AreKept c.documents (front ++ d ∷ ds)
      by go true new key kept f = subst (AreKept c.documents) together (go (changed_to d new so_far) (front ++ d ∷ []) (grown new key kept) f)
      by go false new key kept f =
          let last = changed_to d new so_far in
          let same : record last { documents = last.documents ++ ds } ≡ c = cc in
          let g = grown new key kept in
          subst (λ (x : Changed). AreKept x.documents (front ++ d ∷ ds)) same
          (subst (AreKept ((so_far.documents ++ new ∷ []) ++ ds)) together (
            SameKeys-append (so_far.documents ++ new ∷ []) ds (front ++ d ∷ []) ds g.0 (SameKeys-refl ds),
            All-both IsStored (so_far.documents ++ new ∷ []) ds g.1 others,
          ))

      at : (b : Bool) → Goes
          → (if not b then update_from s (passed_over d so_far) ds
          else (apply s.change 65535 d >>= (λ new. if s.multi then update_from s (changed_to d new so_far) ds
          else (let last = changed_to d new so_far in Ok (record last { documents = last.documents ++ ds }))))) ≡ Ok c
          → AreKept c.documents (front ++ d ∷ ds)
      at false go f = subst (AreKept c.documents) together (go (passed_over d so_far) (front ++ d ∷ []) (grown d refl one) f)
      at true go f =
          let n = step_of (apply s.change 65535 d) _ c f in
          by go s.multi n.0 (kept_key s.change d n.0 read one n.1) (kept_stored s.change d n.0 read one n.1) n.2

pub from_kept : (s : UpdateStatement) → IsRead s.change → (so_far : Changed) (ds : List Pairs) (c : Changed) → All IsStored so_far.documents → All IsStored ds
    → so_far.documents ≡ [] → update_from s so_far ds ≡ Ok c → SameKeys c.documents ds × All IsStored c.documents
from_kept s read so_far ds c none stored empty e = kept_from s read so_far [] ds c (subst (λ (xs : List Pairs). SameKeys xs []) (sym empty) tt, none) stored e
