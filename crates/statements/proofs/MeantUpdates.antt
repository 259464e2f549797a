-- Updates go alike on the documents that their statements may mean and on all of them.
use Rattle.std.proofs.Common.{◌≡◌, ℕ, suc, Bool, true, false, List, [], ◌∷◌, ◌++◌, Option, Some, None, Result, Ok, Err, refl, sym, ap, subst, ◌∙◌, arith}
use Rattle.std.proofs.Common.{append_assoc}
use Rattle.std.specs.Prelude.{not, ◌||◌, ◌&&◌, if◌then◌else◌, option_map, All}
use Rattle.std.specs.List.{filter}
use Rattle.std.specs.Ordering.{is_eq}
use Rattle.std.specs.declared.cmp.Ordering.{Ordering}
use Rattle.std.specs.declared.cmp.Ordering.TheVariants as orders
use Rattle.std.proofs.lemmas.List.{append-nil}
use Rattle.std.proofs.lemmas.List.Folds.{list_any-append}
use Rattle.bson.specs.Tree.{document, Pairs, Items, no_items, item, append_items}
use Rattle.filter.specs.Matches.{matches}
use Rattle.value_order.specs.Order.{compare}
use Rattle.outcome.specs.Outcome.{◌>>=◌, or_refused}
use Rattle.path.specs.declared.refusal.Refusal.{Refusal}
use Rattle.path.specs.declared.refusal.Refusal.TheVariants as refusals
use Rattle.update_model.specs.Applying.{apply}
use Rattle.command_model.specs.Update.{UpdateStatement, IsRead}
use Rattle.entry_model.specs.LawfulState.{IsRising}
use Rattle.entry_model.specs.State.{by_order}
use Rattle.database_model.specs.Documents.{key_of, place}
use Rattle.database_model.specs.Lawful.{IsStored}
use Rattle.database_model.specs.Merging.{is_updated, one_or_none, made_of, made_by, has_key_of, is_meant, put_each, Listed, none_changed, listed_to}
use Rattle.database_model.specs.Merging.{with_listed, upsert_listed, run_listed, run_each}
use Rattle.database_model.specs.Update.{counted, modified_by, Changed, passed_over, changed_to, update_from, upsert_document, upserted_entry}
use Rattle.statements.proofs.Applied.{upserted_stored}
use Rattle.statements.proofs.KeptLemmas.{kept_place}
use Rattle.statements.proofs.LawfulUpdates.{SameKeys-rising, from_kept}
use Rattle.statements.proofs.MeantDeletions.{or_first, or_second}
use Rattle.statements.proofs.MergingLemmas.{Marked, meant, other, all_of, meant_of, others_of, Each, NoneIs, Each-map, Each-meant, Above, Ascends, ascends}
use Rattle.statements.proofs.MergingLemmas.{above_trans, Untied, mark, mark_all, mark_meant, mark_others, puts_lead}

abbrev cons : Pairs → List Pairs → List Pairs
cons d ds = d ∷ ds

-- ---- documents one after the other

abbrev changed_with : List Pairs → Bool → ℕ → ℕ → Changed
changed_with ds found matched modified = record { documents = ds; found = found; matched = matched; modified = modified }

-- both come to these documents, which stand behind others
record BothChanged (ms : List Marked) (xs ys : List Pairs) (c d : Changed) : Type 0 where
  pub next : List Marked
  pub found : Bool
  pub matched : ℕ
  pub modified : ℕ
  pub among : c ≡ changed_with (xs ++ meant_of next) found matched modified
  pub all : d ≡ changed_with (ys ++ all_of next) found matched modified
  pub rest : others_of next ≡ others_of ms

abbrev AlikeChanged : List Marked → List Pairs → List Pairs → Result Changed Refusal → Result Changed Refusal → Type 0
AlikeChanged ms xs ys (Ok c) (Ok d) = BothChanged ms xs ys c d
AlikeChanged ms xs ys (Err e) (Err f) = e ≡ f
AlikeChanged ms xs ys (Ok c) (Err f) = ⊥
AlikeChanged ms xs ys (Err e) (Ok d) = ⊥

lift_other : (x : Pairs) (ms : List Marked) (xs ys : List Pairs) (r t : Result Changed Refusal) → AlikeChanged ms xs (ys ++ x ∷ []) r t
    → AlikeChanged (other x ∷ ms) xs ys r t
lift_other x ms xs ys (Ok c) (Ok d) h = record {
  next = other x ∷ h.next;
  found = h.found;
  matched = h.matched;
  modified = h.modified;
  among = h.among;
  all = h.all ∙ ap (λ (ds : List Pairs). changed_with ds h.found h.matched h.modified) (append_assoc ys (x ∷ []) (all_of h.next));
  rest = ap (cons x) h.rest;
}
lift_other x ms xs ys (Err e) (Err f) h = h
lift_other x ms xs ys (Ok c) (Err f) h = h
lift_other x ms xs ys (Err e) (Ok d) h = h

lift_meant : (x new : Pairs) (ms : List Marked) (xs ys : List Pairs) (r t : Result Changed Refusal) → AlikeChanged ms (xs ++ new ∷ []) (ys ++ new ∷ []) r t
    → AlikeChanged (meant x ∷ ms) xs ys r t
lift_meant x new ms xs ys (Ok c) (Ok d) h = record {
  next = meant new ∷ h.next;
  found = h.found;
  matched = h.matched;
  modified = h.modified;
  among = h.among ∙ ap (λ (ds : List Pairs). changed_with ds h.found h.matched h.modified) (append_assoc xs (new ∷ []) (meant_of h.next));
  all = h.all ∙ ap (λ (ds : List Pairs). changed_with ds h.found h.matched h.modified) (append_assoc ys (new ∷ []) (all_of h.next));
  rest = h.rest;
}
lift_meant x new ms xs ys (Err e) (Err f) h = h
lift_meant x new ms xs ys (Ok c) (Err f) h = h
lift_meant x new ms xs ys (Err e) (Ok d) h = h

-- what becomes of a document, and then of the others
abbrev pub one_step : UpdateStatement → Changed → Pairs → List Pairs → Bool → Result Pairs Refusal → Bool → Result Changed Refusal
one_step s so_far x ds m r multi =
    if not m then update_from s (passed_over x so_far) ds else
    (r >>= (λ new. if multi then update_from s (changed_to x new so_far) ds else
    (let last = changed_to x new so_far in Ok (record last { documents = last.documents ++ ds }))))

from_alike : (s : UpdateStatement) (ms : List Marked) (xs ys : List Pairs) (found : Bool) (a n : ℕ) → NoneIs (matches s.filter) (others_of ms)
    → AlikeChanged ms xs ys (update_from s (changed_with xs found a n) (meant_of ms)) (update_from s (changed_with ys found a n) (all_of ms))
from_alike s [] xs ys found a n none = record {
  next = [];
  found = found;
  matched = a;
  modified = n;
  among = ap (λ (ds : List Pairs). changed_with ds found a n) (sym (append-nil xs));
  all = ap (λ (ds : List Pairs). changed_with ds found a n) (sym (append-nil ys));
  rest = refl;
}
from_alike s (other x ∷ ms) xs ys found a n none =
    let here = update_from s (changed_with xs found a n) (meant_of ms) in
    let d = changed_with ys found a n in
    subst (AlikeChanged (other x ∷ ms) xs ys here) (sym (ap (λ (b : Bool). one_step s d x (all_of ms) b (apply s.change 65535 x) s.multi) none.0))
    (lift_other x ms xs ys here (update_from s (passed_over x d) (all_of ms)) (from_alike s ms xs (ys ++ x ∷ []) found a n none.1))
from_alike s (meant x ∷ ms) xs ys found a n none = at (matches s.filter x) (apply s.change 65535 x) s.multi (λ us vs f k l. from_alike s ms us vs f k l none)
  where
    c : Changed
    c = changed_with xs found a n

    at : (m : Bool) (r : Result Pairs Refusal) (multi : Bool)
        → ((us vs : List Pairs) (f : Bool) (k l : ℕ)
        → AlikeChanged ms us vs (update_from s (changed_with us f k l) (meant_of ms)) (update_from s (changed_with vs f k l) (all_of ms)))
        → AlikeChanged (meant x ∷ ms) xs ys (one_step s (changed_with xs found a n) x (meant_of ms) m r multi)
        (one_step s (changed_with ys found a n) x (all_of ms) m r multi)
    at false r multi go =
        lift_meant x x ms xs ys (update_from s (changed_with (xs ++ x ∷ []) found a n) (meant_of ms))
        (update_from s (changed_with (ys ++ x ∷ []) found a n) (all_of ms)) (go (xs ++ x ∷ []) (ys ++ x ∷ []) found a n)
    at true (Err e) multi go = refl
    at true (Ok new) true go =
        lift_meant x new ms xs ys (update_from s (changed_with (xs ++ new ∷ []) true (counted a) (modified_by x new n)) (meant_of ms))
        (update_from s (changed_with (ys ++ new ∷ []) true (counted a) (modified_by x new n)) (all_of ms))
        (go (xs ++ new ∷ []) (ys ++ new ∷ []) true (counted a) (modified_by x new n))
    at true (Ok new) false go = record {
      next = meant new ∷ ms;
      found = true;
      matched = counted a;
      modified = modified_by x new n;
      among = ap (λ (ds : List Pairs). changed_with ds true (counted a) (modified_by x new n)) (append_assoc xs (new ∷ []) (meant_of ms));
      all = ap (λ (ds : List Pairs). changed_with ds true (counted a) (modified_by x new n)) (append_assoc ys (new ∷ []) (all_of ms));
      rest = refl;
    }

-- ---- a document that is made

record BothPlaced (ms : List Marked) (xs ys : List Pairs) : Type 0 where
  pub next : List Marked
  pub among : xs ≡ meant_of next
  pub all : ys ≡ all_of next
  pub rest : others_of next ≡ others_of ms

abbrev AlikePlaces : List Marked → Option (List Pairs) → Option (List Pairs) → Type 0
AlikePlaces ms (Some xs) (Some ys) = BothPlaced ms xs ys
AlikePlaces ms None None = Unit {0}
AlikePlaces ms (Some xs) None = ⊥
AlikePlaces ms None (Some ys) = ⊥

lift_meant_place : (x : Pairs) (ms : List Marked) (o p : Option (List Pairs)) → AlikePlaces ms o p
    → AlikePlaces (meant x ∷ ms) (option_map (λ later. x ∷ later) o) (option_map (λ later. x ∷ later) p)
lift_meant_place x ms (Some xs) (Some ys) h = record { next = meant x ∷ h.next; among = ap (cons x) h.among; all = ap (cons x) h.all; rest = h.rest }
lift_meant_place x ms None None h = tt
lift_meant_place x ms (Some xs) None h = h
lift_meant_place x ms None (Some ys) h = h

lift_other_place : (x : Pairs) (ms : List Marked) (o p : Option (List Pairs)) → AlikePlaces ms o p
    → AlikePlaces (other x ∷ ms) o (option_map (λ later. x ∷ later) p)
lift_other_place x ms (Some xs) (Some ys) h = record { next = other x ∷ h.next; among = h.among; all = ap (cons x) h.all; rest = ap (cons x) h.rest }
lift_other_place x ms None None h = tt
lift_other_place x ms (Some xs) None h = h
lift_other_place x ms None (Some ys) h = h

-- before those that are above it
placed_front : (new : Pairs) (ds : List Pairs) → Each (Above new) ds → place (key_of new) new ds ≡ Some (new ∷ ds)
placed_front new [] h = refl
placed_front new (d ∷ ds) h = ap (λ (r : Ordering). by_order r (Some (new ∷ d ∷ ds)) None (option_map (λ later. d ∷ later) (place (key_of new) new ds))) h.0

place_alike : (new : Pairs) (ms : List Marked) → Ascends (all_of ms) → Untied (others_of ms) (key_of new)
    → AlikePlaces ms (place (key_of new) new (meant_of ms)) (place (key_of new) new (all_of ms))
place_alike new [] up free = record { next = meant new ∷ []; among = refl; all = refl; rest = refl }
place_alike new (meant x ∷ ms) up free = at (compare (key_of new) (key_of x)) (place_alike new ms up.1 free)
  where
    at : (r : Ordering) → AlikePlaces ms (place (key_of new) new (meant_of ms)) (place (key_of new) new (all_of ms))
        → AlikePlaces (meant x ∷ ms) (by_order r (Some (new ∷ x ∷ meant_of ms)) None (option_map (λ later. x ∷ later) (place (key_of new) new (meant_of ms))))
        (by_order r (Some (new ∷ x ∷ all_of ms)) None (option_map (λ later. x ∷ later) (place (key_of new) new (all_of ms))))
    at orders.Less later = record { next = meant new ∷ meant x ∷ ms; among = refl; all = refl; rest = refl }
    at orders.Equal later = tt
    at orders.Greater later = lift_meant_place x ms (place (key_of new) new (meant_of ms)) (place (key_of new) new (all_of ms)) later
place_alike new (other x ∷ ms) up free = at (compare (key_of new) (key_of x)) refl (place_alike new ms up.1 free.1)
  where
    at : (r : Ordering) → compare (key_of new) (key_of x) ≡ r → AlikePlaces ms (place (key_of new) new (meant_of ms)) (place (key_of new) new (all_of ms))
        → AlikePlaces (other x ∷ ms) (place (key_of new) new (meant_of ms))
        (by_order r (Some (new ∷ x ∷ all_of ms)) None (option_map (λ later. x ∷ later) (place (key_of new) new (all_of ms))))
    at orders.Less is later =
        let front = placed_front new (meant_of ms) (Each-meant (Above new) ms (above_trans new x (all_of ms) is up.0)) in
        subst (λ (o : Option (List Pairs)). AlikePlaces (other x ∷ ms) o (Some (new ∷ x ∷ all_of ms))) (sym front)
        (record { next = meant new ∷ other x ∷ ms; among = refl; all = refl; rest = refl })
    at orders.Equal is later = absurd (let no = sym free.0 ∙ ap is_eq is in cc)
    at orders.Greater is later = lift_other_place x ms (place (key_of new) new (meant_of ms)) (place (key_of new) new (all_of ms)) later

-- ---- one statement

abbrev pub listed_with : List Pairs → ℕ → ℕ → Items → Listed
listed_with ds matched modified upserted = record { documents = ds; matched = matched; modified = modified; upserted = upserted }

pub record BothRun (ms : List Marked) (l m : Listed) : Type 0 where
  pub next : List Marked
  pub matched : ℕ
  pub modified : ℕ
  pub upserted : Items
  pub among : l ≡ listed_with (meant_of next) matched modified upserted
  pub all : m ≡ listed_with (all_of next) matched modified upserted
  pub rest : others_of next ≡ others_of ms
  pub rising : IsRising (all_of next)
  pub stored : All IsStored (all_of next)

abbrev pub RunsAlike : List Marked → Result Listed Refusal → Result Listed Refusal → Type 0
RunsAlike ms (Ok l) (Ok m) = BothRun ms l m
RunsAlike ms (Err e) (Err f) = e ≡ f
RunsAlike ms (Ok l) (Err f) = ⊥
RunsAlike ms (Err e) (Ok m) = ⊥

no_stored : All IsStored []
no_stored k d below = absurd (omega arith)

and_second : (a b : Bool) → (a && b) ≡ true → b ≡ true
and_second true b e = e
and_second false b e = absurd cc

module _ (i : ℕ) (s : UpdateStatement) (ms : List Marked) (a n : ℕ) (u : Items) (read : IsRead s.change) (rising : IsRising (all_of ms))
    (stored : All IsStored (all_of ms)) where
  abbrev few : Listed
  few = listed_with (meant_of ms) a n u

  abbrev whole : Listed
  whole = listed_with (all_of ms) a n u

  upsert_alike : s.upsert ≡ true → NoneIs (has_key_of (made_of s)) (others_of ms) → RunsAlike ms (upsert_listed i s few) (upsert_listed i s whole)
  upsert_alike makes none = at (upsert_document s) refl
    where
      untied : (new : Pairs) → upsert_document s ≡ Ok new → Untied (others_of ms) (key_of new)
      untied new is =
          let one : made_of s ≡ new ∷ [] = ap (λ (b : Bool). if b then one_or_none (upsert_document s) else []) makes ∙ ap one_or_none is in
          Each-map (λ x. has_key_of (new ∷ []) x ≡ false) (λ x. is_eq (compare (key_of new) (key_of x)) ≡ false) (others_of ms)
          (λ x e. or_first (is_eq (compare (key_of new) (key_of x))) false e)
          (subst (λ (ds : List Pairs). NoneIs (has_key_of ds) (others_of ms)) one none)

      placed : (new : Pairs) → upsert_document s ≡ Ok new → (o p : Option (List Pairs)) → place (key_of new) new (all_of ms) ≡ p → AlikePlaces ms o p
          → RunsAlike ms (or_refused o refusals.DuplicateKey >>= (λ ds. Ok (with_listed i new ds few)))
          (or_refused p refusals.DuplicateKey >>= (λ ds. Ok (with_listed i new ds whole)))
      placed new is None None at_place h = refl
      placed new is (Some xs) (Some ys) at_place h =
          let kept = subst (λ (ds : List Pairs). IsRising ds × All IsStored ds) h.all
          (kept_place (all_of ms) new ys (rising, stored) (upserted_stored s new is) at_place) in
          record {
            next = h.next;
            matched = counted a;
            modified = n;
            upserted = append_items u (item (document (upserted_entry i (key_of new))) no_items);
            among = ap (λ (ds : List Pairs). with_listed i new ds few) h.among;
            all = ap (λ (ds : List Pairs). with_listed i new ds whole) h.all;
            rest = h.rest;
            rising = kept.0;
            stored = kept.1;
          }
      placed new is (Some xs) None at_place h = absurd h
      placed new is None (Some ys) at_place h = absurd h

      at : (r : Result Pairs Refusal) → upsert_document s ≡ r
          → RunsAlike ms (r >>= (λ new. or_refused (place (key_of new) new (meant_of ms)) refusals.DuplicateKey >>= (λ ds. Ok (with_listed i new ds few))))
          (r >>= (λ new. or_refused (place (key_of new) new (all_of ms)) refusals.DuplicateKey >>= (λ ds. Ok (with_listed i new ds whole))))
      at (Err e) is = refl
      at (Ok new) is =
          placed new is (place (key_of new) new (meant_of ms)) (place (key_of new) new (all_of ms)) refl
          (place_alike new ms (ascends (all_of ms) rising) (untied new is))

  -- what is done once the documents that match are
  abbrev ends : Listed → Changed → Result Listed Refusal
  ends l changed = if not changed.found && s.upsert then upsert_listed i s l else Ok (listed_to l changed)

  pub run_alike : NoneIs (matches s.filter) (others_of ms) → NoneIs (has_key_of (made_of s)) (others_of ms)
      → RunsAlike ms (run_listed i s few) (run_listed i s whole)
  run_alike none free =
      at (update_from s (none_changed few) (meant_of ms)) (update_from s (none_changed whole) (all_of ms)) refl (from_alike s ms [] [] false a n none)
    where
      ended : (c d : Changed) → update_from s (none_changed whole) (all_of ms) ≡ Ok d → (h : BothChanged ms [] [] c d) (b : Bool)
          → (not h.found && s.upsert) ≡ b
          → RunsAlike ms (if b then upsert_listed i s few else Ok (listed_to few (changed_with (meant_of h.next) h.found h.matched h.modified)))
          (if b then upsert_listed i s whole else Ok (listed_to whole (changed_with (all_of h.next) h.found h.matched h.modified)))
      ended c d is h true makes = upsert_alike (and_second (not h.found) s.upsert makes) free
      ended c d is h false makes =
          let kept = from_kept s read (none_changed whole) (all_of ms) d no_stored stored refl is in
          let are : d.documents ≡ all_of h.next = ap (λ (x : Changed). x.documents) h.all in
          record {
            next = h.next;
            matched = h.matched;
            modified = h.modified;
            upserted = u;
            among = refl;
            all = refl;
            rest = h.rest;
            rising = subst IsRising are (SameKeys-rising d.documents (all_of ms) kept.0 rising);
            stored = subst (All IsStored) are kept.1;
          }

      at : (r t : Result Changed Refusal) → update_from s (none_changed whole) (all_of ms) ≡ t → AlikeChanged ms [] [] r t
          → RunsAlike ms (r >>= ends few) (t >>= ends whole)
      at (Ok c) (Ok d) is h =
          subst (λ (x : Changed). RunsAlike ms (ends few x) (ends whole d)) (sym h.among)
          (subst (λ (x : Changed). RunsAlike ms (ends few (changed_with (meant_of h.next) h.found h.matched h.modified)) (ends whole x)) (sym h.all)
          (ended c d is h (not h.found && s.upsert) refl))
      at (Err e) (Err f) is h = h
      at (Ok c) (Err f) is h = absurd h
      at (Err e) (Ok d) is h = absurd h

-- ---- statement after statement

from_next : (ms next : List Marked) (r t : Result Listed Refusal) → others_of next ≡ others_of ms → RunsAlike next r t → RunsAlike ms r t
from_next ms next (Ok l) (Ok m) same h = record {
  next = h.next;
  matched = h.matched;
  modified = h.modified;
  upserted = h.upserted;
  among = h.among;
  all = h.all;
  rest = h.rest ∙ same;
  rising = h.rising;
  stored = h.stored;
}
from_next ms next (Err e) (Err f) same h = h
from_next ms next (Ok l) (Err f) same h = h
from_next ms next (Err e) (Ok m) same h = h

-- what no statement means, the first doesn't, nor do the later ones
module _ (s : UpdateStatement) (ss : List UpdateStatement) (xs : List Pairs) where
  pub first_unmatched : NoneIs (is_updated (s ∷ ss)) xs → NoneIs (matches s.filter) xs
  first_unmatched none =
      Each-map (λ x. is_updated (s ∷ ss) x ≡ false) (λ x. matches s.filter x ≡ false) xs (λ x e. or_first (matches s.filter x) (is_updated ss x) e) none

  pub later_unmatched : NoneIs (is_updated (s ∷ ss)) xs → NoneIs (is_updated ss) xs
  later_unmatched none =
      Each-map (λ x. is_updated (s ∷ ss) x ≡ false) (λ x. is_updated ss x ≡ false) xs (λ x e. or_second (matches s.filter x) (is_updated ss x) e) none

  both : (x : Pairs) → has_key_of (made_of s ++ made_by ss) x ≡ (has_key_of (made_of s) x || has_key_of (made_by ss) x)
  both x = list_any-append (λ d. is_eq (compare (key_of d) (key_of x))) (made_of s) (made_by ss)

  pub first_free : NoneIs (has_key_of (made_by (s ∷ ss))) xs → NoneIs (has_key_of (made_of s)) xs
  first_free free =
      Each-map (λ x. has_key_of (made_by (s ∷ ss)) x ≡ false) (λ x. has_key_of (made_of s) x ≡ false) xs
      (λ x e. or_first (has_key_of (made_of s) x) (has_key_of (made_by ss) x) (sym (both x) ∙ e)) free

  pub later_free : NoneIs (has_key_of (made_by (s ∷ ss))) xs → NoneIs (has_key_of (made_by ss)) xs
  later_free free =
      Each-map (λ x. has_key_of (made_by (s ∷ ss)) x ≡ false) (λ x. has_key_of (made_by ss) x ≡ false) xs
      (λ x e. or_second (has_key_of (made_of s) x) (has_key_of (made_by ss) x) (sym (both x) ∙ e)) free

each_alike : (i : ℕ) (ss : List UpdateStatement) (ms : List Marked) (a n : ℕ) (u : Items) → All (λ (s : UpdateStatement). IsRead s.change) ss
    → IsRising (all_of ms) → All IsStored (all_of ms)
    → NoneIs (is_updated ss) (others_of ms) → NoneIs (has_key_of (made_by ss)) (others_of ms)
    → RunsAlike ms (run_each i ss (listed_with (meant_of ms) a n u)) (run_each i ss (listed_with (all_of ms) a n u))
each_alike i [] ms a n u read rising stored none free = record {
  next = ms;
  matched = a;
  modified = n;
  upserted = u;
  among = refl;
  all = refl;
  rest = refl;
  rising = rising;
  stored = stored;
}
each_alike i (s ∷ ss) ms a n u read rising stored none free =
    at (run_listed i s (listed_with (meant_of ms) a n u)) (run_listed i s (listed_with (all_of ms) a n u))
    (run_alike i s ms a n u (read 0 s (omega arith)) rising stored (first_unmatched s ss (others_of ms) none) (first_free s ss (others_of ms) free))
    (λ next k l v up kept same. each_alike (suc i) ss next k l v (λ j d below. read (suc j) d (omega arith)) up kept
    (subst (NoneIs (is_updated ss)) (sym same) (later_unmatched s ss (others_of ms) none))
    (subst (NoneIs (has_key_of (made_by ss))) (sym same) (later_free s ss (others_of ms) free)))
  where
    at : (r t : Result Listed Refusal) → RunsAlike ms r t
        → ((next : List Marked) (k l : ℕ) (v : Items) → IsRising (all_of next) → All IsStored (all_of next) → others_of next ≡ others_of ms
        → RunsAlike next (run_each (suc i) ss (listed_with (meant_of next) k l v)) (run_each (suc i) ss (listed_with (all_of next) k l v)))
        → RunsAlike ms (r >>= run_each (suc i) ss) (t >>= run_each (suc i) ss)
    at (Ok l) (Ok m) h go =
        let few = listed_with (meant_of h.next) h.matched h.modified h.upserted in
        let whole = listed_with (all_of h.next) h.matched h.modified h.upserted in
        subst (λ (x : Listed). RunsAlike ms (run_each (suc i) ss x) (run_each (suc i) ss m)) (sym h.among)
        (subst (λ (x : Listed). RunsAlike ms (run_each (suc i) ss few) (run_each (suc i) ss x)) (sym h.all)
        (from_next ms h.next (run_each (suc i) ss few) (run_each (suc i) ss whole) h.rest (go h.next h.matched h.modified h.upserted h.rising h.stored h.rest)))
    at (Err e) (Err f) h go = h
    at (Ok l) (Err f) h go = absurd h
    at (Err e) (Ok m) h go = absurd h

-- ---- all of them

module _ (ss : List UpdateStatement) (ds : List Pairs) (read : All (λ (s : UpdateStatement). IsRead s.change) ss) (rising : IsRising ds)
    (stored : All IsStored ds) where
  abbrev marks : List Marked
  marks = mark (is_meant ss) ds

  abbrev among : List Pairs
  among = filter (is_meant ss) ds

  all : all_of marks ≡ ds
  all = mark_all (is_meant ss) ds

  pub none_updated : NoneIs (is_updated ss) (others_of marks)
  none_updated =
      Each-map (λ x. is_meant ss x ≡ false) (λ x. is_updated ss x ≡ false) (others_of marks) (λ x e. or_first (is_updated ss x) (has_key_of (made_by ss) x) e)
      (mark_others (is_meant ss) ds)

  pub none_made : NoneIs (has_key_of (made_by ss)) (others_of marks)
  none_made = Each-map (λ x. is_meant ss x ≡ false) (λ x. has_key_of (made_by ss) x ≡ false) (others_of marks)
      (λ x e. or_second (is_updated ss x) (has_key_of (made_by ss) x) e) (mark_others (is_meant ss) ds)

  runs : RunsAlike marks (run_each 0 ss (listed_with among 0 0 no_items)) (run_each 0 ss (listed_with ds 0 0 no_items))
  runs =
      let here = each_alike 0 ss marks 0 0 no_items read (subst IsRising (sym all) rising) (subst (All IsStored) (sym all) stored) none_updated none_made in
      subst (λ (xs : List Pairs). RunsAlike marks (run_each 0 ss (listed_with among 0 0 no_items)) (run_each 0 ss (listed_with xs 0 0 no_items))) all
      (subst (λ (xs : List Pairs). RunsAlike marks (run_each 0 ss (listed_with xs 0 0 no_items)) (run_each 0 ss (listed_with (all_of marks) 0 0 no_items)))
      (mark_meant (is_meant ss) ds) here)

  -- What is refused on those that are meant is refused on all.
  pub refused_alike : (e : Refusal) → run_each 0 ss (listed_with among 0 0 no_items) ≡ Err e → run_each 0 ss (listed_with ds 0 0 no_items) ≡ Err e
  refused_alike e is =
      at (run_each 0 ss (listed_with ds 0 0 no_items))
      (subst (λ (r : Result Listed Refusal). RunsAlike marks r (run_each 0 ss (listed_with ds 0 0 no_items))) is runs)
    where
      at : (t : Result Listed Refusal) → RunsAlike marks (Err e) t → t ≡ Err e
      at (Ok m) h = absurd h
      at (Err f) h = ap (λ (x : Refusal). Err x) (sym h)

  -- What the statements make of those that are meant, put among all, is what they make of all.
  pub done_alike : (news : List Pairs) (l : Listed) → run_each 0 ss (listed_with among 0 0 no_items) ≡ Ok l → put_each news among ≡ l.documents
      → run_each 0 ss (listed_with ds 0 0 no_items) ≡ Ok (record l { documents = put_each news ds })
  done_alike news l is puts =
      at (run_each 0 ss (listed_with ds 0 0 no_items))
      (subst (λ (r : Result Listed Refusal). RunsAlike marks r (run_each 0 ss (listed_with ds 0 0 no_items))) is runs)
    where
      at : (t : Result Listed Refusal) → RunsAlike marks (Ok l) t → t ≡ Ok (record l { documents = put_each news ds })
      at (Err f) h = absurd h
      at (Ok m) h =
          let made : put_each news (meant_of marks) ≡ meant_of h.next =
          ap (put_each news) (mark_meant (is_meant ss) ds) ∙ puts ∙ ap (λ (x : Listed). x.documents) h.among in
          let lead = puts_lead news marks h.next (ascends (all_of marks) (subst IsRising (sym all) rising)) (ascends (all_of h.next) h.rising) h.rest made in
          let whole : put_each news ds ≡ all_of h.next = ap (put_each news) (sym all) ∙ lead in
          let kept : record l { documents = put_each news ds } ≡ listed_with (put_each news ds) h.matched h.modified h.upserted =
          ap (λ (x : Listed). record x { documents = put_each news ds }) h.among in
          ap (λ (x : Listed). Ok x) (h.all ∙ ap (λ (xs : List Pairs). listed_with xs h.matched h.modified h.upserted) (sym whole) ∙ sym kept)
