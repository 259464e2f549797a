-- What is live stays: a part of a tree in a store is one in every later store.
use Rattle.std.proofs.Common.{◌≡◌, ℕ, zero, suc, ◌+◌, List, [], ◌∷◌, ◌++◌, drop, append_assoc, Option, Result, Ok, Err, refl, subst, sym, ap, ◌∙◌, arith}
use Rattle.std.proofs.Common.{◌<◌, ◌≤◌, ◌⊎◌, inl, inr}
use Rattle.std.specs.Result.{IfErr, IsErrAnd}
use Rattle.page.specs.Content.{Content}
use Rattle.page.proofs.Moments.{reads_further, reads_nothing}
use Rattle.tree_model.specs.Keys.{times}
use Rattle.std.proofs.lemmas.Bool.{cases_lt}
use Rattle.tree_model.specs.Store.{Store, CountsReads, Frame, Grows, HasCause, HasFailed, IsMade, IsRetired, IsSame, KeepsWord, Stays, flag}
use Rattle.tree_model.specs.Tree.{Body, Shows, HasLinks}
use Rattle.tree_model.specs.Calls.{IsAnswer, IsPart}
use Rattle.tree_model.specs.declared.pages.TreeFault.{TreeFault}
use Rattle.tree_model.specs.declared.pages.TreeFault.TheVariants as faults
use Rattle.tree_model.proofs.ListLemmas.{each_map}

-- ---- what no call changes

pub stays_itself : (s : Store) → Stays s s
stays_itself s = record { base = refl; reads = reads_nothing s.history }

pub stays_trans : (a b c : Store) → Stays a b → Stays b c → Stays a c
stays_trans a b c h g = record { base = g.base ∙ h.base; reads = reads_further a.history b.history c.history h.reads g.reads }

-- ---- failed reads

-- no read failed
pub counts_same : (old new : Store) → new.failed_reads ≡ old.failed_reads → new.history.failures ≡ old.history.failures → CountsReads old new
counts_same old new reads failures = record {
  rises = omega (arith, reads);
  paced = omega (arith, reads, failures);
  counted = λ more. absurd (omega (arith, more, failures));
}

-- a count that rose as often as no read failed would be too high; one that is at its greatest value stays there
pub counts_trans : (a b c : Store) → a.history.failures ≤ b.history.failures → b.history.failures ≤ c.history.failures → CountsReads a b → CountsReads b c
    → CountsReads a c
counts_trans a b c fails fails_on h g = record {
  rises = omega (arith, h.rises, g.rises);
  paced = omega (arith, h.paced, g.paced);
  counted = λ more. elim (cases_lt a.history.failures b.history.failures) [
    | inl first ↦ told_first (h.counted first)
    | inr none ↦ told_last (g.counted (omega (arith, none, more)))
  ];
}
  where
    told_first : (a.failed_reads < b.failed_reads) ⊎ (b.failed_reads ≡ 18446744073709551615)
        → (a.failed_reads < c.failed_reads) ⊎ (c.failed_reads ≡ 18446744073709551615)
    told_first (inl more) = inl (omega (arith, more, g.rises))
    told_first (inr most) =
        elim (cases_lt b.failed_reads c.failed_reads) [
          | inl more ↦ inl (omega (arith, more, h.rises))
          | inr none ↦ inr (omega (arith, none, most, g.rises))
        ]

    told_last : (b.failed_reads < c.failed_reads) ⊎ (c.failed_reads ≡ 18446744073709551615)
        → (a.failed_reads < c.failed_reads) ⊎ (c.failed_reads ≡ 18446744073709551615)
    told_last (inl more) = inl (omega (arith, more, h.rises))
    told_last (inr most) = inr most

-- ---- nothing made, nothing retired

pub same_itself : (s : Store) → KeepsWord s → IsSame s s
same_itself s k = record {
  word = k;
  page = refl;
  live = refl;
  made = refl;
  retired = refl;
  failures = omega arith;
  failed_allocations = omega arith;
  counts = counts_same s s refl refl;
}

pub same_trans : (a b c : Store) → IsSame a b → IsSame b c → IsSame a c
same_trans a b c h g =
    record {
      word = h.word;
      page = g.page ∙ h.page;
      live = g.live ∙ h.live;
      made = g.made ∙ h.made;
      retired = g.retired ∙ h.retired;
      failures = omega (arith, h.failures, g.failures);
      failed_allocations = omega (arith, h.failed_allocations, g.failed_allocations);
      counts = counts_trans a b c h.failures g.failures h.counts g.counts;
    }

-- ---- the frame

pub frame_same : (old new : Store) → IsSame old new → Frame old new
frame_same old new h =
    record {
      word = h.word;
      kept = λ n content a. record { number = a.number; live = ap (λ f. f n) h.live ∙ a.live; holds = ap (λ f. f n) h.page ∙ a.holds };
      made = λ n. ap (λ xs. times n xs + flag (old.live n)) h.made ∙ ap (λ f. times n old.made + flag (f n)) (sym h.live);
      made_on = ([], h.made);
      retired_on = ([], h.retired);
      failures = h.failures;
      failed_allocations = h.failed_allocations;
      counts = h.counts;
    }

-- more, and more again
on_further : (a b c : List ℕ) → (more : List ℕ) × (b ≡ more ++ a) → (more : List ℕ) × (c ≡ more ++ b) → (more : List ℕ) × (c ≡ more ++ a)
on_further a b c (first, b_is) (later, c_is) = (later ++ first, c_is ∙ ap (λ xs. later ++ xs) b_is ∙ sym (append_assoc later first a))

pub frame_trans : (a b c : Store) → Frame a b → Frame b c → Frame a c
frame_trans a b c h g =
    record {
      word = h.word;
      kept = λ n content at. g.kept n content (h.kept n content at);
      made = λ n. omega (arith, h.made n, g.made n);
      made_on = on_further a.made b.made c.made h.made_on g.made_on;
      retired_on = on_further a.retired b.retired c.retired h.retired_on g.retired_on;
      failures = omega (arith, h.failures, g.failures);
      failed_allocations = omega (arith, h.failed_allocations, g.failed_allocations);
      counts = counts_trans a b c h.failures g.failures h.counts g.counts;
    }

pub frame_itself : (s : Store) → KeepsWord s → Frame s s
frame_itself s k = frame_same s s (same_itself s k)

pub grows_same : (old new : Store) → Stays old new → (KeepsWord new → IsSame old new) → Grows old new
grows_same old new stays h = record { stays = stays; frame = λ k. frame_same old new (h k) }

pub grows_trans : (a b c : Store) → Grows a b → Grows b c → Grows a c
grows_trans a b c h g = record { stays = stays_trans a b c h.stays g.stays; frame = λ k. frame_trans a b c (h.frame (g.frame k).word) (g.frame k) }

pub grows_itself : (s : Store) → Grows s s
grows_itself s = record { stays = stays_itself s; frame = frame_itself s }

-- what the pages promise
pub grows_made : (old new : Store) (n : ℕ) (content : Content) → Stays old new → (KeepsWord new → IsMade old new n content) → Grows old new
grows_made old new n content stays h = record { stays = stays; frame = λ k. (h k).frame }

pub grows_retired : (old new : Store) (n : ℕ) → Stays old new → (KeepsWord new → IsRetired old new n) → Grows old new
grows_retired old new n stays h = record { stays = stays; frame = λ k. (h k).frame }

pub grows_failed : (old new : Store) (e : TreeFault) → Stays old new → (KeepsWord new → HasFailed old new e) → Grows old new
grows_failed old new e stays h = record { stays = stays; frame = λ k. frame_same old new (h k).same }

pub links_kept : (old new : Store) → Frame old new → (pages bytes : List ℕ) → HasLinks old pages bytes → HasLinks new pages bytes
links_kept old new g [] bytes h = h
links_kept old new g (page ∷ pages) bytes h = (h.0, g.kept page _ h.1, links_kept old new g pages (drop 4076 bytes) h.2)

pub shows_kept : (old new : Store) → Frame old new → (d : ℕ) (body : Body d) → Shows old d body → Shows new d body
shows_kept old new g zero pairs h = each_map _ _ (λ x c long. links_kept old new g x.links x.value (c long)) pairs h
shows_kept old new g (suc d) subtrees h = each_map _ _ (λ w s. (g.kept w.page _ s.0, shows_kept old new g d w.body s.1)) subtrees h

pub part_kept : (old new : Store) → Frame old new → (page level d : ℕ) (low : List ℕ) (high : Option (List ℕ)) (body : Body d)
    → IsPart old page level d low high body → IsPart new page level d low high body
part_kept old new g page level d low high body p =
    record { at = g.kept page _ p.at; shown = shows_kept old new g d body p.shown; whole = p.whole; sound = p.sound; depth = p.depth }

-- ---- faults

pub cause_later : (old mid new : Store) (e : TreeFault) → Frame old mid → HasCause mid new e → HasCause old new e
cause_later old mid new faults.Memory g h = tt
cause_later old mid new faults.Device g h = omega (arith, g.failures)
cause_later old mid new faults.Full g (inl h) = inl (omega (arith, g.failed_allocations))
cause_later old mid new faults.Full g (inr h) = inr h
cause_later old mid new faults.Kind g h = h
cause_later old mid new faults.Number g h = h
cause_later old mid new faults.Order g h = h
cause_later old mid new faults.Length g h = h

pub memory_cause : (old new : Store) (e : TreeFault) → e ≡ faults.Memory → HasCause old new e
memory_cause old new e is = subst (HasCause old new) (sym is) tt

-- a fault that was handed on
pub answer_failed : {X : Type 0} (old new : Store) (P : X → Type 0) (r : Result X TreeFault) (f : TreeFault) → IsErrAnd r (λ g. g ≡ f) → HasCause old new f
    → IsAnswer old new P r
answer_failed old new P (Ok v) f h c = absurd h
answer_failed old new P (Err g) f h c = subst (HasCause old new) (sym h) c

pub failed_so : {X : Type 0} (old new : Store) (r : Result X TreeFault) (f : TreeFault) → IsErrAnd r (λ g. g ≡ f) → HasCause old new f
    → IfErr r (HasCause old new)
failed_so old new (Ok v) f h c = absurd h
failed_so old new (Err g) f h c = subst (HasCause old new) (sym h) c
