-- What a delete leaves of documents keeps what was kept of them.
use Rattle.std.proofs.Common.{◌≡◌, ◌⊎◌, inl, inr, ℕ, zero, suc, ◌-◌, ◌<◌, ◌≤◌, Bool, true, false, List, [], ◌∷◌, length, get_or, set, remove, Option, Some}
use Rattle.std.proofs.Common.{None, refl, sym, ap, subst, ◌∙◌, arith}
use Rattle.std.specs.Prelude.{not, if◌then◌else◌, All}
use Rattle.std.specs.List.{AllPairs, filter, position}
use Rattle.std.specs.Cmp.Lexicographic.{slice_cmp}
use Rattle.std.specs.Ordering.{nat_cmp}
use Rattle.std.proofs.lemmas.Cmp.{nat_list_cmp_total}
use Rattle.std.proofs.lemmas.Map.Lookups.{exact_bytes}
use Rattle.std.proofs.lemmas.List.{length-set}
use Rattle.std.proofs.lemmas.List.Elements.{All-cons, All-filter, All-set}
use Rattle.std.proofs.lemmas.List.Kept.{AllPairs-filter}
use Rattle.std.proofs.lemmas.List.Quantifiers.{all_pairs_remove, position-Some}
use Rattle.bson.specs.Tree.{Pairs, no_pairs}
use Rattle.filter.specs.Matches.{matches}
use Rattle.bson.specs.Lawful.{IsDocument}
use Rattle.value_order.specs.Order.{compare}
use Rattle.std.specs.declared.cmp.Ordering.TheVariants as orders
use Rattle.entry_model.specs.State.{Collection, find_collection}
use Rattle.database_model.specs.Documents.{key_of}
use Rattle.database_model.specs.Lawful.{IsStored, IsHeld, IsKept, IsLawfulState}
use Rattle.entry_model.specs.LawfulState.{AreNamedApart}
use Rattle.database_model.proofs.Ordered.{missing, found, replaced}
use Rattle.database_model.proofs.Located.{Gap, There, located}
use Rattle.statements.proofs.NamesApart.{apart_set}
use Rattle.database_model.proofs.Numbers.{numbers_set}
use Rattle.database_model.specs.Places.{collection_at, no_collection, IsThere}
use Rattle.database_model.specs.Delete.{deleted_in, without_at, without_first, after_deletion, after_deletions}
use Rattle.command_model.specs.Delete.{Deletion}

pub All-remove : {X : Type 0} (P : X → Type 0) (xs : List X) (i : ℕ) → All P xs → All P (remove xs i)
All-remove P [] zero h = h
All-remove P [] (suc i) h = h
All-remove P (x ∷ xs) zero h = λ k d below. h (suc k) d (omega arith)
All-remove P (x ∷ xs) (suc i) h = All-cons P x (remove xs i) (h 0 x (omega arith)) (All-remove P xs i (λ k d below. h (suc k) d (omega arith)))

-- ---- what holds of each document

without_kept : {X : Type 0} (P : X → Type 0) (o : Option ℕ) (xs : List X) → All P xs → All P (without_at o xs)
without_kept P None xs h = h
without_kept P (Some i) xs h = All-remove P xs i h

by_kept : (P : Pairs → Type 0) (d : Deletion) (ds : List Pairs) → All P ds → All P (after_deletion d ds)
by_kept P d ds h = at d.only_first
  where
    at : (b : Bool) → All P (if b then without_first (matches d.filter) ds else filter (λ ps. not (matches d.filter ps)) ds)
    at true = without_kept P (position (matches d.filter) ds) ds h
    at false = All-filter (λ ps. not (matches d.filter ps)) P ds h

pub left_kept : (P : Pairs → Type 0) (deletions : List Deletion) (ds : List Pairs) → All P ds → All P (after_deletions deletions ds)
left_kept P [] ds h = h
left_kept P (d ∷ rest) ds h = left_kept P rest (after_deletion d ds) (by_kept P d ds h)

-- ---- what holds of each document and each later one

without_apart : {X : Type 0} (R : X → X → Type 0) (o : Option ℕ) (xs : List X) → ((i : ℕ) → o ≡ Some i → i < length xs) → AllPairs R xs
    → AllPairs R (without_at o xs)
without_apart R None xs within h = h
without_apart R (Some i) xs within h = all_pairs_remove R xs i (within i refl) h

by_apart : (R : Pairs → Pairs → Type 0) (d : Deletion) (ds : List Pairs) → AllPairs R ds → AllPairs R (after_deletion d ds)
by_apart R d ds h = at d.only_first
  where
    at : (b : Bool) → AllPairs R (if b then without_first (matches d.filter) ds else filter (λ ps. not (matches d.filter ps)) ds)
    at true = without_apart R (position (matches d.filter) ds) ds (λ i e. (position-Some (matches d.filter) ds i no_pairs e).0) h
    at false = AllPairs-filter R (λ ps. not (matches d.filter ps)) ds h

pub left_apart : (R : Pairs → Pairs → Type 0) (deletions : List Deletion) (ds : List Pairs) → AllPairs R ds → AllPairs R (after_deletions deletions ds)
left_apart R [] ds h = h
left_apart R (d ∷ rest) ds h = left_apart R rest (after_deletion d ds) (by_apart R d ds h)

-- ---- as many documents as before are those from before

-- not more than these, and these where it is as many
record IsLess {X : Type 0} (less xs : List X) : Type 0 where
  most : length less ≤ length xs
  same : length less ≡ length xs → less ≡ xs

filter_less : {X : Type 0} (p : X → Bool) (xs : List X) → IsLess (filter p xs) xs
filter_less p [] = record { most = omega arith; same = λ e. refl }
filter_less {X} p (x ∷ xs) = at (p x) refl (filter_less p xs)
  where
    at : (b : Bool) → p x ≡ b → IsLess (filter p xs) xs → IsLess (filter p (x ∷ xs)) (x ∷ xs)
    at true e later = rw e (record { most = omega (arith, later.most); same = λ f. ap (λ (ys : List X). x ∷ ys) (later.same (omega (arith, f))) })
    at false e later = rw e (record { most = omega (arith, later.most); same = λ f. absurd (omega (arith, f, later.most)) })

remove_less : {X : Type 0} (xs : List X) (i : ℕ) → IsLess (remove xs i) xs
remove_less [] zero = record { most = omega arith; same = λ e. refl }
remove_less [] (suc i) = record { most = omega arith; same = λ e. refl }
remove_less (x ∷ xs) zero = record { most = omega arith; same = λ e. absurd (omega (arith, e)) }
remove_less {X} (x ∷ xs) (suc i) =
    let later = remove_less xs i in
    record { most = omega (arith, later.most); same = λ e. ap (λ (ys : List X). x ∷ ys) (later.same (omega (arith, e))) }

without_less : {X : Type 0} (o : Option ℕ) (xs : List X) → IsLess (without_at o xs) xs
without_less None xs = record { most = omega arith; same = λ e. refl }
without_less (Some i) xs = remove_less xs i

by_less : (d : Deletion) (ds : List Pairs) → IsLess (after_deletion d ds) ds
by_less d ds = at d.only_first
  where
    at : (b : Bool) → IsLess (if b then without_first (matches d.filter) ds else filter (λ ps. not (matches d.filter ps)) ds) ds
    at true = without_less (position (matches d.filter) ds) ds
    at false = filter_less (λ ps. not (matches d.filter ps)) ds

left_less : (deletions : List Deletion) (ds : List Pairs) → IsLess (after_deletions deletions ds) ds
left_less [] ds = record { most = omega arith; same = λ e. refl }
left_less (d ∷ rest) ds =
    let first = by_less d ds in
    let later = left_less rest (after_deletion d ds) in
    record {
      most = omega (arith, first.most, later.most);
      same = λ e. later.same (omega (arith, e, first.most, later.most)) ∙ first.same (omega (arith, e, first.most, later.most));
    }

pub left_most : (deletions : List Deletion) (ds : List Pairs) → length (after_deletions deletions ds) ≤ length ds
left_most deletions ds = (left_less deletions ds).most

pub left_same : (deletions : List Deletion) (ds : List Pairs) → length ds - length (after_deletions deletions ds) ≡ 0 → after_deletions deletions ds ≡ ds
left_same deletions ds e =
    let l = left_less deletions ds in
    l.same (omega (arith, e, l.most))

-- ---- a collection loses documents

pub cut_held : (c : Collection) (deletions : List Deletion) → IsHeld c → IsHeld (record c { documents = after_deletions deletions c.documents })
cut_held c deletions h = record {
  lawful = record {
    rising = left_apart (λ d e. compare (key_of d) (key_of e) ≡ orders.Less) deletions c.documents h.lawful.rising;
    stored = left_kept IsStored deletions c.documents h.lawful.stored;
  };
  readable = record { name = h.readable.name; documents = left_kept IsDocument deletions c.documents h.readable.documents };
}

-- what a delete makes of the collection that stands there
loses : (name : List ℕ) (deletions : List Deletion) (cs : List Collection) (at : ℕ) (there : IsThere name cs at)
    → deleted_in (find_collection cs name) deletions cs
    ≡ set cs at (record (collection_at cs at) { documents = after_deletions deletions (collection_at cs at).documents })
loses name deletions cs at there =
    ap (λ (o : Option Collection). deleted_in o deletions cs) there.found
    ∙ there.replaced (record (collection_at cs at) { documents = after_deletions deletions (collection_at cs at).documents }) there.named

pub there_at : (cs : List Collection) (name : List ℕ) (i : ℕ) → AreNamedApart cs → i < length cs
    → ((d : Collection) → slice_cmp nat_cmp (get_or cs i d).name name ≡ orders.Equal) → IsThere name cs i
there_at cs name i apart within same = record {
  within = within;
  named = exact_bytes (collection_at cs i).name name (same no_collection);
  found = found cs i name apart within (same no_collection);
  replaced = λ c e. replaced cs i name c apart within (same no_collection) e;
}

-- what a delete leaves of lawful collections is lawful
pub deleted_lawful : (cs : List Collection) (name : List ℕ) (deletions : List Deletion) → IsLawfulState cs
    → IsLawfulState (deleted_in (find_collection cs name) deletions cs)
deleted_lawful cs name deletions h = at (located nat_list_cmp_total (λ (c : Collection). c.name) cs name h.apart)
  where
    at : Gap (slice_cmp nat_cmp) (λ (c : Collection). c.name) cs name ⊎ There (slice_cmp nat_cmp) (λ (c : Collection). c.name) cs name
        → IsLawfulState (deleted_in (find_collection cs name) deletions cs)
    at (inl g) = subst (λ (o : Option Collection). IsLawfulState (deleted_in o deletions cs)) (sym (missing cs g.0 name g.1)) h
    at (inr t) =
        let there = there_at cs name t.place h.apart t.within t.same in
        let less : Collection = record (collection_at cs t.place) { documents = after_deletions deletions (collection_at cs t.place).documents } in
        let kept = h.kept t.place no_collection t.within in
        let one : IsKept less = record {
          lawful = record {
            rising = left_apart (λ d e. compare (key_of d) (key_of e) ≡ orders.Less) deletions (collection_at cs t.place).documents kept.lawful.rising;
            stored = left_kept IsStored deletions (collection_at cs t.place).documents kept.lawful.stored;
          };
          short = kept.short;
          least = kept.least;
          most = kept.most;
          indexes = kept.indexes;
        } in
        subst IsLawfulState (sym (loses name deletions cs t.place there)) (record {
          apart = apart_set cs t.place less t.within refl h.apart;
          numbers = numbers_set cs t.place less t.within refl h.numbers;
          kept = All-set IsKept cs t.place less one h.kept;
          few = omega (arith, length-set cs t.place less, h.few);
        })
