-- Lawful collections stay so with one of them put in place of another, and with the indexes of one made or dropped.
use Rattle.std.proofs.Common.{◌≡◌, ◌⊎◌, inl, inr, ℕ, ◌<◌, ◌≤◌, Bool, true, false, List, length, set}
use Rattle.std.proofs.Common.{insert, Option, Some, None, Result, Ok, refl, sym, ap, subst, ◌∙◌, arith}
use Rattle.std.specs.Prelude.{◌&&◌, not, is_some, nat_le, All}
use Rattle.std.specs.Cmp.Lexicographic.{slice_cmp}
use Rattle.std.specs.Ordering.{nat_cmp}
use Rattle.std.proofs.lemmas.Bool.Decides.{nat_tests}
use Rattle.std.proofs.lemmas.Cmp.{nat_list_cmp_total}
use Rattle.std.proofs.lemmas.List.{length-set}
use Rattle.std.proofs.lemmas.List.Edits.{length-insert}
use Rattle.std.proofs.lemmas.List.Elements.{All-set}
use Rattle.std.proofs.lemmas.Map.Lookups.{exact_bytes}
use Rattle.database_model.specs.World.{collection_of, unused, number_or, documents_of, documents_or_none}
use Rattle.entry_model.specs.State.{Collection, find_collection, uses, put_collection}
use Rattle.entry_model.proofs.PlaceLemmas.{found_name}
use Rattle.outcome.specs.Outcome.{◌>>=◌}
use Rattle.statements.proofs.KeptLemmas.{stored_at}
use Rattle.command_model.specs.NewIndex.{IsShortNewIndex, NewIndex}
use Rattle.database_model.specs.CreateIndexes.{indexed, with_new_indexes}
use Rattle.index_list.proofs.NewIndexLemmas.{with_new_indexes_more, with_new_indexes_short}
use Rattle.command_model.specs.DropIndexes.{DroppedIndexes}
use Rattle.database_model.specs.DropIndexes.{dropped_in, index_dropped, left_by, without_indexes}
use Rattle.database_model.proofs.ShortIndexes.{left_short, short_at}
use Rattle.database_model.specs.Lawful.{IsStored, IsKept, IsLawfulState}
use Rattle.entry_model.specs.LawfulState.{AreNamedApart, AreNumberedApart, IsRising}
use Rattle.database_model.specs.Places.{collection_at, no_collection}
use Rattle.database_model.specs.Insert.{is_full}
use Rattle.path.specs.declared.refusal.Refusal.{Refusal}
use Rattle.path.specs.declared.refusal.Refusal.TheVariants as refusals
use Rattle.command_model.specs.OutcomeLaws.{step_of, passed}
use Rattle.database_model.proofs.Located.{Gap, There, located}
use Rattle.database_model.proofs.Ordered.{Rises, rises_insert, All-inserted, missing, found, added, replaced}
use Rattle.database_model.proofs.Numbers.{found_kept, unused_unused, number_bounds, numbers_set, numbers_insert}
use Rattle.statements.proofs.NamesApart.{apart_set}

-- ---- collections

abbrev ByName : List Collection → Type 0
ByName cs = Rises (slice_cmp nat_cmp) (λ (c : Collection). c.name) cs

pub room : (cs : List Collection) (name : List ℕ) → is_full cs name ≡ false → find_collection cs name ≡ None → length cs < 1000
room cs name e none = at (nat_le 1000 (length cs)) refl (ap (λ (o : Option Collection). nat_le 1000 (length cs) && not (is_some o)) (sym none) ∙ e)
  where
    at : (b : Bool) → nat_le 1000 (length cs) ≡ b → (b && true) ≡ false → length cs < 1000
    at true full e = absurd cc
    at false few e = grind (arith, nat_tests)

pub put_kept : (new : Collection) (cs : List Collection) → IsLawfulState cs → IsKept new → is_full cs new.name ≡ false
    → new.number ≡ number_or (unused cs) (find_collection cs new.name) → IsLawfulState (put_collection new cs)
put_kept new cs h one free numbered = at (located nat_list_cmp_total (λ (c : Collection). c.name) cs new.name h.apart)
  where
    at : Gap (slice_cmp nat_cmp) (λ (c : Collection). c.name) cs new.name ⊎ There (slice_cmp nat_cmp) (λ (c : Collection). c.name) cs new.name
        → IsLawfulState (put_collection new cs)
    at (inl g) =
        let put : put_collection new cs ≡ insert cs g.0 new = added cs g.0 new.name new g.1 refl in
        let none = missing cs g.0 new.name g.1 in
        let less = room cs new.name free none in
        let fresh : uses cs new.number ≡ false = ap (uses cs) (numbered ∙ ap (number_or (unused cs)) none) ∙ unused_unused cs in
        record {
          apart = subst AreNamedApart (sym put) (rises_insert nat_list_cmp_total (λ (c : Collection). c.name) cs g.0 new h.apart g.1);
          numbers = subst AreNumberedApart (sym put) (numbers_insert cs g.0 new g.1.within fresh h.numbers);
          kept = subst (λ (ds : List Collection). All IsKept ds) (sym put) (All-inserted IsKept cs g.0 new g.1.within h.kept one);
          few = omega (arith, ap length put, length-insert cs g.0 new g.1.within);
        }
    at (inr t) =
        let put : put_collection new cs ≡ set cs t.place new = replaced cs t.place new.name new h.apart t.within (t.same no_collection) refl in
        let same : new.name ≡ (collection_at cs t.place).name = sym (exact_bytes (collection_at cs t.place).name new.name (t.same no_collection)) in
        let there = found cs t.place new.name h.apart t.within (t.same no_collection) in
        let kept_number : new.number ≡ (collection_at cs t.place).number = numbered ∙ ap (number_or (unused cs)) there in
        record {
          apart = subst AreNamedApart (sym put) (apart_set cs t.place new t.within same h.apart);
          numbers = subst AreNumberedApart (sym put) (numbers_set cs t.place new t.within kept_number h.numbers);
          kept = subst (λ (ds : List Collection). All IsKept ds) (sym put) (All-set IsKept cs t.place new one h.kept);
          few = omega (arith, ap length put, length-set cs t.place new, h.few);
        }

-- ---- indexes

-- the collections with indexes made in one of them
pub indexed_lawful : (cs : List Collection) (name : List ℕ) (ns : List NewIndex) (next : List Collection) → IsLawfulState cs → length name ≤ 255
    → All IsShortNewIndex ns → indexed cs name ns ≡ Ok next → IsLawfulState next
indexed_lawful cs name ns next h short limits e =
    let put : Collection → Result (List Collection) Refusal = λ c. Ok (put_collection c cs) in
    let p = passed (is_full cs name) refusals.TooMany (with_new_indexes (collection_of cs name) ns >>= put) next e in
    let s = step_of (with_new_indexes (collection_of cs name) ns) put next p.1 in
    let more = with_new_indexes_more (collection_of cs name) s.0 ns s.1 in
    let kept = stored_at cs name h.kept in
    let bounds = number_bounds cs name h.kept (room cs name p.0) in
    let one : IsKept s.0 = record {
      lawful = record { rising = subst IsRising (sym more.documents) kept.0; stored = subst (All IsStored) (sym more.documents) kept.1 };
      short = subst (λ (n : List ℕ). length n ≤ 255) (sym more.named) short;
      least = subst (λ (n : ℕ). 1 ≤ n) (sym more.numbered) bounds.least;
      most = subst (λ (n : ℕ). n ≤ 1000) (sym more.numbered) bounds.most;
      indexes = with_new_indexes_short (collection_of cs name) s.0 ns limits (short_at cs name h.kept) s.1;
    } in
    let now : put_collection s.0 cs ≡ next = cc in
    subst IsLawfulState now (
    put_kept s.0 cs h one (subst (λ (n : List ℕ). is_full cs n ≡ false) (sym more.named) p.0)
    (more.numbered ∙ ap (λ (n : List ℕ). number_or (unused cs) (find_collection cs n)) (sym more.named))
    )

-- the collections without indexes in one of them
pub index_dropped_lawful : (cs : List Collection) (name : List ℕ) (away : DroppedIndexes) (next : List Collection) → IsLawfulState cs → length name ≤ 255
    → index_dropped cs name away ≡ Ok next → IsLawfulState next
index_dropped_lawful cs name away next h short e = by (find_collection cs name) refl e
  where
    and_false : (b : Bool) → (b && false) ≡ false
    and_false true = refl
    and_false false = refl

    by : (o : Option Collection) → find_collection cs name ≡ o → dropped_in away cs o ≡ Ok next → IsLawfulState next
    by None there f = absurd cc
    by (Some c) is_found f =
        let s = step_of (without_indexes away c) (λ d. let r : Result (List Collection) Refusal = Ok (put_collection d cs) in r) next f in
        let t = step_of (left_by away c.indexes) (λ left. let r : Result Collection Refusal = Ok (record c { indexes = left }) in r) s.0 s.1 in
        let named : name ≡ c.name = found_name cs name c is_found in
        let there : find_collection cs c.name ≡ Some c = subst (λ (n : List ℕ). find_collection cs n ≡ Some c) named is_found in
        let number : number_or (unused cs) (find_collection cs c.name) ≡ c.number = ap (number_or (unused cs)) there in
        let free : is_full cs c.name ≡ false =
        ap (λ (o : Option Collection). nat_le 1000 (length cs) && not (is_some o)) there ∙ and_false (nat_le 1000 (length cs)) in
        let same : documents_of cs c.name ≡ c.documents = ap documents_or_none there in
        let kept = stored_at cs c.name h.kept in
        let bounds = number_bounds cs c.name h.kept (room cs c.name free) in
        let left : Collection = record c { indexes = t.0 } in
        let one : IsKept left = record {
          lawful = record { rising = subst IsRising same kept.0; stored = subst (All IsStored) same kept.1 };
          short = subst (λ (n : List ℕ). length n ≤ 255) named short;
          least = subst (λ (n : ℕ). 1 ≤ n) number bounds.least;
          most = subst (λ (n : ℕ). n ≤ 1000) number bounds.most;
          indexes = left_short away c.indexes t.0 t.1 (found_kept cs name c h.kept is_found).indexes;
        } in
        let is : left ≡ s.0 = cc in
        let now : put_collection s.0 cs ≡ next = cc in
        subst IsLawfulState (ap (λ (d : Collection). put_collection d cs) is ∙ now) (put_kept left cs h one free (sym number))
