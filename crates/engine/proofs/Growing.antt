-- An insert of some documents changes the collections.
use Rattle.std.proofs.Common.{◌≡◌, ℕ, ◌≤◌, List, [], ◌∷◌, length, Some, Result, Ok, refl, sym, ap, ◌∙◌, arith}
use Rattle.std.specs.Cmp.Lexicographic.{slice_cmp}
use Rattle.std.specs.Ordering.{nat_cmp}
use Rattle.std.specs.declared.cmp.Ordering.{Ordering}
use Rattle.std.specs.declared.cmp.Ordering.TheVariants as orders
use Rattle.bson.specs.Tree.{Pairs}
use Rattle.database_model.specs.World.{collection_of, documents_of, documents_or_none}
use Rattle.entry_model.specs.State.{Collection, by_order, find_collection, put_collection}
use Rattle.outcome.specs.Outcome.{◌>>=◌}
use Rattle.entry_model.specs.LawfulState.{IsRising}
use Rattle.database_model.specs.Documents.{insert_all}
use Rattle.database_model.specs.Insert.{is_full, inserted}
use Rattle.path.specs.declared.refusal.Refusal.{Refusal}
use Rattle.path.specs.declared.refusal.Refusal.TheVariants as refusals
use Rattle.command_model.specs.OutcomeLaws.{step_of, passed}
use Rattle.statements.proofs.EnteredLemmas.{has_grown}
use Rattle.database_model.proofs.Ordered.{found_first, passes_on}

-- ---- in its collection

-- a collection that was put is found
pub put_found : (new : Collection) (cs : List Collection) → find_collection (put_collection new cs) new.name ≡ Some new
put_found new [] = found_first new []
put_found new (c ∷ cs) = at (slice_cmp nat_cmp new.name c.name) refl (put_found new cs)
  where
    at : (o : Ordering) → slice_cmp nat_cmp new.name c.name ≡ o → find_collection (put_collection new cs) new.name ≡ Some new
        → find_collection (by_order o (new ∷ c ∷ cs) (new ∷ cs) (c ∷ put_collection new cs)) new.name ≡ Some new
    at orders.Less e later = found_first new (c ∷ cs)
    at orders.Equal e later = found_first new cs
    at orders.Greater e later = passes_on new.name c (put_collection new cs) e ∙ later

pub inserted_differs : (cs : List Collection) (name : List ℕ) (documents : List Pairs) (next : List Collection) → 1 ≤ length documents
    → IsRising (documents_of cs name) → inserted cs name documents ≡ Ok next → next ≡ cs → ⊥
inserted_differs cs name documents next some up e same =
    let put : Collection → Result (List Collection) Refusal = λ c. Ok (put_collection c cs) in
    let p = passed (is_full cs name) refusals.TooMany (insert_all (collection_of cs name) documents >>= put) next e in
    let s = step_of (insert_all (collection_of cs name) documents) put next p.1 in
    let grown = has_grown (collection_of cs name) s.0 documents s.1 in
    let now : put_collection s.0 cs ≡ next = cc in
    let there : documents_of cs name ≡ s.0.documents =
    ap (λ (ds : List Collection). documents_of ds name) (sym same ∙ sym now)
    ∙ ap (λ (n : List ℕ). documents_of (put_collection s.0 cs) n) (sym grown.named) ∙ ap documents_or_none (put_found s.0 cs) in
    absurd (omega (arith, some, grown.longer up, ap length there))
