-- A delete reads the documents that its statements match, and takes of them what it would take of all.
use Rattle.std.proofs.Common.{◌≡◌, ◌<◌, ◌≤◌, ◌-◌, ◌^◌, ℕ, true, List, [], ◌∷◌, length, take, Option, Some, None, Result, Ok, refl, sym, ap, subst, ◌∙◌, arith}
use Rattle.std.specs.Prelude.{slice_index_or}
use Rattle.std.specs.Global.{Vec}
use Rattle.std.specs.List.{filter}
use Rattle.std.proofs.lemmas.List.{length-take, take_all}
use Rattle.bson.specs.Tree.{Pairs}
use Rattle.page.specs.History.{History}
use Rattle.path.specs.declared.refusal.Refusal.{Refusal}
use Rattle.command_model.specs.Delete.{Deletion}
use Rattle.entry_model.specs.State.{Collection, find_collection, put_collection}
use Rattle.entries.specs.declared.catalogue_reading.Catalogued.{Catalogued}
use Rattle.entry_model.proofs.FoundLawLemmas.{finds_put}
use Rattle.entry_model.proofs.PlaceLemmas.{found_name}
use Rattle.database_model.specs.Delete.{after_deletions, deleted_in}
use Rattle.engine.specs.Looking.{Looks, LooksOf}
use Rattle.database_model.specs.Merging.{is_deleted}
use Rattle.statements.specs.Redoing.{all_taken}
use Rattle.engine.specs.Removing.{IsTaken, FirstAreEnough, deleted}
use Rattle.engine.specs.TakingOut.{HasHome, IsHome}
use Rattle.engine.specs.View.{world}
use Rattle.database_model.specs.World.{documents_or_none, documents_of}
use Rattle.engine.specs.declared.delete.Taken.{Taken}
use Rattle.engine.specs.declared.engine.Engine.{Engine}
use Rattle.engine.proofs.LookingLemmas.{looks_behind, looks_made}
use Rattle.statements.proofs.MeantDeletions.{first_alike, taken_alike, taken_count}
use Rattle.engine.proofs.RemovingLemmas.{all_empty, taken_none}
use Rattle.engine.proofs.CataloguedLemmas.{IsCatalogueOf, has_home, not_catalogued, some_same}
use Rattle.engine.proofs.NamedLemmas.{documents_found}

none_empty : {X : Type 0} (xs : List X) → length xs ≡ 0 → xs ≡ []
none_empty [] e = refl
none_empty (x ∷ xs) e = absurd (omega (arith, e))

-- a list of which fewer than so many were taken was taken whole
taken_whole : {X : Type 0} (most : ℕ) (xs : List X) → length (take most xs) < most → take most xs ≡ xs
taken_whole most xs few = take_all most xs (omega (arith, length-take most xs, few))

-- ---- how many are enough

pub all_suffice : (deletions : List Deletion) → FirstAreEnough deletions (2 ^ 64 - 1)
all_suffice deletions ds few =
    ap (all_taken deletions) (taken_whole (2 ^ 64 - 1) (filter (is_deleted deletions) ds) few) ∙ taken_alike deletions ds

pub one_suffices : (ds : List Deletion) (d : Deletion) → 1 ≤ length ds → length ds < 2 → d ≡ slice_index_or ds 0 d → d.only_first ≡ true → FirstAreEnough ds 1
one_suffices [] d some few is first = absurd (omega (arith, some))
one_suffices (x ∷ []) d some few is first =
    let here : x.only_first ≡ true = ap (λ (e : Deletion). e.only_first) (sym is) ∙ first in
    λ xs below. first_alike x here xs
one_suffices (x ∷ y ∷ ds) d some few is first = absurd (omega (arith, few))

module _ (name : List ℕ) (deletions : List Deletion) (most : ℕ) where
  -- the first ones of the documents that a statement matches, and what the catalogue has of their collection
  pub record AreMeant (home : Catalogued) (now : List Collection) (found : List Pairs) : Type 0 where
    pub first : found ≡ take most (filter (is_deleted deletions) (documents_of now name))
    pub there : HasHome now name home

  -- what is taken of them is what is taken of all
  meant_taken : FirstAreEnough deletions most → (home : Catalogued) (now : List Collection) (found : List Pairs) (t : Taken) → AreMeant home now found
      → length found < 2 ^ 64 - 1 → t.home ≡ home
      → t.removed.items ≡ all_taken deletions found → IsTaken now name deletions t
  meant_taken suffices home now found t h few same made =
      record {
        removed = made ∙ ap (all_taken deletions) h.first ∙ suffices (documents_of now name) (subst (λ (ds : List Pairs). length ds < 2 ^ 64 - 1) h.first few);
        home = λ c there.
            let is : h.there.collection ≡ c = some_same (sym h.there.found ∙ there) in
            let here = h.there.catalogued in
            subst (λ (e : Catalogued). (c.number ≡ e.number) × (c.indexes ≡ e.indexes.items)) (sym same)
            (subst (λ (d : Collection). (d.number ≡ home.number) × (d.indexes ≡ home.indexes.items)) is (here.numbered.same, here.indexed));
      }

module _ (name : List ℕ) (deletions : List Deletion) where
  -- of a missing collection nothing is taken
  none_taken : (now : List Collection) (t : Taken) → find_collection now name ≡ None → t.removed.items ≡ [] → IsTaken now name deletions t
  none_taken now t none empty = record {
    removed = empty ∙ sym (taken_none now name deletions none);
    home = λ c there. let no : None ≡ Some c = sym none ∙ there in absurd cc;
  }

  -- nothing was taken where the collections stay as they are
  module _ (now : List Collection) (same : deleted now name deletions ≡ now) where
    stays : (c : Collection) → find_collection now name ≡ Some c → after_deletions deletions c.documents ≡ c.documents
    stays c found =
        let less : Collection = record c { documents = after_deletions deletions c.documents } in
        let put : put_collection less now ≡ now = sym (ap (λ (o : Option Collection). deleted_in o deletions now) found) ∙ same in
        let here : find_collection now c.name ≡ Some c = ap (find_collection now) (sym (found_name now name c found)) ∙ found in
        let there : find_collection now c.name ≡ Some less = ap (λ (cs : List Collection). find_collection cs c.name) (sym put) ∙ finds_put less now in
        ap documents_or_none (sym there ∙ here)

    pub nothing_taken : all_taken deletions (documents_of now name) ≡ []
    nothing_taken = at (find_collection now name) refl
      where
        at : (o : Option Collection) → find_collection now name ≡ o → all_taken deletions (documents_or_none o) ≡ []
        at None is = all_empty deletions
        at (Some c) is = none_empty (all_taken deletions c.documents) (omega (arith, taken_count deletions c.documents, ap length (stays c is)))

-- ---- over engines as values

module _ {D : Type 0} (history : D → History) (name : List ℕ) (deletions : List Deletion) (a b : Engine D) where
  module _ (x : Option Catalogued) (first : Looks history (IsCatalogueOf name) (Ok x) a b) where
    pub takes_none : x ≡ None → (t : Taken) → t.removed.items ≡ [] → Looks history (λ now t. IsTaken now name deletions t) (Ok t) a b
    takes_none is t empty =
        looks_made history (IsCatalogueOf name) a b (λ now t. IsTaken now name deletions t) x t first
        (λ p. none_taken name deletions (world a).collections t
        (not_catalogued (world a).collections name (subst (IsCatalogueOf name (world a).collections) is p)) empty)

    -- the first documents that a statement matches were looked up
    pub meant_found : (most : ℕ) (c : Engine D) (home : Catalogued) → x ≡ Some home → (r : Result (Vec Pairs) Refusal)
        → LooksOf history (λ now of. IsHome now of home)
        (λ now of (found : Vec Pairs). found.items ≡ take most (filter (is_deleted deletions) of.documents)) r b c
        → Looks history (λ now (found : Vec Pairs). AreMeant name deletions most home now found.items) r a c
    meant_found most c home is r second =
        looks_behind history (IsCatalogueOf name) (λ now of. IsHome now of home)
        (λ now of (found : Vec Pairs). found.items ≡ take most (filter (is_deleted deletions) of.documents))
        (λ now (found : Vec Pairs). AreMeant name deletions most home now found.items) a b c x r first second (λ p.
        let now = (world a).collections in
        let f = has_home now name home (subst (IsCatalogueOf name now) is p) in
        record {
          asked = f.collection;
          is = f.catalogued;
          right = λ y right. record {
            first = right
                ∙ ap (λ (ds : List Pairs). take most (filter (is_deleted deletions) ds)) (sym (documents_found now name f.collection f.found));
            there = f;
          };
        })

  pub takes_meant : (most : ℕ) → FirstAreEnough deletions most → (home : Catalogued) (found : Vec Pairs) (t : Taken)
      → Looks history (λ now (found : Vec Pairs). AreMeant name deletions most home now found.items) (Ok found) a b
      → length found.items < 2 ^ 64 - 1 → t.home ≡ home → t.removed.items ≡ all_taken deletions found.items
      → Looks history (λ now t. IsTaken now name deletions t) (Ok t) a b
  takes_meant most suffices home found t looks few same made =
      looks_made history (λ now (found : Vec Pairs). AreMeant name deletions most home now found.items) a b (λ now t. IsTaken now name deletions t) found t
      looks
      (λ h. meant_taken name deletions most suffices home (world a).collections found.items t h few same made)
