-- What is looked up of a collection by its name.
use Rattle.std.proofs.Common.{◌≡◌, ℕ, List, [], Option, Some, None, Result, Ok, refl, sym, subst}
use Rattle.std.specs.Option.{option_map}
use Rattle.bson.specs.Tree.{Pairs}
use Rattle.page.specs.History.{History}
use Rattle.path.specs.declared.refusal.Refusal.{Refusal}
use Rattle.entry_model.specs.State.{Collection, find_collection}
use Rattle.entry_model.proofs.PlaceLemmas.{found_name}
use Rattle.collections.specs.Lookups.{IsNumbered}
use Rattle.engine.specs.Looking.{Looks, LooksOf}
use Rattle.engine.specs.Durable.{IsSound}
use Rattle.engine.specs.View.{world}
use Rattle.engine.specs.declared.engine.Engine.{Engine}
use Rattle.database_model.specs.World.{documents_of}
use Rattle.asked_documents.specs.Asking.{IsAsked}
use Rattle.entries.specs.declared.catalogue_reading.Catalogued.{Catalogued}
use Rattle.engine.specs.TakingOut.{HasHome, IsHome}
use Rattle.engine.proofs.CataloguedLemmas.{IsCatalogueOf, has_home, not_catalogued}
use Rattle.database_model.proofs.Numbers.{found_kept}
use Rattle.engine.proofs.LookingLemmas.{looks_behind, looks_made}

-- ---- the collection of a name and of a number

-- the number of the collection of a name, if there is one
abbrev pub IsNumberOf : List ℕ → List Collection → Option ℕ → Type 0
IsNumberOf name now found = found ≡ option_map (λ c. c.number) (find_collection now name)

pub record IsFound (now : List Collection) (name : List ℕ) (number : ℕ) : Type 0 where
  pub c : Collection
  pub found : find_collection now name ≡ Some c
  pub numbered : IsNumbered now c number

pub found_so : (now : List Collection) (name : List ℕ) (number : ℕ) → Some number ≡ option_map (λ c. c.number) (find_collection now name)
    → IsFound now name number
found_so now name number is = by_found (find_collection now name) refl is
  where
    by_found : (o : Option Collection) → find_collection now name ≡ o → Some number ≡ option_map (λ c. c.number) o → IsFound now name number
    by_found None at e = absurd cc
    by_found (Some c) at e = record {
      c = c;
      found = at;
      numbered = record {
        found = subst (λ (n : List ℕ). find_collection now n ≡ Some c) (found_name now name c at) at;
        same = cc;
      };
    }

pub documents_found : (now : List Collection) (name : List ℕ) (c : Collection) → find_collection now name ≡ Some c → documents_of now name ≡ c.documents
documents_found now name c at = rw at refl

-- ---- of a collection as the catalogue has it

-- the documents of a sound engine's collections are such as commands store
pub asked_at_home : {D X : Type 0} (history : D → History) (home : Catalogued) (old new : Engine D) (Q : List Collection → Collection → X → Type 0)
    (r : Result X Refusal) → IsSound history old
    → LooksOf history (IsAsked home) Q r old new → LooksOf history (λ now of. IsHome now of home) Q r old new
asked_at_home history home old new Q r h looks = record {
  reads = looks.reads;
  answers = λ k of there.
      let kept = found_kept (world old).collections of.name of h.lawful.kept there.numbered.found in
      looks.answers k of (record { numbered = there.numbered; indexed = there.indexed; stored = kept.lawful.stored });
}

module _ {D Y : Type 0} (history : D → History) (name : List ℕ) (a b : Engine D) (Q : List Pairs → Y → Type 0) (x : Option Catalogued)
    (first : Looks history (IsCatalogueOf name) (Ok x) a b) where
  -- what was looked up of the collection
  pub of_home : (c : Engine D) (home : Catalogued) → x ≡ Some home → (r : Result Y Refusal)
      → LooksOf history (λ now of. IsHome now of home) (λ now of (y : Y). Q of.documents y) r b c
      → Looks history (λ now (y : Y). Q (documents_of now name) y) r a c
  of_home c home is r second =
      looks_behind history (IsCatalogueOf name) (λ now of. IsHome now of home) (λ now of (y : Y). Q of.documents y) (λ now (y : Y). Q (documents_of now name) y)
      a b c x r first second (λ p.
      let now = (world a).collections in
      let f : HasHome now name home = has_home now name home (subst (IsCatalogueOf name now) is p) in
      record {
        asked = f.collection;
        is = f.catalogued;
        right = λ y right. subst (λ (ds : List Pairs). Q ds y) (sym (documents_found now name f.collection f.found)) right;
      })

  -- there is none
  pub of_no_home : x ≡ None → (y : Y) → Q [] y → Looks history (λ now (y : Y). Q (documents_of now name) y) (Ok y) a b
  of_no_home is y right =
      looks_made history (IsCatalogueOf name) a b (λ now (y : Y). Q (documents_of now name) y) x y first
      (λ p. subst (λ (ds : List Pairs). Q ds y)
      (sym (none_there (world a).collections (not_catalogued (world a).collections name (subst (IsCatalogueOf name (world a).collections) is p)))) right)
    where
      none_there : (now : List Collection) → find_collection now name ≡ None → documents_of now name ≡ []
      none_there now none = rw none refl
