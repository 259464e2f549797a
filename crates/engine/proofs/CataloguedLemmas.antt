-- What the catalogue has of the collection of a name.
use Rattle.std.proofs.Common.{◌≡◌, ℕ, List, Option, Some, None, refl, sym, ap, subst}
use Rattle.std.specs.Prelude.{unwrap_or}
use Rattle.std.specs.Option.{option_map}
use Rattle.collections.specs.Lookups.{catalogued_in, catalogued_of}
use Rattle.index.specs.Definition.{Definition}
use Rattle.entry_model.specs.State.{Collection, find_collection}
use Rattle.entries.specs.declared.catalogue_reading.Catalogued.{Catalogued}
use Rattle.entry_model.proofs.PlaceLemmas.{found_name}
use Rattle.engine.specs.TakingOut.{HasHome}

-- it was found, if there is one
abbrev pub IsCatalogueOf : List ℕ → List Collection → Option Catalogued → Type 0
IsCatalogueOf name now found = option_map catalogued_of found ≡ option_map catalogued_in (find_collection now name)

pub some_same : {X : Type 0} {x y : X} → Some x ≡ Some y → x ≡ y
some_same {X} {x} {y} e = ap (λ (o : Option X). unwrap_or o x) e

pub not_catalogued : (now : List Collection) (name : List ℕ) → IsCatalogueOf name now None → find_collection now name ≡ None
not_catalogued now name is = by (find_collection now name) refl is
  where
    by : (o : Option Collection) → find_collection now name ≡ o → option_map catalogued_of None ≡ option_map catalogued_in o → find_collection now name ≡ None
    by None found is = found
    by (Some c) found is = absurd cc

pub has_home : (now : List Collection) (name : List ℕ) (home : Catalogued) → IsCatalogueOf name now (Some home) → HasHome now name home
has_home now name home is = by (find_collection now name) refl is
  where
    by : (o : Option Collection) → find_collection now name ≡ o → option_map catalogued_of (Some home) ≡ option_map catalogued_in o → HasHome now name home
    by None found is = absurd cc
    by (Some c) found is =
        let same : catalogued_of home ≡ catalogued_in c = some_same is in
        record {
          collection = c;
          found = found;
          catalogued = record {
            numbered = record {
              found = subst (λ (n : List ℕ). find_collection now n ≡ Some c) (found_name now name c found) found;
              same = sym (ap (λ (p : ℕ × List Definition). p.0) same);
            };
            indexed = sym (ap (λ (p : ℕ × List Definition). p.1) same);
          };
        }
