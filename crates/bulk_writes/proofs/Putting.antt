-- Documents that enter the collection of a name one after the other, or some of them first and the others then.
use Rattle.std.proofs.Common.{◌≡◌, ℕ, Bool, true, false, List, ◌++◌, length, Option, Some, Result, Ok, Err, refl, sym, ap, subst, ◌∙◌}
use Rattle.std.specs.Prelude.{◌&&◌, not, nat_le, is_some}
use Rattle.outcome.specs.Outcome.{◌>>=◌, unless}
use Rattle.path.specs.declared.refusal.Refusal.{Refusal}
use Rattle.path.specs.declared.refusal.Refusal.TheVariants as refusals
use Rattle.entry_model.specs.State.{Collection, find_collection, put_collection}
use Rattle.entry_model.proofs.FoundLawLemmas.{finds_put, put_twice}
use Rattle.database_model.specs.Insert.{is_full}
use Rattle.database_model.specs.World.{collection_of, or_empty, unused}

and_false : (b : Bool) → (b && false) ≡ false
and_false true = refl
and_false false = refl

-- a collection that was put is found by its name
pub found_put : (m : Collection) (cs : List Collection) (name : List ℕ) → m.name ≡ name → find_collection (put_collection m cs) name ≡ Some m
found_put m cs name is = subst (λ (n : List ℕ). find_collection (put_collection m cs) n ≡ Some m) is (finds_put m cs)

-- so it isn't one too many
pub room_put : (m : Collection) (cs : List Collection) (name : List ℕ) → m.name ≡ name → is_full (put_collection m cs) name ≡ false
room_put m cs name is =
    ap (λ (o : Option Collection). nat_le 1000 (length (put_collection m cs)) && not (is_some o)) (found_put m cs name is)
    ∙ and_false (nat_le 1000 (length (put_collection m cs)))

-- nor is one that is there
pub room_there : (m : Collection) (cs : List Collection) (name : List ℕ) → find_collection cs name ≡ Some m → is_full cs name ≡ false
room_there m cs name found =
    ap (λ (o : Option Collection). nat_le 1000 (length cs) && not (is_some o)) found ∙ and_false (nat_le 1000 (length cs))

-- Whichever way they enter: some enter, and then the others, and the collection keeps its name.
module _ {W : Type 0} (enter : Collection → List W → Result Collection Refusal)
    (append : (c : Collection) (a b : List W) → enter c (a ++ b) ≡ (enter c a >>= (λ m. enter m b)))
    (named : (c next : Collection) (ws : List W) → enter c ws ≡ Ok next → next.name ≡ c.name) (name : List ℕ) where
  abbrev pub put_in : List W → List Collection → Result (List Collection) Refusal
  put_in ws cs = unless (is_full cs name) refusals.TooMany (enter (collection_of cs name) ws >>= (λ next. Ok (put_collection next cs)))

  abbrev putting : List Collection → Collection → Result (List Collection) Refusal
  putting cs next = Ok (put_collection next cs)

  module _ (m : Collection) (cs : List Collection) (is : m.name ≡ name) where
    abbrev now : List Collection
    now = put_collection m cs

    is_it : collection_of now name ≡ m
    is_it = ap (or_empty name (unused now)) (found_put m cs name is)
        ∙ (λ k. record { name = sym is k; number = m.number; documents = m.documents; indexes = m.indexes })

    pub again : (ws : List W) → put_in ws now ≡ (enter m ws >>= putting cs)
    again ws =
        ap (λ (b : Bool). unless b refusals.TooMany (enter (collection_of now name) ws >>= putting now)) (room_put m cs name is)
        ∙ ap (λ (c : Collection). enter c ws >>= putting now) is_it
        ∙ at (enter m ws) refl
      where
        at : (r : Result Collection Refusal) → enter m ws ≡ r → (r >>= putting now) ≡ (r >>= putting cs)
        at (Err e) was = refl
        at (Ok next) was = ap (λ (xs : List Collection). Ok xs) (put_twice next m cs (sym (named m next ws was)))

  pub put_append : (cs : List Collection) (a b : List W) → put_in (a ++ b) cs ≡ (put_in a cs >>= put_in b)
  put_append cs a b = by (is_full cs name)
    where
      at : (r : Result Collection Refusal) → enter (collection_of cs name) a ≡ r → ((r >>= (λ m. enter m b)) >>= putting cs) ≡ ((r >>= putting cs) >>= put_in b)
      at (Err e) was = refl
      at (Ok m) was = sym (again m cs (named (collection_of cs name) m a was) b)

      by : (full : Bool) → unless full refusals.TooMany (enter (collection_of cs name) (a ++ b) >>= putting cs)
          ≡ (unless full refusals.TooMany (enter (collection_of cs name) a >>= putting cs) >>= put_in b)
      by true = refl
      by false = ap (λ (r : Result Collection Refusal). r >>= putting cs) (append (collection_of cs name) a b) ∙ at (enter (collection_of cs name) a) refl
