-- Documents of which one of several conditions holds: the texts of the `_id`s to which each condition leads tell them all.
use Rattle.std.proofs.Common.{◌≡◌, ◌<◌, ℕ, Bool, true, false, List, [], ◌∷◌, ◌++◌, length, get_or, Option, Some, Result, Ok, refl, sym, ap, subst}
use Rattle.std.proofs.Common.{◌∙◌}
use Rattle.std.specs.Prelude.{IfSome}
use Rattle.std.specs.Global.{Vec}
use Rattle.bson.specs.Tree.{Tree, Pairs}
use Rattle.page.specs.History.{History}
use Rattle.path.specs.declared.refusal.Refusal.{Refusal}
use Rattle.collections.specs.Lookups.{ReadsOf}
use Rattle.collections.specs.State.{State}
use Rattle.collections.specs.View.{is_stopped}
use Rattle.filter.specs.Condition.{Conditions, equal, is}
use Rattle.filter.specs.Matches.{Subject, all_hold, any_holds, holds, matches, whole}
use Rattle.filter.specs.View.{condition_of, conditions_of}
use Rattle.filter.specs.declared.condition.Condition.{Condition as Made}
use Rattle.filter.specs.declared.condition.Condition.TheVariants as conditions
use Rattle.entry_model.specs.State.{Collection}
use Rattle.index.specs.View.{texts_of}
use Rattle.entries.specs.declared.catalogue_reading.Catalogued.{Catalogued}
use Rattle.candidate_ids.specs.Alternatives.{AreAlternatives, equal_at, one_holds, subject_at}
use Rattle.asked_documents.specs.Asking.{IsAsked}
use Rattle.asked_documents.specs.ById.{TellOf}
use Rattle.candidate_ids.proofs.TellingLemmas.{AreTold, next_told, tell_behind}
use Rattle.candidate_ids.proofs.ByIdLemmas.{holds_at, if_some_on}
use Rattle.asked_documents.proofs.SelectsLemmas.{put_none}
use Rattle.asked_documents.proofs.ReadingLemmas.{reads_as, reads_behind}

-- ---- what conditions ask for

-- one of those at a path is that one of these holds
pub listed : (rs : List Made) (i : ℕ) (r : Made) (ms : Conditions) (s : Subject) → i < length rs → r ≡ get_or rs i r → r ≡ conditions.Any ms
    → all_hold (conditions_of rs) s ≡ true → any_holds ms s ≡ true
listed rs i r ms s within there any all =
    ap (λ (q : Made). holds (condition_of q) s) (sym any ∙ there) ∙ holds_at rs i r s within all

-- one of those that a filter asks for is one that one of its conditions asks for
pub filter_leads : (rs : List Made) (i : ℕ) (r : Made) (asked : Conditions) (path : Option (List (List ℕ))) (ms : Conditions) → i < length rs
    → r ≡ get_or rs i r → conditions_of rs ≡ asked → AreAlternatives (λ d. holds (condition_of r) (whole d)) path ms
    → AreAlternatives (matches asked) path ms
filter_leads rs i r asked path ms within there same alternatives d matched =
    alternatives d (ap (λ (q : Made). holds (condition_of q) (whole d)) there
    ∙ holds_at rs i r (whole d) within (subst (λ (q : Conditions). all_hold q (whole d) ≡ true) (sym same) matched))

pub equal_holds : (path : List (List ℕ)) (v : Tree) (d : Pairs) → holds (is (equal v)) (subject_at (Some path) d) ≡ true → matches (equal_at path v) d ≡ true
equal_holds path v d holding = rw holding refl

-- ---- to whom `_id`s lead

-- those that tell what passes a test tell what passes a narrower one
pub told_narrow : (c : Collection) (wide passes : Pairs → Bool) (ids : List (List ℕ)) → ((d : Pairs) → passes d ≡ true → wide d ≡ true)
    → TellOf c wide [] ids → TellOf c passes [] ids
told_narrow c wide passes ids narrow tell = record { put = tell.put; tells = λ d has passing. tell.tells d has (narrow d passing) }

-- the same, of what was read
module _ {D : Type 0} (history : D → History) (home : Catalogued) (wide passes : Pairs → Bool) (narrow : (d : Pairs) → passes d ≡ true → wide d ≡ true) where
  pub tell_narrow : (old new : State D) (r : Result (Option (Vec (Vec ℕ))) Refusal) → is_stopped old ≡ false
      → ReadsOf history (IsAsked home) (λ now c (found : Option (Vec (Vec ℕ))). IfSome found (λ ids. TellOf c wide [] (texts_of ids.items))) r old new
      → ReadsOf history (IsAsked home) (λ now c (found : Option (Vec (Vec ℕ))). IfSome found (λ ids. TellOf c passes [] (texts_of ids.items))) r old new
  tell_narrow old new r running reads =
      reads_as history (IsAsked home) (IsAsked home)
      (λ now c (found : Option (Vec (Vec ℕ))). IfSome found (λ ids. TellOf c wide [] (texts_of ids.items)))
      (λ now c (found : Option (Vec (Vec ℕ))). IfSome found (λ ids. TellOf c passes [] (texts_of ids.items))) old new r running reads
      (λ now state c asked. record {
        other = c;
        was = asked;
        right = λ found told. if_some_on found (λ ids one. told_narrow c wide passes (texts_of ids.items) narrow one) told;
      })

-- ---- one after the other

-- one of the conditions that are left holds
abbrev pub one_left : Option (List (List ℕ)) → List Made → Pairs → Bool
one_left path qs = one_holds path (conditions_of qs)

module _ {D : Type 0} (history : D → History) (home : Catalogued) where
  -- whatever was read before
  pub behind_nothing : {X : Type 0} (Q : List Collection → Collection → X → Type 0) (a b c : State D) (r : Result X Refusal)
      → ReadsOf history (IsAsked home) (λ cs c (_ : Unit {0}). Unit {0}) (Ok tt) a b → ReadsOf history (IsAsked home) Q r b c
      → ReadsOf history (IsAsked home) Q r a c
  behind_nothing Q a b c r first second =
      reads_behind history (IsAsked home) (λ cs c (_ : Unit {0}). Unit {0}) (IsAsked home) Q Q a b c tt r first second
      (λ cs c asked so. record { other = c; was = asked; right = λ x q. q })

  module _ (path : Option (List (List ℕ))) (rs : List Made) where
    -- the `_id`s of the next one were read
    pub more_read : (left : List Made) (r : Made) (rest : List Made) (mid : List (List ℕ)) (old now new : State D)
        (result : Result (Option (Vec (Vec ℕ))) Refusal) → left ≡ r ∷ rest
        → ReadsOf history (IsAsked home) (λ cs c (_ : Unit {0}). AreTold c (one_left path rs) (one_left path left) [] mid) (Ok tt) old now
        → ReadsOf history (IsAsked home) (λ cs c (found : Option (Vec (Vec ℕ))). IfSome found
        (λ ids. TellOf c (λ d. holds (condition_of r) (subject_at path d)) [] (texts_of ids.items))) result now new
        → ReadsOf history (IsAsked home) (λ cs c (found : Option (Vec (Vec ℕ))). IfSome found
        (λ ids. AreTold c (one_left path rs) (one_left path rest) [] (mid ++ texts_of ids.items))) result old new
    more_read left r rest mid old now new result next first second =
        reads_behind history (IsAsked home) (λ cs c (_ : Unit {0}). AreTold c (one_left path rs) (one_left path left) [] mid) (IsAsked home)
        (λ cs c (found : Option (Vec (Vec ℕ))). IfSome found (λ ids. TellOf c (λ d. holds (condition_of r) (subject_at path d)) [] (texts_of ids.items)))
        (λ cs c (found : Option (Vec (Vec ℕ))). IfSome found (λ ids. AreTold c (one_left path rs) (one_left path rest) [] (mid ++ texts_of ids.items)))
        old now new tt result first second
        (λ cs c asked so. record {
          other = c;
          was = asked;
          right = λ found told. if_some_on found (λ ids tell.
              let texts = texts_of ids.items in
              next_told c (one_left path rs) [] (λ d. holds (condition_of r) (subject_at path d)) (one_left path rest) mid (mid ++ texts)
              (subst (λ (qs : List Made). AreTold c (one_left path rs) (one_left path qs) [] mid) next so)
              (tell_behind c (λ d. holds (condition_of r) (subject_at path d)) mid mid texts (mid ++ texts) tell (put_none mid) refl)) told;
        })
