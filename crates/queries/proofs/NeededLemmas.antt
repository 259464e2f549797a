-- Documents that are met one after the other, and those of them that are needed.
use Rattle.std.proofs.Common.{◌≡◌, ℕ, zero, suc, ◌≤◌, Bool, true, false, List, [], ◌∷◌, ◌++◌, length, take, drop, Option, Some, refl, sym, ap, subst, ◌∙◌}
use Rattle.std.proofs.Common.{append_assoc, arith}
use Rattle.std.specs.Prelude.{None, All, IfSome}
use Rattle.std.specs.List.{filter}
use Rattle.std.proofs.lemmas.List.{take-append-drop, append-nil}
use Rattle.std.proofs.lemmas.List.Elements.{All-append as append_all, All-cons, All-nil, filter-append}
use Rattle.bson.specs.Tree.{Pairs}
use Rattle.aggregate_model.specs.Limits.{first_fault, limit_fault}
use Rattle.aggregate_model.specs.Pipeline.{run}
use Rattle.aggregate_model.specs.Stage.{Stage}
use Rattle.aggregate_model.specs.Taking.{takes, SufficesTaken, IsEnough}
use Rattle.aggregate_model.specs.EnoughLaws.{All-append, All-filter, All-front, Pass, Within, enough_of_all, enough_by_then, fault-within, filter-passes}
use Rattle.aggregate_model.specs.EnoughLaws.{none_is_enough, passed-filter, within-fault}
use Rattle.aggregate_model.specs.TakingLaws.{only_taken}
use Rattle.database_model.specs.Aggregate.{AreEnough}
use Rattle.database_model.specs.Lawful.{IsWithin}
use Rattle.pipelines.specs.View.{pipeline_of}
use Rattle.planner.specs.IdLaws.{with_found}
use Rattle.queries.specs.Folding.{Needs}
use Rattle.queries.specs.declared.needed.Needing.{Needing}
use Rattle.walks.proofs.LookingUpLemmas.{found_first}
use Rattle.queries.proofs.FaultlessLemmas.{faultless_within, none_at_fault}

-- ---- more than enough

module _ (stages : List Stage) where
  take_less : {X : Type 0} (m n : ℕ) (xs : List X) → m ≤ n → take m (take n xs) ≡ take m xs
  take_less zero n xs le = refl
  take_less (suc m) zero xs le = absurd (omega (arith, le))
  take_less (suc m) (suc n) [] le = refl
  take_less {X} (suc m) (suc n) (x ∷ xs) le = ap (λ (ys : List X). x ∷ ys) (take_less m n xs (omega (arith, le)))

  pub suffices_more : (most count : ℕ) → most ≤ count → SufficesTaken stages most → SufficesTaken stages count
  suffices_more most count le h limit ds fault =
      let fs = filter (takes stages) ds in
      let ys = take count fs in
      let parts : ys ++ drop count fs ≡ fs = take-append-drop count fs in
      let taken : Pass (takes stages) ys =
      All-front (λ d. takes stages d ≡ true) ys (drop count fs) (subst (Pass (takes stages)) (sym parts) (filter-passes (takes stages) ds)) in
      let within : Within limit ys =
      All-front (λ d. limit_fault limit d ≡ None) ys (drop count fs)
      (subst (Within limit) (sym parts) (All-filter (λ d. limit_fault limit d ≡ None) (takes stages) ds (fault-within limit ds fault))) in
      sym (h limit ys (within-fault limit ys within))
      ∙ ap (λ (xs : List Pairs). run stages limit (take most xs)) (passed-filter (takes stages) ys taken) ∙ ap (run stages limit) (take_less most count fs le)
      ∙ h limit ds fault

-- These few are enough of documents within the limits, whichever these are.
pub record AreOfWithin (stages : List Stage) (few : List Pairs) : Type 0 where
  pub seen : List Pairs
  pub enough : IsEnough stages few seen
  pub within : first_fault 65535 seen ≡ None

module _ (stages : List Stage) where
  pub none_of_within : AreOfWithin stages []
  none_of_within = record { seen = []; enough = none_is_enough stages; within = refl }

  pub batch_of_within : (few next batch : List Pairs)
      → ((seen : List Pairs) → IsEnough stages few seen → IsEnough stages next (seen ++ filter (takes stages) batch))
      → All IsWithin (filter (takes stages) batch) → AreOfWithin stages few → AreOfWithin stages next
  batch_of_within few next batch extends all h =
      let taken = filter (takes stages) batch in
      record {
        seen = h.seen ++ taken;
        enough = extends h.seen h.enough;
        within = within-fault 65535 (h.seen ++ taken)
            (All-append (λ d. limit_fault 65535 d ≡ None) h.seen taken (fault-within 65535 h.seen h.within)
            (fault-within 65535 taken (none_at_fault taken all)));
      }

  pub are_within : (few last : List Pairs) → ((seen : List Pairs) → IsEnough stages few seen → IsEnough stages last seen) → AreOfWithin stages few
      → All IsWithin last
  are_within few last extends h =
      let fault : first_fault 65535 (h.seen ++ []) ≡ None = subst (λ (xs : List Pairs). first_fault 65535 xs ≡ None) (sym (append-nil h.seen)) h.within in
      faultless_within last (subst (λ (xs : List Pairs). first_fault 65535 xs ≡ None) (append-nil last) ((extends h.seen h.enough).same 65535 [] fault).0)

-- ---- one document

module _ (stages : List Stage) (x : Pairs) where
  pub taken_alone : takes stages x ≡ true → filter (takes stages) (x ∷ []) ≡ x ∷ []
  taken_alone is = rw is refl

  passed_alone : takes stages x ≡ false → filter (takes stages) (x ∷ []) ≡ []
  passed_alone is = rw is refl

  pub passed_enough : takes stages x ≡ false → (now seen : List Pairs) → IsEnough stages now seen → IsEnough stages now (seen ++ filter (takes stages) (x ∷ []))
  passed_enough is now seen h = subst (IsEnough stages now) (sym (append-nil seen) ∙ ap (λ (ys : List Pairs). seen ++ ys) (sym (passed_alone is))) h

  pub passed_within : takes stages x ≡ false → All IsWithin (filter (takes stages) (x ∷ []))
  passed_within is = subst (All IsWithin) (sym (passed_alone is)) (All-nil IsWithin)

  -- a document that was built of its bytes is the same
  pub taken_enough : takes stages x ≡ true → (now next : List Pairs) (built : Pairs) → built ≡ x
      → ((seen : List Pairs) → IsEnough stages now seen → takes stages built ≡ true → IsEnough stages next (seen ++ built ∷ []))
      → (seen : List Pairs) → IsEnough stages now seen → IsEnough stages next (seen ++ filter (takes stages) (x ∷ []))
  taken_enough is now next built same extends seen h =
      subst (IsEnough stages next) (ap (λ (ys : List Pairs). seen ++ ys) (ap (λ (d : Pairs). d ∷ []) same ∙ sym (taken_alone is)))
      (extends seen h (ap (takes stages) same ∙ is))

  pub taken_within : takes stages x ≡ true → IsWithin x → All IsWithin (filter (takes stages) (x ∷ []))
  taken_within is within = subst (All IsWithin) (sym (taken_alone is)) (All-cons IsWithin x [] within (All-nil IsWithin))

-- ---- documents that are lent

-- What one document makes of what is needed.
pub record Goes (stages : List Stage) (d : Pairs) (now next : Needing) : Type 0 where
  pub enough : (seen : List Pairs) → IsEnough stages now.needed.items seen → IsEnough stages next.needed.items (seen ++ filter (takes stages) (d ∷ []))
  pub within : All IsWithin (filter (takes stages) (d ∷ []))
  pub most : next.is_enough ≡ true → SufficesTaken stages (length next.needed.items)

pub none_needed : (start : Needing) → start.needed.items ≡ [] → (start.is_enough ≡ true → SufficesTaken (pipeline_of start.pipeline.now) 0)
    → Needs start [] start
none_needed start none most = record {
  pipeline = refl;
  front = [];
  left = [];
  split = refl;
  enough = λ seen e. subst (IsEnough (pipeline_of start.pipeline.now) start.needed.items) (sym (append-nil seen)) e;
  within = All-nil IsWithin;
  all = λ not. refl;
  most = λ is. subst (SufficesTaken (pipeline_of start.pipeline.now)) (sym (ap length none)) (most is);
}

module _ (start now : Needing) (all : List Pairs) (h : Needs start all now) where
  abbrev stages : List Stage
  stages = pipeline_of start.pipeline.now

  -- no other is needed
  pub done_needed : now.is_enough ≡ true → (more : List Pairs) → Needs start (all ++ more) now
  done_needed is more = record {
    pipeline = h.pipeline;
    front = h.front;
    left = h.left ++ more;
    split = ap (λ (ys : List Pairs). ys ++ more) h.split ∙ append_assoc h.front h.left more;
    enough = h.enough;
    within = h.within;
    all = λ not. let both : true ≡ false = sym is ∙ not in absurd cc;
    most = h.most;
  }

  -- one more was asked
  pub one_needed : now.is_enough ≡ false → (d : Pairs) (next : Needing) → next.pipeline.now ≡ now.pipeline.now
      → Goes (pipeline_of now.pipeline.now) d now next → Needs start (all ++ d ∷ []) next
  one_needed none d next same continues = record {
    pipeline = same ∙ h.pipeline;
    front = all ++ d ∷ [];
    left = [];
    split = sym (append-nil (all ++ d ∷ []));
    enough = λ seen e.
        subst (IsEnough stages next.needed.items)
        (append_assoc seen (filter (takes stages) h.front) (filter (takes stages) (d ∷ []))
        ∙ ap (λ (ys : List Pairs). seen ++ ys) (wanted (d ∷ []))) (here.enough (seen ++ filter (takes stages) h.front) (h.enough seen e));
    within = subst (All IsWithin) (wanted (d ∷ [])) (append_all IsWithin (filter (takes stages) h.front) (filter (takes stages) (d ∷ [])) h.within here.within);
    all = λ not. refl;
    most = here.most;
  }
    where
      here : Goes stages d now next
      here = subst (λ st. Goes st d now next) (ap pipeline_of h.pipeline) continues

      whole : h.front ≡ all
      whole = sym (append-nil h.front) ∙ ap (λ (ys : List Pairs). h.front ++ ys) (sym (h.all none)) ∙ sym h.split

      wanted : (more : List Pairs) → filter (takes stages) h.front ++ filter (takes stages) more ≡ filter (takes stages) (all ++ more)
      wanted more = sym (filter-append (takes stages) h.front more) ∙ ap (λ (ys : List Pairs). filter (takes stages) (ys ++ more)) whole

  module _ (none : start.needed.items ≡ []) where
    enough_of_front : IsEnough stages now.needed.items (filter (takes stages) h.front)
    enough_of_front = h.enough [] (subst (λ (ds : List Pairs). IsEnough stages ds []) (sym none) (none_is_enough stages))

    pub needed_of_within : AreOfWithin stages now.needed.items
    needed_of_within = record {
      seen = filter (takes stages) h.front;
      enough = enough_of_front;
      within = none_at_fault (filter (takes stages) h.front) h.within;
    }

    pub all_needed : (last : List Pairs) → now.is_enough ≡ false → ((seen : List Pairs) → IsEnough stages now.needed.items seen → IsEnough stages last seen)
        → AreEnough stages last all
    all_needed last not extends = λ fault.
        let whole : h.front ≡ all = sym (append-nil h.front) ∙ ap (λ (ys : List Pairs). h.front ++ ys) (sym (h.all not)) ∙ sym h.split in
        enough_of_all stages 65535 last all
        (subst (λ (xs : List Pairs). IsEnough stages last (filter (takes stages) xs)) whole (extends (filter (takes stages) h.front) enough_of_front)) fault

    pub enough_needed : now.is_enough ≡ true → AreEnough stages now.needed.items all
    enough_needed is = λ fault.
        enough_by_then stages 65535 now.needed.items h.front h.left enough_of_front (h.most is)
        (subst (λ (xs : List Pairs). first_fault 65535 xs ≡ None) h.split fault)
        ∙ ap (run stages 65535) (sym h.split)

-- where all that the pipeline takes are among some of them, what is enough of those is enough of all
pub enough_within : (stages : List Stage) (few : List Pairs) (chosen : Pairs → Bool) (all : List Pairs)
    → filter (takes stages) (filter chosen all) ≡ filter (takes stages) all → AreEnough stages few (filter chosen all) → AreEnough stages few all
enough_within stages few chosen all same h = λ fault.
    let given = filter chosen all in
    let good : first_fault 65535 given ≡ None =
    within-fault 65535 given (All-filter (λ d. limit_fault 65535 d ≡ None) chosen all (fault-within 65535 all fault)) in
    h good ∙ sym (only_taken stages 65535 given) ∙ ap (run stages 65535) same ∙ only_taken stages 65535 all

-- ---- documents that are looked up

-- Of those that a pipeline takes some were met, of which these few are enough, and the others are among those that are left.
pub record AreTakenOf (stages : List Stage) (few all left : List Pairs) : Type 0 where
  pub seen : List Pairs
  pub split : seen ++ filter (takes stages) left ≡ filter (takes stages) all
  pub enough : IsEnough stages few seen

module _ (stages : List Stage) where
  pub none_taken_of : (all found : List Pairs) → filter (takes stages) found ≡ filter (takes stages) all → AreTakenOf stages [] all found
  none_taken_of all found same = record { seen = []; split = same; enough = none_is_enough stages }

  pub one_taken_of : (few next : List Pairs) (x : Option Pairs)
      → ((seen : List Pairs) → IsEnough stages few seen → IsEnough stages next (seen ++ filter (takes stages) (with_found x [])))
      → (all left : List Pairs) (o : Option Pairs) → x ≡ o → AreTakenOf stages few all (with_found o left) → AreTakenOf stages next all left
  one_taken_of few next x extends all left o same h =
      let one = filter (takes stages) (with_found x []) in
      let later = filter (takes stages) left in
      record {
        seen = h.seen ++ one;
        split =
            append_assoc h.seen one later ∙ ap (λ (ys : List Pairs). h.seen ++ ys) (sym (found_first (takes stages) x left))
            ∙ ap (λ (y : Option Pairs). h.seen ++ filter (takes stages) (with_found y left)) same ∙ h.split;
        enough = extends h.seen h.enough;
      }

  pub all_taken_of : (few last all : List Pairs) → ((seen : List Pairs) → IsEnough stages few seen → IsEnough stages last seen) → AreTakenOf stages few all []
      → AreEnough stages last all
  all_taken_of few last all extends h = λ fault.
      let whole : h.seen ≡ filter (takes stages) all = sym (append-nil h.seen) ∙ h.split in
      enough_of_all stages 65535 last all (subst (IsEnough stages last) whole (extends h.seen h.enough)) fault

  pub enough_taken_of : (few all left : List Pairs) → SufficesTaken stages (length few) → AreTakenOf stages few all left → AreEnough stages few all
  enough_taken_of few all left most h = λ fault.
      let p = takes stages in
      let later = filter p left in
      let taken : Pass p h.seen = All-front (λ d. p d ≡ true) h.seen later (subst (Pass p) (sym h.split) (filter-passes p all)) in
      let same : filter p h.seen ≡ h.seen = passed-filter p h.seen taken in
      let within : first_fault 65535 (filter p all) ≡ None =
      within-fault 65535 (filter p all) (All-filter (λ d. limit_fault 65535 d ≡ None) p all (fault-within 65535 all fault)) in
      enough_by_then stages 65535 few h.seen later (subst (IsEnough stages few) (sym same) h.enough) most
      (subst (λ (xs : List Pairs). first_fault 65535 xs ≡ None) (sym h.split) within)
      ∙ ap (run stages 65535) h.split ∙ only_taken stages 65535 all

-- none was found
pub none_found_enough : (stages : List Stage) (now seen : List Pairs) (o : Option Pairs) → o ≡ None → IsEnough stages now seen
    → IsEnough stages now (seen ++ filter (takes stages) (with_found o []))
none_found_enough stages now seen o none h =
    subst (λ (o : Option Pairs). IsEnough stages now (seen ++ filter (takes stages) (with_found o []))) (sym none)
    (subst (IsEnough stages now) (sym (append-nil seen)) h)

-- one that was found within the limits
pub found_within : (p : Pairs → Bool) (o : Option Pairs) → IfSome o (λ d. IsWithin d) → All IsWithin (filter p (with_found o []))
found_within p None h = All-nil IsWithin
found_within p (Some d) h = at (p d) refl
  where
    at : (b : Bool) → p d ≡ b → All IsWithin (filter p (d ∷ []))
    at true e = rw e (All-cons IsWithin d [] h (All-nil IsWithin))
    at false e = rw e (All-nil IsWithin)
