-- Documents that are put into a batch as they are lent.
use Rattle.std.proofs.Common.{◌≡◌, ℕ, zero, suc, ◌+◌, ◌-◌, ◌<◌, ◌≤◌, Bool, true, false, List, [], ◌∷◌, ◌++◌, length, map, Option, Some}
use Rattle.std.proofs.Common.{None, refl, sym}
use Rattle.std.proofs.Common.{ap, subst, ◌∙◌, append_assoc, append-nil, arith, length-append}
use Rattle.std.specs.Prelude.{not, ◌||◌, nat_le, if◌then◌else◌, is_some, MatchOption}
use Rattle.std.specs.Global.{Vec}
use Rattle.std.proofs.lemmas.Bool.Decides.{nat_tests}
use Rattle.std.proofs.lemmas.List.{length-map, map-append, take_all}
use Rattle.std.proofs.lemmas.List.Elements.{filter-append}
use Rattle.bson.specs.Tree.{Pairs}
use Rattle.value_order.specs.KeyText.{tree_text}
use Rattle.filter.specs.Condition.{Conditions}
use Rattle.filter.specs.Matches.{matches}
use Rattle.projection.specs.Projection.{project}
use Rattle.entry_model.specs.State.{key_of}
use Rattle.database_model.specs.Find.{limited, matching, window}
use Rattle.replies.specs.OpenBatch.{HasGiven, IsOffered, IsOpen, has_room}
use Rattle.replies.specs.declared.open_batch.OpenBatch.{OpenBatch}
use Rattle.walks.specs.Batches.{Gives, IsBegun, IsFirstLeft, is_over, is_reached, picked_by}
use Rattle.walks.specs.declared.batches.BatchAsked.{BatchAsked}
use Rattle.walks.specs.declared.batches.Giving.{Giving}
use Rattle.walks.specs.declared.batches.Walk.{Walk}
use Rattle.walks.proofs.WindowLemmas.{all_skipped, window_full, window_more}

-- ---- what is given, where one more document is met

module _ (rules : Conditions) (d : Pairs) (all : List Pairs) where
  pub more_match : matches rules d ≡ true → matching rules (all ++ d ∷ []) ≡ matching rules all ++ d ∷ []
  more_match is =
      let one : matching rules (d ∷ []) ≡ d ∷ [] = rw is refl in
      filter-append (matches rules) all (d ∷ []) ∙ ap (λ (ds : List Pairs). matching rules all ++ ds) one

  pub none_match : matches rules d ≡ false → matching rules (all ++ d ∷ []) ≡ matching rules all
  none_match is =
      let none : matching rules (d ∷ []) ≡ [] = rw is refl in
      filter-append (matches rules) all (d ∷ []) ∙ ap (λ (ds : List Pairs). matching rules all ++ ds) none ∙ append-nil (matching rules all)

-- those that match of a front, and of what is behind it
pub matching_split : (rules : Conditions) (front behind : List Pairs) (d : Pairs) → matches rules d ≡ true
    → matching rules (front ++ d ∷ behind) ≡ matching rules front ++ d ∷ matching rules behind
matching_split rules front behind d is =
    let one : matching rules (d ∷ behind) ≡ d ∷ matching rules behind = rw is refl in
    filter-append (matches rules) front (d ∷ behind) ∙ ap (λ (ds : List Pairs). matching rules front ++ ds) one

-- on any disk a batch that was offered a document has some
pub offered_open : (before after : OpenBatch) (d : Pairs) (is_taken : Bool) → IsOffered before d is_taken after → IsOpen before → IsOpen after
offered_open before after d is_taken h some =
    record { ds = if is_taken then some.ds ++ d ∷ [] else some.ds; given = h.given some.ds some.given }

-- by whether it was taken
pub not_taken : (b : Bool) → not b ≡ false → b ≡ true
not_taken true e = refl
not_taken false e = absurd cc

pub not_left : (b : Bool) → not b ≡ true → b ≡ false
not_left true e = absurd cc
not_left false e = refl

-- where as many came as may, some came
no_limit : (limit : ℕ) → is_reached limit 0 ≡ true → ⊥
no_limit zero e = absurd cc
no_limit (suc n) e = absurd (grind (arith, nat_tests, e))

some_came : (skip limit : ℕ) (xs : List Pairs) → is_reached limit (length (window skip limit xs)) ≡ true → skip ≤ length xs
some_came skip limit xs reached = at (nat_le (length xs) skip) refl
  where
    at : (b : Bool) → nat_le (length xs) skip ≡ b → skip ≤ length xs
    at false e = grind (arith, nat_tests, e)
    at true e =
        let few : length xs ≤ skip = grind (arith, nat_tests, e) in
        let none : length (window skip limit xs) ≡ 0 = ap length (all_skipped skip limit xs few) in
        absurd (no_limit limit (sym (ap (is_reached limit) none) ∙ reached))

-- ---- by whether one is left

module _ {X : Type 0} (A : Type 0) (B : X → Type 0) where
  pub of_none : (o : Option X) → o ≡ None → MatchOption o A B → A
  of_none None e h = h
  of_none (Some x) e h = absurd cc

  pub as_none : (o : Option X) → o ≡ None → A → MatchOption o A B
  as_none None e h = h
  as_none (Some x) e h = absurd cc

pub by_none : (b some : Bool) → some ≡ not b → b ≡ not some
by_none true some e = ap not (sym e)
by_none false some e = ap not (sym e)

-- ---- a fold that is over stays so

module _ (start now : Giving) (all more : List Pairs) (h : Gives start all now) where
  abbrev rules : Conditions
  rules = start.filter.now

  longer : length (matching rules all) ≤ length (matching rules (all ++ more))
  longer =
      omega (arith, ap length (filter-append (matches rules) all more), length-append (matching rules all) (matching rules more))

  abbrev IsGiven : List Pairs → Type 0
  IsGiven ds = MatchOption now.next (HasGiven now.batch (picked_by start ds)) (λ text. IsFirstLeft start ds now.batch text.items)

  with_given : start.skip ≤ length (matching rules all) → IsGiven (all ++ more) → Gives start (all ++ more) now
  with_given none given = record {
    same_filter = h.same_filter;
    same_projection = h.same_projection;
    same_limit = h.same_limit;
    same_kind = h.same_kind;
    same_most = h.same_most;
    to_skip = omega (arith, h.to_skip, none, longer);
    given = given;
  }

  still_left : (text : List ℕ) → IsFirstLeft start all now.batch text → IsFirstLeft start (all ++ more) now.batch text
  still_left text l = record {
    front = l.front;
    first = l.first;
    behind = l.behind ++ more;
    split = ap (λ (ds : List Pairs). ds ++ more) l.split ∙ append_assoc l.front (l.first ∷ l.behind) more;
    key = l.key;
    matched = l.matched;
    skipped = l.skipped;
    may_come = l.may_come;
    given = l.given;
    no_room = l.no_room;
  }

  none_to_skip : (text : List ℕ) → IsFirstLeft start all now.batch text → start.skip ≤ length (matching rules all)
  none_to_skip text l =
      omega (
        arith,
        l.skipped,
        ap (λ (ds : List Pairs). length (matching rules ds)) l.split,
        ap length (filter-append (matches rules) l.front (l.first ∷ l.behind)),
        length-append (matching rules l.front) (matching rules (l.first ∷ l.behind)),
      )

  picked_len : (ds : List Pairs) → length (picked_by start ds) ≡ length (window start.skip start.limit (matching rules ds))
  picked_len ds = length-map (window start.skip start.limit (matching rules ds)) (project start.projection.now)

  pub over_gives : is_over now ≡ true → Gives start (all ++ more) now
  over_gives over = by now.next refl
    where
      by : (o : Option (Vec ℕ)) → now.next ≡ o → Gives start (all ++ more) now
      by (Some text) e =
          let left : IsFirstLeft start all now.batch text.items =
          subst (λ (o : Option (Vec ℕ)). MatchOption o (HasGiven now.batch (picked_by start all)) (λ t. IsFirstLeft start all now.batch t.items)) e h.given in
          with_given (none_to_skip text.items left)
          (subst (λ (o : Option (Vec ℕ)). MatchOption o (HasGiven now.batch (picked_by start (all ++ more)))
          (λ t. IsFirstLeft start (all ++ more) now.batch t.items)) (sym e) (still_left text.items left))
      by None e =
          let given : HasGiven now.batch (picked_by start all) =
          of_none (HasGiven now.batch (picked_by start all)) (λ (t : Vec ℕ). IsFirstLeft start all now.batch t.items) now.next e h.given in
          let full : is_reached now.limit now.batch.count ≡ true =
          sym (ap (λ (o : Option (Vec ℕ)). is_some o || is_reached now.limit now.batch.count) e) ∙ over in
          let count : now.batch.count ≡ length (window start.skip start.limit (matching rules all)) = given.counted ∙ picked_len all in
          let reached : is_reached start.limit (length (window start.skip start.limit (matching rules all))) ≡ true =
          (λ k. is_reached (sym h.same_limit k) (sym count k)) ∙ full in
          let same : picked_by start (all ++ more) ≡ picked_by start all =
          ap (λ (ds : List Pairs). map (project start.projection.now) (window start.skip start.limit ds)) (filter-append (matches rules) all more)
          ∙ ap (map (project start.projection.now)) (window_full start.skip start.limit (matching rules all) (matching rules more) reached) in
          with_given (some_came start.skip start.limit (matching rules all) reached)
          (as_none (HasGiven now.batch (picked_by start (all ++ more))) (λ (t : Vec ℕ). IsFirstLeft start (all ++ more) now.batch t.items) now.next e
          (subst (HasGiven now.batch) (sym same) given))

-- ---- one document more

-- what is known of a fold that isn't over
module _ (start now : Giving) (all : List Pairs) (d : Pairs) (h : Gives start all now) (goes_on : is_over now ≡ false) where
  abbrev rules_of : Conditions
  rules_of = start.filter.now

  abbrev wanted : List Pairs
  wanted = matching rules_of all

  none_left : now.next ≡ None
  none_left = by now.next refl goes_on
    where
      by : (o : Option (Vec ℕ)) → now.next ≡ o → (is_some o || is_reached now.limit now.batch.count) ≡ false → now.next ≡ None
      by None e f = e
      by (Some text) e f = absurd cc

  so_far : HasGiven now.batch (picked_by start all)
  so_far = of_none (HasGiven now.batch (picked_by start all)) (λ (t : Vec ℕ). IsFirstLeft start all now.batch t.items) now.next none_left h.given

  not_reached : is_reached now.limit now.batch.count ≡ false
  not_reached = sym (ap (λ (o : Option (Vec ℕ)). is_some o || is_reached now.limit now.batch.count) none_left) ∙ goes_on

  counted : now.batch.count ≡ length (window start.skip start.limit wanted)
  counted = so_far.counted ∙ length-map (window start.skip start.limit wanted) (project start.projection.now)

  may_come : is_reached start.limit (length (window start.skip start.limit wanted)) ≡ false
  may_come = (λ k. is_reached (sym h.same_limit k) (sym counted k)) ∙ not_reached

  matched : matches now.filter.now d ≡ true → matches rules_of d ≡ true
  matched is = ap (λ rs. matches rs d) (sym h.same_filter) ∙ is

  -- it doesn't match
  pub passes_by : matches now.filter.now d ≡ false → Gives start (all ++ d ∷ []) now
  passes_by is =
      let same : matching rules_of (all ++ d ∷ []) ≡ wanted = none_match rules_of d all (ap (λ rs. matches rs d) (sym h.same_filter) ∙ is) in
      let picked_same : picked_by start (all ++ d ∷ []) ≡ picked_by start all =
      ap (λ (ds : List Pairs). map (project start.projection.now) (window start.skip start.limit ds)) same in
      record {
        same_filter = h.same_filter;
        same_projection = h.same_projection;
        same_limit = h.same_limit;
        same_kind = h.same_kind;
        same_most = h.same_most;
        to_skip = h.to_skip ∙ ap (λ (ds : List Pairs). start.skip - length ds) (sym same);
        given = as_none (HasGiven now.batch (picked_by start (all ++ d ∷ []))) (λ (t : Vec ℕ). IsFirstLeft start (all ++ d ∷ []) now.batch t.items) now.next
            none_left (subst (HasGiven now.batch) (sym picked_same) so_far);
      }

  -- it is left out at the front
  pub left_out : (next : Giving) → matches now.filter.now d ≡ true → 0 < now.skip → next.filter.now ≡ now.filter.now → next.projection.now ≡ now.projection.now
      → next.limit ≡ now.limit → next.batch ≡ now.batch → next.next ≡ now.next → next.skip ≡ now.skip - 1 → Gives start (all ++ d ∷ []) next
  left_out next is some filter_same projection_same limit_same batch_same next_same less =
      let more : matching rules_of (all ++ d ∷ []) ≡ wanted ++ d ∷ [] = more_match rules_of d all (matched is) in
      let longer : length (matching rules_of (all ++ d ∷ [])) ≡ length wanted + 1 = ap length more ∙ length-append wanted (d ∷ []) in
      let none : window start.skip start.limit wanted ≡ [] = all_skipped start.skip start.limit wanted (omega (arith, h.to_skip, some)) in
      let none_yet : window start.skip start.limit (matching rules_of (all ++ d ∷ [])) ≡ [] =
      all_skipped start.skip start.limit (matching rules_of (all ++ d ∷ [])) (omega (arith, h.to_skip, some, longer)) in
      let picked_same : picked_by start (all ++ d ∷ []) ≡ picked_by start all = ap (map (project start.projection.now)) (none_yet ∙ sym none) in
      record {
        same_filter = filter_same ∙ h.same_filter;
        same_projection = projection_same ∙ h.same_projection;
        same_limit = limit_same ∙ h.same_limit;
        same_kind = ap (λ (b : OpenBatch). b.kind) batch_same ∙ h.same_kind;
        same_most = ap (λ (b : OpenBatch). b.most) batch_same ∙ h.same_most;
        to_skip = omega (arith, less, h.to_skip, longer, some);
        given = as_none (HasGiven next.batch (picked_by start (all ++ d ∷ []))) (λ (t : Vec ℕ). IsFirstLeft start (all ++ d ∷ []) next.batch t.items) next.next
            (next_same ∙ none_left)
            (subst (λ (b : OpenBatch). HasGiven b (picked_by start (all ++ d ∷ []))) (sym batch_same) (subst (HasGiven now.batch) (sym picked_same) so_far));
      }

  -- it was offered
  module _ (next : Giving) (is_taken : Bool) (is : matches now.filter.now d ≡ true) (none : now.skip ≡ 0) (filter_same : next.filter.now ≡ now.filter.now)
      (projection_same : next.projection.now ≡ now.projection.now) (limit_same : next.limit ≡ now.limit) (skip_same : next.skip ≡ now.skip)
      (offered : IsOffered now.batch (project now.projection.now d) is_taken next.batch) where
    skipped : start.skip ≤ length wanted
    skipped = omega (arith, h.to_skip, none)

    more : matching rules_of (all ++ d ∷ []) ≡ wanted ++ d ∷ []
    more = more_match rules_of d all (matched is)

    one_longer : length (matching rules_of (all ++ d ∷ [])) ≡ length wanted + 1
    one_longer = ap length more ∙ length-append wanted (d ∷ [])

    same_projected : project now.projection.now d ≡ project start.projection.now d
    same_projected = ap (λ p. project p d) h.same_projection

    with_offered : MatchOption next.next (HasGiven next.batch (picked_by start (all ++ d ∷ [])))
        (λ text. IsFirstLeft start (all ++ d ∷ []) next.batch text.items) → Gives start (all ++ d ∷ []) next
    with_offered given = record {
      same_filter = filter_same ∙ h.same_filter;
      same_projection = projection_same ∙ h.same_projection;
      same_limit = limit_same ∙ h.same_limit;
      same_kind = offered.same_kind ∙ h.same_kind;
      same_most = offered.same_most ∙ h.same_most;
      to_skip = omega (arith, skip_same, h.to_skip, one_longer, skipped, none);
      given = given;
    }

    one_more : picked_by start (all ++ d ∷ []) ≡ picked_by start all ++ project now.projection.now d ∷ []
    one_more =
        let p = start.projection.now in
        let n = length (window start.skip start.limit wanted) in
        let one : limited (start.limit - n) (d ∷ []) ≡ d ∷ [] = one_limited (start.limit - n) in
        ap (λ (ds : List Pairs). map (project p) (window start.skip start.limit ds)) more
        ∙ ap (map (project p)) (window_more start.skip start.limit wanted (d ∷ []) skipped may_come)
        ∙ ap (λ (ds : List Pairs). map (project p) (window start.skip start.limit wanted ++ ds)) one
        ∙ map-append (project p) (window start.skip start.limit wanted) (d ∷ [])
        ∙ ap (λ (x : Pairs). picked_by start all ++ x ∷ []) (sym same_projected)
      where
        one_limited : (limit : ℕ) → limited limit (d ∷ []) ≡ d ∷ []
        one_limited zero = refl
        one_limited (suc n) = ap (λ (ds : List Pairs). d ∷ ds) (take_all n [] (omega arith))

    pub went_in : is_taken ≡ true → next.next ≡ now.next → Gives start (all ++ d ∷ []) next
    went_in taken next_same =
        let one = project now.projection.now d in
        let given = subst (λ (b : Bool). HasGiven next.batch (if b then picked_by start all ++ one ∷ [] else picked_by start all)) taken
        (offered.given (picked_by start all) so_far) in
        with_offered
        (as_none (HasGiven next.batch (picked_by start (all ++ d ∷ []))) (λ (t : Vec ℕ). IsFirstLeft start (all ++ d ∷ []) next.batch t.items) next.next
        (next_same ∙ none_left) (subst (HasGiven next.batch) (sym one_more) given))

    pub is_left : is_taken ≡ false → (text : Vec ℕ) → next.next ≡ Some text → text.items ≡ tree_text (key_of d) → Gives start (all ++ d ∷ []) next
    is_left taken text next_is key =
        let given : HasGiven next.batch (picked_by start all) =
        subst (λ (b : Bool). HasGiven next.batch (if b then picked_by start all ++ project now.projection.now d ∷ [] else picked_by start all))
        taken
        (offered.given (picked_by start all) so_far) in
        let left : IsFirstLeft start (all ++ d ∷ []) next.batch text.items = record {
          front = all;
          first = d;
          behind = [];
          split = refl;
          key = key;
          matched = matched is;
          skipped = skipped;
          may_come = ap (is_reached start.limit) (given.counted ∙ sym so_far.counted) ∙ (λ k. is_reached (sym h.same_limit k) now.batch.count) ∙ not_reached;
          given = given;
          no_room = sym (ap (has_room next.batch) same_projected) ∙ offered.refused taken;
        } in
        with_offered
        (subst (λ (o : Option (Vec ℕ)). MatchOption o (HasGiven next.batch (picked_by start (all ++ d ∷ [])))
        (λ t. IsFirstLeft start (all ++ d ∷ []) next.batch t.items)) (sym next_is) left)

-- ---- before and behind all of them

pub begins : (w : Walk) (asked : BatchAsked) (g : Giving) → IsBegun w asked g → Gives g [] g
begins w asked g h =
    let none : picked_by g [] ≡ [] = ap (map (project g.projection.now)) (all_skipped g.skip g.limit [] (omega arith)) in
    record {
      same_filter = refl;
      same_projection = refl;
      same_limit = refl;
      same_kind = refl;
      same_most = refl;
      to_skip = omega arith;
      given = as_none (HasGiven g.batch (picked_by g [])) (λ (t : Vec ℕ). IsFirstLeft g [] g.batch t.items) g.next h.none_left
          (subst (HasGiven g.batch) (sym none) h.empty);
    }

-- on any disk the batch has some documents
pub has_some : (start now : Giving) (ds : List Pairs) → Gives start ds now → IsOpen now.batch
has_some start now ds h = by now.next h.given
  where
    by : (o : Option (Vec ℕ)) → MatchOption o (HasGiven now.batch (picked_by start ds)) (λ t. IsFirstLeft start ds now.batch t.items) → IsOpen now.batch
    by None given = record { ds = picked_by start ds; given = given }
    by (Some text) left = record { ds = picked_by start left.front; given = left.given }
