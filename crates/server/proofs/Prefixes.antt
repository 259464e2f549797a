-- What a crash leaves of a run: the collections after some first turns.
use Rattle.std.proofs.Common.{◌≡◌, inl, inr, ℕ, zero, suc, ◌+◌, ◌≤◌, ◌<◌, List, [], ◌∷◌, ◌++◌, length, take, slice_get, refl, sym, ◌∙◌, ap, subst, arith}
use Rattle.std.proofs.lemmas.List.{take_all, take-append-le, length-append}
use Rattle.std.proofs.Math.Seq.{take-length}
use Rattle.std.specs.Prelude.{◌⊎◌, ◌≢◌, cond, nat_le, true, false, Bool, Option, Some, None}
use Rattle.std.proofs.lemmas.Bool.{cases_lt}
use Rattle.std.proofs.lemmas.Bool.Decides.{nat_tests}
use Rattle.page.specs.History.{History, now, reads, IsImage}
use Rattle.roots.specs.declared.opening.OpenFault.{OpenFault}
use Rattle.roots.specs.declared.opening.OpenFault.TheVariants as faults
use Rattle.entry_model.specs.State.{Collection}
use Rattle.collections.proofs.LawLemmas.{holds_one}
use Rattle.opening.specs.Holding.{HoldsCollections}
use Rattle.server.specs.ServerState.{ServerState, fed, ended}
use Rattle.server.specs.Moment.{Moment, TurnEnd, Instant, HasKeptWord, end_at, last_collections, last_moment, HoldsEither, LeavesInOrder}
use Rattle.server.specs.History.{Happens}
use Rattle.server.specs.Durable.{disk_history, collections_of, clock_of, instant_of}
use Rattle.server.specs.Headline.{Ends}
use Rattle.server.specs.Prefix.{cut_turn, acknowledged, after_turns, Reaches, ReachesCut, FindsAPrefix}
use Rattle.server.specs.declared.turn.TurnFault.TheVariants as turns
use Rattle.server.specs.declared.step.Step.{Step}
use Rattle.server.specs.declared.step.Step.TheVariants as steps
use Rattle.server.specs.declared.connection.FeedFault.TheVariants as feeds
use Rattle.server.specs.declared.drive.DriveFault.{DriveFault}
use Rattle.server.specs.declared.drive.DriveFault.TheVariants as stops
use Rattle.server.proofs.Histories.{happens_on, one_turn, collections_after, last_collections-append}

-- ---- in order of time

acknowledged_first : (clock : ℕ) (e : TurnEnd) (later : List TurnEnd) → e.at.clock ≤ clock → acknowledged clock (e ∷ later) ≡ e ∷ acknowledged clock later
acknowledged_first clock e later before =
    let is : nat_le e.at.clock clock ≡ true = grind (arith, nat_tests) in
    ap (λ (b : Bool). cond b (e ∷ acknowledged clock later) (acknowledged clock later)) is

acknowledged_not : (clock : ℕ) (e : TurnEnd) (later : List TurnEnd) → clock < e.at.clock → acknowledged clock (e ∷ later) ≡ acknowledged clock later
acknowledged_not clock e later after =
    let is : nat_le e.at.clock clock ≡ false = grind (arith, nat_tests) in
    ap (λ (b : Bool). cond b (e ∷ acknowledged clock later) (acknowledged clock later)) is

-- before the first of these turns had answered
none_acknowledged : (h : History) (clock from : ℕ) (before : List Collection) (ends : List TurnEnd) (last : List Collection) → clock < from
    → LeavesInOrder h from before ends last → acknowledged clock ends ≡ []
none_acknowledged h clock from before [] last early order = refl
none_acknowledged h clock from before (e ∷ later) last early order =
    let after : clock < e.at.clock = omega (arith, order.0, early) in
    acknowledged_not clock e later after ∙ none_acknowledged h clock e.at.clock e.collections later last after order.3

-- What an image holds, by the turns that had answered, all that answered, and what comes behind them.
record HoldsFirst (image : ℕ → List ℕ) (before : List Collection) (answered ends more : List TurnEnd) : Type 0 where
  pub count : ℕ
  pub within : count ≤ length (ends ++ more)
  pub first_ones : answered ≡ take (length answered) ends
  pub none_lost : length answered ≤ count
  pub one_more : count ≤ length answered + 1
  pub holds : HoldsCollections image (after_turns before count (ends ++ more))

module _ (image : ℕ → List ℕ) (before : List Collection) (more : List TurnEnd) where
  -- none had answered: it holds what was there, or what the first one leaves
  none_answered : (e : TurnEnd) (later : List TurnEnd) → HoldsEither before e.collections image → HoldsFirst image before [] (e ∷ later) more
  none_answered e later
      (inl holds) = record { count = 0; within = omega arith; first_ones = refl; none_lost = omega arith; one_more = omega arith; holds = holds }
  none_answered e later
      (inr holds) = record { count = 1; within = omega arith; first_ones = refl; none_lost = omega arith; one_more = omega arith; holds = holds }

  -- one more had answered
  one_answered : (e : TurnEnd) (answered later : List TurnEnd) → HoldsFirst image e.collections answered later more
      → HoldsFirst image before (e ∷ answered) (e ∷ later) more
  one_answered e answered later p = record {
    count = suc p.count;
    within = omega (arith, p.within);
    first_ones = ap (λ (es : List TurnEnd). e ∷ es) p.first_ones;
    none_lost = omega (arith, p.none_lost);
    one_more = omega (arith, p.one_more);
    holds = p.holds;
  }

  -- all had answered: it holds what they left, or what came behind
  all_answered : (last : List Collection) → length more ≤ 1 → last ≡ last_collections before more → HoldsEither before last image
      → HoldsFirst image before [] [] more
  all_answered last few is
      (inl holds) = record { count = 0; within = omega arith; first_ones = refl; none_lost = omega arith; one_more = omega arith; holds = holds }
  all_answered last few is (inr holds) = record {
    count = length more;
    within = omega arith;
    first_ones = refl;
    none_lost = omega arith;
    one_more = omega (arith, few);
    holds = subst (HoldsCollections image) (is ∙ sym (ap (last_collections before) (take-length more))) holds;
  }

module _ (h : History) (clock : ℕ) (within : clock ≤ h.clock) (image : ℕ → List ℕ) (left : IsImage (h.moment clock) image) (last : List Collection)
    (more : List TurnEnd) (few : length more ≤ 1) where
  first_held : (from : ℕ) (before : List Collection) (ends : List TurnEnd) → from ≤ clock → last ≡ last_collections (last_collections before ends) more
      → LeavesInOrder h from before ends last
      → HoldsFirst image before (acknowledged clock ends) ends more
  first_held from before [] begun is order = all_answered image before more last few is (order.1 clock begun within image left)
  first_held from before (e ∷ later) begun is order =
      elim (cases_lt clock e.at.clock) [
        | inl after ↦
            let none : acknowledged clock (e ∷ later) ≡ [] =
            acknowledged_not clock e later after ∙ none_acknowledged h clock e.at.clock e.collections later last after order.3 in
            subst (λ (es : List TurnEnd). HoldsFirst image before es (e ∷ later) more) (sym none)
            (none_answered image before more e later (order.2 clock begun (omega (arith, after)) image left))
        | inr answered ↦
            subst (λ (es : List TurnEnd). HoldsFirst image before es (e ∷ later) more) (sym (acknowledged_first clock e later answered))
            (one_answered image before more e (acknowledged clock later) later (first_held e.at.clock e.collections later answered is order.3))
      ]

-- ---- first steps

abbrev instant : Moment → ServerState → Instant
instant at state = record { moment = at; state = state }

-- The first turns of a history are those of its first steps.
first_happened : (all : List Step) (at : Moment) (a b : ServerState) (given : List (ℕ × List ℕ)) (ends : List TurnEnd) (count : ℕ) → count ≤ length ends
    → Happens at a all given ends b
    → Reaches (instant at a) all (take count ends) (after_turns a.world.collections count ends)
first_happened all at a b given ends zero within h = record { steps = 0; given = []; state = a; happens = (refl, refl, refl); leaves = refl }
first_happened [] at a b given ends (suc count) within h = absurd (omega (arith, within, ap length h.1))
first_happened (steps.Bytes id chunk ∷ later) at a b given ends (suc count) within h =
    let r : Reaches (instant at (fed a id chunk.items)) later (take (suc count) ends) (after_turns a.world.collections (suc count) ends) =
    first_happened later at (fed a id chunk.items) b given ends (suc count) within h in
    record { steps = suc r.steps; given = r.given; state = r.state; happens = r.happens; leaves = r.leaves }
first_happened (steps.Gone id ∷ later) at a b given ends (suc count) within h =
    let r : Reaches (instant at (ended a id)) later (take (suc count) ends) (after_turns a.world.collections (suc count) ends) =
    first_happened later at (ended a id) b given ends (suc count) within h in
    record { steps = suc r.steps; given = r.given; state = r.state; happens = r.happens; leaves = r.leaves }
first_happened (steps.Turn ∷ later) at a b given ends (suc count) within h =
    let few : count ≤ length h.4 = omega (arith, within, ap length h.8) in
    let r : Reaches (instant h.3.at h.0) later (take count h.4) (after_turns h.0.world.collections count h.4) =
    first_happened later h.3.at h.0 b h.2 h.4 count few h.9 in
    record {
      steps = suc r.steps;
      given = h.1.replies ++ r.given;
      state = r.state;
      happens = (h.0, h.1, r.given, h.3, take count h.4, h.5, h.6, refl, ap (take (suc count)) h.8, r.happens);
      leaves = ap (after_turns a.world.collections (suc count)) h.8 ∙ ap (λ (cs : List Collection). last_collections cs (take count h.4)) h.6 ∙ r.leaves;
    }

-- some first steps of some first steps
take_take : (n m : ℕ) (xs : List Step) → (k : ℕ) × (take n (take m xs) ≡ take k xs)
take_take zero m xs = (0, refl)
take_take (suc n) zero xs = (0, refl)
take_take (suc n) (suc m) [] = (0, refl)
take_take (suc n) (suc m) (x ∷ xs) =
    let shorter : (k : ℕ) × (take n (take m xs) ≡ take k xs) = take_take n m xs in
    (suc shorter.0, ap (λ (ys : List Step). x ∷ ys) shorter.1)

reaches_more : (first : Instant) (all : List Step) (i : ℕ) (ends : List TurnEnd) (collections : List Collection) → Reaches first (take i all) ends collections
    → Reaches first all ends collections
reaches_more first all i ends collections r =
    let shorter : (k : ℕ) × (take r.steps (take i all) ≡ take k all) = take_take r.steps i all in
    record {
      steps = shorter.0;
      given = r.given;
      state = r.state;
      happens = subst (λ (xs : List Step). Happens first.moment first.state xs r.given ends r.state) shorter.1 r.happens;
      leaves = r.leaves;
    }

-- the steps up to one and this one
take_with : (all : List Step) (i : ℕ) (x : Step) → slice_get all i ≡ Some x → take (suc i) all ≡ take i all ++ x ∷ []
take_with [] i x is = absurd cc
take_with (y ∷ ys) zero x is = ap (λ (z : Step). z ∷ []) (same is)
  where
    same : Some y ≡ Some x → y ≡ x
    same e = cc
take_with (y ∷ ys) (suc i) x is = ap (λ (zs : List Step). y ∷ zs) (take_with ys i x is)

none_cut : (ends : List TurnEnd) (count : ℕ) → count ≤ length (ends ++ []) → length ends < count → ⊥
none_cut ends count within beyond = omega (arith, within, beyond, length-append ends [])

module _ (first : Instant) (all : List Step) (given : List (ℕ × List ℕ)) (last : Instant) (kept : HasKeptWord last) where
  -- However a run ends, the turns that answered are those of its first steps.
  first_reached : (stopped : Option (ℕ × DriveFault)) (ends : List TurnEnd) (count : ℕ) → count ≤ length ends → Ends first false all stopped given ends last
      → Reaches first all (take count ends) (after_turns first.state.world.collections count ends)
  first_reached None ends count within h = first_happened all first.moment first.state last.state given ends count within (h kept)
  first_reached (Some (i, stops.Feed feeds.Memory)) ends count within h =
      reaches_more first all i (take count ends) (after_turns first.state.world.collections count ends)
      (first_happened (take i all) first.moment first.state last.state given ends count within (h.1 kept))
  first_reached (Some (i, stops.Feed feeds.Closed)) ends count within h = absurd h
  first_reached (Some (i, stops.Turn fault)) ends count within h =
      reaches_more first all i (take count ends) (after_turns first.state.world.collections count ends)
      (first_happened (take i all) first.moment first.state h.1.before given ends count within (h.1.happens kept))
  first_reached (Some (i, stops.Gather)) ends count within h =
      let mid : Instant = instant (last_moment first.moment h.1.earlier) h.1.before in
      let turn : Happens mid.moment mid.state (steps.Turn ∷ []) h.1.lost.replies (end_at last ∷ []) last.state = one_turn mid last h.1.lost (h.1.turn kept) in
      let whole : Happens first.moment first.state (take i all ++ steps.Turn ∷ []) (given ++ h.1.lost.replies) (h.1.earlier ++ end_at last ∷ []) last.state =
      happens_on (take i all) (steps.Turn ∷ []) first.moment first.state h.1.before last.state given h.1.lost.replies h.1.earlier (end_at last ∷ [])
      (h.1.happens kept) turn in
      let steps_are : Happens first.moment first.state (take (suc i) all) (given ++ h.1.lost.replies) (h.1.earlier ++ end_at last ∷ []) last.state =
      subst (λ (xs : List Step). Happens first.moment first.state xs (given ++ h.1.lost.replies) (h.1.earlier ++ end_at last ∷ []) last.state)
      (sym (take_with all i steps.Turn h.0)) whole in
      let ends_are : Happens first.moment first.state (take (suc i) all) (given ++ h.1.lost.replies) ends last.state =
      subst (λ (es : List TurnEnd). Happens first.moment first.state (take (suc i) all) (given ++ h.1.lost.replies) es last.state)
      (sym h.1.counted) steps_are in
      reaches_more first all (suc i) (take count ends) (after_turns first.state.world.collections count ends)
      (first_happened (take (suc i) all) first.moment first.state last.state (given ++ h.1.lost.replies) ends count within ends_are)

  -- The collections at the end are those after the turns that were accepted.
  last_accepted : (stopped : Option (ℕ × DriveFault)) (ends : List TurnEnd) → Ends first false all stopped given ends last
      → last.state.world.collections ≡ last_collections (last_collections first.state.world.collections ends) (cut_turn stopped last)
  last_accepted None ends h = collections_after all first.moment first.state last.state given ends (h kept)
  last_accepted (Some (i, stops.Feed feeds.Memory)) ends h = collections_after (take i all) first.moment first.state last.state given ends (h.1 kept)
  last_accepted (Some (i, stops.Feed feeds.Closed)) ends h = absurd h
  last_accepted (Some (i, stops.Turn turns.Memory)) ends h =
      ap (λ (s : ServerState). s.world.collections) h.1.turn ∙ collections_after (take i all) first.moment first.state h.1.before given ends (h.1.happens kept)
  last_accepted (Some (i, stops.Turn turns.Stopped)) ends h = refl
  last_accepted (Some (i, stops.Gather)) ends h =
      sym (ap (last_collections first.state.world.collections) h.1.counted
      ∙ last_collections-append first.state.world.collections h.1.earlier (end_at last ∷ []))

  -- More turns are there only where one was cut.
  cut_reached : (stopped : Option (ℕ × DriveFault)) (ends : List TurnEnd) (count : ℕ) (collections : List Collection)
      → collections ≡ after_turns first.state.world.collections count (ends ++ cut_turn stopped last)
      → count ≤ length (ends ++ cut_turn stopped last) → length ends < count → Ends first false all stopped given ends last
      → ReachesCut first all ends last collections
  cut_reached None ends count collections are within beyond h = absurd (none_cut ends count within beyond)
  cut_reached (Some (i, stops.Feed fault)) ends count collections are within beyond h = absurd (none_cut ends count within beyond)
  cut_reached (Some (i, stops.Turn turns.Memory)) ends count collections are within beyond h = absurd (none_cut ends count within beyond)
  cut_reached (Some (i, stops.Gather)) ends count collections are within beyond h = absurd (none_cut ends count within beyond)
  cut_reached (Some (i, stops.Turn turns.Stopped)) ends count collections are within beyond h =
      let whole : length (ends ++ end_at last ∷ []) ≤ count = omega (arith, beyond, length-append ends (end_at last ∷ [])) in
      record {
        steps = i;
        given = given;
        before = h.1.before;
        happens = h.1.happens kept;
        turn = h.0;
        cut = h.1.turn kept;
        leaves = are ∙ ap (last_collections first.state.world.collections) (take_all count (ends ++ end_at last ∷ []) whole)
            ∙ last_collections-append first.state.world.collections ends (end_at last ∷ []);
      }

one_cut : (stopped : Option (ℕ × DriveFault)) (last : Instant) → length (cut_turn stopped last) ≤ 1
one_cut None last = omega arith
one_cut (Some (i, stops.Feed fault)) last = omega arith
one_cut (Some (i, stops.Turn turns.Stopped)) last = omega arith
one_cut (Some (i, stops.Turn turns.Memory)) last = omega arith
one_cut (Some (i, stops.Gather)) last = omega arith

-- ---- opening

one_of_two : (fault : OpenFault) → (fault ≢ faults.Device → fault ≢ faults.Memory → ⊥) → (fault ≡ faults.Device) ⊎ (fault ≡ faults.Memory)
one_of_two faults.Device refused = inl refl
one_of_two faults.Memory refused = inr refl
one_of_two faults.NotADatabase refused = absurd (refused (λ e. absurd cc) (λ e. absurd cc))
one_of_two faults.Damaged refused = absurd (refused (λ e. absurd cc) (λ e. absurd cc))
one_of_two faults.NewerFormat refused = absurd (refused (λ e. absurd cc) (λ e. absurd cc))

pub finds_a_prefix : {D E : Type 0} (history : D → History) (later : E → History) → FindsAPrefix history later
finds_a_prefix history later first all out last disk drives running keeps left =
    let start : Instant = instant_of history first in
    let end : Instant = instant_of history last in
    let image : ℕ → List ℕ = reads (now (later disk)) in
    let more : List TurnEnd = cut_turn out.stopped end in
    let happens : Ends start false all out.stopped drives.given drives.ends end =
    subst (λ (b : Bool). Ends start b all out.stopped drives.given drives.ends end) running drives.happens in
    let p : HoldsFirst image (collections_of first) (acknowledged left.at drives.ends) drives.ends more =
    first_held (disk_history history last) left.at left.before image left.left (collections_of last) more (one_cut out.stopped end) (clock_of history first)
    (collections_of first) drives.ends left.after
    (last_accepted start all drives.given end keeps out.stopped drives.ends happens) (drives.in_order running keeps) in
    let found : List Collection = after_turns (collections_of first) p.count (drives.ends ++ more) in
    let among : p.count ≤ length drives.ends → after_turns (collections_of first) p.count drives.ends ≡ found =
    λ within. sym (ap (last_collections (collections_of first)) (take-append-le p.count drives.ends more within)) in
    record {
      count = p.count;
      collections = found;
      after = refl;
      within = p.within;
      first_ones = p.first_ones;
      none_lost = p.none_lost;
      one_more = p.one_more;
      happened = λ within. subst (Reaches start all (take p.count drives.ends)) (among within)
          (first_reached start all drives.given end keeps out.stopped drives.ends p.count within happens);
      cut = λ beyond. cut_reached start all drives.given end keeps out.stopped drives.ends p.count found refl p.within beyond happens;
      holds = p.holds;
      found = λ core opened. opened.engine.trusted found p.holds;
      refused = λ back fault refused word. one_of_two fault (λ device memory. refused.damaged device memory word found p.holds);
    }
