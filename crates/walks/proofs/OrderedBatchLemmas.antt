-- Batches of documents that are read in the order of an index.
use Rattle.std.proofs.Common.{◌≡◌, ◌⊎◌, inl, inr, ⊎_elim, ℕ, zero, suc, ◌+◌, ◌-◌, ◌<◌, ◌≤◌, true, false, List, [], ◌∷◌, ◌++◌, length, map, drop}
use Rattle.std.proofs.Common.{Option, Some, None, get_or, refl, sym, ap, subst, ◌∙◌, arith}
use Rattle.std.specs.Prelude.{All, Contains, MatchOption, is_some, if◌then◌else◌, ◌||◌, not}
use Rattle.std.specs.Ordering.{is_lt}
use Rattle.std.specs.Global.{Vec}
use Rattle.std.specs.Cmp.Lexicographic.{nat_list_cmp_total}
use Rattle.std.specs.declared.cmp.Ordering.{Ordering}
use Rattle.std.specs.declared.cmp.Ordering.TheVariants.{Less, Equal, Greater}
use Rattle.std.proofs.lemmas.Cmp.{tied_itself}
use Rattle.std.proofs.lemmas.List.{length-map, map-append}
use Rattle.std.proofs.lemmas.List.Elements.{All-append}
use Rattle.std.proofs.lemmas.List.Sorted.{length_permutation}
use Rattle.bson.specs.Tree.{Pairs}
use Rattle.tree_model.specs.Keys.{Each, IsNotUnder, IsUnder, Rises, key_cmp}
use Rattle.value_order.specs.Order.{bytes_cmp}
use Rattle.tree_model.proofs.KeyLemmas.{three, under_then_up_to}
use Rattle.tree_model.proofs.ListLemmas.{rises_append}
use Rattle.filter.specs.Matches.{matches}
use Rattle.projection.specs.Projection.{project}
use Rattle.sort.specs.Sort.{SortField, compare_by, order}
use Rattle.sort.specs.SortLaws.{sorted-permuted}
use Rattle.index.specs.Definition.{Definition}
use Rattle.entry_model.specs.LawfulState.{IsKept}
use Rattle.entry_model.specs.State.{Collection, key_of}
use Rattle.entry_model.specs.StateReads.{find_document}
use Rattle.entry_model.proofs.MemberLemmas.{Among, among_append, among_back, among_front, among_of, contains_of, of_all}
use Rattle.collections.specs.IndexTexts.{AreNextTexts, AreTextsBelow, Indexed, IsTextFrom}
use Rattle.planner.specs.AnswerLaws.{IsNotedFor}
use Rattle.planner.specs.KeyScan.{id_text}
use Rattle.planner.specs.RangeReading.{IsEntryText, LiesBetween}
use Rattle.planner.proofs.AnswerLemmas.{kept_are_noted}
use Rattle.planner.proofs.RisingLemmas.{Below, Rises as TextsRise}
use Rattle.database_model.specs.Cursors.{batch_of, batch_reply, cursor_reply}
use Rattle.database_model.specs.Find.{limited, matching, window}
use Rattle.database_model.specs.Refusals.{ok_reply}
use Rattle.database_model.specs.Lawful.{IsStored, IsWithin}
use Rattle.replies.specs.OpenBatch.{HasGiven}
use Rattle.replies.specs.View.{batch_name}
use Rattle.walks.specs.Batches.{Gives, IsBegun, IsEnded, IsFirstLeft, is_over, is_reached, picked_by}
use Rattle.walks.specs.InOrder.{AreLed, GivesLed, GoesOnInOrder, HasReadBelow, HasReadFirst, IsInOrder, IsLeft, IsOrderedBatch, IsTextLeft, ordered_rest}
use Rattle.walks.specs.InOrder.{is_from_entry, rest_from_entry, rest_in_order}
use Rattle.walks.specs.Listed.{id_text_of}
use Rattle.walks.specs.declared.batches.BatchAsked.{BatchAsked}
use Rattle.walks.specs.declared.batches.GivenBatch.{GivenBatch}
use Rattle.walks.specs.declared.batches.Giving.{Giving}
use Rattle.walks.specs.declared.batches.Walk.{Walk}
use Rattle.walks.specs.declared.in_order.OrderedWalk.{OrderedWalk}
use Rattle.walks.proofs.BatchesLemmas.{as_none}
use Rattle.walks.proofs.FilterLemmas.{filter_fewer}
use Rattle.walks.proofs.GivenLemmas.{window_fewer}
use Rattle.walks.proofs.InOrderLemmas.{all_from, all_in, entry_of, first_in_order, left_in_order, whole_in_order}
use Rattle.walks.proofs.RestLemmas.{IsBatchOf, all_split, full_rest, given_of_all, none_left, one_left, others, rest_left}
use Rattle.walks.proofs.WalkLeftLemmas.{stored_within, window_within}

-- ---- texts that rise

below_keys : (k : List ℕ) (ks : List (List ℕ)) → Each (λ l. IsUnder k l) ks → Below bytes_cmp k ks
below_keys k [] h = tt
below_keys k (l ∷ ks) h = (h.0, below_keys k ks h.1)

pub texts_up : (ks : List (List ℕ)) → Rises ks → TextsRise bytes_cmp ks
texts_up [] h = tt
texts_up (k ∷ ks) h = (below_keys k ks h.0, texts_up ks h.1)

pub order-length : (sort : List SortField) (ds : List Pairs) → length (order sort ds) ≡ length ds
order-length sort ds = length_permutation ds (order sort ds) (sorted-permuted (compare_by sort) ds)

-- ---- the batch

pub among_at : {X : Type 0} (xs : List X) (k : ℕ) (d : X) → k < length xs → Among (get_or xs k d) xs
among_at [] k d below = absurd (omega (arith, below))
among_at (x ∷ xs) zero d below = inl refl
among_at (x ∷ xs) (suc k) d below = inr (among_at xs k d (omega (arith, below)))

module _ (sort : List SortField) (w : OrderedWalk) (asked : BatchAsked) (walk : Walk) (start done : Giving) (left : Option (Vec ℕ)) (ended b : GivenBatch)
    (same_filter : walk.filter.now ≡ w.filter.now) (same_projection : walk.projection.now ≡ w.projection.now) (same_skip : walk.skip ≡ w.skip)
    (same_limit : walk.limit ≡ w.limit) (begun : IsBegun walk asked start) (end : IsEnded done asked ended) (reply : b.reply ≡ ended.reply)
    (count : b.count ≡ ended.count) (next : b.next ≡ left) (c : Collection) (kept : IsKept c) (listed : Contains c.indexes w.index.now)
    (stored : All IsStored c.documents) (is : IsInOrder w.filter.now sort w.index.now w.last.now)
    (h : HasReadFirst start done w.from.now w.last.now (record { collection = c; definition = w.index.now }) left) where
  abbrev ds : List Pairs
  ds = c.documents

  abbrev i : Definition
  i = w.index.now

  noted : IsNotedFor (Some i) ds
  noted = kept_are_noted c i kept listed

  abbrev all : List Pairs
  all = all_from w.filter.now sort i w.last.now is ds noted kept.storable kept.rising w.from.now

  abbrev rest : List Pairs
  rest = rest_in_order sort w ds

  rest_is : given_of_all start all ≡ rest
  rest_is = λ k. map (project ((begun.same_projection ∙ same_projection) k))
      (window ((begun.same_skip ∙ same_skip) k) ((begun.same_limit ∙ same_limit) k) all)

  rules_are : start.filter.now ≡ w.filter.now
  rules_are = begun.same_filter ∙ same_filter

  abbrev more : List Pairs
  more = drop (length (matching w.filter.now h.documents)) all

  split : all ≡ matching start.filter.now h.documents ++ more
  split =
      first_in_order w.filter.now sort i w.last.now is ds noted kept.storable kept.rising w.from.now h.texts h.documents (texts_up h.texts h.rise) h.given
      h.above h.led
      ∙ (λ k. matching (sym rules_are k) h.documents ++ more)

  counted : b.count ≡ done.batch.count
  counted = count ∙ end.counted

  says : (es : List Pairs) → HasGiven done.batch es
      → b.reply ≡ ok_reply (cursor_reply (batch_name done.batch.kind) es (if not (is_some done.next) then 0 else asked.number) asked.namespace.now)
  says es given = reply ∙ end.says es given

  as_given : IsBatchOf done.batch.most (batch_name done.batch.kind) asked.namespace.now asked.number (given_of_all start all) b
      → MatchOption b.next (length rest ≤ b.count) (λ text. GoesOnInOrder sort w ds b.count text.items) → IsOrderedBatch sort w asked ds b
  as_given so continues = record {
    counted = so.counted ∙ (λ k. batch_of ((h.gives.same_most ∙ begun.same_most) k) (rest_is k));
    says = so.says
        ∙ (λ k. ok_reply (batch_reply (batch_name ((h.gives.same_kind ∙ begun.same_kind) k)) b.count (rest_is k) asked.number asked.namespace.now));
    next = continues;
    within = window_within w.projection.now w.skip w.limit all (λ k d below. within_there (get_or all k d) (among_at all k d below));
    few = omega (
      arith,
      length-map (window w.skip w.limit all) (project w.projection.now),
      window_fewer w.skip w.limit all,
      order-length sort (matching w.filter.now (rest_from_entry i w.from.now ds)),
      filter_fewer (matches w.filter.now) (rest_from_entry i w.from.now ds),
      filter_fewer (is_from_entry i w.from.now) ds,
      h.few,
    );
  }
    where
      within_there : (d : Pairs) → Among d all → IsWithin d
      within_there d g =
          of_all IsWithin ds d (stored_within ds stored) (all_in w.filter.now sort i w.last.now is ds noted kept.storable kept.rising w.from.now d g)

  pub ordered_batch : IsOrderedBatch sort w asked ds b
  ordered_batch = by done.next refl h.gives.given h.left
    where
      none_more : done.next ≡ None → HasGiven done.batch (picked_by start h.documents) → HasGiven done.batch (given_of_all start all)
      none_more none given = ⊎_elim
          (λ over. full_rest asked start done h.documents all b h.gives counted says more split given
          (sym (ap (λ (n : ℕ). is_reached n done.batch.count) h.gives.same_limit)
          ∙ sym (ap (λ (o : Option (Vec ℕ)). is_some o || is_reached done.limit done.batch.count) none) ∙ over))
          (λ read. subst (HasGiven done.batch) (ap (given_of_all start) ((λ k. matching (rules_are k) h.documents)
          ∙ whole_in_order w.filter.now sort i w.last.now is ds noted kept.storable kept.rising w.from.now h.texts h.documents (texts_up h.texts h.rise)
          h.given h.above h.led read)) given)
          h.whole

      by : (o : Option (Vec ℕ)) → done.next ≡ o
          → MatchOption o (HasGiven done.batch (picked_by start h.documents)) (λ text. IsFirstLeft start h.documents done.batch text.items)
          → MatchOption o (left ≡ None) (λ id. IsTextLeft i h.texts id.items left) → IsOrderedBatch sort w asked ds b
      by None none given none_text =
          let whole = none_left asked start done h.documents all b h.gives counted says none (none_more none given) in
          as_given whole.0
          (as_none (length rest ≤ b.count) (λ (text : Vec ℕ). GoesOnInOrder sort w ds b.count text.items) b.next (next ∙ none_text)
          (omega (arith, whole.1, ap length rest_is)))
      by (Some id) some l text_left = at left refl text_left
        where
          is_left : is_some done.next ≡ true
          is_left = ap (λ (o : Option (Vec ℕ)). is_some o) some

          there : Among l.first h.documents
          there = subst (Among l.first) (sym l.split) (among_back l.first l.front (l.first ∷ l.behind) (inl refl))

          at : (o : Option (Vec ℕ)) → left ≡ o → IsTextLeft i h.texts id.items o → IsOrderedBatch sort w asked ds b
          at None e g = absurd g
          at (Some text) e g =
              let entry = entry_of w.filter.now sort i w.last.now is ds noted kept.storable kept.rising w.from.now h.texts h.documents
              (texts_up h.texts h.rise) h.given h.above h.led text.items l.first g.0 there (g.1 ∙ ap Some l.key) in
              let limit_is : start.limit ≡ w.limit = begun.same_limit ∙ same_limit in
              let goes_on : ordered_rest w.filter.now sort w.projection.now 0 (w.limit - b.count) i text.items ds ≡ drop b.count rest =
              ap (λ (es : List Pairs). map (project w.projection.now) (limited (w.limit - b.count) es))
              (left_in_order w.filter.now sort i w.last.now is ds noted kept.storable kept.rising w.from.now text.items (matching start.filter.now l.front)
              (matching start.filter.now l.behind ++ more) l.first
              (all_split asked start done h.documents all b h.gives counted says id.items l is_left more split) entry.0 entry.1)
              ∙ (λ k. map (project ((sym (begun.same_projection ∙ same_projection)) k)) (limited (sym limit_is k - b.count)
              (l.first ∷ (matching start.filter.now l.behind ++ more))))
              ∙ rest_left asked start done h.documents all b h.gives counted says id.items l is_left more split ∙ ap (drop b.count) rest_is in
              let continues : GoesOnInOrder sort w ds b.count text.items = record {
                more = omega (
                  arith,
                  others asked start done h.documents all b h.gives counted says id.items l is_left more split,
                  ap length rest_is,
                );
                left = goes_on;
              } in
              as_given (one_left asked start done h.documents all b h.gives counted says id.items l is_left more split)
              (subst (λ (o : Option (Vec ℕ)). MatchOption o (length rest ≤ b.count) (λ t. GoesOnInOrder sort w ds b.count t.items)) (sym (next ∙ e)) continues)

-- ---- entries that are read a few at a time

not_under : (a b : List ℕ) → is_lt (key_cmp a b) ≡ false → IsNotUnder a b
not_under a b e under = let f : true ≡ false = sym (ap is_lt under) ∙ e in cc

no_less : (a b : List ℕ) → IsNotUnder a b → is_lt (key_cmp a b) ≡ false
no_less a b h = elim (three (key_cmp a b)) [
  | inl less ↦ absurd (h less)
  | inr more ↦ elim more [ inl same ↦ ap is_lt same | inr greater ↦ ap is_lt greater ]
]

each_of : (P : List ℕ → Type 0) (xs : List (List ℕ)) → ((x : List ℕ) → Among x xs → P x) → Each P xs
each_of P [] h = tt
each_of P (x ∷ xs) h = (h x (inl refl), each_of P xs (λ y g. h y (inr g)))

either_list : (xs ys : List (List ℕ)) (x : List ℕ) → Contains (xs ++ ys) x → Contains xs x ⊎ Contains ys x
either_list xs ys x h =
    ⊎_elim (λ g. inl (contains_of xs x g)) (λ g. inr (contains_of ys x g)) (among_append x xs ys (among_of (xs ++ ys) x h))

in_front : (xs ys : List (List ℕ)) (x : List ℕ) → Contains xs x → Contains (xs ++ ys) x
in_front xs ys x h = contains_of (xs ++ ys) x (among_front x xs ys (among_of xs x h))

in_back : (xs ys : List (List ℕ)) (x : List ℕ) → Contains ys x → Contains (xs ++ ys) x
in_back xs ys x h = contains_of (xs ++ ys) x (among_back x xs ys (among_of ys x h))

-- nothing was read yet
pub none_read : (start now : Giving) (first : List ℕ) (at : Indexed) → Gives start [] now → HasReadBelow start now first first at
none_read start now first at gives = record {
  no_lower = ap is_lt (tied_itself nat_list_cmp_total first);
  texts = [];
  documents = [];
  rise = tt;
  given = λ text h. absurd (among_of [] text h);
  all = λ text h under. absurd (not_under text first h.1 under);
  led = record { found = λ k d below. absurd (omega (arith, below)); told = refl };
  gives = gives;
}

module _ (start now new : Giving) (first last from : List ℕ) (limit : ℕ) (at : Indexed) (next : Option (List ℕ)) (texts : List (List ℕ))
    (documents : List Pairs) (left : Option (Vec ℕ)) (come : HasReadBelow start now first from at) (read : AreNextTexts from last limit at next texts)
    (led : AreLed at.definition at.collection.documents texts documents) (lent : GivesLed at.definition texts documents now new left) where
  abbrev both : List (List ℕ)
  both = come.texts ++ texts

  abbrev all_lent : List Pairs
  all_lent = come.documents ++ documents

  abbrev AreUpToLast : Type 0
  AreUpToLast = (text : List ℕ) → IsEntryText at.collection.documents at.definition text → LiesBetween from last text → Contains texts text

  -- what was read before is below what was read then
  before_then : (t u : List ℕ) → Contains come.texts t → is_lt (key_cmp u from) ≡ false → IsUnder t u
  before_then t u h up = under_then_up_to t from u (come.given t h).1 (not_under u from up)

  up : Rises both
  up = rises_append come.texts texts come.rise read.rise
      (each_of (λ t. Each (IsUnder t) texts) come.texts (λ t g. each_of (IsUnder t) texts (λ u k.
      before_then t u (contains_of come.texts t g) (read.given u (contains_of texts u k)).1)))

  -- from the first one on
  from_first : (u : List ℕ) → IsTextFrom from at u → IsTextFrom first at u
  from_first u h = (
    h.0,
    no_less u first (λ under. not_under from first come.no_lower
        (lower u (not_under u from h.1) under)),
  )
    where
      lower : (u : List ℕ) → IsNotUnder u from → IsUnder u first → IsUnder from first
      lower u over under = elim (three (key_cmp from first)) [
        | inl less ↦ less
        | inr more ↦ absurd (over (under_then_up_to u first from under (λ less. not_less (key_cmp from first) more less)))
      ]
        where
          not_less : (o : Ordering) → (o ≡ Equal) ⊎ (o ≡ Greater) → o ≡ Less → ⊥
          not_less o (inl e) f = let g : Equal ≡ Less = sym e ∙ f in cc
          not_less o (inr e) f = let g : Greater ≡ Less = sym e ∙ f in cc

  given_both : (u : List ℕ) → Contains both u → IsTextFrom first at u
  given_both u h =
      ⊎_elim (λ g. (come.given u g).0) (λ g. from_first u (read.given u g)) (either_list come.texts texts u h)

  -- it was read before, or isn't below where that ended
  either_read : (u : List ℕ) → IsTextFrom first at u → Contains come.texts u ⊎ (is_lt (key_cmp u from) ≡ false)
  either_read u h = by (key_cmp u from) refl
    where
      by : (o : Ordering) → key_cmp u from ≡ o → Contains come.texts u ⊎ (is_lt (key_cmp u from) ≡ false)
      by Less e = inl (come.all u h e)
      by Equal e = inr (ap is_lt e)
      by Greater e = inr (ap is_lt e)

  led_both : AreLed at.definition at.collection.documents both all_lent
  led_both = record {
    found = All-append (λ d. find_document at.collection.documents (key_of d) ≡ Some d) come.documents documents come.led.found led.found;
    told = map-append (λ text. id_text at.definition.fields text) come.texts texts ∙ (λ k. come.led.told k ++ led.told k)
        ∙ sym (map-append (λ d. Some (id_text_of d)) come.documents documents);
  }

  gives_both : Gives start all_lent new
  gives_both = lent.gives start come.documents come.gives

  left_both : IsLeft at.definition both new left
  left_both = by new.next left lent.left
    where
      wider : (id : List ℕ) (o : Option (Vec ℕ)) → IsTextLeft at.definition texts id o → IsTextLeft at.definition both id o
      wider id None h = h
      wider id (Some text) h = (in_back come.texts texts text.items h.0, h.1)

      by : (o l : Option (Vec ℕ)) → MatchOption o (l ≡ None) (λ id. IsTextLeft at.definition texts id.items l)
          → MatchOption o (l ≡ None) (λ id. IsTextLeft at.definition both id.items l)
      by None l h = h
      by (Some id) l h = wider id.items l h

  -- others are left, from another text on
  pub read_on : (t : List ℕ) → next ≡ Some t → HasReadBelow start new first t at
  read_on t is = record {
    no_lower = (from_first t below.there).1;
    texts = both;
    documents = all_lent;
    rise = up;
    given = λ u h. (given_both u h, ⊎_elim (λ g. before_then u t g below.there.1) (λ g. below.below u g) (either_list come.texts texts u h));
    all = λ u h under. ⊎_elim (λ g. in_front come.texts texts u g) (λ over. in_back come.texts texts u (below.all u (h.0, over) under)) (either_read u h);
    led = led_both;
    gives = gives_both;
  }
    where
      below : AreTextsBelow from limit at texts t
      below = subst (λ (o : Option (List ℕ)). MatchOption o AreUpToLast (AreTextsBelow from limit at texts)) is read.behind

  -- the others are above them
  above_both : (u v : List ℕ) → IsTextFrom first at u → LiesBetween first last u → Contains both v → Contains both u ⊎ (key_cmp v u ≡ Less)
  above_both u v h lies g = ⊎_elim (λ k. inl (in_front come.texts texts u k)) (λ over. by next read.behind over) (either_read u h)
    where
      by : (o : Option (List ℕ)) → MatchOption o AreUpToLast (AreTextsBelow from limit at texts)
          → is_lt (key_cmp u from) ≡ false → Contains both u ⊎ (key_cmp v u ≡ Less)
      by None all over = inl (in_back come.texts texts u (all u h.0 (over, lies.1)))
      by (Some t) below over = elim (three (key_cmp u t)) [
        | inl less ↦ inl (in_back come.texts texts u (below.all u (h.0, over) less))
        | inr more ↦ inr (under_then_up_to v t u
            (⊎_elim (λ k. before_then v t k below.there.1) (λ k. below.below v k) (either_list come.texts texts v g))
            (not_less (key_cmp u t) more))
      ]
        where
          not_less : (o : Ordering) → (o ≡ Equal) ⊎ (o ≡ Greater) → o ≡ Less → ⊥
          not_less o (inl e) f = let g : Equal ≡ Less = sym e ∙ f in cc
          not_less o (inr e) f = let g : Greater ≡ Less = sym e ∙ f in cc

  module _ (few : length at.collection.documents ≤ 4294967295) where
    read_so : (is_over new ≡ true) ⊎ ((u : List ℕ) → IsTextFrom first at u → LiesBetween first last u → Contains both u)
        → HasReadFirst start new first last at left
    read_so whole = record {
      texts = both;
      documents = all_lent;
      rise = up;
      given = given_both;
      above = above_both;
      led = led_both;
      gives = gives_both;
      left = left_both;
      whole = whole;
      few = few;
    }

    pub read_over : is_over new ≡ true → HasReadFirst start new first last at left
    read_over over = read_so (inl over)

    -- none is left
    pub read_all : next ≡ None → HasReadFirst start new first last at left
    read_all is = read_so (inr (λ u h lies. ⊎_elim (λ g. in_front come.texts texts u g)
        (λ over. in_back come.texts texts u (all u h.0 (over, lies.1))) (either_read u h)))
      where
        all : AreUpToLast
        all = subst (λ (o : Option (List ℕ)). MatchOption o AreUpToLast (AreTextsBelow from limit at texts)) is read.behind
