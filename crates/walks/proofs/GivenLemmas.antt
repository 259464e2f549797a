-- The batch that a walk gave.
use Rattle.std.proofs.Common.{◌≡◌, ℕ, zero, suc, ◌-◌, ◌≤◌, true, false, List, [], ◌∷◌, ◌++◌, length, map, drop, Option}
use Rattle.std.proofs.Common.{Some, None, refl, sym}
use Rattle.std.proofs.Common.{ap, append-nil, subst, ◌∙◌, arith}
use Rattle.std.proofs.Common.{Result, Ok, Err, inl}
use Rattle.std.specs.Prelude.{is_some, MatchOption, MatchResult, All}
use Rattle.std.specs.Option.{option_map}
use Rattle.std.specs.Global.{Vec}
use Rattle.std.specs.List.{filter}
use Rattle.std.proofs.lemmas.List.{length-drop, length-map, length-take}
use Rattle.std.proofs.lemmas.List.Elements.{All-filter}
use Rattle.bson.specs.Tree.{Pairs}
use Rattle.btree.specs.declared.folding.Bounds.{Bounds}
use Rattle.page.specs.History.{History}
use Rattle.pager.specs.declared.version.Version.{Version}
use Rattle.path.specs.declared.refusal.Refusal.{Refusal}
use Rattle.path.specs.declared.refusal.Refusal.TheVariants as refusals
use Rattle.collections.specs.Calls.{HasReadCause}
use Rattle.collections.specs.Folding.{IsFolded, documents_within}
use Rattle.collections.specs.Lookups.{IsNumbered, OrMemory, ReadsOf}
use Rattle.collections.specs.State.{State}
use Rattle.collections.specs.Versions.{ReadsVersion}
use Rattle.collections.specs.View.{is_stopped}
use Rattle.database_model.specs.Cursors.{batch_of, batch_reply}
use Rattle.database_model.specs.Find.{limited, matching, window}
use Rattle.database_model.specs.Lawful.{IsStored, IsWithin}
use Rattle.database_model.specs.Refusals.{ok_reply}
use Rattle.filter.specs.Matches.{matches}
use Rattle.projection.specs.Projection.{project}
use Rattle.entry_model.specs.LawfulState.{IsLawfulState, IsRising, IsStorable}
use Rattle.entry_model.specs.State.{Collection}
use Rattle.entries.specs.declared.catalogue_reading.Catalogued.{Catalogued}
use Rattle.entry_model.proofs.FoundLawLemmas.{found_collection}
use Rattle.replies.specs.OpenBatch.{HasGiven}
use Rattle.replies.specs.View.{batch_name}
use Rattle.asked_documents.specs.Asking.{IsAsked, IsAskedIn}
use Rattle.walks.specs.IdRange.{has_id_within}
use Rattle.walks.specs.Batches.{PassFrom, Gives, GoesOn, IsBegun, IsEnded, IsFirstLeft, IsGivenBatch, is_from, picked, picked_by, rest_from, rest_of, walk_rest}
use Rattle.walks.specs.declared.batches.BatchAsked.{BatchAsked}
use Rattle.walks.specs.declared.batches.GivenBatch.{GivenBatch}
use Rattle.walks.specs.declared.batches.Giving.{Giving}
use Rattle.walks.specs.declared.batches.Walk.{Walk}
use Rattle.walks.proofs.BatchesLemmas.{as_none}
use Rattle.walks.proofs.FilterLemmas.{filter_fewer}
use Rattle.asked_documents.proofs.ReadingLemmas.{goes_itself, reads_as}
use Rattle.walks.proofs.RestLemmas.{IsBatchOf, all_split, given_of_all, none_left, one_left, others, rest_left}
use Rattle.walks.proofs.WalkLeftLemmas.{left_matching, picked_within, stored_within}

pub window_fewer : (skip limit : ℕ) (xs : List Pairs) → length (window skip limit xs) ≤ length xs
window_fewer skip zero xs = omega (arith, length-drop skip xs)
window_fewer skip (suc n) xs = omega (arith, length-take (suc n) (drop skip xs), length-drop skip xs)

-- The documents that match, of those from where a walk goes on, were lent to a fold, and how they stand in their collection.
pub record AreLent (w : Walk) (start : Giving) (ds : List Pairs) (done : Giving) : Type 0 where
  pub lent : List Pairs
  pub folded : IsFolded Gives start lent done
  pub same : filter (matches w.filter.now) lent ≡ filter (matches w.filter.now) (rest_from w.from.now ds)
  pub storable : All IsStorable ds
  pub stored : All IsStored ds
  pub rising : IsRising ds

module _ (w : Walk) (asked : BatchAsked) (start done : Giving) (ds : List Pairs) (b : GivenBatch) (begun : IsBegun w asked start) (h : AreLent w start ds done)
    (ended : IsEnded done asked b) where
  abbrev lent : List Pairs
  lent = h.lent

  abbrev rest : List Pairs
  rest = rest_of w ds

  rest_is : picked_by start lent ≡ rest
  rest_is =
      (λ k. picked (begun.same_filter k) (begun.same_projection k) (begun.same_skip k) (begun.same_limit k) lent)
      ∙ ap (λ (es : List Pairs). map (project w.projection.now) (window w.skip w.limit es)) h.same

  rest_few : length rest ≤ 4294967295
  rest_few =
      let wanted = matching start.filter.now lent in
      omega (
        arith,
        ap length rest_is,
        length-map (window start.skip start.limit wanted) (project start.projection.now),
        window_fewer start.skip start.limit wanted,
        filter_fewer (matches start.filter.now) lent,
        h.folded.few,
      )

  most_is : done.batch.most ≡ asked.most
  most_is = h.folded.made.same_most ∙ begun.same_most

  kind_is : done.batch.kind ≡ asked.kind
  kind_is = h.folded.made.same_kind ∙ begun.same_kind

  abbrev all : List Pairs
  all = matching start.filter.now lent

  -- by what is given of them
  as_given : IsBatchOf done.batch.most (batch_name done.batch.kind) asked.namespace.now asked.number (given_of_all start all) b
      → MatchOption b.next (length rest ≤ b.count) (λ text. GoesOn w ds b.count text.items) → IsGivenBatch w asked ds b
  as_given so next = record {
    counted = so.counted ∙ (λ k. batch_of (most_is k) (rest_is k));
    says = so.says ∙ (λ k. ok_reply (batch_reply (batch_name (kind_is k)) b.count (rest_is k) asked.number asked.namespace.now));
    next = next;
    within = picked_within w.filter.now w.projection.now w.skip w.limit (rest_from w.from.now ds)
        (All-filter (is_from w.from.now) IsWithin ds (stored_within ds h.stored));
    few = rest_few;
  }

  pub given_batch : IsGivenBatch w asked ds b
  given_batch = by done.next refl h.folded.made.given
    where
      by : (o : Option (Vec ℕ)) → done.next ≡ o
          → MatchOption o (HasGiven done.batch (picked_by start lent)) (λ text. IsFirstLeft start lent done.batch text.items) → IsGivenBatch w asked ds b
      by None none given =
          let whole = none_left asked start done lent all b h.folded.made ended.counted ended.says none given in
          as_given whole.0
          (as_none (length rest ≤ b.count) (λ (text : Vec ℕ). GoesOn w ds b.count text.items) b.next (ended.same_next ∙ none)
          (omega (arith, whole.1, ap length rest_is)))
      by (Some text) some left =
          let rules = start.filter.now in
          let p = start.projection.now in
          let split : all ≡ all ++ [] = sym (append-nil all) in
          let is_left : is_some done.next ≡ true = ap (λ (o : Option (Vec ℕ)). is_some o) some in
          let wanted_split : matching rules (rest_from w.from.now ds) ≡ matching rules left.front ++ left.first ∷ (matching rules left.behind ++ []) =
          (λ k. filter (matches (begun.same_filter k)) (rest_from w.from.now ds)) ∙ sym h.same
          ∙ (λ k. filter (matches (sym begun.same_filter k)) lent)
          ∙ all_split asked start done lent all b h.folded.made ended.counted ended.says text.items left is_left [] split in
          let goes_on : walk_rest rules p 0 (start.limit - b.count) text.items ds ≡ drop b.count (given_of_all start all) =
          ap (λ (t : List ℕ). walk_rest rules p 0 (start.limit - b.count) t ds) left.key
          ∙ ap (λ (es : List Pairs). map (project p) (limited (start.limit - b.count) es))
          (left_matching rules w.from.now ds (matching rules left.front) (matching rules left.behind ++ []) left.first h.storable h.rising wanted_split)
          ∙ rest_left asked start done lent all b h.folded.made ended.counted ended.says text.items left is_left [] split in
          let next : GoesOn w ds b.count text.items = record {
            more = omega (
              arith,
              others asked start done lent all b h.folded.made ended.counted ended.says text.items left is_left [] split,
              ap length rest_is,
            );
            left = (λ k. walk_rest (sym begun.same_filter k) (sym begun.same_projection k) 0 (sym begun.same_limit k - b.count) text.items ds) ∙ goes_on
                ∙ ap (drop b.count) rest_is;
          } in
          as_given (one_left asked start done lent all b h.folded.made ended.counted ended.says text.items left is_left [] split)
          (subst (λ (o : Option (Vec ℕ)). MatchOption o (length rest ≤ b.count) (λ t. GoesOn w ds b.count t.items)) (sym (ended.same_next ∙ some)) next)

-- ---- of a turn's collections, and of a version's

lent_of : (w : Walk) (start done : Giving) (texts : Bounds) (first : List ℕ) (end : Option (List ℕ)) → texts.from.now ≡ first
    → option_map (λ b. b.now) texts.to ≡ end → PassFrom (matches w.filter.now) w.from.now first end → (now : List Collection) (c : Collection) (number : ℕ)
    → IsLawfulState now → IsNumbered now c number → All IsStored c.documents → IsFolded Gives start (documents_within texts c.documents) done
    → AreLent w start c.documents done
lent_of w start done texts first end from to pass now c number state numbered stored folded =
    let kept = (found_collection now c.name c state numbered.found).0 in
    record {
      lent = documents_within texts c.documents;
      folded = folded;
      same = (λ i. filter (matches w.filter.now) (filter (has_id_within (from i) (to i)) c.documents)) ∙ pass c.documents kept.storable stored;
      storable = kept.storable;
      stored = stored;
      rising = kept.rising;
    }

module _ {D : Type 0} (history : D → History) (w : Walk) (start : Giving) (texts : Bounds) (first : List ℕ) (end : Option (List ℕ))
    (from : texts.from.now ≡ first) (to : option_map (λ b. b.now) texts.to ≡ end) (pass : PassFrom (matches w.filter.now) w.from.now first end)
    (old new : State D) (r : Result Giving Refusal) where
  pub lent_turn : (home : Catalogued) → is_stopped old ≡ false
      → ReadsOf history (λ now c. IsNumbered now c home.number) (λ now c done. IsFolded Gives start (documents_within texts c.documents) done) r old new
      → ReadsOf history (IsAsked home) (λ now c done. AreLent w start c.documents done) r old new
  lent_turn home running reads =
      reads_as history (IsAsked home) (λ now c. IsNumbered now c home.number)
      (λ now c done. IsFolded Gives start (documents_within texts c.documents) done) (λ now c done. AreLent w start c.documents done) old new r running reads
      (λ now state c asked. record {
        other = c;
        was = asked.numbered;
        right = λ done folded. lent_of w start done texts first end from to pass now c home.number state asked.numbered asked.stored folded;
      })

  pub lent_version : (version : Version) (number : ℕ)
      → ReadsVersion history version (λ now c. IsNumbered now c number) (λ now c done. IsFolded Gives start (documents_within texts c.documents) done) r old new
      → ReadsVersion history version (IsAskedIn number) (λ now c done. AreLent w start c.documents done) r old new
  lent_version version number reads = record {
    extends = reads.extends;
    unchanged = reads.unchanged;
    same = reads.same;
    answers = λ k now has c asked. either r now c has.state asked (reads.answers k now has c asked.numbered);
  }
    where
      either : (s : Result Giving Refusal) (now : List Collection) (c : Collection) → IsLawfulState now → IsAskedIn number now c
          → MatchResult s (λ done. IsFolded Gives start (documents_within texts c.documents) done) (HasReadCause history old new)
          → MatchResult s (λ done. AreLent w start c.documents done) (HasReadCause history old new)
      either (Ok done) now c state asked folded = lent_of w start done texts first end from to pass now c number state asked.numbered asked.stored folded
      either (Err e) now c state asked cause = cause

-- what is made of what was read of a version
module _ {D A X Y : Type 0} (history : D → History) (version : Version) (Is : List Collection → A → Type 0) (P : List Collection → A → X → Type 0)
    (Q : List Collection → A → Y → Type 0) (old new : State D) where
  pub version_memory : (e : Refusal) → e ≡ refusals.OutOfMemory → ReadsVersion history version Is Q (Err e) old old
  version_memory e is = record
      { extends = goes_itself history old; unchanged = refl; same = λ start now has. has; answers = λ k now has asked so. inl is }

  pub version_refused : (e : Refusal) → ReadsVersion history version Is P (Err e) old new → ReadsVersion history version Is Q (Err e) old new
  version_refused e reads = record { extends = reads.extends; unchanged = reads.unchanged; same = reads.same; answers = reads.answers }

  pub version_on : (x : X) (r : Result Y Refusal) → ReadsVersion history version Is P (Ok x) old new
      → ((now : List Collection) (asked : A) → Is now asked → P now asked x → OrMemory (Q now asked) r) → ReadsVersion history version Is Q r old new
  version_on x r reads extends = record {
    extends = reads.extends;
    unchanged = reads.unchanged;
    same = reads.same;
    answers = λ k now has asked so. or_cause r now asked (extends now asked so (reads.answers k now has asked so));
  }
    where
      or_cause : (s : Result Y Refusal) (now : List Collection) (asked : A) → OrMemory (Q now asked) s
          → MatchResult s (Q now asked) (HasReadCause history old new)
      or_cause (Ok y) now asked right = right
      or_cause (Err e) now asked is = inl is
