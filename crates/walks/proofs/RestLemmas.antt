-- A batch of documents that were lent, among all that come.
use Rattle.std.proofs.Common.{◌≡◌, ℕ, zero, suc, ◌-◌, ◌<◌, ◌≤◌, true, false, List, ◌∷◌, ◌++◌, length, map, take, drop, None}
use Rattle.std.proofs.Common.{refl, sym, ap, subst, ◌∙◌, arith, append_assoc, length-append}
use Rattle.std.specs.Prelude.{not, nat_le, if◌then◌else◌, is_some}
use Rattle.std.proofs.lemmas.Bool.Decides.{nat_tests}
use Rattle.std.proofs.lemmas.List.{drop_at, length-map, map-append, take_all, take_at}
use Rattle.bson.specs.Tree.{Pairs}
use Rattle.database_model.specs.Cursors.{batch_of, batch_reply, cursor_reply}
use Rattle.database_model.specs.Find.{limited, matching, window}
use Rattle.database_model.specs.Refusals.{ok_reply}
use Rattle.filter.specs.Condition.{Conditions}
use Rattle.projection.specs.Projection.{Projection, project}
use Rattle.replies.specs.OpenBatch.{HasGiven}
use Rattle.replies.specs.OpenBatchLaws.{counts_all, counts_front}
use Rattle.replies.specs.View.{batch_name}
use Rattle.walks.specs.Batches.{Gives, IsFirstLeft, is_reached, picked_by}
use Rattle.walks.specs.declared.batches.BatchAsked.{BatchAsked}
use Rattle.walks.specs.declared.batches.GivenBatch.{GivenBatch}
use Rattle.walks.specs.declared.batches.Giving.{Giving}
use Rattle.walks.proofs.BatchesLemmas.{matching_split}
use Rattle.walks.proofs.WindowLemmas.{window_full, window_more}

-- what comes behind the first one, where it may come
abbrev pub behind_first : ℕ → List Pairs → List Pairs
behind_first zero ds = ds
behind_first (suc n) ds = take n ds

first_limited : (limit : ℕ) (d : Pairs) (ds : List Pairs) → limited limit (d ∷ ds) ≡ d ∷ behind_first limit ds
first_limited zero d ds = refl
first_limited (suc n) d ds = refl

-- what is given of all that come, as the walk began
abbrev pub given_of_all : Giving → List Pairs → List Pairs
given_of_all start all = map (project start.projection.now) (window start.skip start.limit all)

-- The batch has what goes into it of these, its reply says so, and whether others are left.
pub record IsBatchOf (most : ℕ) (kind namespace : List ℕ) (number : ℕ) (rest : List Pairs) (b : GivenBatch) : Type 0 where
  pub counted : b.count ≡ batch_of most rest
  pub says : b.reply ≡ ok_reply (batch_reply kind b.count rest number namespace)

module _ (asked : BatchAsked) (start done : Giving) (lent all : List Pairs) (b : GivenBatch) (gives : Gives start lent done)
    (count : b.count ≡ done.batch.count)
    (says : (ds : List Pairs) → HasGiven done.batch ds
    → b.reply ≡ ok_reply (cursor_reply (batch_name done.batch.kind) ds (if not (is_some done.next) then 0 else asked.number) asked.namespace.now)) where
  abbrev rest : List Pairs
  rest = given_of_all start all

  abbrev Is : Type 0
  Is = IsBatchOf done.batch.most (batch_name done.batch.kind) asked.namespace.now asked.number rest b

  -- these are in the batch
  with_given : (front : List Pairs) → HasGiven done.batch front → batch_of done.batch.most rest ≡ length front → take (length front) rest ≡ front
      → not (is_some done.next) ≡ nat_le (length rest) b.count → Is
  with_given front given counted taken last =
      let n : b.count ≡ length front = count ∙ given.counted in
      let in_batch : front ≡ take b.count rest = sym taken ∙ ap (λ (m : ℕ). take m rest) (sym n) in
      record {
        counted = n ∙ sym counted;
        says = says front given
            ∙ (λ k. ok_reply (cursor_reply (batch_name done.batch.kind) (in_batch k) (if last k then 0 else asked.number) asked.namespace.now));
      }

  -- none is left
  pub none_left : done.next ≡ None → HasGiven done.batch rest → Is × (length rest ≤ b.count)
  none_left none given =
      let n : b.count ≡ length rest = count ∙ given.counted in
      let whole : nat_le (length rest) b.count ≡ true = grind (arith, nat_tests, n) in (
        with_given rest given (counts_all done.batch rest given) (take_all (length rest) rest (omega arith))
            (ap (λ o. not (is_some o)) none ∙ sym whole),
        omega (arith, n),
      )

  -- as many were given as may come
  pub full_rest : (more : List Pairs) → all ≡ matching start.filter.now lent ++ more → HasGiven done.batch (picked_by start lent)
      → is_reached start.limit done.batch.count ≡ true → HasGiven done.batch rest
  full_rest more split given reached =
      let wanted = matching start.filter.now lent in
      let many : done.batch.count ≡ length (window start.skip start.limit wanted) =
      given.counted ∙ length-map (window start.skip start.limit wanted) (project start.projection.now) in
      subst (HasGiven done.batch)
      (ap (map (project start.projection.now)) (sym (window_full start.skip start.limit wanted more (ap (is_reached start.limit) (sym many) ∙ reached)))
      ∙ ap (given_of_all start) (sym split)) given

  -- one is left
  module _ (text : List ℕ) (left : IsFirstLeft start lent done.batch text) (some : is_some done.next ≡ true) (more : List Pairs)
      (split : all ≡ matching start.filter.now lent ++ more) where
    abbrev rules : Conditions
    rules = start.filter.now

    abbrev p : Projection
    p = start.projection.now

    abbrev wanted : List Pairs
    wanted = matching rules left.front

    abbrev behind : List Pairs
    behind = matching rules left.behind ++ more

    abbrev came : List Pairs
    came = window start.skip start.limit wanted

    abbrev front : List Pairs
    front = picked_by start left.front

    pub all_split : all ≡ wanted ++ left.first ∷ behind
    all_split =
        split ∙ ap (λ (xs : List Pairs). xs ++ more) (ap (matching rules) left.split ∙ matching_split rules left.front left.behind left.first left.matched)
        ∙ append_assoc wanted (left.first ∷ matching rules left.behind) more

    many : length front ≡ length came
    many = length-map came (project p)

    n : b.count ≡ length front
    n = count ∙ left.given.counted

    may_come : is_reached start.limit (length came) ≡ false
    may_come = ap (is_reached start.limit) (sym (left.given.counted ∙ many)) ∙ left.may_come

    abbrev later : List Pairs
    later = map (project p) (limited (start.limit - length came) (left.first ∷ behind))

    parts : rest ≡ front ++ later
    parts =
        ap (given_of_all start) all_split ∙ ap (map (project p)) (window_more start.skip start.limit wanted (left.first ∷ behind) left.skipped may_come)
        ∙ map-append (project p) came (limited (start.limit - length came) (left.first ∷ behind))

    first : later ≡ project p left.first ∷ map (project p) (behind_first (start.limit - length came) behind)
    first = ap (map (project p)) (first_limited (start.limit - length came) left.first behind)

    pub others : b.count < length rest
    others = omega (arith, n, ap length parts, length-append front later, ap length first)

    pub one_left : Is
    one_left =
        let counted : batch_of done.batch.most rest ≡ length front =
        ap (batch_of done.batch.most) (parts ∙ ap (λ (es : List Pairs). front ++ es) first)
        ∙ counts_front done.batch front (project p left.first) (map (project p) (behind_first (start.limit - length came) behind)) left.given left.no_room in
        let not_all : nat_le (length rest) b.count ≡ false = grind (arith, nat_tests, others) in
        with_given front left.given counted (ap (take (length front)) parts ∙ take_at front later (length front) refl) (ap not some ∙ sym not_all)

    -- what is left is what may come of the first one that is left and of those behind it
    pub rest_left : map (project p) (limited (start.limit - b.count) (left.first ∷ behind)) ≡ drop b.count rest
    rest_left =
        ap (λ (m : ℕ). map (project p) (limited (start.limit - m) (left.first ∷ behind))) (n ∙ many) ∙ sym (drop_at front later b.count (sym n))
        ∙ ap (drop b.count) (sym parts)
