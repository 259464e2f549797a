use Rattle.std.proofs.Common.{refl, sym, ◌∙◌, arith}
use Rattle.walks.proofs.BatchesLemmas.{is_left, left_out, not_left, not_taken, offered_open, passes_by, went_in}
use Rattle.walks.proofs.batches.Giving.put.Goals as goal

pub returns-then-not-branch-clause-puts : goal.returns-then-not-branch-clause-puts
returns-then-not-branch-clause-puts c = record {
  next = refl;
  still_open = λ some. some;
  went = λ e start all h.
      passes_by start c.args.self.now all c.args.document.now h c.requires (sym c.in_ok-matches_raw.ensures ∙ c.if-not-branch.true);
  left = λ e. absurd cc;
}

pub returns-then-self-gt0-clause-puts : goal.returns-then-self-gt0-clause-puts
returns-then-self-gt0-clause-puts c = record {
  next = refl;
  still_open = λ some. some;
  went = λ e start all h.
      left_out start c.args.self.now all c.args.document.now h c.requires _
      (sym c.in_ok-matches_raw.ensures ∙ c.if-not-branch.false) c.if-self-gt0.true refl refl refl refl refl refl;
  left = λ e. absurd cc;
}

pub returns-clause-puts : goal.returns-clause-puts
returns-clause-puts c = record {
  next = refl;
  still_open = offered_open c.args.self.now.batch _ _ c.in_ok-is_taken.is_taken c.in_ok-is_taken.ensures.offered;
  went = λ e start all h.
      went_in start c.args.self.now all c.args.document.now h c.requires _ c.in_ok-is_taken.is_taken
      (sym c.in_ok-matches_raw.ensures ∙ c.if-not-branch.false) (omega (arith, c.if-self-gt0.false)) refl refl refl refl
      c.in_ok-is_taken.ensures.offered (not_taken c.in_ok-is_taken.is_taken e) refl;
  left = λ e start all h text key.
      is_left start c.args.self.now all c.args.document.now h c.requires _ c.in_ok-is_taken.is_taken
      (sym c.in_ok-matches_raw.ensures ∙ c.if-not-branch.false) (omega (arith, c.if-self-gt0.false)) refl refl refl refl
      c.in_ok-is_taken.ensures.offered (not_left c.in_ok-is_taken.is_taken e) text refl key;
}
