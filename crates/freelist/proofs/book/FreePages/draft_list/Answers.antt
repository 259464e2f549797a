use Rattle.std.proofs.Common.{[], ◌∷◌, ◌<◌, Some, ap, arith, length, subst, sym, ◌∙◌, ℕ}
use Rattle.freelist.specs.Book.{Book, Takes}
use Rattle.freelist.specs.ListWriting.{Counts, GoesBack, IsDraft, unused_below}
use Rattle.freelist.proofs.TakenPages.{drafts_first, goes_back, on_err, same_book, took}
use Rattle.freelist.proofs.book.FreePages.draft_list.Goals as goal

pub returns-in_err-named-clause-err : goal.returns-in_err-named-clause-err
returns-in_err-named-clause-err c =
    let old : Book = c.args.self.now in
    let takes : Takes (Some c.in-Some.page) old c.take.new.self =
    took old _ c.take.new.self _ c.in-Some.page (same_book _ old c.has_unused.new.self c.self.view_is c.has_unused.ensures.same) c.in-Some.is
    c.in_ok-page.ensures.takes in
    on_err c.from_residual-in_err-named.result
    (subst (GoesBack old old) (sym (same_book _ c.take.new.self c.unused_below.new.self c.self-2.view_is c.unused_below.ensures.same))
    (goes_back (c.in-Some.page ∷ []) old c.take.new.self takes))

pub returns-in_err-draft-clause-err : goal.returns-in_err-draft-clause-err
returns-in_err-draft-clause-err c =
    let old : Book = c.args.self.now in
    let takes : Takes (Some c.in-Some.page) old c.take.new.self =
    took old _ c.take.new.self _ c.in-Some.page (same_book _ old c.has_unused.new.self c.self.view_is c.has_unused.ensures.same) c.in-Some.is
    c.in_ok-page.ensures.takes in
    on_err c.from_residual-in_err-draft.result
    (subst (GoesBack old old) (sym (same_book _ c.take.new.self c.unused_below.new.self c.self-2.view_is c.unused_below.ensures.same))
    (goes_back (c.in-Some.page ∷ []) old c.take.new.self takes))

pub returns-then-needs_more-clause-err : goal.returns-then-needs_more-clause-err
returns-then-needs_more-clause-err c =
    let old : Book = c.args.self.now in
    let mid : Book = c.take.new.self in
    let takes : Takes (Some c.in-Some.page) old mid =
    took old _ mid _ c.in-Some.page (same_book _ old c.has_unused.new.self c.self.view_is c.has_unused.ensures.same) c.in-Some.is
    c.in_ok-page.ensures.takes in
    let some : 0 < length (unused_below c.args.page_count old.states) =
    subst (λ (b : Book). 0 < length (unused_below c.args.page_count b.states)) c.self.view_is (c.has_unused.ensures.some c.if-not-has_unused.false) in
    let counts : Counts c.in_ok-draft.draft mid.states =
    omega (
      arith,
      c.in_ok-draft.ensures.unused,
      c.len.ensures,
      c.in_ok-named.named.ok,
      ap length c.in_ok-named.ensures.list,
      ap (λ (b : Book). length (unused_below c.max-page_count.result b.states)) c.self-2.view_is,
      ap (λ (n : ℕ). length (unused_below n mid.states)) c.in_ok-draft.ensures.count,
    ) in
    c.draft_more.ensures.err c.args.page_count old
    (subst (IsDraft c.args.page_count c.in_ok-draft.draft old)
    (sym (same_book _ mid c.unused_below.new.self c.self-2.view_is c.unused_below.ensures.same))
    (drafts_first c.args.page_count c.in_ok-draft.draft c.in-Some.page old mid some takes c.in_ok-draft.ensures.pages
    (c.in_ok-draft.ensures.count ∙ c.max-page_count.ensures) counts))
