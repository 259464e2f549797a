use Rattle.std.proofs.Common.{◌∙◌, ◌<◌, ℕ, Option, ap, length, subst, sym}
use Rattle.freelist.specs.Book.{Book, Takes, undone}
use Rattle.freelist.specs.ListWriting.{Counts, GoesBack, IsDraft, unused_below}
use Rattle.freelist.proofs.TakenPages.{counts_before, drafts_more, finds_none, free_count, goes_back, goes_back_more, is_used, on_err, same_book}
use Rattle.freelist.proofs.TakenPages.{some_page, takes_fewer}
use Rattle.freelist.proofs.book.FreePages.take_pages.Goals as goal

pub loop-self-init : goal.loop-self-init
loop-self-init c = record { counts = c.requires; drafts = λ page_count first d. d }

pub returns-in_err-page-clause-err : goal.returns-in_err-page-clause-err
returns-in_err-page-clause-err c =
    λ page_count first d. on_err c.from_residual.result
    (ap (undone (length first.turn)) c.in_err-page.ensures.err
    ∙ goes_back c.loop-self.draft.pages.items first c.loop-self.self (c.loop-self.invariant.drafts page_count first d).takes)

pub returns-in_default-clause-pages : goal.returns-in_default-clause-pages
returns-in_default-clause-pages c =
    λ page_count first d. finds_none page_count c.loop-self.draft first c.loop-self.self c.take.new.self (c.loop-self.invariant.drafts page_count first d)
    (sym c.loop-self-test.true ∙ c.needs_more.ensures)
    (subst (λ (found : Option ℕ). Takes found c.loop-self.self c.take.new.self) c.in_default.is c.in_ok-page.ensures.takes)

pub note-requires-clause-some : goal.note-requires-clause-some
note-requires-clause-some c =
    some_page c.loop-self.self c.take.new.self c.in-Some.page
    (subst (λ (found : Option ℕ). Takes found c.loop-self.self c.take.new.self) c.in-Some.is c.in_ok-page.ensures.takes)

pub note-requires-clause-taken : goal.note-requires-clause-taken
note-requires-clause-taken c =
    is_used c.loop-self.self c.take.new.self c.in-Some.page
    (subst (λ (found : Option ℕ). Takes found c.loop-self.self c.take.new.self) c.in-Some.is c.in_ok-page.ensures.takes)
    c.self.inside.pages (ap (λ (b : Book). b.states) c.self.view_is)

pub note-requires-clause-counts : goal.note-requires-clause-counts
note-requires-clause-counts c =
    counts_before c.loop-self.self c.take.new.self c.in-Some.page
    (subst (λ (found : Option ℕ). Takes found c.loop-self.self c.take.new.self) c.in-Some.is c.in_ok-page.ensures.takes)
    c.loop-self.draft c.self.inside.pages (ap (λ (b : Book). b.states) c.self.view_is) c.loop-self.invariant.counts

pub loop-self-smaller : goal.loop-self-smaller
loop-self-smaller c =
    subst (λ (b : Book). free_count b.states < free_count c.loop-self.self.states)
    (sym (same_book _ c.take.new.self c.note.new.pages c.self.view_is c.note.ensures.same))
    (takes_fewer c.loop-self.self c.take.new.self c.in-Some.page
    (subst (λ (found : Option ℕ). Takes found c.loop-self.self c.take.new.self) c.in-Some.is c.in_ok-page.ensures.takes))

pub loop-self-preserved : goal.loop-self-preserved
loop-self-preserved c =
    let same = same_book _ c.take.new.self c.note.new.pages c.self.view_is c.note.ensures.same in
    let counts : Counts c.note.new.self c.take.new.self.states =
    c.in_ok-note.ensures.counts ∙ ap (λ (b : Book). length (unused_below c.note.new.self.page_count b.states)) c.self.view_is in
    record {
      counts = subst (λ (b : Book). Counts c.note.new.self b.states) (sym same) counts;
      drafts = λ page_count first d. subst (IsDraft page_count c.note.new.self first) (sym same)
          (drafts_more c.loop-self.self c.take.new.self c.in-Some.page
          (subst (λ (found : Option ℕ). Takes found c.loop-self.self c.take.new.self) c.in-Some.is c.in_ok-page.ensures.takes)
          page_count c.loop-self.draft c.note.new.self first (c.loop-self.invariant.drafts page_count first d)
          (sym c.loop-self-test.true ∙ c.needs_more.ensures) c.in_ok-note.ensures.pages c.in_ok-note.ensures.count counts);
    }

pub returns-in_err-note-clause-err : goal.returns-in_err-note-clause-err
returns-in_err-note-clause-err c =
    λ page_count first d. on_err c.from_residual-in_err-note.result
    (subst (GoesBack first first)
    (sym (same_book _ c.take.new.self c.note.new.pages c.self.view_is c.note.ensures.same))
    (goes_back_more c.loop-self.self c.take.new.self c.in-Some.page
    (subst (λ (found : Option ℕ). Takes found c.loop-self.self c.take.new.self) c.in-Some.is c.in_ok-page.ensures.takes)
    c.loop-self.draft.pages.items first (c.loop-self.invariant.drafts page_count first d).takes))

pub returns-clause-pages : goal.returns-clause-pages
returns-clause-pages c =
    λ page_count first d. (c.loop-self.invariant.drafts page_count first d, sym c.needs_more.ensures ∙ c.loop-self-test.false)
