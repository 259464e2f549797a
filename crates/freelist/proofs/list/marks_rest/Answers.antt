use Rattle.std.proofs.Common.{refl, [], ◌++◌}
use Rattle.freelist.proofs.FilledFiles.{cut_short, more_marked, regrouped, starts, tells}
use Rattle.freelist.proofs.list.marks_rest.Goals as goal

pub returns-then-not-mark_all : goal.returns-then-not-mark_all
returns-then-not-mark_all c page_count none =
    cut_short page_count [] _ _ (c.args.list.now.pages.items ++ c.args.list.now.named.items) _ _ (starts page_count _ none) refl refl
    c.if-not-mark_all.ensures.marks

pub returns-then-not-mark_all-2 : goal.returns-then-not-mark_all-2
returns-then-not-mark_all-2 c page_count none =
    let first = more_marked page_count [] _ _ _ _ _ (starts page_count _ none) refl refl c.if-not-mark_all.ensures.marks in
    cut_short page_count _ _ _ c.args.list.now.named.items _ _ first refl c.deref.ensures.value c.if-not-mark_all-2.ensures.marks

pub returns-then-not-mark_all-3 : goal.returns-then-not-mark_all-3
returns-then-not-mark_all-3 c page_count none = λ all.
    let first = more_marked page_count [] _ _ _ _ _ (starts page_count _ none) refl refl c.if-not-mark_all.ensures.marks in
    let second = more_marked page_count _ _ _ _ _ _ first refl c.deref.ensures.value c.if-not-mark_all-2.ensures.marks in
    cut_short page_count _ _ _ [] _ _ second refl c.deref-2.ensures.value c.if-not-mark_all-3.ensures.marks
    (regrouped page_count c.args.in_use.now c.args.list.now.pages.items c.args.list.now.named.items all)

pub returns : goal.returns
returns c page_count none =
    let first = more_marked page_count [] _ _ _ _ _ (starts page_count _ none) refl refl c.if-not-mark_all.ensures.marks in
    let second = more_marked page_count _ _ _ _ _ _ first refl c.deref.ensures.value c.if-not-mark_all-2.ensures.marks in
    let third = more_marked page_count _ _ _ _ _ _ second refl c.deref-2.ensures.value c.if-not-mark_all-3.ensures.marks in
    tells page_count c.args.in_use.now c.args.list.now.pages.items c.args.list.now.named.items _ _ third c.has_unmarked.ensures
