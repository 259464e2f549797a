use Rattle.pager.proofs.BookLemmas.{back_both, both_retired}
use Rattle.pager.proofs.planning.retire_both.Goals as goal

pub returns-clause-retired : goal.returns-clause-retired
returns-clause-retired c =
    both_retired c.args.version c.args.retired.now c.args.listed.now c.args.book.now c.retire_all.new.book c.retire_all-2.new.book c.retire_all-2.result
    c.in_ok-retire_all.ensures.retired c.retire_all-2.ensures.retired

pub returns-clause-back : goal.returns-clause-back
returns-clause-back c =
    back_both c.args.book.now c.retire_all.new.book c.retire_all-2.new.book c.retire_all.ensures.longer c.retire_all-2.ensures.longer
    c.retire_all-2.ensures.back c.retire_all.ensures.back
