use Rattle.std.proofs.Common.{rules, Ok, Err}
use Rattle.roots.specs.declared.reachable_pages.Reached.{Reached}
use Rattle.page.specs.History.{now, reads}
use Rattle.roots.specs.Walk.{IsMarked}
use Rattle.roots.proofs.FreeLemmas.{found_all, match_failed, no_pages, none_found, reached_all, reached_from_none}
use Rattle.roots.proofs.MarkLemmas.{marked_once, none_marked}
use Rattle.roots.proofs.reachable_pages.reached_pages.Goals as goal

pub returns-then-root-eq0-clause-pages : goal.returns-then-root-eq0-clause-pages
returns-then-root-eq0-clause-pages g c keeps pages entries holds =
    no_pages c.args.root c.new.result.items pages entries (reads (now (g.D.Disk.history c.args.disk.now))) c.if-root-eq0.true c.new.ensures.items holds

pub returns-in_err-walk_below-clause-pages : goal.returns-in_err-walk_below-clause-pages
returns-in_err-walk_below-clause-pages g c keeps pages entries holds =
    let start : Reached = record { pages = c.new-2.result; seen = c.in_ok-vec.field-0 } in
    let marked : IsMarked c.args.root.pages start = none_marked c.args.root.pages start c.new-2.ensures.items (search rules) in
    match_failed _ c.from_residual-in_err-walk_below.result c.in_err-walk_below.field-0.0 (search rules)
    (reached_all (g.D.Disk.history c.args.disk.now) c.args.root start c.walk_below.new.reached (Err c.in_err-walk_below.field-0.0)
    (c.in_err-walk_below.ensures.reaches keeps) marked c.new-2.ensures.items c.if-root-eq0.false pages entries holds)

pub returns-clause-pages : goal.returns-clause-pages
returns-clause-pages g c keeps pages entries holds =
    let start : Reached = record { pages = c.new-2.result; seen = c.in_ok-vec.field-0 } in
    let marked : IsMarked c.args.root.pages start = none_marked c.args.root.pages start c.new-2.ensures.items (search rules) in
    reached_from_none start c.walk_below.new.reached pages c.new-2.ensures.items
    (reached_all (g.D.Disk.history c.args.disk.now) c.args.root start c.walk_below.new.reached (Ok c.in_ok-walk_below.field-0)
    (c.in_ok-walk_below.ensures.reaches keeps) marked c.new-2.ensures.items c.if-root-eq0.false pages entries holds)

pub returns-clause-once : goal.returns-clause-once
returns-clause-once g c =
    let start : Reached = record { pages = c.new-2.result; seen = c.in_ok-vec.field-0 } in
    marked_once c.args.root.pages c.walk_below.new.reached
    (c.in_ok-walk_below.ensures.marks c.args.root.pages (none_marked c.args.root.pages start c.new-2.ensures.items (search rules)))

pub returns-then-root-eq0-clause-found : goal.returns-then-root-eq0-clause-found
returns-then-root-eq0-clause-found g c keeps =
    none_found c.args.root c.new.result.items (reads (now (g.D.Disk.history c.args.disk.now))) c.if-root-eq0.true c.new.ensures.items

pub returns-clause-found : goal.returns-clause-found
returns-clause-found g c keeps =
    let start : Reached = record { pages = c.new-2.result; seen = c.in_ok-vec.field-0 } in
    found_all (g.D.Disk.history c.args.disk.now) c.args.root c.in_ok-walk_below.field-0 c.walk_below.new.reached.pages.items c.new-2.result.items
    c.new-2.ensures.items c.in_ok-walk_below.ensures.depth
    (marked_once c.args.root.pages c.walk_below.new.reached
    (c.in_ok-walk_below.ensures.marks c.args.root.pages (none_marked c.args.root.pages start c.new-2.ensures.items (search rules))))
    (c.in_ok-walk_below.ensures.found keeps)
