use Rattle.std.proofs.Common.{◌+◌, ◌≤◌, arith, sym, subst, map}
use Rattle.page.specs.declared.cells.Cell.{Cell}
use Rattle.tree_model.specs.Calls.{IsPutIn}
use Rattle.tree_model.specs.View.{item_in}
use Rattle.tree_model.specs.Keys.{Each}
use Rattle.page.specs.Content.{IsItem, item_size, total}
use Rattle.btree.proofs.FewLemmas.{inserted_size}
use Rattle.btree.proofs.EditLemmas.{each_inserted, item_small, put_in}
use Rattle.btree.proofs.editing.put_in.Goals as goal

pub returns-in-Ok-clause-puts : goal.returns-in-Ok-clause-puts
returns-in-Ok-clause-puts g c =
    λ k. subst (λ cs. IsPutIn (g.P.Pages.store c.args.pages.now) (g.P.Pages.store c.stored_value.new.pages) c.args.key.now c.args.value.now c.args.at
    (map item_in c.args.cells.now.items) (map item_in cs)) (sym c.in-Ok.ensures.items)
    (put_in (g.P.Pages.store c.args.pages.now) (g.P.Pages.store c.stored_value.new.pages) c.args.cells.now.items c.args.at _ c.args.value.now
    (c.in_ok-stored.ensures.stores k))

pub returns-in-Ok-clause-small : goal.returns-in-Ok-clause-small
returns-in-Ok-clause-small g c =
    λ h. subst (λ cs. Each IsItem (map item_in cs)) (sym c.in-Ok.ensures.items)
    (each_inserted c.args.cells.now.items c.args.at (record { key = c.args.key; stored = c.in_ok-stored.stored })
    (item_small (record { key = c.args.key; stored = c.in_ok-stored.stored }) c.requires.key c.in_ok-stored.ensures.small) h)

pub returns-in-Ok-clause-size : goal.returns-in-Ok-clause-size
returns-in-Ok-clause-size g c =
    let cell : Cell = record { key = c.args.key; stored = c.in_ok-stored.stored } in
    subst (λ cs. total item_size (map item_in cs) ≤ total item_size (map item_in c.args.cells.now.items) + 1360) (sym c.in-Ok.ensures.items)
    (omega (arith, inserted_size c.args.cells.now.items c.args.at cell, (item_small cell c.requires.key c.in_ok-stored.ensures.small).size))
