use Rattle.std.proofs.Common.{rules, arith, ◌≡◌, ◌<◌, ℕ, List, map, length, ap, sym, subst, ◌∙◌, append-nil, true, false}
use Rattle.std.specs.Option.{option_map}
use Rattle.page.specs.Content.{Item}
use Rattle.page.specs.CellView.{item_of as cell_item}
use Rattle.page.proofs.Moments.{read_further}
use Rattle.tree_model.specs.Keys.{IsBetween, Pair}
use Rattle.tree_model.specs.Store.{Store}
use Rattle.tree_model.specs.Tree.{HasChain, item_of}
use Rattle.tree_model.proofs.ListLemmas.{At, at_place, each_of_map, long_map}
use Rattle.roots.specs.Walk.{CanReach, pages_in, pages_so_far}
use Rattle.roots.specs.Found.{HasFoundValue}
use Rattle.roots.proofs.FoundLemmas.{all_pairs_found, item_place, no_pairs_found, pairs_more}
use Rattle.roots.proofs.WalkLemmas.{can_reach_there, each_there, got_there, has_read, reached_there, reaches_failed, same_pages}
use Rattle.roots.proofs.reachable_pages.walk_leaf.Goals as goal

within : (items : List Item) (pairs : List Pair) (i : ℕ) → items ≡ map item_of pairs → i < length items → i < length pairs
within items pairs i e lt = omega (arith, lt, ap length e, long_map item_of pairs)

pub returns-in_err-walk_value-clause-reaches : goal.returns-in_err-walk_value-clause-reaches
returns-in_err-walk_value-clause-reaches g c keeps pairs e shown between can =
    let inv = c.loop-i.invariant in
    let i = c.loop-i.i in
    let k1 = c.walk_value.ensures.looks.reads.extends.kept keeps in
    let a : At pairs i = at_place pairs i (within c.args.leaf.now pairs i e (omega arith)) in
    let cell : item_of a.mid ≡ cell_item c.cell-cell.result =
    got_there pairs i a item_of c.args.leaf.now (cell_item c.cell-cell.result) e c.cell-cell.ensures in
    let has : HasChain (pages_in (g.D.Disk.history c.loop-i.disk) c.args.root) a.mid =
    subst (λ (s : Store). HasChain s a.mid)
    (sym (same_pages (g.D.Disk.history c.args.disk.now) (g.D.Disk.history c.loop-i.disk) c.args.root (inv.only.reads.same k1)))
    (each_there pairs i a (HasChain (pages_in (g.D.Disk.history c.args.disk.now) c.args.root)) shown) in
    let there : CanReach c.args.root.pages c.loop-i.reached a.mid.links =
    can_reach_there pairs i a (λ x. x.links) c.args.root.pages c.args.reached.now c.loop-i.reached can inv.marks (inv.so_far k1 pairs e shown between can) in
    reaches_failed _ c.args.reached.now c.walk_value.new.reached c.from_residual.result c.in_err-walk_value.field-0.0 (search rules)
    (c.in_err-walk_value.ensures.reaches keeps a.mid (ap (λ (x : Item). x.place) cell) has there)

pub loop-i-preserved : goal.loop-i-preserved
loop-i-preserved g c =
    let inv = c.loop-i.invariant in
    let i = c.loop-i.i in
    record {
      only = read_further (g.D.Disk.history c.args.disk.now) (g.D.Disk.history c.loop-i.disk)
          (g.D.Disk.history c.walk_value.new.disk) inv.only (has_read _ _ _ c.in_ok-walk_value.ensures.looks);
      marks = λ limit marked. c.in_ok-walk_value.ensures.marks limit (inv.marks limit marked);
      so_far = λ keeps pairs e shown between can.
          let k1 = c.walk_value.ensures.looks.reads.extends.kept keeps in
          let a : At pairs i = at_place pairs i (within c.args.leaf.now pairs i e (omega arith)) in
          let cell : item_of a.mid ≡ cell_item c.cell-cell.result =
          got_there pairs i a item_of c.args.leaf.now (cell_item c.cell-cell.result) e c.cell-cell.ensures in
          let has : HasChain (pages_in (g.D.Disk.history c.loop-i.disk) c.args.root) a.mid =
          subst (λ (s : Store). HasChain s a.mid)
          (sym (same_pages (g.D.Disk.history c.args.disk.now) (g.D.Disk.history c.loop-i.disk) c.args.root (inv.only.reads.same k1)))
          (each_there pairs i a (HasChain (pages_in (g.D.Disk.history c.args.disk.now) c.args.root)) shown) in
          let so_far = inv.so_far k1 pairs e shown between can in
          let there : CanReach c.args.root.pages c.loop-i.reached a.mid.links =
          can_reach_there pairs i a (λ x. x.links) c.args.root.pages c.args.reached.now c.loop-i.reached can inv.marks so_far in
          reached_there pairs i a (λ x. x.links) (pages_so_far c.args.reached.now) (pages_so_far c.loop-i.reached)
          (pages_so_far c.walk_value.new.reached) so_far
          (c.in_ok-walk_value.ensures.reaches keeps a.mid (ap (λ (x : Item). x.place) cell) has there);
      found = λ keeps.
          let k1 = c.walk_value.ensures.looks.reads.extends.kept keeps in
          let there : HasFoundValue (pages_in (g.D.Disk.history c.args.disk.now) c.args.root) (cell_item c.cell-cell.result).place
          (pages_so_far c.loop-i.reached) (pages_so_far c.walk_value.new.reached) =
          subst (λ (s : Store). HasFoundValue s (cell_item c.cell-cell.result).place (pages_so_far c.loop-i.reached) (pages_so_far c.walk_value.new.reached))
          (same_pages (g.D.Disk.history c.args.disk.now) (g.D.Disk.history c.loop-i.disk) c.args.root (inv.only.reads.same k1))
          (c.in_ok-walk_value.ensures.found keeps
          (item_place c.args.leaf.now i (cell_item c.cell-cell.result) c.len-i-end.ensures.sound.each c.cell-cell.ensures)) in
          pairs_more (pages_in (g.D.Disk.history c.args.disk.now) c.args.root) c.args.low.now (option_map (λ b. b.now) c.args.high) c.args.leaf.now i
          (cell_item c.cell-cell.result)
          (pages_so_far c.args.reached.now) (pages_so_far c.loop-i.reached) (pages_so_far c.walk_value.new.reached) c.cell-cell.ensures (inv.found k1)
          (c.is_between.ensures.no (search rules)) there;
    }

pub loop-i-init : goal.loop-i-init
loop-i-init g c = record {
  only = search rules;
  marks = λ limit marked. marked;
  so_far = λ keeps pairs e shown between can. sym (append-nil (pages_so_far c.args.reached.now));
  found = λ keeps. no_pairs_found (pages_in (g.D.Disk.history c.args.disk.now) c.args.root) c.args.low.now
      (option_map (λ b. b.now) c.args.high) c.args.leaf.now (pages_so_far c.args.reached.now);
}

pub returns-then-not-is_between-clause-reaches : goal.returns-then-not-is_between-clause-reaches
returns-then-not-is_between-clause-reaches g c keeps pairs e shown between can damaged =
    let i = c.loop-i.i in
    let low = c.args.low.now in
    let high = option_map (λ b. b.now) c.args.high in
    let a : At pairs i = at_place pairs i (within c.args.leaf.now pairs i e (omega arith)) in
    let cell : item_of a.mid ≡ cell_item c.cell-cell.result =
    got_there pairs i a item_of c.args.leaf.now (cell_item c.cell-cell.result) e c.cell-cell.ensures in
    let there : IsBetween low high a.mid.key =
    each_there pairs i a (λ (x : Pair). IsBetween low high x.key) (each_of_map (IsBetween low high) (λ (x : Pair). x.key) pairs between) in
    let never : false ≡ true = sym c.if-not-is_between.true ∙ c.is_between.ensures.yes (subst (λ (x : Item). IsBetween low high x.key) cell there) in
    absurd cc

pub returns-clause-found : goal.returns-clause-found
returns-clause-found g c keeps =
    all_pairs_found (pages_in (g.D.Disk.history c.args.disk.now) c.args.root) c.args.low.now (option_map (λ b. b.now) c.args.high) c.args.leaf.now c.loop-i.i
    (pages_so_far c.args.reached.now) (pages_so_far c.loop-i.reached)
    (omega (arith, c.loop-i-test.false)) (c.loop-i.invariant.found keeps)
