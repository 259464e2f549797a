use Rattle.std.proofs.Common.{arith, ◌+◌, ◌*◌, length, true, ◌≡◌, subst, sym}
use Rattle.page.proofs.CallLemmas.{calls_all}
use Rattle.roots.specs.declared.root.Root.{Root}
use Rattle.roots.specs.Turn.{IsTurn, next_root}
use Rattle.roots.proofs.MovesLemmas.{is_last, failed, done, root_is}
use Rattle.roots.proofs.store.Store.commit.Goals as goal

pub returns-then-self-clause-calls : goal.returns-then-self-clause-calls
returns-then-self-clause-calls g c = record { done = λ keeps. tt; clear = λ keeps. tt; most = λ keeps. omega arith }

pub returns-then-self-2-clause-calls : goal.returns-then-self-2-clause-calls
returns-then-self-2-clause-calls g c = record { done = λ keeps. tt; clear = λ keeps. tt; most = λ keeps. omega arith }

pub returns-in-Ok-clause-calls : goal.returns-in-Ok-clause-calls
returns-in-Ok-clause-calls g c =
    calls_all _ (g.D.Disk.history c.args.self.now.disk) (g.D.Disk.history c.write_commit.new.disk) (8 * length c.args.made.now + 3) c.in-Ok.ensures.calls.done
    c.in-Ok.ensures.calls.clear

pub returns-in-Err-clause-calls : goal.returns-in-Err-clause-calls
returns-in-Err-clause-calls g c = record { done = λ keeps. tt; clear = λ keeps. tt; most = c.in-Err.ensures.calls.most }

pub returns-then-self-2-clause-moves : goal.returns-then-self-2-clause-moves
returns-then-self-2-clause-moves g c before live committed after pages turn =
    is_last g.D.Disk.history c.args.self.now (next_root c.args.self.now.root c.args.made.now c.args.tree c.args.free_list c.args.free_count) live pages
    before after committed

pub returns-in-Ok-clause-moves : goal.returns-in-Ok-clause-moves
returns-in-Ok-clause-moves g c before live committed after pages turn =
    let s = c.args.self.now in
    let made = c.args.made.now in
    let next : Root = next_root s.root made c.args.tree c.args.free_list c.args.free_count in
    let root : Root = record {
      generation = s.root.generation + 1;
      tree = c.args.tree;
      pages = c.greater.result;
      free_list = c.args.free_list;
      free_count = c.args.free_count;
    } in
    let is : root ≡ next =
    root_is s.root made c.args.tree c.greater.result c.args.free_list c.args.free_count c.end_of.result c.greater.ensures (c.end_of.ensures turn.inside) in
    let same = subst (λ (r : Root). IsTurn (g.D.Disk.history s.disk) s.root live made r pages after) (sym is) turn in
    done g.D.Disk.history s c.write_commit.new.disk root next pages before after live committed is
    (c.in-Ok.ensures.moves s.root before live committed.keeps after pages same is (omega arith))

pub returns-in-Err-clause-moves : goal.returns-in-Err-clause-moves
returns-in-Err-clause-moves g c before live committed after pages turn =
    let s = c.args.self.now in
    let made = c.args.made.now in
    let next : Root = next_root s.root made c.args.tree c.args.free_list c.args.free_count in
    let root : Root = record {
      generation = s.root.generation + 1;
      tree = c.args.tree;
      pages = c.greater.result;
      free_list = c.args.free_list;
      free_count = c.args.free_count;
    } in
    let is : root ≡ next =
    root_is s.root made c.args.tree c.greater.result c.args.free_list c.args.free_count c.end_of.result c.greater.ensures (c.end_of.ensures turn.inside) in
    let same = subst (λ (r : Root). IsTurn (g.D.Disk.history s.disk) s.root live made r pages after) (sym is) turn in
    failed g.D.Disk.history s (record s { disk = c.write_commit.new.disk; stopped = true }) root next pages before after c.in-Err.field-0
    (c.in-Err.ensures.moves s.root before live committed.keeps after pages same is (omega arith))
