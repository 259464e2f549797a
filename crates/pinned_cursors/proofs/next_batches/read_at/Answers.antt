use Rattle.std.proofs.Common.{refl, sym, ap, ◌∙◌}
use Rattle.cursors.specs.Held.{HeldCursor, HeldWalk, held_at, through, listed, ordered}
use Rattle.cursors.specs.View.{list_of, order_of, walk_in, walk_of}
use Rattle.walks.specs.declared.batches.BatchAsked.{BatchAsked}
use Rattle.replies.specs.declared.batch_spelling.BatchKind.TheVariants as batches
use Rattle.pinned_cursors.specs.Opening.{held_walk}
use Rattle.pinned_cursors.proofs.NextLemmas.{AsksNext, reads_listed, reads_ordered, reads_through}
use Rattle.pinned_cursors.proofs.next_batches.read_at.Goals as goal

pub returns-in-Pinned-clause-reads : goal.returns-in-Pinned-clause-reads
returns-in-Pinned-clause-reads g c =
    let h : HeldCursor = held_at c.args.cursors.now c.args.at in
    let w : HeldWalk = walk_of c.in-Pinned.pinned in
    let extends = c.walk_on-walk.ensures in
    let asked : BatchAsked = record { kind = batches.Next; namespace = c.args.namespace; number = c.number_at.result; most = c.args.most } in
    let asks : AsksNext h c.args.namespace.now c.args.most asked =
    record { kind = refl; namespace_is = refl; number = c.number_at.ensures.number; most_is = refl } in
    reads_through g.D.Disk.history h w (sym c.source_at.ensures.walk ∙ ap walk_in c.in-Pinned.is) c.args.namespace.now c.args.most asked asks c.args.file.now
    c.batch_of_version.new.file c.walk_on-walk.result
    (record { way = λ i. through (sym extends.filter i) (sym extends.limit i) (sym extends.from i); projection = extends.projection; skip = extends.skip })
    c.batch_of_version.result c.batch_of_version.ensures.reads

pub returns-in-Listed-clause-reads : goal.returns-in-Listed-clause-reads
returns-in-Listed-clause-reads g c =
    let h : HeldCursor = held_at c.args.cursors.now c.args.at in
    let w : HeldWalk = list_of c.in-Listed.pinned in
    let extends = c.list_on-listed.ensures in
    let asked : BatchAsked = record { kind = batches.Next; namespace = c.args.namespace; number = c.number_at.result; most = c.args.most } in
    let asks : AsksNext h c.args.namespace.now c.args.most asked =
    record { kind = refl; namespace_is = refl; number = c.number_at.ensures.number; most_is = refl } in
    reads_listed g.D.Disk.history h w (sym c.source_at.ensures.walk ∙ ap walk_in c.in-Listed.is) c.args.namespace.now c.args.most asked asks c.args.file.now
    c.batch_of_listed.new.file c.list_on-listed.result
    (record { way = ap listed (sym extends.ids); projection = extends.projection; few = extends.few })
    c.batch_of_listed.result c.batch_of_listed.ensures.reads

pub returns-in-Ordered-clause-reads : goal.returns-in-Ordered-clause-reads
returns-in-Ordered-clause-reads g c =
    let h : HeldCursor = held_at c.args.cursors.now c.args.at in
    let w : HeldWalk = order_of c.in-Ordered.pinned in
    let extends = c.order_on-walk.ensures in
    let asked : BatchAsked = record { kind = batches.Next; namespace = c.args.namespace; number = c.number_at.result; most = c.args.most } in
    let asks : AsksNext h c.args.namespace.now c.args.most asked =
    record { kind = refl; namespace_is = refl; number = c.number_at.ensures.number; most_is = refl } in
    reads_ordered g.D.Disk.history h w (sym c.source_at.ensures.walk ∙ ap walk_in c.in-Ordered.is) c.args.namespace.now c.args.most asked asks c.args.file.now
    c.next_in_order.new.file c.order_on-walk.result
    (λ i. held_walk w.version w.number (sym extends.projection i)
    (ordered (sym extends.filter i) (sym extends.index i) (sym extends.skip i) (sym extends.limit i) (sym extends.from i) (sym extends.last i)))
    c.next_in_order.result c.next_in_order.ensures.reads
