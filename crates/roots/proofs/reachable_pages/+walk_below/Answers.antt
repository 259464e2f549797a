use Rattle.std.proofs.Common.{rules, arith, ◌≡◌, ◌≢◌, ◌<◌, ◌≤◌, ◌+◌, ℕ, zero, suc, List, ◌∷◌, ◌++◌, map, length, take, ap, sym, ◌∙◌, subst, refl, append-nil}
use Rattle.std.proofs.Common.{inl, inr}
use Rattle.std.specs.Option.{option_map}
use Rattle.std.proofs.lemmas.Bool.{cases_lt}
use Rattle.page.specs.CellView.{pivot_of as child_pivot}
use Rattle.page.specs.Content.{Pivot, branch, leaf}
use Rattle.page.specs.History.{now, reads}
use Rattle.page.specs.ImageView.{model_of}
use Rattle.page.specs.View.{content_of as content_in}
use Rattle.page.proofs.Moments.{read_further}
use Rattle.roots.specs.declared.opening.OpenFault.TheVariants as faults
use Rattle.tree_model.specs.Calls.{IsPart}
use Rattle.tree_model.specs.Search.{AreBounds}
use Rattle.tree_model.specs.Store.{IsAt, Store}
use Rattle.tree_model.specs.Tree.{Body, Subtree, pivot_of, content_of, pages_of}
use Rattle.tree_model.proofs.GetLemmas.{bounds_are}
use Rattle.tree_model.proofs.ListLemmas.{at_place, long_map}
use Rattle.roots.specs.Found.{HasFoundFan, HasFoundPairs, HasFoundPart, ReachesDepth}
use Rattle.roots.specs.Image.{model_at}
use Rattle.roots.specs.Walk.{CanReach, pages_in, pages_so_far}
use Rattle.roots.proofs.FoundLemmas.{branch_found, child_can, child_reached, child_there, depth_failed, fan_height, fan_more, leaf_found, no_fan_found}
use Rattle.roots.proofs.FoundLemmas.{not_past, page_there, part_moved, part_within}
use Rattle.roots.proofs.ImageLemmas.{live_below}
use Rattle.roots.proofs.WalkLemmas.{all_taken, at_branch, at_leaf, behind_first, can_first, can_rest, handed_on, has_read, looks_damaged, looks_done}
use Rattle.roots.proofs.WalkLemmas.{looks_failed, not_damaged, read_content, same_pages}
use Rattle.roots.proofs.reachable_pages.+walk_below.Goals as goal

pub returns-then-not-is_within-clause-reaches : goal.returns-then-not-is_within-clause-reaches
returns-then-not-is_within-clause-reaches g t c keeps d body part can damaged =
    not_past (option_map (λ b. b.now) c.args.high) c.args.low.now
    (part_within (pages_in (g.D.Disk.history c.args.disk.now) c.args.root) c.args.page c.args.level d c.args.low.now
    (option_map (λ b. b.now) c.args.high) body part) c.if-not-is_within.ensures

pub returns-in_err-note-clause-reaches : goal.returns-in_err-note-clause-reaches
returns-in_err-note-clause-reaches g t c keeps d body part can =
    depth_failed d (c.args.page ∷ pages_of d body) (pages_so_far c.args.reached.now)
    (pages_so_far c.note.new.self) c.from_residual.result c.in_err-note.field-0.0 (handed_on _ _ c.from_residual.ensures.1)
    (λ damaged. c.in_err-note.ensures.refused damaged c.args.root.pages (can_first c.args.root.pages c.args.reached.now c.args.page (pages_of d body) can)
    (live_below (reads (now (g.D.Disk.history c.args.disk.now))) c.args.root c.args.page part.at.live))

pub returns-in_err-image-clause-reaches : goal.returns-in_err-image-clause-reaches
returns-in_err-image-clause-reaches g t c keeps d body part can =
    let models = model_at (reads (now (g.D.Disk.history c.args.disk.now))) c.args.root in
    depth_failed d (c.args.page ∷ pages_of d body) (pages_so_far c.args.reached.now)
    (pages_so_far c.note.new.self) c.from_residual-in_err-image.result c.in_err-image.field-0.0 (handed_on _ _ c.from_residual-in_err-image.ensures.1)
    (not_damaged models models c.args.page (content_of d body) c.in_err-image.field-0.0 part.at.live part.at.holds refl (c.in_err-image.ensures.model keeps))

pub returns-in_err-walk_leaf-in-Leaf-clause-reaches : goal.returns-in_err-walk_leaf-in-Leaf-clause-reaches
returns-in_err-walk_leaf-in-Leaf-clause-reaches g t c keeps d body part can =
    let h0 = g.D.Disk.history c.args.disk.now in
    let h1 = g.D.Disk.history c.read_model.new.disk in
    let k1 = c.walk_leaf.ensures.looks.reads.extends.kept keeps in
    let high = option_map (λ b. b.now) c.args.high in
    let content : content_in c.in_ok-image.image.content ≡ content_of d body =
    read_content (model_at (reads (now h0)) c.args.root) c.args.page (content_of d body) (model_of c.in_ok-image.image) part.at.live part.at.holds
    (c.in_ok-image.ensures.model k1) in
    at_leaf c.in-Leaf.leaf
    (λ d body. IsPart (pages_in h1 c.args.root) c.args.page c.args.level d c.args.low.now high body
    → CanReach c.args.root.pages c.args.reached.now (c.args.page ∷ pages_of d body)
    → ReachesDepth d (c.args.page ∷ pages_of d body) (pages_so_far c.args.reached.now)
    (pages_so_far c.walk_leaf.new.reached) c.from_residual-in_err-walk_leaf-in-Leaf.result)
    (λ pairs e part can.
    depth_failed zero (c.args.page ∷ pages_of zero pairs) (pages_so_far c.args.reached.now)
    (pages_so_far c.walk_leaf.new.reached) c.from_residual-in_err-walk_leaf-in-Leaf.result c.in_err-walk_leaf-in-Leaf.field-0.0
    (handed_on _ _ c.from_residual-in_err-walk_leaf-in-Leaf.ensures.1)
    (c.in_err-walk_leaf-in-Leaf.ensures.reaches keeps pairs e part.shown part.sound.1
    (can_rest c.args.root.pages c.args.reached.now c.note.new.self c.args.page
    (pages_of zero pairs) can c.in_ok-note.ensures.marks c.in_ok-note.ensures.noted)))
    d body (sym (ap content_in c.in-Leaf.is) ∙ content)
    (part_moved h0 h1 c.args.root (c.in_ok-image.ensures.looks.reads.same k1) c.args.page c.args.level d c.args.low.now high body part) can

pub returns-in-Leaf-clause-reaches : goal.returns-in-Leaf-clause-reaches
returns-in-Leaf-clause-reaches g t c keeps d body part can =
    let h0 = g.D.Disk.history c.args.disk.now in
    let h1 = g.D.Disk.history c.read_model.new.disk in
    let k1 = c.walk_leaf.ensures.looks.reads.extends.kept keeps in
    let high = option_map (λ b. b.now) c.args.high in
    let content : content_in c.in_ok-image.image.content ≡ content_of d body =
    read_content (model_at (reads (now h0)) c.args.root) c.args.page (content_of d body) (model_of c.in_ok-image.image) part.at.live part.at.holds
    (c.in_ok-image.ensures.model k1) in
    at_leaf c.in-Leaf.leaf
    (λ d body. IsPart (pages_in h1 c.args.root) c.args.page c.args.level d c.args.low.now high body
    → CanReach c.args.root.pages c.args.reached.now (c.args.page ∷ pages_of d body)
    → ((0 ≡ d) × (pages_so_far c.walk_leaf.new.reached ≡ pages_so_far c.args.reached.now ++ c.args.page ∷ pages_of d body)))
    (λ pairs e part can. (
      refl,
      behind_first c.args.page (pages_of zero pairs) (pages_so_far c.args.reached.now) (pages_so_far c.note.new.self)
          (pages_so_far c.walk_leaf.new.reached) c.in_ok-note.ensures.noted
          (c.in_ok-walk_leaf-in-Leaf.ensures.reaches keeps pairs e part.shown part.sound.1
          (can_rest c.args.root.pages c.args.reached.now c.note.new.self c.args.page
          (pages_of zero pairs) can c.in_ok-note.ensures.marks c.in_ok-note.ensures.noted)),
    ))
    d body (sym (ap content_in c.in-Leaf.is) ∙ content)
    (part_moved h0 h1 c.args.root (c.in_ok-image.ensures.looks.reads.same k1) c.args.page c.args.level d c.args.low.now high body part) can

pub returns-in-Leaf-clause-marks : goal.returns-in-Leaf-clause-marks
returns-in-Leaf-clause-marks g t c limit marked = c.in_ok-walk_leaf-in-Leaf.ensures.marks limit (c.in_ok-note.ensures.marks limit marked)

pub returns-in-Leaf-clause-found : goal.returns-in-Leaf-clause-found
returns-in-Leaf-clause-found g t c keeps =
    let h0 = g.D.Disk.history c.args.disk.now in
    let h1 = g.D.Disk.history c.read_model.new.disk in
    let k1 = c.walk_leaf.ensures.looks.reads.extends.kept keeps in
    let high = option_map (λ b. b.now) c.args.high in
    let at : IsAt (pages_in h0 c.args.root) c.args.page (leaf c.in-Leaf.leaf) =
    subst (IsAt (pages_in h0 c.args.root) c.args.page) (ap content_in c.in-Leaf.is)
    (page_there (reads (now h0)) c.args.root c.args.page (model_of c.in_ok-image.image) (c.in_ok-image.ensures.model k1)) in
    let found : HasFoundPairs (pages_in h0 c.args.root) c.args.low.now high c.in-Leaf.leaf (pages_so_far c.note.new.self)
    (pages_so_far c.walk_leaf.new.reached) =
    subst (λ (s : Store). HasFoundPairs s c.args.low.now high c.in-Leaf.leaf (pages_so_far c.note.new.self) (pages_so_far c.walk_leaf.new.reached))
    (same_pages h0 h1 c.args.root (c.in_ok-image.ensures.looks.reads.same k1)) (c.in_ok-walk_leaf-in-Leaf.ensures.found keeps) in
    leaf_found (pages_in h0 c.args.root) c.args.page c.args.low.now high c.in-Leaf.leaf (pages_so_far c.args.reached.now) (pages_so_far c.note.new.self)
    (pages_so_far c.walk_leaf.new.reached) at c.walk_leaf.ensures.lawful c.if-not-is_within.ensures
    c.in_ok-note.ensures.noted found

pub loop-i-init : goal.loop-i-init
loop-i-init g t c =
    record {
      only = search rules;
      marks = λ limit marked. marked;
      deep = omega arith;
      so_far = λ keeps d subtrees e part can. ((λ some. absurd (omega (arith, some))), sym (append-nil (pages_so_far c.note.new.self)));
      found = λ keeps. no_fan_found (pages_in (g.D.Disk.history c.read_model.new.disk) c.args.root) 0 c.args.low.now
          (option_map (λ b. b.now) c.args.high) c.in-Branch.branch (pages_so_far c.note.new.self);
    }

pub returns-in_err-below-clause-looks : goal.returns-in_err-below-clause-looks
returns-in_err-below-clause-looks g t c =
    let h0 = g.D.Disk.history c.args.disk.now in
    let h1 = g.D.Disk.history c.read_model.new.disk in
    let h2 = g.D.Disk.history c.loop-i.disk in
    looks_failed {Y = ℕ} h0 h2 (g.D.Disk.history c.walk_below.new.disk) c.from_residual-in_err-below.result c.in_err-below.field-0.0
    (handed_on _ _ c.from_residual-in_err-below.ensures.1)
    (read_further h0 h1 h2 (has_read h0 h1 _ c.in_ok-image.ensures.looks) c.loop-i.invariant.only) c.in_err-below.ensures.looks

within : (d : ℕ) (pivots : List Pivot) (subtrees : List (Subtree (Body d))) (i : ℕ) → pivots ≡ map pivot_of subtrees → i < length pivots → i < length subtrees
within d pivots subtrees i e lt = omega (arith, lt, ap length e, long_map (pivot_of {B = Body d}) subtrees)

pub returns-in_err-below-clause-reaches : goal.returns-in_err-below-clause-reaches
returns-in_err-below-clause-reaches g t c keeps d body part can =
    let h0 = g.D.Disk.history c.args.disk.now in
    let h1 = g.D.Disk.history c.read_model.new.disk in
    let h2 = g.D.Disk.history c.loop-i.disk in
    let inv = c.loop-i.invariant in
    let i = c.loop-i.i in
    let low = c.args.low.now in
    let high = option_map (λ b. b.now) c.args.high in
    let from = c.low_bound-from.result.now in
    let to = option_map (λ b. b.now) c.high_bound-to.result in
    let pivots = c.in-Branch.branch in
    let child = child_pivot c.child-child.result in
    let k2 = c.walk_below.ensures.looks.reads.extends.kept keeps in
    let k1 = inv.only.reads.extends.kept k2 in
    let bounds : AreBounds low high pivots i from to =
    bounds_are low high pivots i from to c.low_bound-from.ensures.first c.low_bound-from.ensures.later c.high_bound-to.ensures.last
    c.high_bound-to.ensures.inner
    in
    let content : content_in c.in_ok-image.image.content ≡ content_of d body =
    read_content (model_at (reads (now h0)) c.args.root) c.args.page (content_of d body) (model_of c.in_ok-image.image) part.at.live part.at.holds
    (c.in_ok-image.ensures.model k1) in
    at_branch pivots
    (λ d body. IsPart (pages_in h1 c.args.root) c.args.page c.args.level d low high body
    → CanReach c.args.root.pages c.args.reached.now (c.args.page ∷ pages_of d body)
    → ReachesDepth d (c.args.page ∷ pages_of d body) (pages_so_far c.args.reached.now)
    (pages_so_far c.walk_below.new.reached) c.from_residual-in_err-below.result)
    (λ d subtrees e part can.
    let can1 = can_rest c.args.root.pages c.args.reached.now c.note.new.self c.args.page
    (pages_of (suc d) subtrees) can c.in_ok-note.ensures.marks c.in_ok-note.ensures.noted in
    let a = at_place subtrees i (within d pivots subtrees i e (omega arith)) in
    depth_failed (suc d) (c.args.page ∷ pages_of (suc d) subtrees) (pages_so_far c.args.reached.now)
    (pages_so_far c.walk_below.new.reached) c.from_residual-in_err-below.result c.in_err-below.field-0.0 (handed_on _ _ c.from_residual-in_err-below.ensures.1)
    (c.in_err-below.ensures.reaches keeps d a.mid.body
    (child_there h1 h2 c.args.root (inv.only.reads.same k2) c.args.page c.args.level d low high subtrees pivots i a child from to e c.child-child.ensures bounds
    part)
    (child_can c.args.root d subtrees pivots i a child e c.child-child.ensures c.args.root.pages c.note.new.self c.loop-i.reached can1 inv.marks
    (inv.so_far k2 d subtrees e part can1).1)))
    d body (sym (ap content_in c.in-Branch.is) ∙ content)
    (part_moved h0 h1 c.args.root (c.in_ok-image.ensures.looks.reads.same k1) c.args.page c.args.level d low high body part) can

pub returns-then-below-depth-clause-looks : goal.returns-then-below-depth-clause-looks
returns-then-below-depth-clause-looks g t c =
    let h0 = g.D.Disk.history c.args.disk.now in
    let h1 = g.D.Disk.history c.read_model.new.disk in
    let h2 = g.D.Disk.history c.loop-i.disk in
    let h3 = g.D.Disk.history c.walk_below.new.disk in
    looks_damaged h0 h3
    (read_further h0 h2 h3 (read_further h0 h1 h2 (has_read h0 h1 _ c.in_ok-image.ensures.looks) c.loop-i.invariant.only)
    (has_read h2 h3 _ c.in_ok-below.ensures.looks))

pub returns-then-below-depth-clause-reaches : goal.returns-then-below-depth-clause-reaches
returns-then-below-depth-clause-reaches g t c keeps d body part can =
    let h0 = g.D.Disk.history c.args.disk.now in
    let h1 = g.D.Disk.history c.read_model.new.disk in
    let h2 = g.D.Disk.history c.loop-i.disk in
    let inv = c.loop-i.invariant in
    let i = c.loop-i.i in
    let low = c.args.low.now in
    let high = option_map (λ b. b.now) c.args.high in
    let from = c.low_bound-from.result.now in
    let to = option_map (λ b. b.now) c.high_bound-to.result in
    let pivots = c.in-Branch.branch in
    let child = child_pivot c.child-child.result in
    let k2 = c.walk_below.ensures.looks.reads.extends.kept keeps in
    let k1 = inv.only.reads.extends.kept k2 in
    let bounds : AreBounds low high pivots i from to =
    bounds_are low high pivots i from to c.low_bound-from.ensures.first c.low_bound-from.ensures.later c.high_bound-to.ensures.last
    c.high_bound-to.ensures.inner
    in
    let content : content_in c.in_ok-image.image.content ≡ content_of d body =
    read_content (model_at (reads (now h0)) c.args.root) c.args.page (content_of d body) (model_of c.in_ok-image.image) part.at.live part.at.holds
    (c.in_ok-image.ensures.model k1) in
    at_branch pivots
    (λ d body. IsPart (pages_in h1 c.args.root) c.args.page c.args.level d low high body
    → CanReach c.args.root.pages c.args.reached.now (c.args.page ∷ pages_of d body) → faults.Damaged ≢ faults.Damaged)
    (λ d subtrees e part can damaged.
    let can1 = can_rest c.args.root.pages c.args.reached.now c.note.new.self c.args.page
    (pages_of (suc d) subtrees) can c.in_ok-note.ensures.marks c.in_ok-note.ensures.noted in
    let a = at_place subtrees i (within d pivots subtrees i e (omega arith)) in
    let there = c.in_ok-below.ensures.reaches keeps d a.mid.body
    (child_there h1 h2 c.args.root (inv.only.reads.same k2) c.args.page c.args.level d low high subtrees pivots i a child from to e c.child-child.ensures bounds
    part)
    (child_can c.args.root d subtrees pivots i a child e c.child-child.ensures c.args.root.pages c.note.new.self c.loop-i.reached can1 inv.marks
    (inv.so_far k2 d subtrees e part can1).1) in
    absurd (omega (arith, there.0, (inv.so_far k2 d subtrees e part can1).0 (omega arith))))
    d body (sym (ap content_in c.in-Branch.is) ∙ content)
    (part_moved h0 h1 c.args.root (c.in_ok-image.ensures.looks.reads.same k1) c.args.page c.args.level d low high body part) can

pub loop-i-preserved : goal.loop-i-preserved
loop-i-preserved g t c =
    let h1 = g.D.Disk.history c.read_model.new.disk in
    let h2 = g.D.Disk.history c.loop-i.disk in
    let inv = c.loop-i.invariant in
    let i = c.loop-i.i in
    let low = c.args.low.now in
    let high = option_map (λ b. b.now) c.args.high in
    let from = c.low_bound-from.result.now in
    let to = option_map (λ b. b.now) c.high_bound-to.result in
    let pivots = c.in-Branch.branch in
    let child = child_pivot c.child-child.result in
    let below = c.in_ok-below.below in
    let s = pages_in h1 c.args.root in
    let bounds : AreBounds low high pivots i from to =
    bounds_are low high pivots i from to c.low_bound-from.ensures.first c.low_bound-from.ensures.later c.high_bound-to.ensures.last
    c.high_bound-to.ensures.inner
    in
    record {
      only = read_further h1 h2 (g.D.Disk.history c.walk_below.new.disk) inv.only (has_read _ _ _ c.in_ok-below.ensures.looks);
      marks = λ limit marked. c.in_ok-below.ensures.marks limit (inv.marks limit marked);
      deep = omega (arith, c.in_ok-below.ensures.depth);
      so_far = λ keeps d subtrees e part can.
          let k2 = c.walk_below.ensures.looks.reads.extends.kept keeps in
          let a = at_place subtrees i (within d pivots subtrees i e (omega arith)) in
          let so_far = (inv.so_far k2 d subtrees e part can).1 in
          let there = c.in_ok-below.ensures.reaches keeps d a.mid.body
          (child_there h1 h2 c.args.root
          (inv.only.reads.same k2) c.args.page c.args.level d low high subtrees pivots i a child from to e c.child-child.ensures bounds part)
          (child_can c.args.root d subtrees pivots i a child e c.child-child.ensures c.args.root.pages c.note.new.self c.loop-i.reached can inv.marks so_far)
          in (
            (λ some. there.0),
            child_reached d subtrees pivots i a child e c.child-child.ensures (pages_so_far c.note.new.self) (pages_so_far c.loop-i.reached)
                (pages_so_far c.walk_below.new.reached) so_far there.1,
          );
      found = λ keeps.
          let k2 = c.walk_below.ensures.looks.reads.extends.kept keeps in
          let part : HasFoundPart s child.child below from to (pages_so_far c.loop-i.reached) (pages_so_far c.walk_below.new.reached) =
          subst (λ (s : Store). HasFoundPart s child.child below from to (pages_so_far c.loop-i.reached) (pages_so_far c.walk_below.new.reached))
          (same_pages h1 h2 c.args.root (inv.only.reads.same k2)) (c.in_ok-below.ensures.found keeps) in
          let fan : HasFoundFan s below low high pivots i (pages_so_far c.note.new.self) (pages_so_far c.loop-i.reached) =
          fan_height s c.loop-i.depth below low high pivots i (pages_so_far c.note.new.self) (pages_so_far c.loop-i.reached)
          (elim (cases_lt 0 i) [ inl some ↦ inr (omega (arith, some)) | inr none ↦ inl (omega (arith, none)) ]) (inv.found k2) in
          fan_more s below low high pivots i child from to c.child-child.ensures bounds (pages_so_far c.note.new.self) (pages_so_far c.loop-i.reached)
          (pages_so_far c.walk_below.new.reached) fan part;
    }

pub returns-clause-looks : goal.returns-clause-looks
returns-clause-looks g t c =
    let h0 = g.D.Disk.history c.args.disk.now in
    let h1 = g.D.Disk.history c.read_model.new.disk in
    let h2 = g.D.Disk.history c.loop-i.disk in
    looks_done h0 h2 _ (read_further h0 h1 h2 (has_read h0 h1 _ c.in_ok-image.ensures.looks) c.loop-i.invariant.only)

pub returns-clause-reaches : goal.returns-clause-reaches
returns-clause-reaches g t c keeps d body part can =
    let h0 = g.D.Disk.history c.args.disk.now in
    let h1 = g.D.Disk.history c.read_model.new.disk in
    let inv = c.loop-i.invariant in
    let i = c.loop-i.i in
    let low = c.args.low.now in
    let high = option_map (λ b. b.now) c.args.high in
    let k1 = inv.only.reads.extends.kept keeps in
    let pivots = c.in-Branch.branch in
    let many : 2 ≤ length pivots = c.len-i-end.ensures.sound.some in
    let content : content_in c.in_ok-image.image.content ≡ content_of d body =
    read_content (model_at (reads (now h0)) c.args.root) c.args.page (content_of d body) (model_of c.in_ok-image.image) part.at.live part.at.holds
    (c.in_ok-image.ensures.model k1) in
    at_branch pivots
    (λ d body. IsPart (pages_in h1 c.args.root) c.args.page c.args.level d low high body
    → CanReach c.args.root.pages c.args.reached.now (c.args.page ∷ pages_of d body)
    → ((c.loop-i.depth + 1 ≡ d) × (pages_so_far c.loop-i.reached ≡ pages_so_far c.args.reached.now ++ c.args.page ∷ pages_of d body)))
    (λ d subtrees e part can.
    let can1 = can_rest c.args.root.pages c.args.reached.now c.note.new.self c.args.page
    (pages_of (suc d) subtrees) can c.in_ok-note.ensures.marks c.in_ok-note.ensures.noted in
    let all : take i subtrees ≡ subtrees = all_taken subtrees i (omega (arith, c.loop-i-test.false, ap length e, long_map (pivot_of {B = Body d}) subtrees)) in
    let far = inv.so_far keeps d subtrees e part can1 in (
      omega (arith, far.0 (omega (arith, many, c.loop-i-test.false))),
      behind_first c.args.page (pages_of (suc d) subtrees) (pages_so_far c.args.reached.now) (pages_so_far c.note.new.self)
          (pages_so_far c.loop-i.reached) c.in_ok-note.ensures.noted
          (far.1 ∙ ap (λ (ws : Body (suc d)). pages_so_far c.note.new.self ++ pages_of (suc d) ws) all),
    ))
    d body (sym (ap content_in c.in-Branch.is) ∙ content)
    (part_moved h0 h1 c.args.root (c.in_ok-image.ensures.looks.reads.same k1) c.args.page c.args.level d low high body part) can

pub returns-clause-marks : goal.returns-clause-marks
returns-clause-marks g t c limit marked = c.loop-i.invariant.marks limit (c.in_ok-note.ensures.marks limit marked)

pub returns-clause-found : goal.returns-clause-found
returns-clause-found g t c keeps =
    let h0 = g.D.Disk.history c.args.disk.now in
    let h1 = g.D.Disk.history c.read_model.new.disk in
    let inv = c.loop-i.invariant in
    let i = c.loop-i.i in
    let low = c.args.low.now in
    let high = option_map (λ b. b.now) c.args.high in
    let k1 = inv.only.reads.extends.kept keeps in
    let pivots = c.in-Branch.branch in
    let at : IsAt (pages_in h0 c.args.root) c.args.page (branch pivots) =
    subst (IsAt (pages_in h0 c.args.root) c.args.page) (ap content_in c.in-Branch.is)
    (page_there (reads (now h0)) c.args.root c.args.page (model_of c.in_ok-image.image) (c.in_ok-image.ensures.model k1)) in
    let fan : HasFoundFan (pages_in h0 c.args.root) c.loop-i.depth low high pivots i (pages_so_far c.note.new.self) (pages_so_far c.loop-i.reached) =
    subst (λ (s : Store). HasFoundFan s c.loop-i.depth low high pivots i (pages_so_far c.note.new.self) (pages_so_far c.loop-i.reached))
    (same_pages h0 h1 c.args.root (c.in_ok-image.ensures.looks.reads.same k1)) (inv.found keeps) in
    branch_found (pages_in h0 c.args.root) c.args.page c.loop-i.depth (c.loop-i.depth + 1) low high pivots i (pages_so_far c.args.reached.now)
    (pages_so_far c.note.new.self) (pages_so_far c.loop-i.reached) at c.len-i-end.ensures.sound
    c.if-not-is_within.ensures (omega (arith, c.loop-i-test.false)) (omega arith) c.in_ok-note.ensures.noted fan

pub returns-in_err-walk_leaf-in-Leaf-clause-looks : goal.returns-in_err-walk_leaf-in-Leaf-clause-looks
returns-in_err-walk_leaf-in-Leaf-clause-looks g t c =
    looks_failed {Y = Unit {0}} (g.D.Disk.history c.args.disk.now) (g.D.Disk.history c.read_model.new.disk) (g.D.Disk.history c.walk_leaf.new.disk)
    c.from_residual-in_err-walk_leaf-in-Leaf.result c.in_err-walk_leaf-in-Leaf.field-0.0 (handed_on _ _ c.from_residual-in_err-walk_leaf-in-Leaf.ensures.1)
    (has_read _ _ _ c.in_ok-image.ensures.looks) c.in_err-walk_leaf-in-Leaf.ensures.looks

pub returns-in-Leaf-clause-looks : goal.returns-in-Leaf-clause-looks
returns-in-Leaf-clause-looks g t c =
    let h0 = g.D.Disk.history c.args.disk.now in
    let h1 = g.D.Disk.history c.read_model.new.disk in
    let h2 = g.D.Disk.history c.walk_leaf.new.disk in
    looks_done h0 h2 _ (read_further h0 h1 h2 (has_read h0 h1 _ c.in_ok-image.ensures.looks) (has_read h1 h2 _ c.in_ok-walk_leaf-in-Leaf.ensures.looks))
