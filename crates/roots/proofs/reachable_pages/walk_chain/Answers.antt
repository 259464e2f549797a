use Rattle.std.proofs.Common.{rules, arith, ◌≡◌, ◌<◌, ℕ, [], ◌∷◌, ◌++◌, ◌-◌, length, take, ap, subst, sym, ◌∙◌}
use Rattle.page.specs.Content.{chain}
use Rattle.page.specs.History.{Sector, now, reads}
use Rattle.page.specs.View.{content_of}
use Rattle.page.specs.ImageView.{model_of}
use Rattle.std.specs.Prelude.{min}
use Rattle.page.proofs.Moments.{read_further}
use Rattle.tree_model.specs.Store.{IsAt}
use Rattle.tree_model.specs.Tree.{next_of}
use Rattle.roots.specs.Image.{model_at}
use Rattle.roots.specs.Walk.{CanReach, pages_in, pages_so_far}
use Rattle.roots.proofs.FoundLemmas.{chain_begins, chain_found, chain_more, page_there}
use Rattle.roots.proofs.ImageLemmas.{live_below}
use Rattle.roots.proofs.WalkLemmas.{IsNext, begun, next_link, can_go_on, can_reach_same, reaches_failed, not_damaged, read_content, part_long, link_more}
use Rattle.roots.proofs.WalkLemmas.{all_links, has_read, looks_damaged, looks_later, no_chain}
use Rattle.roots.proofs.reachable_pages.walk_chain.Goals as goal

pub loop-left-init : goal.loop-left-init
loop-left-init g c = record {
  only = search rules;
  marks = λ limit marked. marked;
  so_far = λ keeps links value has next long. begun (pages_in (g.D.Disk.history c.args.disk.now) c.args.root) links value c.args.len c.args.first
      (pages_so_far c.args.reached.now) has next long;
  found = λ keeps. chain_begins (pages_in (g.D.Disk.history c.args.disk.now) c.args.root) c.args.first c.args.len (pages_so_far c.args.reached.now);
}

pub returns-in_err-note-clause-reaches : goal.returns-in_err-note-clause-reaches
returns-in_err-note-clause-reaches g c keeps links value has next long can =
    let s = pages_in (g.D.Disk.history c.args.disk.now) c.args.root in
    let inv = c.loop-left.invariant in
    let page = c.loop-left.page in
    let n : IsNext s links c.loop-left.left page (pages_so_far c.args.reached.now) (pages_so_far c.loop-left.reached) =
    next_link s links c.loop-left.left page (pages_so_far c.args.reached.now) (pages_so_far c.loop-left.reached) (omega arith)
    (inv.so_far keeps links value has next long) in
    let one : CanReach c.args.root.pages c.loop-left.reached (page ∷ []) =
    can_go_on c.args.root.pages c.args.reached.now c.loop-left.reached n.front (page ∷ []) n.back
    (can_reach_same c.args.root.pages c.args.reached.now links (n.front ++ page ∷ n.back) n.is can) inv.marks n.reached in
    let inside : page < c.args.root.pages = live_below (reads (now (g.D.Disk.history c.args.disk.now))) c.args.root page n.at.live in
    reaches_failed links c.args.reached.now c.note.new.self c.from_residual.result c.in_err-note.field-0.0 (search rules)
    (λ damaged. c.in_err-note.ensures.refused damaged c.args.root.pages one inside)

-- the page that is reached next, and what was read there
pub returns-in_err-image-clause-reaches : goal.returns-in_err-image-clause-reaches
returns-in_err-image-clause-reaches g c keeps links value has next long can =
    let h0 = g.D.Disk.history c.args.disk.now in
    let h1 = g.D.Disk.history c.loop-left.disk in
    let s = pages_in h0 c.args.root in
    let inv = c.loop-left.invariant in
    let page = c.loop-left.page in
    let k1 = c.read_model.ensures.looks.reads.extends.kept keeps in
    let n : IsNext s links c.loop-left.left page (pages_so_far c.args.reached.now) (pages_so_far c.loop-left.reached) =
    next_link s links c.loop-left.left page (pages_so_far c.args.reached.now) (pages_so_far c.loop-left.reached) (omega arith)
    (inv.so_far k1 links value has next long) in
    reaches_failed links c.args.reached.now c.note.new.self c.from_residual-in_err-image.result c.in_err-image.field-0.0 (search rules)
    (not_damaged (model_at (reads (now h0)) c.args.root) (model_at (reads (now h1)) c.args.root) page
    (chain (next_of n.back) (take 4076 n.rest)) c.in_err-image.field-0.0 n.at.live n.at.holds
    (ap (λ (t : ℕ → Sector). model_at (reads t) c.args.root page) (inv.only.reads.same k1)) (c.in_err-image.ensures.model keeps))

pub returns-in_default : goal.returns-in_default
returns-in_default g c =
    let h0 = g.D.Disk.history c.args.disk.now in
    let h1 = g.D.Disk.history c.loop-left.disk in
    let h2 = g.D.Disk.history c.read_model.new.disk in
    record {
      looks = looks_later h0 h1 h2 _ c.loop-left.invariant.only (looks_damaged h1 h2 (has_read h1 h2 _ c.in_ok-image.ensures.looks));
      reaches = λ keeps links value has next long can damaged.
          let s = pages_in h0 c.args.root in
          let inv = c.loop-left.invariant in
          let page = c.loop-left.page in
          let k1 = c.read_model.ensures.looks.reads.extends.kept keeps in
          let n : IsNext s links c.loop-left.left page (pages_so_far c.args.reached.now) (pages_so_far c.loop-left.reached) =
          next_link s links c.loop-left.left page (pages_so_far c.args.reached.now) (pages_so_far c.loop-left.reached) (omega arith)
          (inv.so_far k1 links value has next long) in
          no_chain c.in_ok-image.image.content c.in_default.not-Chain (next_of n.back) (take 4076 n.rest)
          (read_content (model_at (reads (now h0)) c.args.root) page (chain (next_of n.back) (take 4076 n.rest))
          (model_of c.in_ok-image.image) n.at.live n.at.holds
          (sym (ap (λ (t : ℕ → Sector). model_at (reads t) c.args.root page) (inv.only.reads.same k1)) ∙ c.in_ok-image.ensures.model keeps));
      marks = tt;
      found = λ keeps. tt;
    }

pub returns-then-len-min-clause-reaches : goal.returns-then-len-min-clause-reaches
returns-then-len-min-clause-reaches g c keeps links value has next long can damaged =
    let h0 = g.D.Disk.history c.args.disk.now in
    let s = pages_in h0 c.args.root in
    let inv = c.loop-left.invariant in
    let page = c.loop-left.page in
    let k1 = c.read_model.ensures.looks.reads.extends.kept keeps in
    let n : IsNext s links c.loop-left.left page (pages_so_far c.args.reached.now) (pages_so_far c.loop-left.reached) =
    next_link s links c.loop-left.left page (pages_so_far c.args.reached.now) (pages_so_far c.loop-left.reached) (omega arith)
    (inv.so_far k1 links value has next long) in
    let content : content_of c.in_ok-image.image.content ≡ chain (next_of n.back) (take 4076 n.rest) =
    read_content (model_at (reads (now h0)) c.args.root) page (chain (next_of n.back) (take 4076 n.rest)) (model_of c.in_ok-image.image) n.at.live n.at.holds
    (sym (ap (λ (t : ℕ → Sector). model_at (reads t) c.args.root page) (inv.only.reads.same k1)) ∙ c.in_ok-image.ensures.model keeps) in
    let part : length c.in-Chain.bytes.items ≡ min c.loop-left.left 4076 =
    part_long c.in-Chain.next (next_of n.back) c.loop-left.left c.in-Chain.bytes.items n.rest (sym (ap content_of c.in-Chain.is) ∙ content) n.long in
    c.if-len-min.true (omega (arith, part, c.len.ensures, c.min.ensures, c.in-Chain.bytes.ok))

pub loop-left-preserved-else-len-min-3 : goal.loop-left-preserved-else-len-min-3
loop-left-preserved-else-len-min-3 g c =
    let h0 = g.D.Disk.history c.args.disk.now in
    let h1 = g.D.Disk.history c.loop-left.disk in
    let h2 = g.D.Disk.history c.read_model.new.disk in
    let s = pages_in h0 c.args.root in
    let inv = c.loop-left.invariant in
    let page = c.loop-left.page in
    record {
      only = read_further h0 h1 h2 inv.only (has_read h1 h2 _ c.in_ok-image.ensures.looks);
      marks = λ limit marked. c.in_ok-note.ensures.marks limit (inv.marks limit marked);
      so_far = λ keeps links value has next long.
          let k1 = c.read_model.ensures.looks.reads.extends.kept keeps in
          let n : IsNext s links c.loop-left.left page (pages_so_far c.args.reached.now) (pages_so_far c.loop-left.reached) =
          next_link s links c.loop-left.left page (pages_so_far c.args.reached.now) (pages_so_far c.loop-left.reached) (omega arith)
          (inv.so_far k1 links value has next long) in
          let content : content_of c.in_ok-image.image.content ≡ chain (next_of n.back) (take 4076 n.rest) =
          read_content (model_at (reads (now h0)) c.args.root) page (chain (next_of n.back) (take 4076 n.rest))
          (model_of c.in_ok-image.image) n.at.live n.at.holds
          (sym (ap (λ (t : ℕ → Sector). model_at (reads t) c.args.root page) (inv.only.reads.same k1)) ∙ c.in_ok-image.ensures.model keeps) in
          link_more s links c.loop-left.left (c.loop-left.left - c.len-left.result) page c.in-Chain.next c.in-Chain.bytes.items
          (pages_so_far c.args.reached.now) (pages_so_far c.loop-left.reached) (pages_so_far c.note.new.self) n
          (sym (ap content_of c.in-Chain.is) ∙ content) (omega (arith, c.len-left.ensures, c.in-Chain.bytes.ok)) c.in_ok-note.ensures.noted;
      found = λ keeps.
          let k1 = c.read_model.ensures.looks.reads.extends.kept keeps in
          let models : model_at (reads (now h1)) c.args.root page ≡ model_at (reads (now h0)) c.args.root page =
          ap (λ (t : ℕ → Sector). model_at (reads t) c.args.root page) (inv.only.reads.same k1) in
          let at : IsAt s page (chain c.in-Chain.next c.in-Chain.bytes.items) =
          subst (IsAt s page) (ap content_of c.in-Chain.is)
          (page_there (reads (now h0)) c.args.root page (model_of c.in_ok-image.image) (sym models ∙ c.in_ok-image.ensures.model keeps)) in
          let part : length c.in-Chain.bytes.items ≡ min c.loop-left.left 4076 =
          omega (arith, c.if-len-min.false, c.len.ensures, c.min.ensures, c.in-Chain.bytes.ok) in
          chain_more s c.args.first c.args.len c.loop-left.left (c.loop-left.left - c.len-left.result) page c.in-Chain.next c.in-Chain.bytes.items
          (pages_so_far c.args.reached.now) (pages_so_far c.loop-left.reached) (pages_so_far c.note.new.self)
          (inv.found k1) (omega arith) part (omega (arith, c.len-left.ensures, c.in-Chain.bytes.ok)) at c.in_ok-note.ensures.noted;
    }

pub returns-then-page-eq0-clause-reaches : goal.returns-then-page-eq0-clause-reaches
returns-then-page-eq0-clause-reaches g c keeps links value has next long can =
    (all_links (pages_in (g.D.Disk.history c.args.disk.now) c.args.root) links c.loop-left.left c.loop-left.page (pages_so_far c.args.reached.now)
    (pages_so_far c.loop-left.reached) (omega arith) (c.loop-left.invariant.so_far keeps links value has next long)).0

pub returns-else-page-eq0-clause-reaches : goal.returns-else-page-eq0-clause-reaches
returns-else-page-eq0-clause-reaches g c keeps links value has next long can damaged =
    c.if-page-eq0.false
    (all_links (pages_in (g.D.Disk.history c.args.disk.now) c.args.root) links c.loop-left.left c.loop-left.page (pages_so_far c.args.reached.now)
    (pages_so_far c.loop-left.reached) (omega arith) (c.loop-left.invariant.so_far keeps links value has next long)).1

pub returns-then-page-eq0-clause-found : goal.returns-then-page-eq0-clause-found
returns-then-page-eq0-clause-found g c keeps =
    chain_found (pages_in (g.D.Disk.history c.args.disk.now) c.args.root) c.args.first c.args.len c.loop-left.left c.loop-left.page
    (pages_so_far c.args.reached.now) (pages_so_far c.loop-left.reached) (c.loop-left.invariant.found keeps)
    (omega arith) (omega arith)
