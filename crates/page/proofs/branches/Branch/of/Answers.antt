use Rattle.std.proofs.Common.{◌≡◌, ◌+◌, ◌-◌, ◌++◌, ◌∷◌, [], ℕ, List, length, map, take, drop, get_or, replicate, sym, ap, ◌∙◌, subst, arith, vec_len}
use Rattle.std.specs.List.{flat_map}
use Rattle.byteorder.specs.Endian.{little_bytes}
use Rattle.page.specs.Content.{Pivot, IsBranch, pivot_size}
use Rattle.page.specs.Format.{pivot_bytes, pivots_bytes, pivots_at, body_and_zeros}
use Rattle.page.specs.Kept.{KeepsBranch, starts}
use Rattle.page.specs.CellView.{pivot_of}
use Rattle.page.specs.declared.cells.Child.{Child}
use Rattle.page.proofs.PlaceLemmas.{length-joined}
use Rattle.page.proofs.CellLemmas.{length-pivot}
use Rattle.page.proofs.KeptLemmas.{branch_again, branch_made}
use Rattle.page.proofs.MakingLemmas.{filled, front_child}
use Rattle.page.proofs.branches.Branch.of.Goals as goal

abbrev none : Child
none = record { key = record { ref_ptr = (0, 0); now = [] }; page = 0 }

-- the children behind the first
abbrev rest : List Child → List Child
rest children = take (length children - 1) (drop 1 children)

module _ (children : List Child) (sound : IsBranch (map pivot_of children)) where
  split : IsBranch (pivot_of (get_or children 0 none) ∷ map pivot_of (rest children))
  split = subst IsBranch (front_child pivot_of children none sound) sound

pub append_children-requires-clause-each : goal.append_children-requires-clause-each
append_children-requires-clause-each c = (split c.args.children.now c.requires).each.1

pub append_children-requires-clause-room : goal.append_children-requires-clause-room
append_children-requires-clause-room c =
    let start : c.append_number.new.bytes.items ≡ little_bytes 4 (get_or c.args.children.now 0 none).page =
    c.in_ok-append_number.ensures ∙ ap (λ (l : List ℕ). l ++ little_bytes 4 (get_or c.args.children.now 0 none).page) c.in_ok-bytes.ensures.items in
    omega (arith, ap (λ (l : List ℕ). length l) start, (split c.args.children.now c.requires).room)

module _ (first : Pivot) (pivots all : List Pivot) (front : all ≡ first ∷ pivots) (sound : IsBranch all) (start bytes new empty places : List ℕ) (n : ℕ)
    (begins : start ≡ little_bytes 4 first.child) (is : bytes ≡ start ++ flat_map pivot_bytes pivots) (none_yet : empty ≡ [])
    (at : places ≡ empty ++ starts pivot_size (length start) pivots) (len : n ≡ length bytes)
    (made : new ≡ take 4080 bytes ++ replicate (4080 - n) 0) where
  parts : IsBranch (first ∷ pivots)
  parts = subst IsBranch front sound

  whole : new ≡ body_and_zeros (pivots_bytes (first ∷ pivots))
  whole =
      filled bytes (pivots_bytes (first ∷ pivots)) new n (is ∙ ap (λ (l : List ℕ). l ++ flat_map pivot_bytes pivots) begins) len
      (omega (arith, parts.room, length-joined pivot_bytes pivot_size length-pivot pivots)) made

  placed : places ≡ starts pivot_size 4 pivots
  placed = at ∙ (λ i. none_yet i ++ starts pivot_size (length (begins i)) pivots)

  keeps : KeepsBranch new places
  keeps = subst (KeepsBranch new) (sym placed) (branch_made first pivots parts new whole)

  gives : pivots_at new places ≡ all
  gives = ap (pivots_at new) placed ∙ branch_again first pivots parts new whole ∙ sym front

pub invariant_of-result : goal.invariant_of-result
invariant_of-result c =
    let all = c.args.children.now in
    let start : c.append_number.new.bytes.items ≡ little_bytes 4 (pivot_of (get_or all 0 none)).child =
    c.in_ok-append_number.ensures ∙ ap (λ (l : List ℕ). l ++ little_bytes 4 (pivot_of (get_or all 0 none)).child) c.in_ok-bytes.ensures.items in
    keeps (pivot_of (get_or all 0 none)) (map pivot_of (rest all)) (map pivot_of all) (front_child pivot_of all none c.requires) c.requires
    c.append_number.new.bytes.items c.append_children.new.bytes.items c.resize.new.self.items c.in_ok-places.places.items c.append_children.new.places.items
    (vec_len c.append_children.new.bytes) start c.in_ok-append_children.ensures.bytes c.in_ok-places.ensures.items c.in_ok-append_children.ensures.places
    (omega (arith, c.append_children.new.bytes.ok)) c.in_ok-resize.ensures.items

pub returns : goal.returns
returns c =
    let all = c.args.children.now in
    let start : c.append_number.new.bytes.items ≡ little_bytes 4 (pivot_of (get_or all 0 none)).child =
    c.in_ok-append_number.ensures ∙ ap (λ (l : List ℕ). l ++ little_bytes 4 (pivot_of (get_or all 0 none)).child) c.in_ok-bytes.ensures.items in
    gives (pivot_of (get_or all 0 none)) (map pivot_of (rest all)) (map pivot_of all) (front_child pivot_of all none c.requires) c.requires
    c.append_number.new.bytes.items c.append_children.new.bytes.items c.resize.new.self.items c.in_ok-places.places.items c.append_children.new.places.items
    (vec_len c.append_children.new.bytes) start c.in_ok-append_children.ensures.bytes c.in_ok-places.ensures.items c.in_ok-append_children.ensures.places
    (omega (arith, c.append_children.new.bytes.ok)) c.in_ok-resize.ensures.items
