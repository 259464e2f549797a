-- A walk over pages, one page after the other.
use Rattle.std.proofs.Common.{◌≡◌, ◌≢◌, ℕ, zero, suc, ◌+◌, ◌-◌, ◌<◌, ◌≤◌, true, List, [], ◌∷◌, ◌++◌, length, take, drop, min, refl, sym, ◌∙◌, ap, subst, arith}
use Rattle.std.proofs.Common.{append_assoc, append-nil, length-append, length-take, length-drop, map}
use Rattle.std.specs.Prelude.{is_ok, Some, slice_get, Result, Ok, Err, IfErr, IsErrAnd}
use Rattle.std.specs.List.{flat_map}
use Rattle.std.proofs.lemmas.List.{take_all}
use Rattle.page.specs.Content.{Pivot, Content, Item, branch, chain, inline, leaf, spilled}
use Rattle.tree_model.proofs.ListLemmas.{At, each_back, flat_append}
use Rattle.page.specs.Format.{PageModel}
use Rattle.page.specs.History.{History, Sector, now, reads}
use Rattle.page.specs.Crash.{HasRead, ReadsOnly}
use Rattle.page.specs.declared.page_fault.PageFault.{PageFault}
use Rattle.page.proofs.Moments.{reads_further}
use Rattle.tree_model.specs.Keys.{Each, times}
use Rattle.std.proofs.Common.{Vec, Global}
use Rattle.page.specs.View.{content_of}
use Rattle.page.specs.declared.page_content.PageContent.{PageContent}
use Rattle.page.specs.declared.page_content.PageContent.TheVariants as contents
use Rattle.tree_model.specs.Store.{Store, IsAt}
use Rattle.tree_model.specs.Tree.{Body, HasLinks, Shows, Subtree, pivot_of, content_of as content_by, item_of, next_of, place_of, pages_of}
use Rattle.roots.specs.declared.opening.OpenFault.{OpenFault}
use Rattle.roots.specs.declared.opening.OpenFault.TheVariants as faults
use Rattle.roots.specs.declared.root.Root.{Root}
use Rattle.roots.specs.declared.reachable_pages.Reached.{Reached}
use Rattle.roots.specs.Image.{content_in, model_at, store_of}
use Rattle.roots.specs.Walk.{CanReach, HasCause, IsMarked, KeepsMarks, Looks, Reaches, pages_in, pages_so_far}
use Rattle.roots.proofs.MarkLemmas.{times_append}

-- ---- causes

pub cause_later : (a b c : History) (fault : OpenFault) → ReadsOnly a b → ReadsOnly b c → HasCause b c fault → HasCause a c fault
cause_later a b c faults.Device first second cause = λ k. omega (arith, first.extends.failures (second.extends.kept k), cause k)
cause_later a b c faults.Memory first second cause = tt
cause_later a b c faults.Damaged first second cause = tt
cause_later a b c faults.NotADatabase first second cause = cause
cause_later a b c faults.NewerFormat first second cause = cause

if_err_later : {X : Type 0} (a b c : History) (result : Result X OpenFault) → ReadsOnly a b → ReadsOnly b c → IfErr result (HasCause b c)
    → IfErr result (HasCause a c)
if_err_later a b c (Ok x) first second cause = cause
if_err_later a b c (Err e) first second cause = cause_later a b c e first second cause

-- calls that only read, behind others that have
pub looks_later : {X : Type 0} (a b c : History) (result : Result X OpenFault) → HasRead a b → Looks result b c → Looks result a c
looks_later a b c result first looks = record {
  reads = reads_further a b c first.reads looks.reads;
  cause = if_err_later a b c result first.reads looks.reads looks.cause;
  clear = λ ne keeps. looks.clear ne keeps ∙ first.clear (looks.reads.extends.kept keeps);
}

-- what was read where that is done
pub has_read : {X : Type 0} (a b : History) (x : X) → Looks (Ok x) a b → HasRead a b
has_read a b x looks = record { reads = looks.reads; clear = looks.clear (λ is. absurd cc) }

-- an end behind it
pub looks_done : {X : Type 0} (a b : History) (x : X) → HasRead a b → Looks (Ok x) a b
looks_done a b x first = record { reads = first.reads; cause = tt; clear = λ ne. first.clear }

pub looks_damaged : {X : Type 0} (a b : History) → HasRead a b → Looks {X = X} (Err faults.Damaged) a b
looks_damaged a b first = record { reads = first.reads; cause = tt; clear = λ ne. first.clear }

-- ---- a value's chain

pub record ChainRest (s : Store) (links : List ℕ) (left page : ℕ) (before so_far : List ℕ) : Type 0 where
  pub front : List ℕ
  pub back : List ℕ
  pub rest : List ℕ
  pub is : links ≡ front ++ back
  pub has : HasLinks s back rest
  pub next : next_of back ≡ page
  pub long : length rest ≡ left
  pub reached : so_far ≡ before ++ front

pub begun : (s : Store) (links value : List ℕ) (left page : ℕ) (before : List ℕ) → HasLinks s links value → next_of links ≡ page → length value ≡ left
    → ChainRest s links left page before before
begun s links value left page before has next long = record {
  front = [];
  back = links;
  rest = value;
  is = refl;
  has = has;
  next = next;
  long = long;
  reached = sym (append-nil before);
}

-- the page that is reached next
pub record IsNext (s : Store) (links : List ℕ) (left page : ℕ) (before so_far : List ℕ) : Type 0 where
  pub front : List ℕ
  pub back : List ℕ
  pub rest : List ℕ
  pub is : links ≡ front ++ page ∷ back
  pub at : IsAt s page (chain (next_of back) (take 4076 rest))
  pub has : HasLinks s back (drop 4076 rest)
  pub long : length rest ≡ left
  pub reached : so_far ≡ before ++ front

pub next_link : (s : Store) (links : List ℕ) (left page : ℕ) (before so_far : List ℕ) → 0 < left → ChainRest s links left page before so_far
    → IsNext s links left page before so_far
next_link s links left page before so_far some r = go r.back r.is r.next r.has
  where
    go : (back : List ℕ) → links ≡ r.front ++ back → next_of back ≡ page → HasLinks s back r.rest → IsNext s links left page before so_far
    go [] is next has = absurd (omega (arith, r.long, ap length has))
    go (p ∷ ps) is next has = record {
      front = r.front;
      back = ps;
      rest = r.rest;
      is = is ∙ ap (λ q. r.front ++ q ∷ ps) next;
      at = subst (λ q. IsAt s q (chain (next_of ps) (take 4076 r.rest))) next has.1;
      has = has.2;
      long = r.long;
      reached = r.reached;
    }

-- ---- pages that can be reached

-- of pages that can be reached, those behind the first ones
pub can_go_on : (limit : ℕ) (old mid : Reached) (front pages back : List ℕ) → CanReach limit old (front ++ (pages ++ back))
    → ((limit : ℕ) → IsMarked limit old → IsMarked limit mid)
    → pages_so_far mid ≡ pages_so_far old ++ front → CanReach limit mid pages
can_go_on limit old mid front pages back can marks reached = record {
  marked = marks limit can.marked;
  apart = λ n. omega
      (arith, can.apart n, ap (times n) reached, times_append n (pages_so_far old) front, times_append n front (pages ++ back), times_append n pages back);
}

pub can_reach_same : (limit : ℕ) (old : Reached) (xs ys : List ℕ) → xs ≡ ys → CanReach limit old xs → CanReach limit old ys
can_reach_same limit old xs ys is can = subst (CanReach limit old) is can

-- a fault that isn't one of the pages goes through
pub reaches_failed : {X : Type 0} (pages : List ℕ) (old new : Reached) (result : Result X OpenFault) (e : OpenFault) → result ≡ Err e → e ≢ faults.Damaged
    → Reaches pages old new result
reaches_failed pages old new (Ok x) e is ne = absurd cc
reaches_failed pages old new (Err f) e is ne = λ damaged. ne (let same : e ≡ f = cc in same ∙ damaged)

-- ---- pages that are there

pub record IsFound (found : Result PageModel PageFault) (content : Content) : Type 0 where
  pub model : PageModel
  pub is : found ≡ Ok model
  pub holds : model.content ≡ content

pub found_at : (models : ℕ → Result PageModel PageFault) (n : ℕ) (content : Content) → is_ok (models n) ≡ true → content_in (models n) ≡ content
    → IsFound (models n) content
found_at models n content live holds = go (models n) live holds
  where
    go : (found : Result PageModel PageFault) → is_ok found ≡ true → content_in found ≡ content → IsFound found content
    go (Ok model) live holds = record { model = model; is = refl; holds = holds }
    go (Err e) live holds = absurd cc

-- what was read there is its content
pub read_content : (models : ℕ → Result PageModel PageFault) (n : ℕ) (content : Content) (model : PageModel) → is_ok (models n) ≡ true
    → content_in (models n) ≡ content → models n ≡ Ok model → model.content ≡ content
read_content models n content model live holds is = ap content_in (sym is) ∙ holds

-- and it can be read
pub not_damaged : (models others : ℕ → Result PageModel PageFault) (n : ℕ) (content : Content) (e : OpenFault) → is_ok (models n) ≡ true
    → content_in (models n) ≡ content → others n ≡ models n
    → (e ≡ faults.Damaged → (found : PageModel) → others n ≡ Ok found → ⊥) → e ≢ faults.Damaged
not_damaged models others n content e live holds same none damaged = let f = found_at models n content live holds in none damaged f.model (same ∙ f.is)

-- ---- one link more

chain_next : (next other : ℕ) (bytes others : List ℕ) → chain next bytes ≡ chain other others → next ≡ other
chain_next next other bytes others e = cc

chain_part : (next other : ℕ) (bytes others : List ℕ) → chain next bytes ≡ chain other others → bytes ≡ others
chain_part next other bytes others e = cc

pub part_long : (next other left : ℕ) (bytes rest : List ℕ) → chain next bytes ≡ chain other (take 4076 rest) → length rest ≡ left
    → length bytes ≡ min left 4076
part_long next other left bytes rest e long = omega (arith, ap length (chain_part next other bytes (take 4076 rest) e), length-take 4076 rest, long)

pub link_more : (s : Store) (links : List ℕ) (left left' page next : ℕ) (bytes before so_far so_far' : List ℕ) (n : IsNext s links left page before so_far)
    → chain next bytes ≡ chain (next_of n.back) (take 4076 n.rest) → left' ≡ left - length bytes → so_far' ≡ so_far ++ page ∷ []
    → ChainRest s links left' next before so_far'
link_more s links left left' page next bytes before so_far so_far' n e less more = record {
  front = n.front ++ page ∷ [];
  back = n.back;
  rest = drop 4076 n.rest;
  is = n.is ∙ sym (append_assoc n.front (page ∷ []) n.back);
  has = n.has;
  next = sym (chain_next next (next_of n.back) bytes (take 4076 n.rest) e);
  long = omega (arith, less, part_long next (next_of n.back) left bytes n.rest e n.long, length-drop 4076 n.rest, n.long);
  reached = more ∙ ap (λ l. l ++ page ∷ []) n.reached ∙ append_assoc before n.front (page ∷ []);
}

-- at the end all were reached
pub all_links : (s : Store) (links : List ℕ) (left page : ℕ) (before so_far : List ℕ) → left ≡ 0 → ChainRest s links left page before so_far
    → (so_far ≡ before ++ links) × (page ≡ 0)
all_links s links left page before so_far none r = go r.back r.is r.next r.has
  where
    go : (back : List ℕ) → links ≡ r.front ++ back → next_of back ≡ page → HasLinks s back r.rest → (so_far ≡ before ++ links) × (page ≡ 0)
    go [] is next has = (r.reached ∙ ap (λ l. before ++ l) (sym (is ∙ append-nil r.front)), sym next)
    go (p ∷ ps) is next has = absurd (omega (arith, has.0, r.long, none))

pub no_chain : (content : PageContent) → ((next : ℕ) (bytes : Vec ℕ Global) → content ≡ contents.Chain next bytes → ⊥) → (next : ℕ) (bytes : List ℕ)
    → content_of content ≡ chain next bytes → ⊥
no_chain (contents.Leaf l) differs next bytes is = absurd cc
no_chain (contents.Branch b) differs next bytes is = absurd cc
no_chain (contents.Chain n b) differs next bytes is = differs n b refl
no_chain (contents.FreeList n p) differs next bytes is = absurd cc

-- ---- one place after the other

take_here : {X : Type 0} (front back : List X) → take (length front) (front ++ back) ≡ front
take_here [] back = refl
take_here (x ∷ xs) back = ap (λ l. x ∷ l) (take_here xs back)

got_here : {X Y : Type 0} (g : X → Y) (front : List X) (x : X) (back : List X) → slice_get (map g (front ++ x ∷ back)) (length front) ≡ Some (g x)
got_here g [] x back = refl
got_here g (f ∷ fs) x back = got_here g fs x back

module _ {X : Type 0} (xs : List X) (i : ℕ) (a : At xs i) where
  taken : take i xs ≡ a.front
  taken = (λ j. take (sym a.place j) (a.is j)) ∙ take_here a.front (a.mid ∷ a.back)

  taken_more : take (i + 1) xs ≡ a.front ++ a.mid ∷ []
  taken_more =
      let long : i + 1 ≡ length (a.front ++ a.mid ∷ []) = omega (arith, a.place, length-append a.front (a.mid ∷ [])) in
      let split : xs ≡ (a.front ++ a.mid ∷ []) ++ a.back = a.is ∙ sym (append_assoc a.front (a.mid ∷ []) a.back) in
      (λ j. take (long j) (split j)) ∙ take_here (a.front ++ a.mid ∷ []) a.back

  module _ (f : X → List ℕ) where
    pub whole : flat_map f xs ≡ flat_map f (take i xs) ++ (f a.mid ++ flat_map f a.back)
    whole = ap (flat_map f) a.is ∙ flat_append f a.front (a.mid ∷ a.back) ∙ ap (λ l. flat_map f l ++ (f a.mid ++ flat_map f a.back)) (sym taken)

    pub more : flat_map f (take (i + 1) xs) ≡ flat_map f (take i xs) ++ f a.mid
    more = ap (flat_map f) taken_more ∙ flat_append f a.front (a.mid ∷ []) ∙ (λ j. flat_map f (sym taken j) ++ append-nil (f a.mid) j)

    -- what is reached there, behind what was reached before
    pub can_reach_there : (limit : ℕ) (old mid : Reached) → CanReach limit old (flat_map f xs) → ((limit : ℕ) → IsMarked limit old → IsMarked limit mid)
        → pages_so_far mid ≡ pages_so_far old ++ flat_map f (take i xs) → CanReach limit mid (f a.mid)
    can_reach_there limit old mid can marks so_far =
        can_go_on limit old mid (flat_map f (take i xs)) (f a.mid) (flat_map f a.back)
        (can_reach_same limit old (flat_map f xs) (flat_map f (take i xs) ++ (f a.mid ++ flat_map f a.back)) whole can) marks so_far

    pub reached_there : (before so_far new : List ℕ) → so_far ≡ before ++ flat_map f (take i xs) → new ≡ so_far ++ f a.mid
        → new ≡ before ++ flat_map f (take (i + 1) xs)
    reached_there before so_far new is add =
        add ∙ ap (λ l. l ++ f a.mid) is ∙ append_assoc before (flat_map f (take i xs)) (f a.mid) ∙ ap (λ l. before ++ l) (sym more)

  pub got_there : {Y : Type 0} (g : X → Y) (ys : List Y) (y : Y) → ys ≡ map g xs → slice_get ys i ≡ Some y → g a.mid ≡ y
  got_there g ys y e found =
      let here : slice_get ys i ≡ Some (g a.mid) =
      (λ j. slice_get (e j) (sym a.place j)) ∙ ap (λ l. slice_get (map g l) (length a.front)) a.is ∙ got_here g a.front a.mid a.back in
      let same : Some (g a.mid) ≡ Some y = sym here ∙ found in cc

  pub each_there : (P : X → Type 0) → Each P xs → P a.mid
  each_there P all = (each_back P a.front (a.mid ∷ a.back) (subst (Each P) a.is all)).0

pub all_taken : {X : Type 0} (xs : List X) (i : ℕ) → length xs ≤ i → take i xs ≡ xs
all_taken xs i le = take_all i xs le

-- ---- a pair's pages

pub record IsSpilled (links value : List ℕ) (len first : ℕ) : Type 0 where
  pub some : 0 < length links
  pub next : next_of links ≡ first
  pub long : length value ≡ len

pub spilled_links : (links value : List ℕ) (len first : ℕ) → place_of links value ≡ spilled len first → IsSpilled links value len first
spilled_links [] value len first is = absurd cc
spilled_links (p ∷ ps) value len first is = record { some = omega arith; next = cc; long = cc }

pub inline_links : (links value bytes : List ℕ) → place_of links value ≡ inline bytes → links ≡ []
inline_links [] value bytes is = refl
inline_links (p ∷ ps) value bytes is = absurd cc

-- ---- a page and what is below it

pub can_first : (limit : ℕ) (old : Reached) (page : ℕ) (pages : List ℕ) → CanReach limit old (page ∷ pages) → CanReach limit old (page ∷ [])
can_first limit old page pages can = record { marked = can.marked; apart = λ n. omega (arith, can.apart n) }

-- what is left behind the first page
pub can_rest : (limit : ℕ) (old mid : Reached) (page : ℕ) (pages : List ℕ) → CanReach limit old (page ∷ pages)
    → ((limit : ℕ) → IsMarked limit old → IsMarked limit mid)
    → pages_so_far mid ≡ pages_so_far old ++ page ∷ [] → CanReach limit mid pages
can_rest limit old mid page pages can marks noted =
    can_go_on limit old mid (page ∷ []) pages []
    (can_reach_same limit old (page ∷ pages) (page ∷ (pages ++ [])) (ap (λ l. page ∷ l) (sym (append-nil pages))) can) marks noted

pub reaches_behind : {X : Type 0} (page : ℕ) (pages : List ℕ) (old mid new : Reached) (result : Result X OpenFault)
    → pages_so_far mid ≡ pages_so_far old ++ page ∷ [] → Reaches pages mid new result → Reaches (page ∷ pages) old new result
reaches_behind page pages old mid new (Ok x) noted is = is ∙ ap (λ l. l ++ pages) noted ∙ append_assoc (pages_so_far old) (page ∷ []) pages
reaches_behind page pages old mid new (Err e) noted ne = ne

pub marks_behind : {X : Type 0} (old mid new : Reached) (result : Result X OpenFault) → ((limit : ℕ) → IsMarked limit old → IsMarked limit mid)
    → KeepsMarks mid new result → KeepsMarks old new result
marks_behind old mid new (Ok x) first later = λ limit marked. later limit (first limit marked)
marks_behind old mid new (Err e) first later = tt

-- a fault goes through
-- a fault that was handed on
pub handed_on : {X : Type 0} (result : Result X OpenFault) (f : OpenFault) → IsErrAnd result (λ e. e ≡ f) → result ≡ Err f
handed_on (Ok x) f is = absurd is
handed_on (Err e) f is = ap Err is

pub looks_failed : {X Y : Type 0} (a b c : History) (result : Result X OpenFault) (e : OpenFault) → result ≡ Err e → HasRead a b → Looks {X = Y} (Err e) b c
    → Looks result a c
looks_failed a b c result e is first looks = record {
  reads = reads_further a b c first.reads looks.reads;
  cause = subst (λ r. IfErr r (HasCause a c)) (sym is) (cause_later a b c e first.reads looks.reads looks.cause);
  clear = λ ne keeps.
      looks.clear (λ device. ne (is ∙ ap Err (let same : e ≡ faults.Device = cc in same))) keeps ∙ first.clear (looks.reads.extends.kept keeps);
}

pub same_pages : (a b : History) (root : Root) → now b ≡ now a → pages_in b root ≡ pages_in a root
same_pages a b root same = ap (λ (s : ℕ → Sector). store_of (model_at (reads s) root)) same

pub at_leaf : (items : List Item) (P : (d : ℕ) → Body d → Type 0) → ((pairs : Body zero) → items ≡ map item_of pairs → P zero pairs) → (d : ℕ) (body : Body d)
    → leaf items ≡ content_by d body → P d body
at_leaf items P f zero pairs e = f pairs (let same : items ≡ map item_of pairs = cc in same)
at_leaf items P f (suc d) subtrees e = absurd cc

pub at_branch : (pivots : List Pivot) (P : (d : ℕ) → Body d → Type 0)
    → ((d : ℕ) (subtrees : Body (suc d)) → pivots ≡ map pivot_of subtrees → P (suc d) subtrees)
    → (d : ℕ) (body : Body d) → branch pivots ≡ content_by d body → P d body
at_branch pivots P f zero pairs e = absurd cc
at_branch pivots P f (suc d) subtrees e = f d subtrees (let same : pivots ≡ map pivot_of subtrees = cc in same)

-- a child that can be reached
pub record IsThere (s : Store) (limit : ℕ) (mid : Reached) (d : ℕ) (page : ℕ) (body : Body d) : Type 0 where
  pub at : IsAt s page (content_by d body)
  pub shown : Shows s d body
  pub can : CanReach limit mid (page ∷ pages_of d body)

module _ (h1 h2 : History) (root : Root) (same : now h2 ≡ now h1) (d : ℕ) (subtrees : List (Subtree (Body d))) (pivots : List Pivot)
    (e : pivots ≡ map pivot_of subtrees)
    (i : ℕ) (a : At subtrees i) (child : Pivot)
    (found : slice_get pivots i ≡ Some child) where
  pub page_is : a.mid.page ≡ child.child
  page_is = ap (λ (x : Pivot). x.child) (got_there subtrees i a pivot_of pivots child e found)

  pub child_there : (limit : ℕ) (start mid : Reached) → Shows (pages_in h1 root) (suc d) subtrees → CanReach limit start (pages_of (suc d) subtrees)
      → ((limit : ℕ) → IsMarked limit start → IsMarked limit mid)
      → pages_so_far mid ≡ pages_so_far start ++ pages_of (suc d) (take i subtrees) → IsThere (pages_in h2 root) limit mid d child.child a.mid.body
  child_there limit start mid shown can marks so_far =
      let moved : pages_in h1 root ≡ pages_in h2 root = sym (same_pages h1 h2 root same) in
      let there = each_there subtrees i a
      (λ (w : Subtree (Body d)). IsAt (pages_in h1 root) w.page (content_by d w.body) × Shows (pages_in h1 root) d w.body) shown in
      record {
        at = subst (λ (p : ℕ). IsAt (pages_in h2 root) p (content_by d a.mid.body)) page_is
            (subst (λ (s : Store). IsAt s a.mid.page (content_by d a.mid.body)) moved there.0);
        shown = subst (λ (s : Store). Shows s d a.mid.body) moved there.1;
        can = subst (λ (p : ℕ). CanReach limit mid (p ∷ pages_of d a.mid.body)) page_is
            (can_reach_there subtrees i a (λ (w : Subtree (Body d)). w.page ∷ pages_of d w.body) limit start mid can marks so_far);
      }

  pub child_reached : (before so_far new : List ℕ) → so_far ≡ before ++ pages_of (suc d) (take i subtrees) → new ≡ so_far ++ child.child ∷ pages_of d a.mid.body
      → new ≡ before ++ pages_of (suc d) (take (i + 1) subtrees)
  child_reached before so_far new is add =
      reached_there subtrees i a (λ (w : Subtree (Body d)). w.page ∷ pages_of d w.body) before so_far new is
      (add ∙ ap (λ (p : ℕ). so_far ++ p ∷ pages_of d a.mid.body) (sym page_is))

pub behind_first : (page : ℕ) (pages before mid new : List ℕ) → mid ≡ before ++ page ∷ [] → new ≡ mid ++ pages → new ≡ before ++ page ∷ pages
behind_first page pages before mid new noted is = is ∙ ap (λ l. l ++ pages) noted ∙ append_assoc before (page ∷ []) pages
