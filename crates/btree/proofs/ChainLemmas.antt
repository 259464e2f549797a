-- A chain that is read page after page.
use Rattle.std.proofs.Common.{◌≡◌, ℕ, zero, suc, ◌+◌, ◌-◌, ◌*◌, ◌<◌, ◌≤◌, List, [], ◌∷◌, ◌++◌, length, take, drop, min, Vec, Global, ◌⊎◌, inl, inr, refl, sym}
use Rattle.std.proofs.Common.{ap, ◌∙◌, subst, arith, append_assoc, append-nil, length-drop, length-take}
use Rattle.page.specs.declared.page_content.PageContent.{PageContent}
use Rattle.page.specs.declared.page_content.PageContent.TheVariants as P
use Rattle.tree_model.specs.View.{content_in}
use Rattle.page.specs.Content.{inline, spilled, Content, chain}
use Rattle.tree_model.specs.Keys.{Pair, times}
use Rattle.tree_model.specs.Store.{Store, Frame, IsAt, IsMade, IsRetired, IsSame}
use Rattle.tree_model.specs.Tree.{HasLinks, HasChain, next_of, place_of}
use Rattle.tree_model.specs.Calls.{IsChained, AreRetired}
use Rattle.tree_model.proofs.ListLemmas.{times_append}
use Rattle.tree_model.proofs.StoreLemmas.{links_kept}

-- the bytes that were read, and those that are left with their pages
pub record IsRead (s : Store) (value bytes : List ℕ) (left page : ℕ) : Type 0 where
  pub links : List ℕ
  pub rest : List ℕ
  pub is : value ≡ bytes ++ rest
  pub long : length rest ≡ left
  pub next : next_of links ≡ page
  pub has : HasLinks s links rest

pub begun : (s : Store) (links value : List ℕ) (left page : ℕ) → HasLinks s links value → next_of links ≡ page → length value ≡ left
    → IsRead s value [] left page
begun s links value left page h n e = record { links = links; rest = value; is = refl; long = e; next = n; has = h }

-- the page that is read next
pub record IsNext (s : Store) (value bytes : List ℕ) (left page : ℕ) : Type 0 where
  pub links : List ℕ
  pub rest : List ℕ
  pub is : value ≡ bytes ++ rest
  pub long : length rest ≡ left
  pub at : IsAt s page (chain (next_of links) (take 4076 rest))
  pub has : HasLinks s links (drop 4076 rest)

pub next_page : (s : Store) (value bytes : List ℕ) (left page : ℕ) → 0 < left → IsRead s value bytes left page → IsNext s value bytes left page
next_page s value bytes left page pos r = go r.links r.next r.has
  where
    go : (links : List ℕ) → next_of links ≡ page → HasLinks s links r.rest → IsNext s value bytes left page
    go [] n h = absurd (omega (arith, r.long, ap length h))
    go (p ∷ links) n h = record
        { links = links; rest = r.rest; is = r.is; long = r.long; at = subst (λ q. IsAt s q (chain (next_of links) (take 4076 r.rest))) n h.1; has = h.2 }

long_front : (xs : List ℕ) → length (take 4076 xs) ≡ min (length xs) 4076
long_front xs = omega (arith, length-take 4076 xs)

pub part_is : (next : ℕ) (part : List ℕ) (next' : ℕ) (part' : List ℕ) → chain next part ≡ chain next' part' → part ≡ part'
part_is next part next' part' e = cc

pub next_is : (next : ℕ) (part : List ℕ) (next' : ℕ) (part' : List ℕ) → chain next part ≡ chain next' part' → next ≡ next'
next_is next part next' part' e = cc

-- a page of another length
pub part_long : (s : Store) (value bytes : List ℕ) (left page next : ℕ) (part : List ℕ) → 0 < left → IsRead s value bytes left page
    → s.page page ≡ chain next part → length part ≡ min left 4076
part_long s value bytes left page next part pos r e =
    let n = next_page s value bytes left page pos r in
    ap length (part_is next part _ _ (sym e ∙ n.at.holds)) ∙ long_front n.rest ∙ ap (λ k. min k 4076) n.long

pub read_on : (old new : Store) (value bytes : List ℕ) (left left' page next : ℕ) (part : List ℕ) → Frame old new → 0 < left → IsRead old value bytes left page
    → old.page page ≡ chain next part
    → left' ≡ left - length part → IsRead new value (bytes ++ part) left' next
read_on old new value bytes left left' page next part grows pos r e less =
    let n = next_page old value bytes left page pos r in
    let same = sym e ∙ n.at.holds in
    let p : part ≡ take 4076 n.rest = part_is next part _ _ same in
    record {
      links = n.links;
      rest = drop 4076 n.rest;
      is = n.is ∙ ap (λ zs. bytes ++ zs) (sym (take_drop 4076 n.rest)) ∙ sym (append_assoc bytes (take 4076 n.rest) (drop 4076 n.rest))
          ∙ ap (λ zs. (bytes ++ zs) ++ drop 4076 n.rest) (sym p);
      long = length-drop 4076 n.rest ∙ cut n.rest n.long (ap length p ∙ long_front n.rest);
      next = sym (next_is next part _ _ same);
      has = links_kept old new grows n.links (drop 4076 n.rest) n.has;
    }
  where
    take_drop : (k : ℕ) (xs : List ℕ) → take k xs ++ drop k xs ≡ xs
    take_drop zero xs = refl
    take_drop (suc k) [] = refl
    take_drop (suc k) (x ∷ xs) = ap (λ zs. x ∷ zs) (take_drop k xs)

    cut : (rest : List ℕ) → length rest ≡ left → length part ≡ min (length rest) 4076 → length rest - 4076 ≡ left'
    cut rest a b = omega arith

pub read_all : (s : Store) (value bytes : List ℕ) (left page : ℕ) → left ≡ 0 → IsRead s value bytes left page → bytes ≡ value
read_all s value bytes left page none r = sym (r.is ∙ ap (λ zs. bytes ++ zs) (empty r.rest (r.long ∙ none)) ∙ append-nil bytes)
  where
    empty : (xs : List ℕ) → length xs ≡ 0 → xs ≡ []
    empty [] e = refl
    empty (x ∷ xs) e = absurd (omega arith)

pub ends : (s : Store) (value bytes : List ℕ) (left page : ℕ) → left ≡ 0 → IsRead s value bytes left page → page ≡ 0
ends s value bytes left page none r = go r.links r.next r.has
  where
    go : (links : List ℕ) → next_of links ≡ page → HasLinks s links r.rest → page ≡ 0
    go [] n h = sym n
    go (p ∷ links) n h = absurd (omega (arith, r.long, h.0))

-- where a pair's value lies
pub inline_is : (bytes : List ℕ) (links value : List ℕ) → inline bytes ≡ place_of links value → bytes ≡ value
inline_is bytes [] value e = cc
inline_is bytes (p ∷ ps) value e = cc

pub record IsSpilled (s : Store) (len page : ℕ) (x : Pair) : Type 0 where
  pub has : HasLinks s x.links x.value
  pub next : next_of x.links ≡ page
  pub long : length x.value ≡ len

pub spilled_is : (s : Store) (len page : ℕ) (x : Pair) → spilled len page ≡ place_of x.links x.value → HasChain s x → IsSpilled s len page x
spilled_is s len page x e h = go x.links refl
  where
    go : (links : List ℕ) → links ≡ x.links → IsSpilled s len page x
    go [] l = let f : spilled len page ≡ inline x.value = e ∙ ap (λ ls. place_of ls x.value) (sym l) in cc
    go (p ∷ ps) l =
        let f : spilled len page ≡ spilled (length x.value) p = e ∙ ap (λ ls. place_of ls x.value) (sym l) in
        record {
          has = h (subst (λ (ls : List ℕ). 0 < length ls) l (omega arith));
          next = ap next_of (sym l) ∙ (cc);
          long = cc;
        }

-- ---- a chain that is retired page after page

pub record IsRetiring (old new : Store) (all : List ℕ) (left page : ℕ) : Type 0 where
  pub gone : List ℕ
  pub links : List ℕ
  pub rest : List ℕ
  pub is : all ≡ gone ++ links
  pub long : length rest ≡ left
  pub next : next_of links ≡ page
  pub has : HasLinks new links rest
  pub retired : (n : ℕ) → times n new.retired ≡ times n gone + times n old.retired
  pub made : new.made ≡ old.made

pub retiring : (s : Store) (links value : List ℕ) (left page : ℕ) → HasLinks s links value → next_of links ≡ page → length value ≡ left
    → IsRetiring s s links left page
retiring s links value left page h n e =
    record { gone = []; links = links; rest = value; is = refl; long = e; next = n; has = h; retired = λ n. omega arith; made = refl }

pub retired_on : (start old read new : Store) (all : List ℕ) (left left' page next : ℕ) (part : List ℕ) → Frame old read → IsSame old read
    → IsRetired read new page → 0 < left → IsRetiring start old all left page
    → old.page page ≡ chain next part → left' ≡ left - 4076 → IsRetiring start new all left' next
retired_on start old read new all left left' page next part grows same gone pos r e less = go r.links refl r.has
  where
    go : (links : List ℕ) → links ≡ r.links → HasLinks old r.links r.rest → IsRetiring start new all left' next
    go [] l h = let none : HasLinks old [] r.rest = subst (λ ls. HasLinks old ls r.rest) (sym l) h in absurd (omega (arith, r.long, ap length none))
    go (p ∷ ps) l h0 =
        let h : HasLinks old (p ∷ ps) r.rest = subst (λ ls. HasLinks old ls r.rest) (sym l) h0 in
        let p_is : p ≡ page = ap next_of l ∙ r.next in
        let content : chain next part ≡ chain (next_of ps) (take 4076 r.rest) = sym e ∙ ap old.page (sym p_is) ∙ h.1.holds in
        record {
          gone = r.gone ++ page ∷ [];
          links = ps;
          rest = drop 4076 r.rest;
          is = r.is ∙ ap (λ ls. r.gone ++ ls) (sym l ∙ ap (λ q. q ∷ ps) p_is) ∙ sym (append_assoc r.gone (page ∷ []) ps);
          long = length-drop 4076 r.rest ∙ ap (λ n. n - 4076) r.long ∙ sym less;
          next = sym (next_is next part _ _ content);
          has = links_kept read new gone.frame ps (drop 4076 r.rest) (links_kept old read grows ps (drop 4076 r.rest) h.2);
          retired = λ n. omega (arith, r.retired n, times_append n r.gone (page ∷ []), ap (times n) gone.retired, ap (times n) same.retired);
          made = gone.made ∙ same.made ∙ r.made;
        }

pub retired_all : (old new : Store) (all : List ℕ) (left page : ℕ) → left ≡ 0 → IsRetiring old new all left page → AreRetired old new all
retired_all old new all left page none r =
    let e : r.links ≡ [] = empty r.links r.has in
    record {
      retired = λ n. omega (arith, r.retired n, ap (times n) r.is, times_append n r.gone r.links, ap (times n) e);
      made = r.made;
    }
  where
    empty : (links : List ℕ) → HasLinks new links r.rest → links ≡ []
    empty [] h = refl
    empty (p ∷ ps) h = absurd (omega (arith, r.long, h.0))

-- a page that isn't one of a chain
pub not_chain : (old new : Store) (all : List ℕ) (left page : ℕ) (content : Content) → 0 < left → IsRetiring old new all left page → new.page page ≡ content
    → ((next : ℕ) (bytes : List ℕ) → content ≡ chain next bytes → ⊥) → ⊥
not_chain old new all left page content pos r holds differs = go r.links r.next r.has
  where
    go : (links : List ℕ) → next_of links ≡ page → HasLinks new links r.rest → ⊥
    go [] n h = absurd (omega (arith, r.long, ap length h))
    go (p ∷ ps) n h = differs _ _ (sym holds ∙ ap new.page (sym n) ∙ h.1.holds)

-- the page that is retired next
pub record IsNextRetired (s : Store) (page : ℕ) : Type 0 where
  pub content : Content
  pub at : IsAt s page content

pub next_retired : (old new : Store) (all : List ℕ) (left page : ℕ) → 0 < left → IsRetiring old new all left page → IsNextRetired new page
next_retired old new all left page pos r = go r.links r.next r.has
  where
    go : (links : List ℕ) → next_of links ≡ page → HasLinks new links r.rest → IsNextRetired new page
    go [] n h = absurd (omega (arith, r.long, ap length h))
    go (p ∷ ps) n h = record { content = _; at = subst (λ q. IsAt new q (chain (next_of ps) (take 4076 r.rest))) n h.1 }

-- ---- a chain that is written from its last page on

pub nothing_chained : (s : Store) (value : List ℕ) (k : ℕ) → length value ≤ k → IsChained s s (drop k value) 0
nothing_chained s value k le =
    record { links = []; has = none value k le; first = refl; made = λ n. omega arith; count = omega arith; retired = refl }
  where
    none : (xs : List ℕ) (k : ℕ) → length xs ≤ k → drop k xs ≡ []
    none [] zero le = refl
    none [] (suc k) le = refl
    none (x ∷ xs) zero le = absurd (omega arith)
    none (x ∷ xs) (suc k) le = none xs k (omega arith)

pub chained_on : (old mid new : Store) (value rest bytes : List ℕ) (next page : ℕ) → IsChained old mid rest next → IsMade mid new page (chain next bytes)
    → 0 < length value → bytes ≡ take 4076 value → rest ≡ drop 4076 value
    → IsChained old new value page
chained_on old mid new value rest bytes next page c made pos b r =
    record {
      links = page ∷ c.links;
      has = (
        pos,
        subst (IsAt new page) (ap (λ q. chain q bytes) (sym c.first) ∙ ap (chain (next_of c.links)) b) made.at,
        links_kept mid new made.frame c.links (drop 4076 value) (subst (HasLinks mid c.links) r c.has),
      );
      first = refl;
      made = λ n. omega (arith, c.made n, ap (times n) made.made);
      count = omega (arith, c.count, ap length made.made);
      retired = made.retired ∙ c.retired;
    }

-- the bytes of one page
pub bytes_here : (value : List ℕ) (start end : ℕ) → end ≡ min (length value) (start + 4076) → start ≤ length value
    → take (end - start) (drop start value) ≡ take 4076 (drop start value)
bytes_here value start end e le = go (drop start value) (end - start) (cut (length value) start end e le (length-drop start value))
  where
    cut : (n start end : ℕ) → end ≡ min n (start + 4076) → start ≤ n → length (drop start value) ≡ n - start
        → end - start ≡ min (length (drop start value)) 4076
    cut n start end e le d = omega arith

    take_long : (xs : List ℕ) (k : ℕ) → length xs ≤ k → take k xs ≡ xs
    take_long [] zero le = refl
    take_long [] (suc k) le = refl
    take_long (x ∷ xs) zero le = absurd (omega arith)
    take_long (x ∷ xs) (suc k) le = ap (λ zs. x ∷ zs) (take_long xs k (omega arith))

    le_or : (a b : ℕ) → (a ≤ b) ⊎ (b ≤ a)
    le_or zero b = inl (omega arith)
    le_or (suc a) zero = inr (omega arith)
    le_or (suc a) (suc b) = elim (le_or a b) [ inl h ↦ inl (omega arith) | inr h ↦ inr (omega arith) ]

    go : (xs : List ℕ) (k : ℕ) → k ≡ min (length xs) 4076 → take k xs ≡ take 4076 xs
    go xs k h = elim (le_or (length xs) 4076) [
      | inl short ↦ take_long xs k (omega arith) ∙ sym (take_long xs 4076 short)
      | inr long ↦ (let same : k ≡ 4076 = omega arith in ap (λ n. take n xs) same)
    ]

pub drop_on : (value : List ℕ) (left : ℕ) → 0 < left → drop (4076 * left) value ≡ drop 4076 (drop (4076 * (left - 1)) value)
drop_on value left pos =
    (let e : 4076 * left ≡ 4076 + 4076 * (left - 1) = omega arith in ap (λ n. drop n value) e) ∙ sym (drop_drop 4076 (4076 * (left - 1)) value)
  where
    none : (n : ℕ) → ◌≡◌ {A = List ℕ} (drop n []) []
    none zero = refl
    none (suc n) = refl

    drop_drop : (a b : ℕ) (xs : List ℕ) → drop a (drop b xs) ≡ drop (a + b) xs
    drop_drop a zero xs = let e : a + 0 ≡ a = omega arith in ap (λ n. drop n xs) (sym e)
    drop_drop a (suc b) [] = none a ∙ sym (none (a + suc b))
    drop_drop a (suc b) (x ∷ xs) = let e : a + suc b ≡ suc (a + b) = omega arith in drop_drop a b xs ∙ ap (λ n. drop n (x ∷ xs)) (sym e)

pub other_kind : (p : PageContent) → ((next : ℕ) (bytes : Vec ℕ Global) → p ≡ P.Chain next bytes → ⊥) → (next : ℕ) (bytes : List ℕ)
    → content_in p ≡ chain next bytes → ⊥
other_kind (P.Leaf items) differs next bytes e = cc
other_kind (P.Branch pivots) differs next bytes e = cc
other_kind (P.Chain n b) differs next bytes e = differs n b refl
other_kind (P.FreeList n b) differs next bytes e = cc

pub start_is : (left : ℕ) → (left - 1) * 4076 ≡ 4076 * (left - 1)
start_is left = omega arith

pub first_of : (value bytes : List ℕ) (left end : ℕ) → 4076 * left < length value + 4076 → 0 < left → end ≡ min (length value) ((left - 1) * 4076 + 4076)
    → bytes ≡ take (end - (left - 1) * 4076) (drop ((left - 1) * 4076) value)
    → bytes ≡ take 4076 (drop (4076 * (left - 1)) value)
first_of value bytes left end room pos e b = b ∙ bytes_here value ((left - 1) * 4076) end e (omega arith) ∙ ap (λ n. take 4076 (drop n value)) (start_is left)

pub some_left : (value : List ℕ) (left : ℕ) → 4076 * left < length value + 4076 → 0 < left → 0 < length (drop (4076 * (left - 1)) value)
some_left value left room pos = omega (arith, length-drop (4076 * (left - 1)) value)
