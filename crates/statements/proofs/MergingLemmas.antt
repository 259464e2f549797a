-- Documents that no statement means change nothing: statements go alike on those that are meant and on all of them.
use Rattle.std.proofs.Common.{◌≡◌, ℕ, suc, ◌<◌, Bool, true, false, List, [], ◌∷◌, length, get_or, refl, sym, ap, subst, ◌∙◌, arith}
use Rattle.std.specs.Prelude.{if◌then◌else◌}
use Rattle.std.specs.List.{filter}
use Rattle.std.specs.Ordering.{is_eq}
use Rattle.std.specs.declared.cmp.Ordering.{Ordering}
use Rattle.std.specs.declared.cmp.Ordering.TheVariants as orders
use Rattle.bson.specs.Tree.{Tree, Pairs, no_pairs}
use Rattle.value_order.specs.Order.{compare}
use Rattle.value_order.specs.TotalLaws.{compare_total}
use Rattle.entry_model.specs.Documents.{put_document}
use Rattle.entry_model.specs.LawfulState.{IsRising}
use Rattle.entry_model.specs.State.{by_order}
use Rattle.database_model.specs.Documents.{key_of}
use Rattle.database_model.specs.Merging.{put_each}
use Rattle.database_model.proofs.Ordered.{flipped}

-- ---- documents, each with whether it is meant

pub data Marked : Type 0 where
  meant : Pairs → Marked
  other : Pairs → Marked

abbrev pub document_of : Marked → Pairs
document_of (meant d) = d
document_of (other d) = d

abbrev pub all_of : List Marked → List Pairs
all_of [] = []
all_of (m ∷ ms) = document_of m ∷ all_of ms

abbrev pub meant_of : List Marked → List Pairs
meant_of [] = []
meant_of (meant d ∷ ms) = d ∷ meant_of ms
meant_of (other d ∷ ms) = meant_of ms

abbrev pub others_of : List Marked → List Pairs
others_of [] = []
others_of (meant d ∷ ms) = others_of ms
others_of (other d ∷ ms) = d ∷ others_of ms

abbrev pub Each : (Pairs → Type 0) → List Pairs → Type 0
Each P [] = Unit {0}
Each P (d ∷ ds) = P d × Each P ds

-- none of these passes
abbrev pub NoneIs : (Pairs → Bool) → List Pairs → Type 0
NoneIs p ds = Each (λ d. p d ≡ false) ds

pub Each-map : (P Q : Pairs → Type 0) (ds : List Pairs) → ((d : Pairs) → P d → Q d) → Each P ds → Each Q ds
Each-map P Q [] go h = tt
Each-map P Q (d ∷ ds) go h = (go d h.0, Each-map P Q ds go h.1)

pub Each-meant : (P : Pairs → Type 0) (ms : List Marked) → Each P (all_of ms) → Each P (meant_of ms)
Each-meant P [] h = tt
Each-meant P (meant d ∷ ms) h = (h.0, Each-meant P ms h.1)
Each-meant P (other d ∷ ms) h = Each-meant P ms h.1

pub Each-others : (P : Pairs → Type 0) (ms : List Marked) → Each P (all_of ms) → Each P (others_of ms)
Each-others P [] h = tt
Each-others P (meant d ∷ ms) h = Each-others P ms h.1
Each-others P (other d ∷ ms) h = (h.0, Each-others P ms h.1)

-- ---- marks by a test

abbrev pub mark_one : Bool → Pairs → Marked
mark_one true d = meant d
mark_one false d = other d

abbrev pub mark : (Pairs → Bool) → List Pairs → List Marked
mark p [] = []
mark p (d ∷ ds) = mark_one (p d) d ∷ mark p ds

pub mark_all : (p : Pairs → Bool) (ds : List Pairs) → all_of (mark p ds) ≡ ds
mark_all p [] = refl
mark_all p (d ∷ ds) = at (p d) (mark_all p ds)
  where
    at : (b : Bool) → all_of (mark p ds) ≡ ds → all_of (mark_one b d ∷ mark p ds) ≡ d ∷ ds
    at true later = ap (λ (xs : List Pairs). d ∷ xs) later
    at false later = ap (λ (xs : List Pairs). d ∷ xs) later

pub mark_meant : (p : Pairs → Bool) (ds : List Pairs) → meant_of (mark p ds) ≡ filter p ds
mark_meant p [] = refl
mark_meant p (d ∷ ds) = at (p d) (mark_meant p ds)
  where
    at : (b : Bool) → meant_of (mark p ds) ≡ filter p ds → meant_of (mark_one b d ∷ mark p ds) ≡ (if b then d ∷ filter p ds else filter p ds)
    at true later = ap (λ (xs : List Pairs). d ∷ xs) later
    at false later = later

pub mark_others : (p : Pairs → Bool) (ds : List Pairs) → NoneIs p (others_of (mark p ds))
mark_others p [] = tt
mark_others p (d ∷ ds) = at (p d) refl (mark_others p ds)
  where
    at : (b : Bool) → p d ≡ b → NoneIs p (others_of (mark p ds)) → NoneIs p (others_of (mark_one b d ∷ mark p ds))
    at true is later = later
    at false is later = (is, later)

-- ---- documents in ascending order, by their heads

abbrev pub Above : Pairs → Pairs → Type 0
Above d x = compare (key_of d) (key_of x) ≡ orders.Less

abbrev pub Ascends : List Pairs → Type 0
Ascends [] = Unit {0}
Ascends (d ∷ ds) = Each (Above d) ds × Ascends ds

each_at : (P : Pairs → Type 0) (ds : List Pairs) → ((k : ℕ) → k < length ds → P (get_or ds k no_pairs)) → Each P ds
each_at P [] h = tt
each_at P (d ∷ ds) h = (h 0 (omega arith), each_at P ds (λ k below. h (suc k) (omega arith)))

pub ascends : (ds : List Pairs) → IsRising ds → Ascends ds
ascends [] up = tt
ascends (d ∷ ds) up = (
  each_at (Above d) ds (λ k below. up 0 (suc k) no_pairs (omega arith) (omega arith)),
  ascends ds (λ i j x lt below. up (suc i) (suc j) x (omega arith) (omega arith)),
)

pub above_trans : (d x : Pairs) (ds : List Pairs) → Above d x → Each (Above x) ds → Each (Above d) ds
above_trans d x ds less h = Each-map (Above x) (Above d) ds (λ y more. compare_total.trans (key_of d) (key_of x) (key_of y) less more) h

-- ---- what is put among them

put_kept : (P : Pairs → Type 0) (new : Pairs) (ds : List Pairs) → P new → Each P ds → Each P (put_document new ds)
put_kept P new [] here h = (here, tt)
put_kept P new (d ∷ ds) here h = at (compare (key_of new) (key_of d)) (put_kept P new ds here h.1)
  where
    at : (r : Ordering) → Each P (put_document new ds) → Each P (by_order r (new ∷ d ∷ ds) (new ∷ ds) (d ∷ put_document new ds))
    at orders.Less later = (here, h)
    at orders.Equal later = (here, h.1)
    at orders.Greater later = (h.0, later)

pub put_ascends : (new : Pairs) (ds : List Pairs) → Ascends ds → Ascends (put_document new ds)
put_ascends new [] h = (tt, tt)
put_ascends new (d ∷ ds) h = at (compare (key_of new) (key_of d)) refl (put_ascends new ds h.1)
  where
    at : (r : Ordering) → compare (key_of new) (key_of d) ≡ r → Ascends (put_document new ds)
        → Ascends (by_order r (new ∷ d ∷ ds) (new ∷ ds) (d ∷ put_document new ds))
    at orders.Less is later = ((is, above_trans new d ds is h.0), h)
    at orders.Equal is later = (Each-map (Above d) (Above new) ds (λ y more. compare_total.congr (key_of new) (key_of d) (key_of y) is ∙ more) h.0, h.1)
    at orders.Greater is later = (put_kept (Above d) new ds (flipped compare_total (key_of new) (key_of d) orders.Greater is) h.0, later)

-- no document has this key
abbrev pub Untied : List Pairs → Tree → Type 0
Untied ds k = Each (λ d. is_eq (compare k (key_of d)) ≡ false) ds

untied_alike : (ds : List Pairs) (j k : Tree) → compare j k ≡ orders.Equal → Untied ds k → Untied ds j
untied_alike ds j k same h =
    Each-map (λ d. is_eq (compare k (key_of d)) ≡ false) (λ d. is_eq (compare j (key_of d)) ≡ false) ds
    (λ d is. ap is_eq (compare_total.congr j k (key_of d) same) ∙ is) h

-- what keys are untied where one was put
untied_put : (others : List Pairs) (new : Pairs) (ds : List Pairs) → Each (λ d. Untied others (key_of d)) (put_document new ds)
    → Untied others (key_of new) × Each (λ d. Untied others (key_of d)) ds
untied_put others new [] h = (h.0, tt)
untied_put others new (d ∷ ds) h = at (compare (key_of new) (key_of d)) refl (untied_put others new ds) h
  where
    at : (r : Ordering) → compare (key_of new) (key_of d) ≡ r
        → (Each (λ d. Untied others (key_of d)) (put_document new ds) → Untied others (key_of new) × Each (λ d. Untied others (key_of d)) ds)
        → Each (λ d. Untied others (key_of d)) (by_order r (new ∷ d ∷ ds) (new ∷ ds) (d ∷ put_document new ds))
        → Untied others (key_of new) × Each (λ d. Untied others (key_of d)) (d ∷ ds)
    at orders.Less is later k = (k.0, k.1)
    at orders.Equal is later k = (k.0, (untied_alike others (key_of d) (key_of new) (flipped compare_total (key_of new) (key_of d) orders.Equal is) k.0, k.1))
    at orders.Greater is later k = let l = later k.1 in (l.0, (k.0, l.1))

untied_each : (others news ds : List Pairs) → Each (λ d. Untied others (key_of d)) (put_each news ds)
    → Each (λ d. Untied others (key_of d)) news × Each (λ d. Untied others (key_of d)) ds
untied_each others [] ds h = (tt, h)
untied_each others (new ∷ news) ds h =
    let later = untied_each others news (put_document new ds) h in
    let first = untied_put others new ds later.1 in
    ((first.0, later.0), first.1)

-- among documents that ascend no two have one key
less_untied : (r : Ordering) → r ≡ orders.Less → is_eq r ≡ false
less_untied r is = ap is_eq is

greater_untied : (r : Ordering) → r ≡ orders.Greater → is_eq r ≡ false
greater_untied r is = ap is_eq is

above_untied : (d : Pairs) (ds : List Pairs) → Each (Above d) ds → Untied ds (key_of d)
above_untied d ds h = Each-map (Above d) (λ x. is_eq (compare (key_of d) (key_of x)) ≡ false) ds (λ x is. less_untied (compare (key_of d) (key_of x)) is) h

more_untied : (d : Pairs) (others ds : List Pairs) → Each (Above d) ds → Each (λ x. Untied others (key_of x)) ds → Each (λ x. Untied (d ∷ others) (key_of x)) ds
more_untied d others [] up h = tt
more_untied d others (x ∷ ds) up h =
    ((greater_untied (compare (key_of x) (key_of d)) (flipped compare_total (key_of d) (key_of x) orders.Less up.0), h.0), more_untied d others ds up.1 h.1)

pub meant_untied : (ms : List Marked) → Ascends (all_of ms) → Each (λ d. Untied (others_of ms) (key_of d)) (meant_of ms)
meant_untied [] up = tt
meant_untied (meant d ∷ ms) up = (above_untied d (others_of ms) (Each-others (Above d) ms up.0), meant_untied ms up.1)
meant_untied (other d ∷ ms) up = more_untied d (others_of ms) (meant_of ms) (Each-meant (Above d) ms up.0) (meant_untied ms up.1)

-- ---- one is put among marked ones

abbrev pub put_marked : Pairs → List Marked → List Marked
put_marked new [] = meant new ∷ []
put_marked new (m ∷ ms) = by_order (compare (key_of new) (key_of (document_of m))) (meant new ∷ m ∷ ms) (meant new ∷ ms) (m ∷ put_marked new ms)

pub marked_all : (new : Pairs) (ms : List Marked) → all_of (put_marked new ms) ≡ put_document new (all_of ms)
marked_all new [] = refl
marked_all new (m ∷ ms) = at (compare (key_of new) (key_of (document_of m))) (marked_all new ms)
  where
    at : (r : Ordering) → all_of (put_marked new ms) ≡ put_document new (all_of ms)
        → all_of (by_order r (meant new ∷ m ∷ ms) (meant new ∷ ms) (m ∷ put_marked new ms))
        ≡ by_order r (new ∷ document_of m ∷ all_of ms) (new ∷ all_of ms) (document_of m ∷ put_document new (all_of ms))
    at orders.Less later = refl
    at orders.Equal later = refl
    at orders.Greater later = ap (λ (xs : List Pairs). document_of m ∷ xs) later

-- it goes before those that are above it
pub goes_front : (new : Pairs) (ds : List Pairs) → Each (Above new) ds → put_document new ds ≡ new ∷ ds
goes_front new [] h = refl
goes_front new (d ∷ ds) h = ap (λ (r : Ordering). by_order r (new ∷ d ∷ ds) (new ∷ ds) (d ∷ put_document new ds)) h.0

-- these are the documents that are meant, and the others stay
abbrev pub HasPut : List Marked → List Marked → List Pairs → Type 0
HasPut ms after ds = (meant_of after ≡ ds) × (others_of after ≡ others_of ms)

pub marked_meant : (new : Pairs) (ms : List Marked) → Ascends (all_of ms) → Untied (others_of ms) (key_of new)
    → HasPut ms (put_marked new ms) (put_document new (meant_of ms))
marked_meant new [] up free = (refl, refl)
marked_meant new (meant d ∷ ms) up free = at (compare (key_of new) (key_of d)) (marked_meant new ms up.1 free)
  where
    at : (r : Ordering) → HasPut ms (put_marked new ms) (put_document new (meant_of ms))
        → HasPut (meant d ∷ ms) (by_order r (meant new ∷ meant d ∷ ms) (meant new ∷ ms) (meant d ∷ put_marked new ms))
        (by_order r (new ∷ d ∷ meant_of ms) (new ∷ meant_of ms) (d ∷ put_document new (meant_of ms)))
    at orders.Less later = (refl, refl)
    at orders.Equal later = (refl, refl)
    at orders.Greater later = (ap (λ (xs : List Pairs). d ∷ xs) later.0, later.1)
marked_meant new (other d ∷ ms) up free = at (compare (key_of new) (key_of d)) refl (marked_meant new ms up.1 free.1)
  where
    at : (r : Ordering) → compare (key_of new) (key_of d) ≡ r → HasPut ms (put_marked new ms) (put_document new (meant_of ms))
        → HasPut (other d ∷ ms) (by_order r (meant new ∷ other d ∷ ms) (meant new ∷ ms) (other d ∷ put_marked new ms)) (put_document new (meant_of ms))
    at orders.Less is later = (sym (goes_front new (meant_of ms) (Each-meant (Above new) ms (above_trans new d (all_of ms) is up.0))), refl)
    at orders.Equal is later = absurd (let no = sym free.0 ∙ ap is_eq is in cc)
    at orders.Greater is later = (later.0, ap (λ (xs : List Pairs). d ∷ xs) later.1)

-- ---- documents in ascending order are told by those that are meant and by the others

meant_first : (P : Pairs → Type 0) (ms : List Marked) (d : Pairs) (rest : List Pairs) → Each P (all_of ms) → meant_of ms ≡ d ∷ rest → P d
meant_first P ms d rest h e = (subst (Each P) e (Each-meant P ms h)).0

others_first : (P : Pairs → Type 0) (ms : List Marked) (d : Pairs) (rest : List Pairs) → Each P (all_of ms) → others_of ms ≡ d ∷ rest → P d
others_first P ms d rest h e = (subst (Each P) e (Each-others P ms h)).0

not_both : (d e : Pairs) → Above d e → Above e d → ⊥
not_both d e less more = let no = sym (flipped compare_total (key_of d) (key_of e) orders.Less less) ∙ more in cc

head_of : Pairs → List Pairs → Pairs
head_of none [] = none
head_of none (d ∷ ds) = d

tail_of : List Pairs → List Pairs
tail_of [] = []
tail_of (d ∷ ds) = ds

same_head : (d e : Pairs) (ds es : List Pairs) → d ∷ ds ≡ e ∷ es → d ≡ e
unfolding head_of
same_head d e ds es is = ap (head_of d) is

same_tail : (d e : Pairs) (ds es : List Pairs) → d ∷ ds ≡ e ∷ es → ds ≡ es
unfolding tail_of
same_tail d e ds es is = ap tail_of is

pub merged_once : (ms ns : List Marked) → Ascends (all_of ms) → Ascends (all_of ns) → meant_of ms ≡ meant_of ns → others_of ms ≡ others_of ns
    → all_of ms ≡ all_of ns
merged_once [] [] up un m o = refl
merged_once [] (meant e ∷ ns) up un m o = absurd cc
merged_once [] (other e ∷ ns) up un m o = absurd cc
merged_once (meant d ∷ ms) [] up un m o = absurd cc
merged_once (other d ∷ ms) [] up un m o = absurd cc
merged_once (meant d ∷ ms) (meant e ∷ ns) up un m o =
    let later = merged_once ms ns up.1 un.1 (same_tail d e (meant_of ms) (meant_of ns) m) o in
    λ i. same_head d e (meant_of ms) (meant_of ns) m i ∷ later i
merged_once (other d ∷ ms) (other e ∷ ns) up un m o =
    let later = merged_once ms ns up.1 un.1 m (same_tail d e (others_of ms) (others_of ns) o) in
    λ i. same_head d e (others_of ms) (others_of ns) o i ∷ later i
merged_once (meant d ∷ ms) (other e ∷ ns) up un m o =
    absurd (not_both d e (others_first (Above d) ms e (others_of ns) up.0 o) (meant_first (Above e) ns d (meant_of ms) un.0 (sym m)))
merged_once (other d ∷ ms) (meant e ∷ ns) up un m o =
    absurd (not_both d e (meant_first (Above d) ms e (meant_of ns) up.0 m) (others_first (Above e) ns d (others_of ms) un.0 (sym o)))

-- ---- several are put

-- they were put among those that are meant, and so among all of them
record AllPut (news : List Pairs) (ms : List Marked) : Type 0 where
  pub after : List Marked
  pub among : meant_of after ≡ put_each news (meant_of ms)
  pub all : all_of after ≡ put_each news (all_of ms)
  pub rest : others_of after ≡ others_of ms
  pub up : Ascends (all_of after)

all_put : (news : List Pairs) (ms : List Marked) → Ascends (all_of ms) → Each (λ d. Untied (others_of ms) (key_of d)) news → AllPut news ms
all_put [] ms up free = record { after = ms; among = refl; all = refl; rest = refl; up = up }
all_put (new ∷ news) ms up free =
    let next = put_marked new ms in
    let all = marked_all new ms in
    let put = marked_meant new ms up free.0 in
    let later = all_put news next (subst Ascends (sym all) (put_ascends new (all_of ms) up))
    (subst (λ (os : List Pairs). Each (λ d. Untied os (key_of d)) news) (sym put.1) free.1) in
    record {
      after = later.after;
      among = later.among ∙ ap (put_each news) put.0;
      all = later.all ∙ ap (put_each news) all;
      rest = later.rest ∙ put.1;
      up = later.up;
    }

-- What makes of those that are meant the ones that are meant then, makes of all of them all of then.
pub puts_lead : (news : List Pairs) (ms next : List Marked) → Ascends (all_of ms) → Ascends (all_of next) → others_of next ≡ others_of ms
    → put_each news (meant_of ms) ≡ meant_of next
    → put_each news (all_of ms) ≡ all_of next
puts_lead news ms next up after rest are =
    let free : Each (λ d. Untied (others_of ms) (key_of d)) (put_each news (meant_of ms)) =
    subst (λ (ds : List Pairs). Each (λ d. Untied (others_of ms) (key_of d)) ds) (sym are)
    (subst (λ (os : List Pairs). Each (λ d. Untied os (key_of d)) (meant_of next)) rest (meant_untied next after)) in
    let put = all_put news ms up (untied_each (others_of ms) news (meant_of ms) free).0 in
    sym put.all ∙ merged_once put.after next put.up after (put.among ∙ are) (put.rest ∙ sym rest)
