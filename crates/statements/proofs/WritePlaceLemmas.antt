-- What an update writes, put among the documents.
use Rattle.std.proofs.Common.{◌≡◌, ℕ, suc, ◌<◌, Bool, true, false, List, [], ◌∷◌, ◌++◌, length, length-append, map, take, get_or, Option, Some, None, Result}
use Rattle.std.proofs.Common.{Ok, Err, refl, sym, ap, subst, ◌∙◌, arith, append_assoc}
use Rattle.std.specs.Prelude.{if◌then◌else◌, is_some, option_map, All}
use Rattle.std.specs.List.{filter, list_any}
use Rattle.std.specs.Ordering.{is_eq}
use Rattle.std.specs.Str.{bytes_eq}
use Rattle.std.specs.declared.cmp.Ordering.{Ordering}
use Rattle.std.specs.declared.cmp.Ordering.TheVariants as orders
use Rattle.std.proofs.Math.Seq.{get_or-append_seam, set-append_seam}
use Rattle.std.proofs.lemmas.Cmp.{tied_itself}
use Rattle.std.proofs.lemmas.List.{append-nil}
use Rattle.std.proofs.lemmas.Slice.Eq.{bytes_eq-Decides}
use Rattle.bson.specs.Tree.{Tree, Pairs, no_pairs}
use Rattle.filter.specs.Matches.{matches}
use Rattle.value_order.specs.Order.{compare}
use Rattle.value_order.specs.TotalLaws.{compare_total}
use Rattle.path.specs.declared.refusal.Refusal.{Refusal}
use Rattle.update_model.specs.Update.{Update as Change}
use Rattle.update_model.specs.Applying.{apply}
use Rattle.command_model.specs.OutcomeLaws.{step_of}
use Rattle.command_model.specs.Update.{UpdateStatement, IsRead}
use Rattle.entry_model.specs.Documents.{put_document}
use Rattle.entry_model.specs.LawfulState.{IsRising}
use Rattle.entry_model.specs.State.{by_order}
use Rattle.entry_model.specs.StateReads.{find_document}
use Rattle.entry_model.specs.Entering.{DocumentWrite}
use Rattle.database_model.specs.Documents.{key_of, place}
use Rattle.database_model.specs.Lawful.{IsStored}
use Rattle.database_model.specs.Merging.{Listed, made_of, none_changed, not_listed, one_or_none, put_each, run_each, run_listed}
use Rattle.database_model.specs.Update.{Changed, changed_to, passed_over, spelled, update_from}
use Rattle.statements.specs.WriteLaws.{AreThere, documents_in, WritesLead, WritesReplace}
use Rattle.database_model.specs.Writes.{change_writes, changes_of, made_write, statement_writes, unless_refused, updated_by, writes_from, writes_of}
use Rattle.statements.proofs.Applied.{kept_key}
use Rattle.statements.proofs.KeptLemmas.{Kept}
use Rattle.statements.proofs.LawfulUpdates.{SameKeys, SameKeys-rising}
use Rattle.statements.proofs.MeantUpdates.{one_step}
use Rattle.statements.proofs.MeantWrites.{documents_append}
use Rattle.statements.proofs.MergingLemmas.{Each, Each-map}
use Rattle.database_model.proofs.Ordered.{flipped}
use Rattle.statements.proofs.EditPlaceLemmas.{put_where_placed}
use Rattle.statements.proofs.UpdatingLoop.{put_in_place}
use Rattle.statements.proofs.WriteLawLemmas.{HasChanged, HasMade, left_by, next_kept}
use Rattle.statements.proofs.WriteSteps.{changes_on, changes_only, updated_none, updated_other, updated_stored, writes_upsert}

put_each_append : (xs ys ds : List Pairs) → put_each (xs ++ ys) ds ≡ put_each ys (put_each xs ds)
put_each_append [] ys ds = refl
put_each_append (x ∷ xs) ys ds = put_each_append xs ys (put_document x ds)

put_writes_append : (ws vs : List DocumentWrite) (ds : List Pairs)
    → put_each (documents_in (ws ++ vs)) ds ≡ put_each (documents_in vs) (put_each (documents_in ws) ds)
put_writes_append ws vs ds = ap (λ (xs : List Pairs). put_each xs ds) (documents_append ws vs) ∙ put_each_append (documents_in ws) (documents_in vs) ds

-- ---- which are there

abbrev Has : List Pairs → Tree → Type 0
Has ds id = is_some (find_document ds id) ≡ true

some_or : (b : Bool) (x : Pairs) (o : Option Pairs) → is_some o ≡ true → is_some (if b then Some x else o) ≡ true
some_or true x o h = refl
some_or false x o h = h

-- what is there stays
put_has : (new : Pairs) (ds : List Pairs) (id : Tree) → Has ds id → Has (put_document new ds) id
put_has new [] id h = absurd cc
put_has new (d ∷ ds) id h = at (compare (key_of new) (key_of d)) refl (put_has new ds id)
  where
    -- in the place of one of its key
    instead : compare (key_of new) (key_of d) ≡ orders.Equal → (r : Ordering) → compare id (key_of d) ≡ r
        → is_some (if is_eq r then Some d else find_document ds id) ≡ true
        → is_some (if is_eq (compare id (key_of new)) then Some new else find_document ds id) ≡ true
    instead tied orders.Equal is h =
        let same : compare id (key_of new) ≡ orders.Equal =
        compare_total.congr id (key_of d) (key_of new) is ∙ flipped compare_total (key_of new) (key_of d) orders.Equal tied in
        ap (λ (r : Ordering). is_some (if is_eq r then Some new else find_document ds id)) same
    instead tied orders.Less is h = some_or (is_eq (compare id (key_of new))) new (find_document ds id) h
    instead tied orders.Greater is h = some_or (is_eq (compare id (key_of new))) new (find_document ds id) h

    behind : (b : Bool) → is_some (if b then Some d else find_document ds id) ≡ true → (Has ds id → Has (put_document new ds) id)
        → is_some (if b then Some d else find_document (put_document new ds) id) ≡ true
    behind true h go = refl
    behind false h go = go h

    at : (r : Ordering) → compare (key_of new) (key_of d) ≡ r → (Has ds id → Has (put_document new ds) id)
        → Has (by_order r (new ∷ d ∷ ds) (new ∷ ds) (d ∷ put_document new ds)) id
    at orders.Less is go = some_or (is_eq (compare id (key_of new))) new (find_document (d ∷ ds) id) h
    at orders.Equal is go = instead is (compare id (key_of d)) refl h
    at orders.Greater is go = behind (is_eq (compare id (key_of d))) h go

put_has_it : (new : Pairs) (ds : List Pairs) → Has (put_document new ds) (key_of new)
put_has_it new [] = ap (λ (r : Ordering). is_some (if is_eq r then Some new else None)) (tied_itself compare_total (key_of new))
put_has_it new (d ∷ ds) = at (compare (key_of new) (key_of d)) (put_has_it new ds)
  where
    front : (rest : List Pairs) → Has (new ∷ rest) (key_of new)
    front rest = ap (λ (r : Ordering). is_some (if is_eq r then Some new else find_document rest (key_of new))) (tied_itself compare_total (key_of new))

    at : (r : Ordering) → Has (put_document new ds) (key_of new) → Has (by_order r (new ∷ d ∷ ds) (new ∷ ds) (d ∷ put_document new ds)) (key_of new)
    at orders.Less go = front (d ∷ ds)
    at orders.Equal go = front ds
    at orders.Greater go = some_or (is_eq (compare (key_of new) (key_of d))) d (find_document (put_document new ds) (key_of new)) go

put_each_has : (news ds : List Pairs) (id : Tree) → Has ds id → Has (put_each news ds) id
put_each_has [] ds id h = h
put_each_has (new ∷ rest) ds id h = put_each_has rest (put_document new ds) id (put_has new ds id h)

-- the keys of these documents are there
abbrev HasAll : List Pairs → List Pairs → Type 0
HasAll there ds = Each (λ d. Has there (key_of d)) ds

put_has_all : (news there ds : List Pairs) → HasAll there ds → HasAll (put_each news there) ds
put_has_all news there ds h =
    Each-map (λ d. Has there (key_of d)) (λ d. Has (put_each news there) (key_of d)) ds (λ d k. put_each_has news there (key_of d) k) h

has_same_keys : (there xs ds : List Pairs) → SameKeys xs ds → HasAll there ds → HasAll there xs
has_same_keys there [] [] same h = tt
has_same_keys there [] (d ∷ ds) same h = absurd same
has_same_keys there (x ∷ xs) [] same h = absurd same
has_same_keys there (x ∷ xs) (d ∷ ds) same h = (subst (Has there) (sym same.0) h.0, has_same_keys there xs ds same.1 h.1)

has_placed : (there : List Pairs) (new : Pairs) (ds next : List Pairs) → place (key_of new) new ds ≡ Some next → Has there (key_of new) → HasAll there ds
    → HasAll there next
has_placed there new [] next e it h = let same : new ∷ [] ≡ next = cc in subst (HasAll there) same (it, tt)
has_placed there new (d ∷ ds) next e it h = at (compare (key_of new) (key_of d)) (place (key_of new) new ds) (λ xs f. has_placed there new ds xs f it h.1) e
  where
    at : (r : Ordering) (later : Option (List Pairs)) → ((xs : List Pairs) → later ≡ Some xs → HasAll there xs)
        → by_order r (Some (new ∷ d ∷ ds)) None (option_map (λ xs. d ∷ xs) later) ≡ Some next → HasAll there next
    at orders.Less later go f = let same : new ∷ d ∷ ds ≡ next = cc in subst (HasAll there) same (it, h)
    at orders.Equal later go f = absurd cc
    at orders.Greater None go f = absurd cc
    at orders.Greater (Some xs) go f = let same : d ∷ xs ≡ next = cc in subst (HasAll there) same (h.0, go xs refl)

has_itself : (ds : List Pairs) → HasAll ds ds
has_itself ds = within [] ds
  where
    behind : (front : List Pairs) (d : Pairs) (rest : List Pairs) → Has (front ++ d ∷ rest) (key_of d)
    behind [] d rest = ap (λ (r : Ordering). is_some (if is_eq r then Some d else find_document rest (key_of d))) (tied_itself compare_total (key_of d))
    behind (x ∷ xs) d rest = some_or (is_eq (compare (key_of d) (key_of x))) x (find_document (xs ++ d ∷ rest) (key_of d)) (behind xs d rest)

    within : (front xs : List Pairs) → HasAll (front ++ xs) xs
    within front [] = tt
    within front (x ∷ xs) = (behind front x xs, subst (λ (ys : List Pairs). HasAll ys xs) (append_assoc front (x ∷ []) xs) (within (front ++ x ∷ []) xs))

there_append : (ws vs : List DocumentWrite) (ds : List Pairs) → AreThere ds ws → AreThere (put_each (documents_in ws) ds) vs → AreThere ds (ws ++ vs)
there_append [] vs ds h later = later
there_append (w ∷ ws) vs ds h later = (h.0, there_append ws vs (put_document w.document ds) h.1 later)

changes_there : (u : Change) → IsRead u → (xs there : List Pairs) → All IsStored xs → HasAll there xs → AreThere there (changes_of u xs)
changes_there u read [] there stored h = tt
changes_there u read (x ∷ xs) there stored h = at (apply u 65535 x) refl (λ ds k. changes_there u read xs ds (λ i d below. stored (suc i) d (omega arith)) k)
  where
    by : (new : Pairs) → apply u 65535 x ≡ Ok new → ((ds : List Pairs) → HasAll ds xs → AreThere ds (changes_of u xs)) → (b : Bool)
        → AreThere there ((if b then [] else record { is_new = false; document = new } ∷ []) ++ changes_of u xs)
    by new is go true = go there h.1
    by new is go false = (
      λ e. subst (Has there) (sym (kept_key u x new read (stored 0 x (omega arith)) is)) h.0,
      go (put_document new there) (put_has_all (new ∷ []) there xs h.1),
    )

    at : (r : Result Pairs Refusal) → apply u 65535 x ≡ r → ((ds : List Pairs) → HasAll ds xs → AreThere ds (changes_of u xs))
        → AreThere there (unless_refused (λ new. change_writes x new ++ changes_of u xs) r)
    at (Err e) is go = tt
    at (Ok new) is go = by new is go (bytes_eq (spelled x) (spelled new))

updated_has : (s : UpdateStatement) (there ds : List Pairs) → HasAll there ds → HasAll there (updated_by s ds)
updated_has s there ds h = at s.multi
  where
    matching : (xs : List Pairs) → HasAll there xs → HasAll there (filter (matches s.filter) xs)
    matching [] k = tt
    matching (x ∷ xs) k = by (matches s.filter x) (matching xs k.1)
      where
        by : (b : Bool) → HasAll there (filter (matches s.filter) xs)
            → HasAll there (if b then x ∷ filter (matches s.filter) xs else filter (matches s.filter) xs)
        by true later = (k.0, later)
        by false later = later

    first : (xs : List Pairs) → HasAll there xs → HasAll there (take 1 xs)
    first [] k = tt
    first (x ∷ xs) k = (k.0, tt)

    at : (multi : Bool) → HasAll there (if multi then filter (matches s.filter) ds else take 1 (filter (matches s.filter) ds))
    at true = matching ds h
    at false = first (filter (matches s.filter) ds) (matching ds h)

statement_there : (s : UpdateStatement) → IsRead s.change → (ds there : List Pairs) → All IsStored ds → HasAll there ds → AreThere there (statement_writes s ds)
statement_there s read ds there stored h = at (list_any (matches s.filter) ds)
  where
    made : (xs ys : List Pairs) → AreThere ys (map made_write xs)
    made [] ys = tt
    made (x ∷ xs) ys = (λ e. absurd cc, made xs (put_document x ys))

    at : (b : Bool) → AreThere there (if b then changes_of s.change (updated_by s ds) else map made_write (made_of s))
    at true = changes_there s.change read (updated_by s ds) there (updated_stored s ds stored) (updated_has s there ds h)
    at false = made (made_of s) there

-- what a statement leaves is there
left_there : (i : ℕ) (s : UpdateStatement) (l m : Listed) (there : List Pairs) → IsRead s.change → All IsStored l.documents → run_listed i s l ≡ Ok m
    → HasAll there l.documents
    → HasAll (put_each (documents_in (statement_writes s l.documents)) there) m.documents
left_there i s l m there read stored e h =
    left_by i s l m read stored e (HasAll (put_each (documents_in (statement_writes s l.documents)) there) m.documents)
    (λ c up. subst (HasAll (put_each (documents_in (statement_writes s l.documents)) there)) (sym up.left)
    (has_same_keys (put_each (documents_in (statement_writes s l.documents)) there) c.documents l.documents up.keys
    (put_has_all (documents_in (statement_writes s l.documents)) there l.documents h)))
    (λ new up. subst (λ (ws : List DocumentWrite). HasAll (put_each (documents_in ws) there) m.documents) (sym (its_write new up))
    (has_placed (put_document new there) new l.documents m.documents up.placed (put_has_it new there) (put_has_all (new ∷ []) there l.documents h)))
  where
    its_write : (new : Pairs) → HasMade s l m new → statement_writes s l.documents ≡ made_write new ∷ []
    its_write new up = writes_upsert s l.documents up.none up.makes ∙ ap (λ (r : Result Pairs Refusal). map made_write (one_or_none r)) up.is

from_there : (i : ℕ) (ss : List UpdateStatement) (l : Listed) (there : List Pairs) → All (λ (s : UpdateStatement). IsRead s.change) ss → Kept l.documents
    → HasAll there l.documents → AreThere there (writes_from i ss l)
from_there i [] l there read kept h = tt
from_there i (s ∷ ss) l there read kept h =
    there_append (statement_writes s l.documents) (unless_refused (writes_from (suc i) ss) (run_listed i s l)) there
    (statement_there s now l.documents there kept.1 h)
    (at (run_listed i s l) refl
    (λ next k g. from_there (suc i) ss next (put_each (documents_in (statement_writes s l.documents)) there) (λ j d below. read (suc j) d (omega arith)) k g))
  where
    now : IsRead s.change
    now = read 0 s (omega arith)

    at : (r : Result Listed Refusal) → run_listed i s l ≡ r
        → ((next : Listed) → Kept next.documents → HasAll (put_each (documents_in (statement_writes s l.documents)) there) next.documents
        → AreThere (put_each (documents_in (statement_writes s l.documents)) there) (writes_from (suc i) ss next))
        → AreThere (put_each (documents_in (statement_writes s l.documents)) there) (unless_refused (writes_from (suc i) ss) r)
    at (Ok next) is go = go next (next_kept i s l next now kept is) (left_there i s l next there now kept.1 is h)
    at (Err e) is go = tt

pub writes_replace : WritesReplace
writes_replace ss ds h = from_there 0 ss (not_listed ds) ds h.read (h.rising, h.stored) (has_itself ds)

-- ---- the same bytes

abbrev SameBytes : Pairs → Pairs → Type 0
SameBytes f d = (key_of f ≡ key_of d) × (spelled f ≡ spelled d)

abbrev AllSame : List Pairs → List Pairs → Type 0
AllSame [] [] = Unit {0}
AllSame [] (d ∷ ds) = ⊥
AllSame (f ∷ fs) [] = ⊥
AllSame (f ∷ fs) (d ∷ ds) = SameBytes f d × AllSame fs ds

same_itself : (ds : List Pairs) → AllSame ds ds
same_itself [] = tt
same_itself (d ∷ ds) = ((refl, refl), same_itself ds)

same_append : (fs gs ds es : List Pairs) → AllSame fs ds → AllSame gs es → AllSame (fs ++ gs) (ds ++ es)
same_append [] gs [] es h k = k
same_append [] gs (d ∷ ds) es h k = absurd h
same_append (f ∷ fs) gs [] es h k = absurd h
same_append (f ∷ fs) gs (d ∷ ds) es h k = (h.0, same_append fs gs ds es h.1 k)

same_keys : (fs ds : List Pairs) → AllSame fs ds → SameKeys fs ds
same_keys [] [] h = tt
same_keys [] (d ∷ ds) h = absurd h
same_keys (f ∷ fs) [] h = absurd h
same_keys (f ∷ fs) (d ∷ ds) h = (h.0.0, same_keys fs ds h.1)

same_spelled : (fs ds : List Pairs) → AllSame fs ds → map spelled fs ≡ map spelled ds
same_spelled [] [] h = refl
same_spelled [] (d ∷ ds) h = absurd h
same_spelled (f ∷ fs) [] h = absurd h
same_spelled (f ∷ fs) (d ∷ ds) h = λ k. h.0.1 k ∷ same_spelled fs ds h.1 k

put_same : (new : Pairs) (fs ds : List Pairs) → AllSame fs ds → AllSame (put_document new fs) (put_document new ds)
put_same new [] [] h = ((refl, refl), tt)
put_same new [] (d ∷ ds) h = absurd h
put_same new (f ∷ fs) [] h = absurd h
put_same new (f ∷ fs) (d ∷ ds) h =
    subst (λ (r : Ordering). AllSame (by_order r (new ∷ f ∷ fs) (new ∷ fs) (f ∷ put_document new fs)) (put_document new (d ∷ ds)))
    (sym (ap (compare (key_of new)) h.0.0))
    (at (compare (key_of new) (key_of d)) (put_same new fs ds h.1))
  where
    at : (r : Ordering) → AllSame (put_document new fs) (put_document new ds)
        → AllSame (by_order r (new ∷ f ∷ fs) (new ∷ fs) (f ∷ put_document new fs)) (by_order r (new ∷ d ∷ ds) (new ∷ ds) (d ∷ put_document new ds))
    at orders.Less later = ((refl, refl), h)
    at orders.Equal later = ((refl, refl), h.1)
    at orders.Greater later = (h.0, later)

-- one document in the middle is changed
record OneChanged (d new f : Pairs) (front rest : List Pairs) : Type 0 where
  pub there : Pairs
  pub puts : put_each (documents_in (change_writes d new)) (front ++ f ∷ rest) ≡ front ++ there ∷ rest
  pub same : SameBytes there new
  pub key : key_of there ≡ key_of f

one_changed : (d new f : Pairs) (front rest : List Pairs) → SameBytes f d → key_of new ≡ key_of d → IsRising (front ++ f ∷ rest) → OneChanged d new f front rest
one_changed d new f front rest same key up = at (bytes_eq (spelled d) (spelled new)) refl
  where
    at : (b : Bool) → bytes_eq (spelled d) (spelled new) ≡ b → OneChanged d new f front rest
    at true is = record {
      there = f;
      puts = ap (λ (b : Bool). put_each (documents_in (if b then [] else record { is_new = false; document = new } ∷ [])) (front ++ f ∷ rest)) is;
      same = (same.0 ∙ sym key, same.1 ∙ (bytes_eq-Decides (spelled d) (spelled new)).0 is);
      key = refl;
    }
    at false is =
        let here : get_or (front ++ f ∷ rest) (length front) no_pairs ≡ f = get_or-append_seam front f rest no_pairs in
        let below : length front < length (front ++ f ∷ rest) = omega (arith, length-append front (f ∷ rest)) in
        record {
          there = new;
          puts = ap (λ (b : Bool). put_each (documents_in (if b then [] else record { is_new = false; document = new } ∷ [])) (front ++ f ∷ rest)) is
              ∙ put_in_place (front ++ f ∷ rest) (length front) new below (key ∙ sym same.0 ∙ ap key_of (sym here)) up ∙ set-append_seam front f rest new;
          same = (refl, refl);
          key = key ∙ sym same.0;
        }

same_key_there : (front : List Pairs) (f g : Pairs) (rest : List Pairs) → key_of g ≡ key_of f → SameKeys (front ++ g ∷ rest) (front ++ f ∷ rest)
same_key_there [] f g rest e = (e, itself rest)
  where
    itself : (xs : List Pairs) → SameKeys xs xs
    itself [] = tt
    itself (x ∷ xs) = (refl, itself xs)
same_key_there (x ∷ xs) f g rest e = (refl, same_key_there xs f g rest e)

module _ (s : UpdateStatement) (read : IsRead s.change) where
  abbrev Leads : List Pairs → List Pairs → Changed → Type 0
  Leads fs ds c = AllSame (put_each (documents_in (changes_of s.change (updated_by s ds))) fs) c.documents

  from_leads : (so_far : Changed) (front fs ds : List Pairs) (c : Changed) → AllSame front so_far.documents → AllSame fs ds → All IsStored ds
      → IsRising (front ++ fs) → update_from s so_far ds ≡ Ok c → Leads (front ++ fs) ds c
  from_leads so_far front [] [] c h same stored up e =
      let ends : so_far ≡ c = cc in
      subst (λ (xs : List Pairs). AllSame (put_each (documents_in (changes_of s.change xs)) (front ++ [])) c.documents) (sym (updated_none s))
      (subst (λ (ys : List Pairs). AllSame ys c.documents) (sym (append-nil front)) (subst (λ (x : Changed). AllSame front x.documents) ends h))
  from_leads so_far front [] (d ∷ ds) c h same stored up e = absurd same
  from_leads so_far front (f ∷ fs) [] c h same stored up e = absurd same
  from_leads so_far front (f ∷ fs) (d ∷ ds) c h same stored up e =
      at (matches s.filter d) refl (apply s.change 65535 d) refl s.multi refl
      (λ next gs k r g. from_leads next gs fs ds c k same.1 (λ i x below. stored (suc i) x (omega arith)) r g) e
    where
      Goes : Type 0
      Goes = (next : Changed) (gs : List Pairs) → AllSame gs next.documents → IsRising (gs ++ fs) → update_from s next ds ≡ Ok c → Leads (gs ++ fs) ds c

      grown : (g new : Pairs) → SameBytes g new → AllSame (front ++ g ∷ []) (so_far.documents ++ new ∷ [])
      grown g new k = same_append front (g ∷ []) so_far.documents (new ∷ []) h (k, tt)

      together : (g : Pairs) → (front ++ g ∷ []) ++ fs ≡ front ++ g ∷ fs
      together g = append_assoc front (g ∷ []) fs

      at : (m : Bool) → matches s.filter d ≡ m → (r : Result Pairs Refusal) → apply s.change 65535 d ≡ r → (multi : Bool) → s.multi ≡ multi → Goes
          → one_step s so_far d ds m r multi ≡ Ok c → Leads (front ++ f ∷ fs) (d ∷ ds) c
      at false other r is multi m go g =
          subst (λ (xs : List Pairs). AllSame (put_each (documents_in (changes_of s.change xs)) (front ++ f ∷ fs)) c.documents)
          (sym (updated_other s d ds other))
          (subst (λ (ys : List Pairs). Leads ys ds c) (together f)
          (go (passed_over d so_far) (front ++ f ∷ []) (grown f d same.0) (subst IsRising (sym (together f)) up) g))
      at true match (Err x) is multi m go g = absurd cc
      at true match (Ok new) is true multi go g =
          let one = one_changed d new f front fs same.0 (kept_key s.change d new read (stored 0 d (omega arith)) is) up in
          let rises : IsRising (front ++ one.there ∷ fs) =
          SameKeys-rising (front ++ one.there ∷ fs) (front ++ f ∷ fs) (same_key_there front f one.there fs one.key) up in
          let later = go (changed_to d new so_far) (front ++ one.there ∷ []) (grown one.there new one.same)
          (subst IsRising (sym (together one.there)) rises) g in
          subst (λ (ws : List DocumentWrite). AllSame (put_each (documents_in ws) (front ++ f ∷ fs)) c.documents) (sym (changes_on s d ds match new is multi))
          (subst (λ (ys : List Pairs). AllSame ys c.documents)
          (sym (put_writes_append (change_writes d new) (changes_of s.change (updated_by s ds)) (front ++ f ∷ fs)))
          (subst (λ (ys : List Pairs). AllSame (put_each (documents_in (changes_of s.change (updated_by s ds))) ys) c.documents)
          (together one.there ∙ sym one.puts) later))
      at true match (Ok new) is false single go g =
          let one = one_changed d new f front fs same.0 (kept_key s.change d new read (stored 0 d (omega arith)) is) up in
          let last : Changed = changed_to d new so_far in
          let ends : record last { documents = last.documents ++ ds } ≡ c = cc in
          let all : AllSame ((front ++ one.there ∷ []) ++ fs) (last.documents ++ ds) =
          same_append (front ++ one.there ∷ []) fs last.documents ds (grown one.there new one.same) same.1 in
          subst (λ (ws : List DocumentWrite). AllSame (put_each (documents_in ws) (front ++ f ∷ fs)) c.documents)
          (sym (changes_only s d ds match new is single))
          (subst (λ (ys : List Pairs). AllSame ys c.documents) (together one.there ∙ sym one.puts)
          (subst (λ (x : Changed). AllSame ((front ++ one.there ∷ []) ++ fs) x.documents) ends all))

statement_leads : (i : ℕ) (s : UpdateStatement) (l m : Listed) (fs : List Pairs) → IsRead s.change → Kept l.documents → run_listed i s l ≡ Ok m
    → AllSame fs l.documents
    → AllSame (put_each (documents_in (statement_writes s l.documents)) fs) m.documents
statement_leads i s l m fs read kept e h =
    left_by i s l m read kept.1 e (AllSame (put_each (documents_in (statement_writes s l.documents)) fs) m.documents) changed made
  where
    up : IsRising fs
    up = SameKeys-rising fs l.documents (same_keys fs l.documents h) kept.0

    changed : (c : Changed) → HasChanged s l m c → AllSame (put_each (documents_in (statement_writes s l.documents)) fs) m.documents
    changed c was =
        subst (λ (ws : List DocumentWrite). AllSame (put_each (documents_in ws) fs) m.documents) (sym was.writes)
        (subst (AllSame (put_each (documents_in (changes_of s.change (updated_by s l.documents))) fs)) (sym was.left)
        (from_leads s read (none_changed l) [] fs l.documents c tt h kept.1 up was.is))

    made : (new : Pairs) → HasMade s l m new → AllSame (put_each (documents_in (statement_writes s l.documents)) fs) m.documents
    made new was =
        let its_write : statement_writes s l.documents ≡ made_write new ∷ [] =
        writes_upsert s l.documents was.none was.makes ∙ ap (λ (r : Result Pairs Refusal). map made_write (one_or_none r)) was.is in
        subst (λ (ws : List DocumentWrite). AllSame (put_each (documents_in ws) fs) m.documents) (sym its_write)
        (subst (AllSame (put_document new fs)) (put_where_placed new l.documents m.documents was.placed) (put_same new fs l.documents h))

leads_from : (i : ℕ) (ss : List UpdateStatement) (l m : Listed) (fs : List Pairs) → All (λ (s : UpdateStatement). IsRead s.change) ss → Kept l.documents
    → run_each i ss l ≡ Ok m → AllSame fs l.documents
    → AllSame (put_each (documents_in (writes_from i ss l)) fs) m.documents
leads_from i [] l m fs read kept e h = let same : l ≡ m = cc in subst (λ (x : Listed). AllSame fs x.documents) same h
leads_from i (s ∷ ss) l m fs read kept e h =
    let now : IsRead s.change = read 0 s (omega arith) in
    let n = step_of (run_listed i s l) (run_each (suc i) ss) m e in
    let here = statement_writes s l.documents in
    let later = leads_from (suc i) ss n.0 m (put_each (documents_in here) fs) (λ j d below. read (suc j) d (omega arith))
    (next_kept i s l n.0 now kept n.1) n.2 (statement_leads i s l n.0 fs now kept n.1 h) in
    subst (λ (r : Result Listed Refusal). AllSame (put_each (documents_in (here ++ unless_refused (writes_from (suc i) ss) r)) fs) m.documents) (sym n.1)
    (subst (λ (ys : List Pairs). AllSame ys m.documents) (sym (put_writes_append here (writes_from (suc i) ss n.0) fs)) later)

pub writes_lead : WritesLead
writes_lead ss ds after h e =
    same_spelled (put_each (documents_in (writes_of ss ds)) ds) after.documents
    (leads_from 0 ss (not_listed ds) after ds h.read (h.rising, h.stored) e (same_itself ds))
