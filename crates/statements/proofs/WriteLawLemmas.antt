-- Laws of what the statements of an update write.
use Rattle.std.proofs.Common.{◌≡◌, ℕ, suc, Bool, true, false, List, [], ◌∷◌, ◌++◌, map, take, Option, Some, None, Result, Ok, Err, refl, sym, ap, subst, ◌∙◌}
use Rattle.std.proofs.Common.{arith, append_assoc}
use Rattle.std.specs.Prelude.{not, ◌&&◌, ◌||◌, if◌then◌else◌, All}
use Rattle.std.specs.List.{filter, list_any}
use Rattle.std.specs.Str.{bytes_eq}
use Rattle.std.proofs.lemmas.List.{append-nil}
use Rattle.std.proofs.lemmas.List.Elements.{All-append, All-cons, All-filter, All-take, filter_passes}
use Rattle.bson.specs.Tree.{Pairs}
use Rattle.filter.specs.Matches.{matches}
use Rattle.outcome.specs.Outcome.{◌>>=◌, or_refused}
use Rattle.path.specs.declared.refusal.Refusal.{Refusal}
use Rattle.path.specs.declared.refusal.Refusal.TheVariants as refusals
use Rattle.update_model.specs.Update.{Update as Change}
use Rattle.update_model.specs.Applying.{apply}
use Rattle.command_model.specs.OutcomeLaws.{step_of}
use Rattle.command_model.specs.Update.{UpdateStatement, IsRead}
use Rattle.entry_model.specs.Entering.{DocumentWrite}
use Rattle.database_model.specs.Documents.{key_of, place}
use Rattle.database_model.specs.Lawful.{IsStored}
use Rattle.database_model.specs.Merging.{Listed, listed_to, made_of, none_changed, not_listed, one_or_none, run_each, run_listed, upsert_listed, with_listed}
use Rattle.database_model.specs.Update.{Changed, changed_to, passed_over, spelled, update_from, upsert_document}
use Rattle.statements.specs.WriteLaws.{documents_in, UnchangedWriteNothing, WritesJoin, WritesOfMeant, WritesStored}
use Rattle.database_model.specs.Writes.{change_writes, changes_of, made_write, statement_writes, unless_refused, updated_by, writes_from, writes_of}
use Rattle.statements.proofs.Applied.{kept_stored, upserted_stored}
use Rattle.statements.proofs.KeptLemmas.{Kept, kept_place}
use Rattle.statements.proofs.LawfulUpdates.{SameKeys, SameKeys-rising, from_kept}
use Rattle.statements.proofs.MeantUpdates.{one_step}
use Rattle.statements.proofs.MeantWrites.{documents_append, same_writes}
use Rattle.statements.proofs.WriteSteps.{none_written, updated_stored, updated_unmatched, writes_changes, writes_none}

pub writes_of_meant : WritesOfMeant
writes_of_meant ss ds h = same_writes ss ds h.read h.rising h.stored

-- ---- counts make no difference

abbrev SameChanged : Result Changed Refusal → Result Changed Refusal → Type 0
SameChanged (Ok c) (Ok d) = (c.documents ≡ d.documents) × (c.found ≡ d.found)
SameChanged (Err e) (Err f) = Unit {0}
SameChanged (Ok c) (Err f) = ⊥
SameChanged (Err e) (Ok d) = ⊥

from_same : (s : UpdateStatement) (c d : Changed) (xs : List Pairs) → c.documents ≡ d.documents → c.found ≡ d.found
    → SameChanged (update_from s c xs) (update_from s d xs)
from_same s c d [] documents found = (documents, found)
from_same s c d (x ∷ xs) documents found = at (matches s.filter x) (apply s.change 65535 x) s.multi (λ a b e f. from_same s a b xs e f)
  where
    more : (new : Pairs) → c.documents ++ new ∷ [] ≡ d.documents ++ new ∷ []
    more new = ap (λ (ys : List Pairs). ys ++ new ∷ []) documents

    at : (m : Bool) (r : Result Pairs Refusal) (multi : Bool)
        → ((a b : Changed) → a.documents ≡ b.documents → a.found ≡ b.found → SameChanged (update_from s a xs) (update_from s b xs))
        → SameChanged (one_step s c x xs m r multi) (one_step s d x xs m r multi)
    at false r multi go = go (passed_over x c) (passed_over x d) (more x) found
    at true (Err e) multi go = tt
    at true (Ok new) true go = go (changed_to x new c) (changed_to x new d) (more new) refl
    at true (Ok new) false go = (ap (λ (ys : List Pairs). ys ++ xs) (more new), refl)

abbrev SameListed : Result Listed Refusal → Result Listed Refusal → Type 0
SameListed (Ok l) (Ok m) = l.documents ≡ m.documents
SameListed (Err e) (Err f) = Unit {0}
SameListed (Ok l) (Err f) = ⊥
SameListed (Err e) (Ok m) = ⊥

module _ (i j : ℕ) (s : UpdateStatement) (l m : Listed) (documents : l.documents ≡ m.documents) where
  abbrev put_in : ℕ → Listed → Pairs → Option (List Pairs) → Result Listed Refusal
  put_in k n new o = or_refused o refusals.DuplicateKey >>= (λ stored. Ok (with_listed k new stored n))

  upsert_same : SameListed (upsert_listed i s l) (upsert_listed j s m)
  upsert_same = at (upsert_document s)
    where
      placed : (new : Pairs) (o : Option (List Pairs)) → SameListed (put_in i l new o) (put_in j m new o)
      placed new None = tt
      placed new (Some stored) = refl

      at : (r : Result Pairs Refusal)
          → SameListed (r >>= (λ new. put_in i l new (place (key_of new) new l.documents))) (r >>= (λ new. put_in j m new (place (key_of new) new m.documents)))
      at (Err e) = tt
      at (Ok new) =
          subst (λ (ds : List Pairs). SameListed (put_in i l new (place (key_of new) new l.documents)) (put_in j m new (place (key_of new) new ds))) documents
          (placed new (place (key_of new) new l.documents))

  run_same : SameListed (run_listed i s l) (run_listed j s m)
  run_same = at (update_from s (none_changed l) l.documents) (update_from s (none_changed m) m.documents) changed
    where
      changed : SameChanged (update_from s (none_changed l) l.documents) (update_from s (none_changed m) m.documents)
      changed =
          subst (λ (ds : List Pairs). SameChanged (update_from s (none_changed l) l.documents) (update_from s (none_changed m) ds)) documents
          (from_same s (none_changed l) (none_changed m) l.documents refl refl)

      by : (b : Bool) (c d : Changed) → c.documents ≡ d.documents
          → SameListed (if b then upsert_listed i s l else Ok (listed_to l c)) (if b then upsert_listed j s m else Ok (listed_to m d))
      by true c d same = upsert_same
      by false c d same = same

      at : (r t : Result Changed Refusal) → SameChanged r t
          → SameListed (r >>= (λ c. if not c.found && s.upsert then upsert_listed i s l else Ok (listed_to l c)))
          (t >>= (λ d. if not d.found && s.upsert then upsert_listed j s m else Ok (listed_to m d)))
      at (Ok c) (Ok d) h =
          subst (λ (f : Bool). SameListed (if not c.found && s.upsert then upsert_listed i s l else Ok (listed_to l c))
          (if not f && s.upsert then upsert_listed j s m else Ok (listed_to m d))) h.1
          (by (not c.found && s.upsert) c d h.0)
      at (Err e) (Err f) h = tt
      at (Ok c) (Err f) h = absurd h
      at (Err e) (Ok d) h = absurd h

writes_same : (i j : ℕ) (ss : List UpdateStatement) (l m : Listed) → l.documents ≡ m.documents → writes_from i ss l ≡ writes_from j ss m
writes_same i j [] l m documents = refl
writes_same i j (s ∷ ss) l m documents =
    let later = at (run_listed i s l) (run_listed j s m) (run_same i j s l m documents) (λ a b same. writes_same (suc i) (suc j) ss a b same) in
    λ k. statement_writes s (documents k) ++ later k
  where
    at : (r t : Result Listed Refusal) → SameListed r t → ((a b : Listed) → a.documents ≡ b.documents → writes_from (suc i) ss a ≡ writes_from (suc j) ss b)
        → unless_refused (writes_from (suc i) ss) r ≡ unless_refused (writes_from (suc j) ss) t
    at (Ok a) (Ok b) h go = go a b h
    at (Err e) (Err f) h go = refl
    at (Ok a) (Err f) h go = absurd h
    at (Err e) (Ok b) h go = absurd h

-- ---- statements and later ones

abbrev over_left : List UpdateStatement → Result Listed Refusal → List DocumentWrite
over_left later r = unless_refused (λ l. writes_of later l.documents) r

join_from : (i : ℕ) (first later : List UpdateStatement) (l : Listed)
    → writes_from i (first ++ later) l ≡ writes_from i first l ++ over_left later (run_each i first l)
join_from i [] later l = writes_same i 0 later l (not_listed l.documents) refl
join_from i (s ∷ ss) later l = at (run_listed i s l) (λ next. join_from (suc i) ss later next)
  where
    here : List DocumentWrite
    here = statement_writes s l.documents

    at : (r : Result Listed Refusal)
        → ((next : Listed) → writes_from (suc i) (ss ++ later) next ≡ writes_from (suc i) ss next ++ over_left later (run_each (suc i) ss next))
        → statement_writes s l.documents ++ unless_refused (writes_from (suc i) (ss ++ later)) r
        ≡ (statement_writes s l.documents ++ unless_refused (writes_from (suc i) ss) r) ++ over_left later (r >>= run_each (suc i) ss)
    at (Ok next) go =
        ap (λ (ws : List DocumentWrite). statement_writes s l.documents ++ ws) (go next)
        ∙ sym (append_assoc (statement_writes s l.documents) (writes_from (suc i) ss next) (over_left later (run_each (suc i) ss next)))
    at (Err e) go = sym (append-nil (statement_writes s l.documents ++ []))

pub writes_join : WritesJoin
writes_join first later ds = join_from 0 first later (not_listed ds)

-- ---- documents that stay as they are

stay : (u : Change) (xs : List Pairs) → All (λ d. apply u 65535 d ≡ Ok d) xs → changes_of u xs ≡ []
stay u [] h = refl
stay u (x ∷ xs) h =
    ap (unless_refused (λ new. change_writes x new ++ changes_of u xs)) (h 0 x (omega arith))
    ∙ ap (λ (ws : List DocumentWrite). ws ++ changes_of u xs) (none_written x) ∙ stay u xs (λ i d below. h (suc i) d (omega arith))

pub unchanged_write_nothing : UnchangedWriteNothing
unchanged_write_nothing s ds some h =
    let passing = All-filter (matches s.filter) (λ d. matches s.filter d ≡ true → apply s.change 65535 d ≡ Ok d) ds h in
    let passes = filter_passes (matches s.filter) ds in
    writes_changes s ds some ∙ at s.multi (λ i d below. passing i d below (passes i d below))
  where
    at : (multi : Bool) → All (λ d. apply s.change 65535 d ≡ Ok d) (filter (matches s.filter) ds)
        → changes_of s.change (if multi then filter (matches s.filter) ds else take 1 (filter (matches s.filter) ds)) ≡ []
    at true all = stay s.change (filter (matches s.filter) ds) all
    at false all = stay s.change (take 1 (filter (matches s.filter) ds)) (All-take (λ d. apply s.change 65535 d ≡ Ok d) 1 (filter (matches s.filter) ds) all)

-- ---- what a statement leaves

pub no_stored : All IsStored []
no_stored k d below = absurd (omega arith)

found_is : (s : UpdateStatement) (c : Changed) (xs : List Pairs) (d : Changed) → update_from s c xs ≡ Ok d
    → d.found ≡ (c.found || list_any (matches s.filter) xs)
found_is s c [] d e = let same : c ≡ d = cc in ap (λ (x : Changed). x.found) (sym same) ∙ sym (at c.found)
  where
    at : (b : Bool) → (b || false) ≡ b
    at true = refl
    at false = refl
found_is s c (x ∷ xs) d e = at (matches s.filter x) (apply s.change 65535 x) s.multi (λ b f. found_is s b xs d f) e
  where
    met : (b : Bool) → true ≡ (b || true)
    met true = refl
    met false = refl

    at : (m : Bool) (r : Result Pairs Refusal) (multi : Bool)
        → ((b : Changed) → update_from s b xs ≡ Ok d → d.found ≡ (b.found || list_any (matches s.filter) xs))
        → one_step s c x xs m r multi ≡ Ok d → d.found ≡ (c.found || (m || list_any (matches s.filter) xs))
    at false r multi go f = go (passed_over x c) f
    at true (Err e) multi go f = absurd cc
    at true (Ok new) true go f = go (changed_to x new c) f ∙ met c.found
    at true (Ok new) false go f =
        let last : Changed = changed_to x new c in
        let same : record last { documents = last.documents ++ xs } ≡ d = cc in
        ap (λ (y : Changed). y.found) (sym same) ∙ met c.found

-- What a statement made of documents: it changed those that match, or put one among them.
pub record HasChanged (s : UpdateStatement) (l m : Listed) (c : Changed) : Type 0 where
  pub is : update_from s (none_changed l) l.documents ≡ Ok c
  pub left : m.documents ≡ c.documents
  pub keys : SameKeys c.documents l.documents
  pub stored : All IsStored c.documents
  pub writes : statement_writes s l.documents ≡ changes_of s.change (updated_by s l.documents)

pub record HasMade (s : UpdateStatement) (l m : Listed) (new : Pairs) : Type 0 where
  pub makes : s.upsert ≡ true
  pub none : list_any (matches s.filter) l.documents ≡ false
  pub is : upsert_document s ≡ Ok new
  pub placed : place (key_of new) new l.documents ≡ Some m.documents

and_both : (a b : Bool) → (not a && b) ≡ true → (a ≡ false) × (b ≡ true)
and_both true b e = absurd cc
and_both false b e = (refl, e)

-- what is shown of both holds of what was left
pub left_by : (i : ℕ) (s : UpdateStatement) (l m : Listed) → IsRead s.change → All IsStored l.documents → run_listed i s l ≡ Ok m → (P : Type 0)
    → ((c : Changed) → HasChanged s l m c → P) → ((new : Pairs) → HasMade s l m new → P) → P
left_by i s l m read stored e P changed made =
    let c = step_of (update_from s (none_changed l) l.documents) (λ c. if not c.found && s.upsert then upsert_listed i s l else Ok (listed_to l c)) m e in
    at c.0 c.1 (not c.0.found && s.upsert) refl c.2
  where
    placed : (new : Pairs) (o : Option (List Pairs)) → (or_refused o refusals.DuplicateKey >>= (λ stored. Ok (with_listed i new stored l))) ≡ Ok m
        → o ≡ Some m.documents
    placed new None f = absurd cc
    placed new (Some xs) f = let same : with_listed i new xs l ≡ m = cc in ap (λ (x : Listed). Some x.documents) same

    at : (c : Changed) → update_from s (none_changed l) l.documents ≡ Ok c → (b : Bool) → (not c.found && s.upsert) ≡ b
        → (if b then upsert_listed i s l else Ok (listed_to l c)) ≡ Ok m → P
    at c is true asked f =
        let both = and_both c.found s.upsert asked in
        let n = step_of (upsert_document s)
        (λ new. or_refused (place (key_of new) new l.documents) refusals.DuplicateKey >>= (λ stored. Ok (with_listed i new stored l))) m f in
        made n.0 (record {
          makes = both.1;
          none = sym (found_is s (none_changed l) l.documents c is) ∙ both.0;
          is = n.1;
          placed = placed n.0 (place (key_of n.0) n.0 l.documents) n.2;
        })
    at c is false asked f =
        let same : listed_to l c ≡ m = cc in
        let kept = from_kept s read (none_changed l) l.documents c no_stored stored refl is in
        changed c (record {
          is = is;
          left = ap (λ (x : Listed). x.documents) (sym same);
          keys = kept.0;
          stored = kept.1;
          writes = writes (list_any (matches s.filter) l.documents) refl;
        })
      where
        unasked : c.found ≡ false → s.upsert ≡ false
        unasked none = ap (λ (b : Bool). not b && s.upsert) (sym none) ∙ asked

        writes : (b : Bool) → list_any (matches s.filter) l.documents ≡ b → statement_writes s l.documents ≡ changes_of s.change (updated_by s l.documents)
        writes true some = writes_changes s l.documents some
        writes false none =
            writes_none s l.documents none (unasked (found_is s (none_changed l) l.documents c is ∙ none))
            ∙ ap (changes_of s.change) (sym (updated_unmatched s l.documents none))

pub next_kept : (i : ℕ) (s : UpdateStatement) (l m : Listed) → IsRead s.change → Kept l.documents → run_listed i s l ≡ Ok m → Kept m.documents
next_kept i s l m read h e =
    left_by i s l m read h.1 e (Kept m.documents)
    (λ c up. subst Kept (sym up.left) (SameKeys-rising c.documents l.documents up.keys h.0, up.stored))
    (λ new up. kept_place l.documents new m.documents h (upserted_stored s new up.is) up.placed)

-- ---- what is written may be stored

changes_stored : (u : Change) → IsRead u → (xs : List Pairs) → All IsStored xs → All IsStored (documents_in (changes_of u xs))
changes_stored u read [] h = no_stored
changes_stored u read (x ∷ xs) h = at (apply u 65535 x) refl (changes_stored u read xs (λ i d below. h (suc i) d (omega arith)))
  where
    at : (r : Result Pairs Refusal) → apply u 65535 x ≡ r → All IsStored (documents_in (changes_of u xs))
        → All IsStored (documents_in (unless_refused (λ new. change_writes x new ++ changes_of u xs) r))
    at (Err e) is later = no_stored
    at (Ok new) is later = by (bytes_eq (spelled x) (spelled new))
      where
        by : (b : Bool) → All IsStored (documents_in ((if b then [] else record { is_new = false; document = new } ∷ []) ++ changes_of u xs))
        by true = later
        by false = All-cons IsStored new (documents_in (changes_of u xs)) (kept_stored u x new read (h 0 x (omega arith)) is) later

made_stored : (s : UpdateStatement) → All IsStored (documents_in (map made_write (made_of s)))
made_stored s = at s.upsert
  where
    by : (r : Result Pairs Refusal) → upsert_document s ≡ r → All IsStored (documents_in (map made_write (one_or_none r)))
    by (Err e) is = no_stored
    by (Ok new) is = All-cons IsStored new [] (upserted_stored s new is) no_stored

    at : (b : Bool) → All IsStored (documents_in (map made_write (if b then one_or_none (upsert_document s) else [])))
    at true = by (upsert_document s) refl
    at false = no_stored

statement_stored : (s : UpdateStatement) → IsRead s.change → (ds : List Pairs) → All IsStored ds → All IsStored (documents_in (statement_writes s ds))
statement_stored s read ds h = at (list_any (matches s.filter) ds)
  where
    at : (b : Bool) → All IsStored (documents_in (if b then changes_of s.change (updated_by s ds) else map made_write (made_of s)))
    at true = changes_stored s.change read (updated_by s ds) (updated_stored s ds h)
    at false = made_stored s

from_stored : (i : ℕ) (ss : List UpdateStatement) (l : Listed) → All (λ (s : UpdateStatement). IsRead s.change) ss → Kept l.documents
    → All IsStored (documents_in (writes_from i ss l))
from_stored i [] l read h = no_stored
from_stored i (s ∷ ss) l read h =
    subst (All IsStored) (sym (documents_append (statement_writes s l.documents) (unless_refused (writes_from (suc i) ss) (run_listed i s l))))
    (All-append IsStored (documents_in (statement_writes s l.documents)) (documents_in (unless_refused (writes_from (suc i) ss) (run_listed i s l)))
    (statement_stored s now l.documents h.1)
    (at (run_listed i s l) refl (λ next kept. from_stored (suc i) ss next (λ j d below. read (suc j) d (omega arith)) kept)))
  where
    now : IsRead s.change
    now = read 0 s (omega arith)

    at : (r : Result Listed Refusal) → run_listed i s l ≡ r
        → ((next : Listed) → Kept next.documents → All IsStored (documents_in (writes_from (suc i) ss next)))
        → All IsStored (documents_in (unless_refused (writes_from (suc i) ss) r))
    at (Ok next) is go = go next (next_kept i s l next now h is)
    at (Err e) is go = no_stored

pub writes_stored : WritesStored
writes_stored ss ds h = from_stored 0 ss (not_listed ds) h.read (h.rising, h.stored)
