-- What statements that make documents of documents leave of a collection, and what they write to it, are documents. So the collection with
-- what is written is, document by document, what the statements leave.
use Rattle.std.proofs.Common.{◌≡◌, ℕ, Bool, true, false, List, [], ◌∷◌, ◌++◌, length, map, take, Result, Ok, Err, refl, sym, ap, subst, ◌∙◌}
use Rattle.std.proofs.Common.{All, append-nil, arith}
use Rattle.std.specs.Prelude.{if◌then◌else◌}
use Rattle.std.specs.List.{filter, list_any}
use Rattle.std.specs.Str.{bytes_eq}
use Rattle.std.specs.declared.cmp.Ordering.{Ordering}
use Rattle.std.specs.declared.cmp.Ordering.TheVariants as orders
use Rattle.std.proofs.lemmas.List.Elements.{All-append, All-cons, All-filter, All-head, All-tail, All-take}
use Rattle.bson.specs.Lawful.{IsDocument}
use Rattle.bson.specs.Tree.{Pairs}
use Rattle.bson_bytes.proofs.TreeLaws.{one_spelling}
use Rattle.filter.specs.Matches.{matches}
use Rattle.outcome.specs.Outcome.{◌>>=◌}
use Rattle.path.specs.declared.refusal.Refusal.{Refusal}
use Rattle.value_order.specs.Order.{compare}
use Rattle.update_model.specs.Applying.{apply}
use Rattle.command_model.specs.Update.{IsRead, UpdateStatement}
use Rattle.entry_model.specs.Documents.{put_document}
use Rattle.entry_model.specs.Entering.{DocumentWrite}
use Rattle.entry_model.specs.State.{by_order}
use Rattle.database_model.specs.Documents.{key_of}
use Rattle.database_model.specs.Lawful.{IsStored}
use Rattle.database_model.specs.Merging.{Listed, made_of, none_changed, not_listed, one_or_none, put_each, run_each, run_listed}
use Rattle.database_model.specs.Update.{Changed, changed_to, passed_over, spelled, update_from, upsert_document}
use Rattle.database_model.specs.Writes.{change_writes, changes_of, made_write, statement_writes, unless_refused, updated_by, writes_from, writes_of}
use Rattle.statements.specs.WriteLaws.{AreRun, documents_in}
use Rattle.statements.proofs.EditPlaceLemmas.{put_where_placed}
use Rattle.statements.proofs.KeptLemmas.{Kept}
use Rattle.statements.proofs.MeantUpdates.{one_step}
use Rattle.statements.proofs.WriteLawLemmas.{left_by, next_kept}
use Rattle.statements.proofs.WritePlaceLemmas.{writes_lead}

-- What a statement makes of a document, and what it makes where none matches, are documents.
pub record MakesDocuments (s : UpdateStatement) : Type 0 where
  pub changed : (old new : Pairs) → IsDocument old → apply s.change 65535 old ≡ Ok new → IsDocument new
  pub upserted : (new : Pairs) → upsert_document s ≡ Ok new → IsDocument new

no_documents : All IsDocument []
no_documents k d below = absurd (omega arith)

put_all : (d : Pairs) (ds : List Pairs) → All IsDocument ds → IsDocument d → All IsDocument (put_document d ds)
put_all d [] all is = All-cons IsDocument d [] is no_documents
put_all d (x ∷ xs) all is = at (compare (key_of d) (key_of x)) (put_all d xs (All-tail IsDocument x xs all) is)
  where
    at : (r : Ordering) → All IsDocument (put_document d xs) → All IsDocument (by_order r (d ∷ x ∷ xs) (d ∷ xs) (x ∷ put_document d xs))
    at orders.Less later = All-cons IsDocument d (x ∷ xs) is all
    at orders.Equal later = All-cons IsDocument d xs is (All-tail IsDocument x xs all)
    at orders.Greater later = All-cons IsDocument x (put_document d xs) (All-head IsDocument x xs all) later

put_each_all : (news ds : List Pairs) → All IsDocument ds → All IsDocument news → All IsDocument (put_each news ds)
put_each_all [] ds all are = all
put_each_all (d ∷ news) ds all are =
    put_each_all news (put_document d ds) (put_all d ds all (All-head IsDocument d news are)) (All-tail IsDocument d news are)

-- a statement alone writes what it writes
pub alone_writes : (s : UpdateStatement) (ds : List Pairs) → writes_of (s ∷ []) ds ≡ statement_writes s ds
alone_writes s ds = ap (λ (ws : List DocumentWrite). statement_writes s ds ++ ws) (none_behind (run_listed 0 s (not_listed ds)))
    ∙ append-nil (statement_writes s ds)
  where
    none_behind : (r : Result Listed Refusal) → unless_refused (writes_from 1 []) r ≡ []
    none_behind (Ok l) = refl
    none_behind (Err e) = refl

module _ (s : UpdateStatement) (make : MakesDocuments s) where
  -- ---- what is left

  from_all : (c : Changed) (xs : List Pairs) (d : Changed) → All IsDocument c.documents → All IsDocument xs → update_from s c xs ≡ Ok d
      → All IsDocument d.documents
  from_all c [] d all are e = let same : c ≡ d = cc in subst (λ (x : Changed). All IsDocument x.documents) same all
  from_all c (x ∷ xs) d all are e =
      at (matches s.filter x) (apply s.change 65535 x) refl s.multi (λ b h f. from_all b xs d h (All-tail IsDocument x xs are) f) e
    where
      one : IsDocument x
      one = All-head IsDocument x xs are

      grown : (new : Pairs) → IsDocument new → All IsDocument (c.documents ++ new ∷ [])
      grown new is = All-append IsDocument c.documents (new ∷ []) all (All-cons IsDocument new [] is no_documents)

      at : (m : Bool) (r : Result Pairs Refusal) → apply s.change 65535 x ≡ r → (multi : Bool)
          → ((b : Changed) → All IsDocument b.documents → update_from s b xs ≡ Ok d → All IsDocument d.documents)
          → one_step s c x xs m r multi ≡ Ok d → All IsDocument d.documents
      at false r is multi go f = go (passed_over x c) (grown x one) f
      at true (Err z) is multi go f = absurd cc
      at true (Ok new) is true go f = go (changed_to x new c) (grown new (make.changed x new one is)) f
      at true (Ok new) is false go f =
          let last : Changed = changed_to x new c in
          let same : record last { documents = last.documents ++ xs } ≡ d = cc in
          subst (λ (y : Changed). All IsDocument y.documents) same
          (All-append IsDocument last.documents xs (grown new (make.changed x new one is)) (All-tail IsDocument x xs are))

  left_all : IsRead s.change → (i : ℕ) (l m : Listed) → All IsStored l.documents → All IsDocument l.documents → run_listed i s l ≡ Ok m
      → All IsDocument m.documents
  left_all read i l m stored all e =
      left_by i s l m read stored e (All IsDocument m.documents)
      (λ c was. subst (All IsDocument) (sym was.left) (from_all (none_changed l) l.documents c no_documents all was.is))
      (λ new was. subst (All IsDocument) (put_where_placed new l.documents m.documents was.placed)
      (put_all new l.documents all (make.upserted new was.is)))

  -- ---- what is written

  changes_all : (xs : List Pairs) → All IsDocument xs → All IsDocument (documents_in (changes_of s.change xs))
  changes_all [] are = no_documents
  changes_all (x ∷ xs) are = at (apply s.change 65535 x) refl (changes_all xs (All-tail IsDocument x xs are))
    where
      at : (r : Result Pairs Refusal) → apply s.change 65535 x ≡ r → All IsDocument (documents_in (changes_of s.change xs))
          → All IsDocument (documents_in (unless_refused (λ new. change_writes x new ++ changes_of s.change xs) r))
      at (Err e) is later = no_documents
      at (Ok new) is later = by (bytes_eq (spelled x) (spelled new))
        where
          by : (b : Bool) → All IsDocument (documents_in ((if b then [] else record { is_new = false; document = new } ∷ []) ++ changes_of s.change xs))
          by true = later
          by false = All-cons IsDocument new (documents_in (changes_of s.change xs)) (make.changed x new (All-head IsDocument x xs are) is) later

  made_all : All IsDocument (documents_in (map made_write (made_of s)))
  made_all = at s.upsert
    where
      by : (r : Result Pairs Refusal) → upsert_document s ≡ r → All IsDocument (documents_in (map made_write (one_or_none r)))
      by (Err e) is = no_documents
      by (Ok new) is = All-cons IsDocument new [] (make.upserted new is) no_documents

      at : (b : Bool) → All IsDocument (documents_in (map made_write (if b then one_or_none (upsert_document s) else [])))
      at true = by (upsert_document s) refl
      at false = no_documents

  written_all : (ds : List Pairs) → All IsDocument ds → All IsDocument (documents_in (statement_writes s ds))
  written_all ds all = at (list_any (matches s.filter) ds)
    where
      updated : (multi : Bool) → All IsDocument (if multi then filter (matches s.filter) ds else take 1 (filter (matches s.filter) ds))
      updated true = All-filter (matches s.filter) IsDocument ds all
      updated false = All-take IsDocument 1 (filter (matches s.filter) ds) (All-filter (matches s.filter) IsDocument ds all)

      at : (b : Bool) → All IsDocument (documents_in (if b then changes_of s.change (updated_by s ds) else map made_write (made_of s)))
      at true = changes_all (updated_by s ds) (updated s.multi)
      at false = made_all

-- ---- documents with the same bytes

same_document : (a b : Pairs) → IsDocument a → IsDocument b → IsStored b → spelled a ≡ spelled b → a ≡ b
same_document a b is_a is_b stored e =
    (one_spelling (spelled a) (spelled b) [] [] a b
    (record { lawful = is_a; spelled = refl; size = omega (arith, ap length e, stored.size) })
    (record { lawful = is_b; spelled = refl; size = omega (arith, stored.size) })
    (ap (λ (bytes : List ℕ). bytes ++ []) e)).0

same_documents : (xs ys : List Pairs) → All IsDocument xs → All IsDocument ys → All IsStored ys → map spelled xs ≡ map spelled ys → xs ≡ ys
same_documents [] [] all are stored e = refl
same_documents [] (y ∷ ys) all are stored e = absurd cc
same_documents (x ∷ xs) [] all are stored e = absurd cc
same_documents (x ∷ xs) (y ∷ ys) all are stored e =
    let head : spelled x ≡ spelled y = cc in
    let tail : map spelled xs ≡ map spelled ys = cc in
    let one = same_document x y (All-head IsDocument x xs all) (All-head IsDocument y ys are) (All-head IsStored y ys stored) head in
    let others = same_documents xs ys (All-tail IsDocument x xs all) (All-tail IsDocument y ys are) (All-tail IsStored y ys stored) tail in
    λ k. one k ∷ others k

-- ---- the law of one statement

-- What holds of the documents before and after each statement.
pub record AreGood (ds : List Pairs) : Type 0 where
  pub kept : Kept ds
  pub documents : All IsDocument ds

-- What a statement left: good documents, which are those before with what it writes put among them.
pub record HasLeft (s : UpdateStatement) (l m : Listed) : Type 0 where
  pub good : AreGood m.documents
  pub put : put_each (documents_in (statement_writes s l.documents)) l.documents ≡ m.documents

pub has_left : (i : ℕ) (s : UpdateStatement) (l m alone : Listed) → IsRead s.change → MakesDocuments s → AreGood l.documents → run_listed i s l ≡ Ok m
    → run_listed 0 s (not_listed l.documents) ≡ Ok alone → m.documents ≡ alone.documents → HasLeft s l m
has_left i s l m alone read make good e is same =
    let ds = l.documents in
    let kept : Kept m.documents = next_kept i s l m read good.kept e in
    let all : All IsDocument m.documents = left_all s make read i l m good.kept.1 good.documents e in
    let run : run_each 0 (s ∷ []) (not_listed ds) ≡ Ok alone = ap (λ (r : Result Listed Refusal). r >>= run_each 1 []) is in
    let such : AreRun (s ∷ []) ds = record {
      read = All-cons (λ (x : UpdateStatement). IsRead x.change) s [] read (λ k d below. absurd (omega (arith, below)));
      rising = good.kept.0;
      stored = good.kept.1;
    } in
    let leads : map spelled (put_each (documents_in (statement_writes s ds)) ds) ≡ map spelled m.documents =
    ap (λ (ws : List DocumentWrite). map spelled (put_each (documents_in ws) ds)) (sym (alone_writes s ds))
    ∙ writes_lead (s ∷ []) ds alone such run ∙ ap (map spelled) (sym same) in
    record {
      good = record { kept = kept; documents = all };
      put = same_documents (put_each (documents_in (statement_writes s ds)) ds) m.documents
          (put_each_all (documents_in (statement_writes s ds)) ds good.documents (written_all s make ds good.documents)) all kept.1 leads;
    }
