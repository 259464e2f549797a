-- What a statement writes, document by document.
use Rattle.std.proofs.Common.{◌≡◌, ℕ, zero, suc, ◌<◌, Bool, true, false, List, [], ◌∷◌, ◌++◌, length, map, take, get_or, Some, Result, Ok, Err, refl, sym, ap}
use Rattle.std.proofs.Common.{◌∙◌, arith}
use Rattle.std.specs.Prelude.{◌||◌, if◌then◌else◌, All}
use Rattle.std.specs.List.{filter, list_any}
use Rattle.std.specs.Ordering.{is_eq}
use Rattle.std.specs.Str.{bytes_eq}
use Rattle.std.specs.declared.cmp.Ordering.{Ordering}
use Rattle.std.specs.declared.cmp.Ordering.TheVariants as orders
use Rattle.std.proofs.lemmas.Cmp.{tied_itself}
use Rattle.std.proofs.lemmas.List.{append-nil, map-append}
use Rattle.std.proofs.lemmas.List.Elements.{All-filter, All-take}
use Rattle.std.proofs.lemmas.Slice.Eq.{bytes_eq-Decides}
use Rattle.bson.specs.Tree.{Pairs, no_pairs}
use Rattle.filter.specs.Matches.{matches}
use Rattle.value_order.specs.Order.{compare}
use Rattle.value_order.specs.TotalLaws.{compare_total}
use Rattle.path.specs.declared.refusal.Refusal.{Refusal}
use Rattle.update_model.specs.Applying.{apply}
use Rattle.command_model.specs.Update.{UpdateStatement}
use Rattle.entry_model.specs.Documents.{put_document}
use Rattle.entry_model.specs.LawfulState.{IsRising}
use Rattle.entry_model.specs.StateReads.{find_document}
use Rattle.entry_model.specs.Entering.{DocumentWrite}
use Rattle.database_model.specs.Documents.{key_of}
use Rattle.database_model.specs.Lawful.{IsStored}
use Rattle.database_model.specs.Merging.{made_of, one_or_none, put_each}
use Rattle.database_model.specs.Update.{spelled, upsert_document}
use Rattle.statements.specs.Updating.{HaveOld, news_of, replaced_in, seen}
use Rattle.database_model.specs.Writes.{change_writes, changes_of, made_write, statement_writes, unless_refused, updated_by}
use Rattle.statements.specs.declared.statements.Write.{Write}
use Rattle.database_model.proofs.Ordered.{flipped}

pub or_true : (b : Bool) → (b || true) ≡ true
or_true true = refl
or_true false = refl

pub or_false : (b : Bool) → (b || false) ≡ b
or_false true = refl
or_false false = refl

-- ---- the documents that a statement changes

pub same_bytes : (d : Pairs) → bytes_eq (spelled d) (spelled d) ≡ true
same_bytes d = (bytes_eq-Decides (spelled d) (spelled d)).1 refl

-- the same document again writes nothing
pub none_written : (d : Pairs) → change_writes d d ≡ []
none_written d = ap (λ (b : Bool). if b then [] else record { is_new = false; document = d } ∷ []) (same_bytes d)

-- a document with other bytes is written
pub one_written : (old new : Pairs) → bytes_eq (spelled old) (spelled new) ≡ false → change_writes old new ≡ record { is_new = false; document = new } ∷ []
one_written old new differs = ap (λ (b : Bool). if b then [] else record { is_new = false; document = new } ∷ []) differs

pub updated_none : (s : UpdateStatement) → updated_by s [] ≡ []
updated_none s = at s.multi
  where
    at : (multi : Bool) → (if multi then [] else take 1 []) ≡ (let none : List Pairs = [] in none)
    at true = refl
    at false = refl

-- where none matches none is changed
pub updated_unmatched : (s : UpdateStatement) (ds : List Pairs) → list_any (matches s.filter) ds ≡ false → updated_by s ds ≡ []
updated_unmatched s ds none = ap (λ (xs : List Pairs). if s.multi then xs else take 1 xs) (empty ds none) ∙ updated_none s
  where
    empty : (xs : List Pairs) → list_any (matches s.filter) xs ≡ false → filter (matches s.filter) xs ≡ []
    empty [] e = refl
    empty (x ∷ xs) e = at (matches s.filter x) (empty xs) e
      where
        at : (b : Bool) → (list_any (matches s.filter) xs ≡ false → filter (matches s.filter) xs ≡ []) → (b || list_any (matches s.filter) xs) ≡ false
            → (if b then x ∷ filter (matches s.filter) xs else filter (matches s.filter) xs) ≡ []
        at true later f = absurd cc
        at false later f = later f

pub updated_stored : (s : UpdateStatement) (ds : List Pairs) → All IsStored ds → All IsStored (updated_by s ds)
updated_stored s ds h = at s.multi
  where
    at : (multi : Bool) → All IsStored (if multi then filter (matches s.filter) ds else take 1 (filter (matches s.filter) ds))
    at true = All-filter (matches s.filter) IsStored ds h
    at false = All-take IsStored 1 (filter (matches s.filter) ds) (All-filter (matches s.filter) IsStored ds h)

module _ (s : UpdateStatement) (d : Pairs) (ds : List Pairs) where
  abbrev after_matching : List Pairs → List Pairs
  after_matching xs = if s.multi then xs else take 1 xs

  -- it doesn't match
  pub updated_other : matches s.filter d ≡ false → updated_by s (d ∷ ds) ≡ updated_by s ds
  updated_other other = ap (λ (b : Bool). after_matching (if b then d ∷ filter (matches s.filter) ds else filter (matches s.filter) ds)) other

  module _ (match : matches s.filter d ≡ true) where
    first : updated_by s (d ∷ ds) ≡ after_matching (d ∷ filter (matches s.filter) ds)
    first = ap (λ (b : Bool). after_matching (if b then d ∷ filter (matches s.filter) ds else filter (matches s.filter) ds)) match

    abbrev changes_with : List Pairs → Result Pairs Refusal → List DocumentWrite
    changes_with rest r = unless_refused (λ new. change_writes d new ++ changes_of s.change rest) r

    -- it is refused
    pub changes_refused : (e : Refusal) → apply s.change 65535 d ≡ Err e → changes_of s.change (updated_by s (d ∷ ds)) ≡ []
    changes_refused e is = at s.multi refl
      where
        at : (multi : Bool) → s.multi ≡ multi → changes_of s.change (updated_by s (d ∷ ds)) ≡ []
        at true multi =
            ap (changes_of s.change) (first ∙ ap (λ (b : Bool). if b then d ∷ filter (matches s.filter) ds else d ∷ []) multi)
            ∙ ap (changes_with (filter (matches s.filter) ds)) is
        at false single =
            ap (changes_of s.change) (first ∙ ap (λ (b : Bool). if b then d ∷ filter (matches s.filter) ds else d ∷ []) single) ∙ ap (changes_with []) is

    module _ (new : Pairs) (is : apply s.change 65535 d ≡ Ok new) where
      -- it is changed, and the others after it
      pub changes_on : s.multi ≡ true → changes_of s.change (updated_by s (d ∷ ds)) ≡ change_writes d new ++ changes_of s.change (updated_by s ds)
      changes_on multi =
          ap (changes_of s.change) (first ∙ ap (λ (b : Bool). if b then d ∷ filter (matches s.filter) ds else d ∷ []) multi)
          ∙ ap (changes_with (filter (matches s.filter) ds)) is
          ∙ ap (λ (b : Bool). change_writes d new ++ changes_of s.change (if b then filter (matches s.filter) ds else take 1 (filter (matches s.filter) ds)))
          (sym multi)

      -- it is changed, and no other
      pub changes_only : s.multi ≡ false → changes_of s.change (updated_by s (d ∷ ds)) ≡ change_writes d new
      changes_only single =
          ap (changes_of s.change) (first ∙ ap (λ (b : Bool). if b then d ∷ filter (matches s.filter) ds else d ∷ []) single)
          ∙ ap (changes_with []) is ∙ append-nil (change_writes d new)

-- ---- a statement

pub writes_changes : (s : UpdateStatement) (ds : List Pairs) → list_any (matches s.filter) ds ≡ true
    → statement_writes s ds ≡ changes_of s.change (updated_by s ds)
writes_changes s ds some = ap (λ (b : Bool). if b then changes_of s.change (updated_by s ds) else map made_write (made_of s)) some

pub writes_made : (s : UpdateStatement) (ds : List Pairs) → list_any (matches s.filter) ds ≡ false → statement_writes s ds ≡ map made_write (made_of s)
writes_made s ds none = ap (λ (b : Bool). if b then changes_of s.change (updated_by s ds) else map made_write (made_of s)) none

-- a statement that makes a document where none matches
pub writes_upsert : (s : UpdateStatement) (ds : List Pairs) → list_any (matches s.filter) ds ≡ false → s.upsert ≡ true
    → statement_writes s ds ≡ map made_write (one_or_none (upsert_document s))
writes_upsert s ds none makes = writes_made s ds none ∙ ap (λ (b : Bool). map made_write (if b then one_or_none (upsert_document s) else [])) makes

-- one that doesn't
pub writes_none : (s : UpdateStatement) (ds : List Pairs) → list_any (matches s.filter) ds ≡ false → s.upsert ≡ false → statement_writes s ds ≡ []
writes_none s ds none makes = writes_made s ds none ∙ ap (λ (b : Bool). map made_write (if b then one_or_none (upsert_document s) else [])) makes

-- ---- one write more

pub news_more : (ws : List Write) (w : Write) → news_of (ws ++ w ∷ []) ≡ news_of ws ++ w.new ∷ []
news_more ws w = map-append (λ (v : Write). v.new) ws (w ∷ [])

pub seen_more : (ws : List Write) (w : Write) → map seen (ws ++ w ∷ []) ≡ map seen ws ++ seen w ∷ []
seen_more ws w = map-append seen ws (w ∷ [])

pub old_more : (from : List Pairs) (ws : List Write) (w : Write) → HaveOld from ws → w.old ≡ replaced_in (put_each (news_of ws) from) w
    → HaveOld from (ws ++ w ∷ [])
old_more from [] w h is = (is, tt)
old_more from (v ∷ ws) w h is = (h.0, old_more (put_document v.new from) ws w h.1 is)

pub rising_rest : (d : Pairs) (ds : List Pairs) → IsRising (d ∷ ds) → IsRising ds
rising_rest d ds up i j e lt below = up (suc i) (suc j) e (omega (arith, lt)) (omega (arith, below))

-- the document at a place is found by its key
pub found_at : (ds : List Pairs) (i : ℕ) (new : Pairs) → i < length ds → key_of new ≡ key_of (get_or ds i no_pairs) → IsRising ds
    → find_document ds (key_of new) ≡ Some (get_or ds i no_pairs)
found_at [] i new below same up = absurd (omega (arith, below))
found_at (d ∷ ds) zero new below same up =
    let tied : compare (key_of new) (key_of d) ≡ orders.Equal = ap (λ t. compare t (key_of d)) same ∙ tied_itself compare_total (key_of d) in
    ap (λ (r : Ordering). if is_eq r then Some d else find_document ds (key_of new)) tied
found_at (d ∷ ds) (suc i) new below same up =
    let less : compare (key_of d) (key_of (get_or ds i no_pairs)) ≡ orders.Less = up 0 (suc i) no_pairs (omega arith) (omega (arith, below)) in
    let more : compare (key_of new) (key_of d) ≡ orders.Greater =
    ap (λ t. compare t (key_of d)) same ∙ flipped compare_total (key_of d) (key_of (get_or ds i no_pairs)) orders.Less less in
    ap (λ (r : Ordering). if is_eq r then Some d else find_document ds (key_of new)) more ∙ found_at ds i new (omega (arith, below)) same (rising_rest d ds up)
