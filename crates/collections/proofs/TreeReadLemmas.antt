-- Looks at the entries of a turn's tree, one after the other.
use Rattle.std.proofs.Common.{◌≡◌, inl, ℕ, ◌+◌, ◌<◌, ◌≤◌, Bool, true, false, not, ◌||◌, ◌&&◌, List, [], ◌∷◌, length, drop, get_or, map, Ok, Err, refl, sym, ap}
use Rattle.std.proofs.Common.{◌∙◌, arith, subst}
use Rattle.std.specs.Prelude.{MatchResult, Result, is_some}
use Rattle.std.specs.Global.{Vec}
use Rattle.std.specs.List.{list_any}
use Rattle.std.specs.Option.{option_map}
use Rattle.std.proofs.lemmas.List.{drop_all}
use Rattle.page.specs.History.{History, KeepsWord}
use Rattle.tree_model.specs.Keys.{Entry, window}
use Rattle.btree.specs.Scan.{entry_in, within}
use Rattle.btree.specs.declared.scanning.Batch.{Batch}
use Rattle.btree.specs.declared.scanning.Range.{Range}
use Rattle.path.specs.declared.refusal.Refusal.{Refusal}
use Rattle.path.specs.declared.refusal.Refusal.TheVariants as refusals
use Rattle.index.specs.Definition.{Definition}
use Rattle.entries.specs.OtherKeys.{IsEndOf, has_other_key, is_another}
use Rattle.entry_model.specs.State.{Collection}
use Rattle.entry_model.specs.StateEntries.{key_under}
use Rattle.index.specs.View.{texts_of}
use Rattle.entries.proofs.OtherEditLaws.{in_range}
use Rattle.collections.specs.Calls.{ExtendsTurn, HasCause}
use Rattle.collections.specs.Entries.{HasEntries, IsNotForRoom, ReadsTree}
use Rattle.collections.specs.IndexChecks.{has_entry, lacks_any, lacks_key, lacks_one}
use Rattle.collections.specs.Lookups.{IsBatchOf}
use Rattle.collections.specs.Standing.{HasState}
use Rattle.collections.specs.State.{State}
use Rattle.collections.specs.View.{disk_history, is_changed, pages_of}
use Rattle.collections.proofs.AnyLemmas.{left_step}
use Rattle.collections.proofs.CauseLemmas.{cause_from, word_before}
use Rattle.collections.proofs.FoundLemmas.{whole_batch}
use Rattle.collections.proofs.LawLemmas.{goes_from_itself, goes_further}
use Rattle.collections.proofs.ReadingLemmas.{next_same}

-- ---- one look and another

pub tree_memory : {D X : Type 0} (history : D → History) (Q : List Entry → X → Type 0) (old : State D) (e : Refusal) → e ≡ refusals.OutOfMemory
    → ReadsTree history Q (Err e) old old
tree_memory history Q old e is = record {
  extends = goes_from_itself history old;
  unchanged = refl;
  same = λ start now has. has;
  takes = refl;
  room = subst IsNotForRoom (sym is) tt;
  stays = λ k entries has. has;
  answers = λ k entries has. inl is;
}

pub tree_refused : {D X Y : Type 0} (history : D → History) (P : List Entry → X → Type 0) (Q : List Entry → Y → Type 0) (old new : State D) (e : Refusal)
    → ReadsTree history P (Err e) old new → ReadsTree history Q (Err e) old new
tree_refused history P Q old new e reads = record {
  extends = reads.extends;
  unchanged = reads.unchanged;
  same = reads.same;
  takes = reads.takes;
  room = reads.room;
  stays = reads.stays;
  answers = reads.answers;
}

-- an answer made of what was read
pub tree_on : {D X Y : Type 0} (history : D → History) (P : List Entry → X → Type 0) (Q : List Entry → Y → Type 0) (old new : State D) (x : X) (y : Y)
    → ReadsTree history P (Ok x) old new → ((entries : List Entry) → P entries x → Q entries y) → ReadsTree history Q (Ok y) old new
tree_on history P Q old new x y reads extends = record {
  extends = reads.extends;
  unchanged = reads.unchanged;
  same = reads.same;
  takes = reads.takes;
  room = tt;
  stays = reads.stays;
  answers = λ k entries has. extends entries (reads.answers k entries has);
}

-- a look and then another, of which the answer is that of both
pub tree_then : {D X Y : Type 0} (history : D → History) (P : List Entry → X → Type 0) (Q R : List Entry → Y → Type 0) (old mid new : State D) (x : X)
    (r : Result Y Refusal)
    → ReadsTree history P (Ok x) old mid → ReadsTree history Q r mid new → ((entries : List Entry) (y : Y) → P entries x → Q entries y → R entries y)
    → ReadsTree history R r old new
tree_then {D} {X} {Y} history P Q R old mid new x r first second both = record {
  extends = goes_further history old mid new first.extends second.extends;
  unchanged = second.unchanged ∙ first.unchanged;
  same = λ start now has. second.same start now (first.same start now has);
  takes = second.takes ∙ first.takes;
  room = second.room;
  stays = λ k entries has. second.stays k entries (first.stays (word_before history mid new second.extends k) entries has);
  answers = λ k entries has.
      let k_mid = word_before history mid new second.extends k in
      joined entries k_mid r (first.answers k_mid entries has) (second.answers k entries (first.stays k_mid entries has));
}
  where
    joined : (entries : List Entry) → KeepsWord (disk_history history mid) → (r : Result Y Refusal) → P entries x
        → MatchResult r (Q entries) (HasCause history mid new) → MatchResult r (R entries) (HasCause history old new)
    joined entries k (Ok y) p q = both entries y p q
    joined entries k (Err e) p cause = cause_from history old mid new first.extends k e cause

-- ---- one after the other, until one finds what is looked for

-- the answer is that of this test
abbrev pub IsTest : (List Entry → Bool) → List Entry → Bool → Type 0
IsTest test entries found = found ≡ test entries

-- The test comes to the one that is left.
pub record LooksTo {D : Type 0} (history : D → History) (test rest : List Entry → Bool) (old new : State D) : Type 0 where
  pub extends : ExtendsTurn history old new
  pub unchanged : is_changed new ≡ is_changed old
  pub same : (start now : List Collection) → HasState history old start now → HasState history new start now
  pub takes : (pages_of history new).failed_allocations ≡ (pages_of history old).failed_allocations
  pub stays : KeepsWord (disk_history history new) → (entries : List Entry) → HasEntries history old entries → HasEntries history new entries
  pub left : KeepsWord (disk_history history new) → (entries : List Entry) → HasEntries history old entries → test entries ≡ rest entries

module _ {D : Type 0} (history : D → History) (test : List Entry → Bool) where
  pub looks_none : (old : State D) → LooksTo history test test old old
  looks_none old = record {
    extends = goes_from_itself history old;
    unchanged = refl;
    same = λ start now has. has;
    takes = refl;
    stays = λ k entries has. has;
    left = λ k entries has. refl;
  }

  as_read : (rest : List Entry → Bool) (old new : State D) → LooksTo history test rest old new
      → ReadsTree history (λ entries (u : Bool). test entries ≡ rest entries) (Ok true) old new
  as_read rest old new far =
      record { extends = far.extends; unchanged = far.unchanged; same = far.same; takes = far.takes; room = tt; stays = far.stays; answers = far.left }

  module _ (rest one later : List Entry → Bool) (old mid new : State D) (far : LooksTo history test rest old mid) (split : (entries : List Entry)
      → rest entries ≡ (one entries || later entries)) where
    pub looks_step : ReadsTree history (IsTest one) (Ok false) mid new → LooksTo history test later old new
    looks_step reads =
        let both = tree_then history (λ entries (u : Bool). test entries ≡ rest entries) (IsTest one)
        (λ entries found. (found ≡ one entries) × (test entries ≡ rest entries)) old mid new true (Ok false) (as_read rest old mid far) reads
        (λ entries y p q. (q, p)) in
        record {
          extends = both.extends;
          unchanged = both.unchanged;
          same = both.same;
          takes = both.takes;
          stays = both.stays;
          left = λ k entries has.
              let told = both.answers k entries has in
              told.1 ∙ split entries ∙ ap (λ (b : Bool). b || later entries) (sym told.0);
        }

    pub looks_found : ReadsTree history (IsTest one) (Ok true) mid new → ReadsTree history (IsTest test) (Ok true) old new
    looks_found reads =
        tree_on history (λ entries found. (found ≡ one entries) × (test entries ≡ rest entries)) (IsTest test) old new true true
        (tree_then history (λ entries (u : Bool). test entries ≡ rest entries) (IsTest one)
        (λ entries found. (found ≡ one entries) × (test entries ≡ rest entries)) old mid new true (Ok true) (as_read rest old mid far) reads
        (λ entries y p q. (q, p)))
        (λ entries told. sym (told.1 ∙ split entries ∙ ap (λ (b : Bool). b || later entries) (sym told.0)))

    pub looks_failed : (e : Refusal) → ReadsTree history (IsTest one) (Err e) mid new → ReadsTree history (IsTest test) (Err e) old new
    looks_failed e reads =
        tree_refused history (λ entries found. (found ≡ one entries) × (test entries ≡ rest entries)) (IsTest test) old new e
        (tree_then history (λ entries (u : Bool). test entries ≡ rest entries) (IsTest one)
        (λ entries found. (found ≡ one entries) × (test entries ≡ rest entries)) old mid new true (Err e) (as_read rest old mid far) reads
        (λ entries y p q. (q, p)))

  -- nothing is left to be looked for
  pub looks_end : (rest : List Entry → Bool) (old new : State D) → LooksTo history test rest old new → ((entries : List Entry) → rest entries ≡ false)
      → ReadsTree history (IsTest test) (Ok false) old new
  looks_end rest old new far none =
      tree_on history (λ entries (u : Bool). test entries ≡ rest entries) (IsTest test) old new true false (as_read rest old new far)
      (λ entries told. sym (told ∙ none entries))

-- ---- a key

module _ {D : Type 0} (history : D → History) (number : ℕ) (i : Definition) (id key : List ℕ) (old mid new : State D) where
  abbrev Has : List Entry → Bool → Type 0
  Has = IsTest (has_entry number i.number key id)

  abbrev Lacks : List Entry → Bool → Type 0
  Lacks = IsTest (lacks_key number i id key)

  abbrev second_part : List Entry → Bool
  second_part entries = i.is_unique && has_other_key number i.number key id entries

  pub missing_there : ReadsTree history Has (Ok false) old mid → ReadsTree history Lacks (Ok true) old mid
  missing_there reads = tree_on history Has Lacks old mid false true reads (λ entries told. ap (λ (b : Bool). not b || second_part entries) told)

  pub there_alone : i.is_unique ≡ false → ReadsTree history Has (Ok true) old mid → ReadsTree history Lacks (Ok false) old mid
  there_alone plain reads =
      tree_on history Has Lacks old mid true false reads
      (λ entries told. λ k. not (told k) || (sym plain k && has_other_key number i.number key id entries))

  pub others_there : i.is_unique ≡ true → ReadsTree history Has (Ok true) old mid → (r : Result Bool Refusal)
      → ReadsTree history (IsTest (has_other_key number i.number key id)) r mid new → ReadsTree history Lacks r old new
  others_there unique first r second =
      tree_then history Has (IsTest (has_other_key number i.number key id)) Lacks old mid new true r first second
      (λ entries y has other. other ∙ (λ k. not (has k) || (sym unique k && has_other_key number i.number key id entries)))

-- ---- the entries of a key

any_map : {X Y : Type 0} (f : X → Y) (p : Y → Bool) (xs : List X) → list_any p (map f xs) ≡ list_any (λ x. p (f x)) xs
any_map f p [] = refl
any_map f p (x ∷ xs) = ap (λ b. p (f x) || b) (any_map f p xs)

any_same : {X : Type 0} (p q : X → Bool) (xs : List X) → ((x : X) → p x ≡ q x) → list_any p xs ≡ list_any q xs
any_same p q [] h = refl
any_same p q (x ∷ xs) h = λ k. h x k || any_same p q xs h k

and_true : (b : Bool) → b ≡ (b && true)
and_true true = refl
and_true false = refl

module _ (number index : ℕ) (key id front : List ℕ) (range : Range) (batch : Batch) (front_is : front ≡ key_under number index key)
    (from : range.from.now ≡ front) (ends : IsEndOf front (option_map (λ b. b.now) range.to))
    (end : is_some batch.next ≡ false) (entries : List Entry) (p : IsBatchOf range entries batch) where
  pub others_told : list_any (λ x. is_another front id (entry_in x).key) batch.entries.items ≡ has_other_key number index key id entries
  others_told =
      sym (any_map entry_in (λ x. is_another front id x.key) batch.entries.items)
      ∙ ap (list_any (λ x. is_another front id x.key))
      (whole_batch range.limit (within range entries) (map entry_in batch.entries.items) (option_map (λ v. v.items) batch.next) (next_same batch.next ∙ end) p)
      ∙ ap (λ (k : List ℕ). list_any (λ x. is_another front id x.key) (window k (option_map (λ b. b.now) range.to) entries)) from
      ∙ any_same (λ x. is_another front id x.key) (λ x. is_another front id x.key && true) (window front (option_map (λ b. b.now) range.to) entries)
      (λ x. and_true (is_another front id x.key))
      ∙ in_range front id (option_map (λ b. b.now) range.to) (λ k. true) entries ends
      ∙ sym (any_same (λ x. is_another front id x.key) (λ x. is_another front id x.key && true) entries (λ x. and_true (is_another front id x.key)))
      ∙ ap (λ (k : List ℕ). list_any (λ x. is_another k id x.key) entries) front_is

-- ---- what is left of keys and of indexes

pub key_left : (number : ℕ) (i : Definition) (id : List ℕ) (keys : List (Vec ℕ)) (at : ℕ) (item : Vec ℕ) (key : List ℕ) → at < length keys
    → item ≡ get_or keys at item → key ≡ item.items → (entries : List Entry)
    → lacks_one number i id (texts_of (drop at keys)) entries
    ≡ (lacks_key number i id key entries || lacks_one number i id (texts_of (drop (at + 1) keys)) entries)
key_left number i id keys at item key within is same entries =
    ap (λ (ks : List (Vec ℕ)). lacks_one number i id (texts_of ks) entries) (left_step keys at item within is)
    ∙ ap (λ (k : List ℕ). lacks_key number i id k entries || lacks_one number i id (texts_of (drop (at + 1) keys)) entries) (sym same)

pub no_keys_left : (number : ℕ) (i : Definition) (id : List ℕ) (keys : List (Vec ℕ)) (at : ℕ) → length keys ≤ at → (entries : List Entry)
    → lacks_one number i id (texts_of (drop at keys)) entries ≡ false
no_keys_left number i id keys at whole entries = ap (λ (ks : List (Vec ℕ)). lacks_one number i id (texts_of ks) entries) (drop_all at keys whole)

pub index_left : (number : ℕ) (id : List ℕ) (is : List Definition) (all : List (Vec (Vec ℕ))) (at : ℕ) (i : Definition) (ks : Vec (Vec ℕ))
    (keys : List (Vec ℕ)) → at < length is → length all ≡ length is
    → i ≡ get_or is at i → ks ≡ get_or all at ks → keys ≡ ks.items → (entries : List Entry)
    → lacks_any number id (drop at is) (map (λ k. texts_of k.items) (drop at all)) entries
    ≡ (lacks_one number i id (texts_of keys) entries || lacks_any number id (drop (at + 1) is) (map (λ k. texts_of k.items) (drop (at + 1) all)) entries)
index_left number id is all at i ks keys within one_each this these same entries =
    let here : at < length all = omega (arith, within, one_each) in
    (λ j. lacks_any number id (left_step is at i within this j) (map (λ k. texts_of k.items) (left_step all at ks here these j)) entries)
    ∙ ap (λ (ls : List (Vec ℕ)). lacks_one number i id (texts_of ls) entries
    || lacks_any number id (drop (at + 1) is) (map (λ k. texts_of k.items) (drop (at + 1) all)) entries) (sym same)

pub no_indexes_left : (number : ℕ) (id : List ℕ) (is : List Definition) (all : List (Vec (Vec ℕ))) (at : ℕ) → length is ≤ at → (entries : List Entry)
    → lacks_any number id (drop at is) (map (λ k. texts_of k.items) (drop at all)) entries ≡ false
no_indexes_left number id is all at whole entries =
    ap (λ (js : List Definition). lacks_any number id js (map (λ k. texts_of k.items) (drop at all)) entries) (drop_all at is whole)
