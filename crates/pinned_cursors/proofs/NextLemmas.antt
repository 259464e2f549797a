-- The next batch of a cursor is read from its version, and the cursor goes on or ends.
use Rattle.std.proofs.Common.{◌≡◌, ◌≢◌, inl, inr, ℕ, zero, suc, ◌+◌, ◌-◌, ◌^◌, ◌<◌, ◌≤◌, Bool, true, false, List, [], ◌∷◌, length, drop}
use Rattle.std.proofs.Common.{Option, Some, None, Result, Ok, Err, refl, sym, ap, subst, ◌∙◌, arith}
use Rattle.std.specs.Prelude.{⊤, map, ◌==◌, ◌||◌, nat_le, if◌then◌else◌, option_map, unwrap_or, codes, MatchOption, MatchResult}
use Rattle.std.specs.Global.{Vec}
use Rattle.std.proofs.lemmas.List.{drop-map, length-map}
use Rattle.std.proofs.lemmas.List.Elements.{All-drop}
use Rattle.bson.specs.Tree.{Pairs}
use Rattle.page.specs.History.{History, KeepsWord}
use Rattle.path.specs.declared.refusal.Refusal.{Refusal}
use Rattle.path.specs.declared.refusal.Refusal.TheVariants as refusals
use Rattle.collections.specs.Calls.{ExtendsTurn, HasReadCause, IsUnchanged}
use Rattle.collections.specs.Standing.{HasState}
use Rattle.collections.specs.State.{State}
use Rattle.collections.specs.Versions.{ReadsVersion}
use Rattle.collections.specs.View.{disk_history, is_stopped}
use Rattle.database_model.specs.Cursors.{advanced, batch_len, batch_of, batch_reply, item_size}
use Rattle.database_model.specs.GetMore.{batch_len_of}
use Rattle.database_model.specs.Refusals.{ok_reply}
use Rattle.database_model.specs.World.{CursorTable}
use Rattle.replies.specs.View.{batch_name}
use Rattle.replies.specs.declared.batch_spelling.BatchKind.TheVariants as batches
use Rattle.entry_model.specs.State.{Collection, key_of}
use Rattle.entry_model.specs.StateReads.{find_document}
use Rattle.index.specs.View.{texts_of}
use Rattle.projection.specs.Projection.{Projection, project}
use Rattle.asked_documents.specs.Asking.{IsAskedIn}
use Rattle.walks.specs.Batches.{GoesOn, IsGivenBatch, rest_of, walk_rest}
use Rattle.walks.specs.Listed.{AreListedIn, Chosen, IsListedBatch, given_of, id_text_of}
use Rattle.walks.specs.InOrder.{IsOrderedBatch}
use Rattle.walks.specs.declared.in_order.OrderedWalk.{OrderedWalk}
use Rattle.walks.specs.declared.listed.Listed.{Listed}
use Rattle.walks.proofs.ListedLemmas.{as_many}
use Rattle.walks.specs.declared.batches.BatchAsked.{BatchAsked}
use Rattle.walks.specs.declared.batches.GivenBatch.{GivenBatch}
use Rattle.walks.specs.declared.batches.Walk.{Walk}
use Rattle.cursors.specs.Changes.{after, further, gone_on, onwards, without}
use Rattle.cursors.specs.Held.{Held, HeldCursor, HeldWalk, Way, through, listed, cursors_of, held_at, no_held_cursor, table_of}
use Rattle.cursors.specs.TableLaws.{ended_in_table, gone_on_in_table}
use Rattle.pinned_cursors.specs.Batches.{GivesNext, IsNextBatch, ReadsAt, ReadsThenPins}
use Rattle.pinned_cursors.specs.Opening.{held_walk, way_in_order}
use Rattle.pinned_cursors.specs.Tied.{AreTied, IsLeftBy, IsTied, ListsRest, ReadsRest, passes, with_pin}
use Rattle.pinned_cursors.specs.Turns.{OnlyPins, Releases}
use Rattle.pinned_cursors.proofs.ListLemmas.{each_at}
use Rattle.pinned_cursors.proofs.OrderLemmas.{ReadsOrdered, batch_is, ordered_there, others_in_order, rest_is, rest_told}
use Rattle.pinned_cursors.proofs.TiedLemmas.{has_either, has_now, keeps_on, reads_to, tied_set}
use Rattle.pinned_cursors.proofs.TurnLemmas.{no_pins, nothing_read}
use Rattle.pinned_cursors.proofs.TurnTied.{tied_on}

-- ---- the batch

-- What a list tells behind some documents, the texts behind theirs tell.
pub lists_on : (texts : List (List ℕ)) (p : Projection) (ds rest : List Pairs) (n : ℕ) → ListsRest texts p ds rest → ListsRest (drop n texts) p ds (drop n rest)
lists_on texts p ds rest n l = record {
  some = drop n l.some;
  there = record {
    found = All-drop (λ d. find_document ds (key_of d) ≡ Some d) n l.some l.there.found;
    spelled = ap (drop n) l.there.spelled ∙ drop-map id_text_of n l.some;
  };
  same = ap (drop n) l.same ∙ drop-map (project p) n l.some;
}

-- the walk by which a cursor goes on, and its list, as walks take them
pub record IsWalkOf (w : HeldWalk) (walk : Walk) : Type 0 where
  pub way : w.way ≡ through walk.filter.now walk.limit walk.from.now
  pub projection : walk.projection.now ≡ w.projection
  pub skip : walk.skip ≡ 0

pub record IsListOf (w : HeldWalk) (list : Listed) : Type 0 where
  pub way : w.way ≡ listed (texts_of list.ids.now)
  pub projection : list.projection.now ≡ w.projection
  pub few : length list.ids.now < 2 ^ 64

-- the next batch of the cursor is asked for
pub record AsksNext (h : HeldCursor) (namespace : List ℕ) (most : ℕ) (asked : BatchAsked) : Type 0 where
  pub kind : asked.kind ≡ batches.Next
  pub namespace_is : asked.namespace.now ≡ namespace
  pub number : asked.number ≡ h.cursor.number
  pub most_is : asked.most ≡ most

module _ {D : Type 0} (history : D → History) (h : HeldCursor) (w : HeldWalk) (is : h.walk ≡ Some w) (namespace : List ℕ) (most : ℕ) (asked : BatchAsked)
    (asks : AsksNext h namespace most asked) (old new : State D) where
  -- what is right of what the walk is still to give
  reads_of : (result : Result GivenBatch Refusal) → ExtendsTurn history old new → IsUnchanged history old new
      → ((s t : List Collection) → HasState history old s t → HasState history new s t)
      → (KeepsWord (disk_history history new) → (passing : Bool) → ReadsRest passing history old w h.cursor.rest
      → MatchResult result (IsNextBatch passing history new h w namespace most) (HasReadCause history old new))
      → ReadsAt history h namespace most result old new
  reads_of result extends unchanged same right = record {
    extends = extends;
    unchanged = unchanged;
    same = same;
    answers = λ k v there passing r.
        let one : v ≡ w = some_is v w (sym there ∙ is) in
        subst (λ (x : HeldWalk). MatchResult result (IsNextBatch passing history new h x namespace most) (HasReadCause history old new)) (sym one)
        (right k passing (subst (λ (x : HeldWalk). ReadsRest passing history old x h.cursor.rest) one r));
  }
    where
      some_is : (a b : HeldWalk) → Some a ≡ Some b → a ≡ b
      some_is a b e = cc

  -- ---- by its walk

  module _ (walk : Walk) (its : IsWalkOf w walk) (continues : ExtendsTurn history old new) where
    left_by : (home : Collection) (rest : List Pairs) → IsLeftBy w.way w.projection home rest → rest ≡ rest_of walk home.documents
    left_by home rest left =
        subst (λ (x : Way). IsLeftBy x w.projection home rest) its.way left
        ∙ (λ i. walk_rest walk.filter.now (sym its.projection i) (sym its.skip i) walk.limit walk.from.now home.documents)

    next_so : (passing : Bool) (r : ReadsRest passing history old w h.cursor.rest) (b : GivenBatch) → IsGivenBatch walk asked r.home.documents b
        → IsNextBatch passing history new h w namespace most b
    next_so passing r b given =
        let left : rest_of walk r.home.documents ≡ h.cursor.rest = sym (left_by r.home h.cursor.rest r.left) in
        record {
          counted = given.counted ∙ (λ i. batch_of (asks.most_is i) (left i));
          says = given.says
              ∙ (λ i. ok_reply (batch_reply (batch_name (asks.kind i)) b.count (left i) (asks.number i) (asks.namespace_is i)));
          few = omega (arith, subst (λ (xs : List Pairs). length xs ≤ 4294967295) left given.few);
          next = by_next b.next given.next;
        }
      where
        by_next : (next : Option (Vec ℕ))
            → MatchOption next (length (rest_of walk r.home.documents) ≤ b.count) (λ text. GoesOn walk r.home.documents b.count text.items)
            → MatchOption next (length h.cursor.rest ≤ b.count)
            (λ text. (b.count < length h.cursor.rest) × ReadsRest passing history new (onwards b.count text.items w) (drop b.count h.cursor.rest))
        by_next None none =
            let left : rest_of walk r.home.documents ≡ h.cursor.rest = sym (left_by r.home h.cursor.rest r.left) in
            subst (λ (xs : List Pairs). length xs ≤ b.count) left none
        by_next (Some text) extends =
            let left : rest_of walk r.home.documents ≡ h.cursor.rest = sym (left_by r.home h.cursor.rest r.left) in
            let behind : drop b.count h.cursor.rest ≡ walk_rest walk.filter.now w.projection 0 (walk.limit - b.count) text.items r.home.documents =
            ap (drop b.count) (sym left) ∙ sym extends.left
            ∙ (λ i. walk_rest walk.filter.now (its.projection i) 0 (walk.limit - b.count) text.items r.home.documents) in (
              subst (λ (xs : List Pairs). b.count < length xs) left extends.more,
              record {
                collections = r.collections;
                had = keeps_on history old new continues passing w.version r.collections r.had;
                home = r.home;
                numbered = r.numbered;
                stored = r.stored;
                left = subst (λ (x : Way). IsLeftBy (further b.count text.items x) w.projection r.home (drop b.count h.cursor.rest)) (sym its.way)
                    behind;
              },
            )

  pub reads_through : (walk : Walk) → IsWalkOf w walk → (result : Result GivenBatch Refusal)
      → ReadsVersion history w.version (IsAskedIn w.number) (λ now c b. IsGivenBatch walk asked c.documents b) result old new
      → ReadsAt history h namespace most result old new
  reads_through walk its result reads = reads_of result reads.extends reads.unchanged reads.same right
    where
      right : KeepsWord (disk_history history new) → (passing : Bool) → ReadsRest passing history old w h.cursor.rest
          → MatchResult result (IsNextBatch passing history new h w namespace most) (HasReadCause history old new)
      right k passing r = at result (reads.answers k r.collections (has_now history passing old w.version r.collections r.had) r.home
          (record { numbered = r.numbered; stored = r.stored }))
        where
          at : (q : Result GivenBatch Refusal)
              → MatchResult q (λ b. IsGivenBatch walk asked r.home.documents b) (HasReadCause history old new)
              → MatchResult q (IsNextBatch passing history new h w namespace most) (HasReadCause history old new)
          at (Ok b) given = next_so walk its reads.extends passing r b given
          at (Err e) cause = cause

  -- ---- by its list

  module _ (list : Listed) where
    pub reads_listed : IsListOf w list → (result : Result GivenBatch Refusal)
        → ReadsVersion history w.version (AreListedIn w.number (texts_of list.ids.now))
        (λ now chosen b. IsListedBatch asked (given_of list.projection.now chosen) b) result old new
        → ReadsAt history h namespace most result old new
    reads_listed its result reads = reads_of result reads.extends reads.unchanged reads.same right
      where
        right : KeepsWord (disk_history history new) → (passing : Bool) → ReadsRest passing history old w h.cursor.rest
            → MatchResult result (IsNextBatch passing history new h w namespace most) (HasReadCause history old new)
        right k passing r =
            let l : ListsRest (texts_of list.ids.now) w.projection r.home.documents h.cursor.rest =
            subst (λ (x : Way). IsLeftBy x w.projection r.home h.cursor.rest) its.way r.left in
            let chosen : Chosen = record { home = r.home; documents = l.some } in
            at result l (reads.answers k r.collections (has_now history passing old w.version r.collections r.had) chosen
            (record { numbered = r.numbered; stored = r.stored; listed = l.there }))
          where
            at : (q : Result GivenBatch Refusal) (l : ListsRest (texts_of list.ids.now) w.projection r.home.documents h.cursor.rest)
                → MatchResult q (λ b. IsListedBatch asked (map (project list.projection.now) l.some) b) (HasReadCause history old new)
                → MatchResult q (IsNextBatch passing history new h w namespace most) (HasReadCause history old new)
            at (Err e) l cause = cause
            at (Ok b) l batch =
                let rest : map (project list.projection.now) l.some ≡ h.cursor.rest = ap (λ p. map (project p) l.some) its.projection ∙ sym l.same in
                let many : length (texts_of list.ids.now) ≡ length h.cursor.rest =
                as_many r.home.documents (texts_of list.ids.now) l.some w.projection l.there ∙ ap length (sym l.same) in
                record {
                  counted = batch.counted ∙ (λ i. batch_of (asks.most_is i) (rest i));
                  says = batch.says
                      ∙ (λ i. ok_reply (batch_reply (batch_name (asks.kind i)) b.count (rest i) (asks.number i) (asks.namespace_is i)));
                  few = omega (arith, its.few, many, length-map list.ids.now (λ (v : Vec ℕ). v.items));
                  next = by_next b.next (subst (λ (xs : List Pairs). MatchOption b.next (length xs ≤ b.count) (λ _. b.count < length xs)) rest batch.next);
                }
              where
                by_next : (next : Option (Vec ℕ)) → MatchOption next (length h.cursor.rest ≤ b.count) (λ _. b.count < length h.cursor.rest)
                    → MatchOption next (length h.cursor.rest ≤ b.count)
                    (λ text. (b.count < length h.cursor.rest) × ReadsRest passing history new (onwards b.count text.items w) (drop b.count h.cursor.rest))
                by_next None none = none
                by_next (Some text) more = (
                  more,
                  record {
                    collections = r.collections;
                    had = keeps_on history old new reads.extends passing w.version r.collections r.had;
                    home = r.home;
                    numbered = r.numbered;
                    stored = r.stored;
                    left = subst (λ (x : Way). IsLeftBy (further b.count text.items x) w.projection r.home (drop b.count h.cursor.rest)) (sym its.way)
                        (lists_on (texts_of list.ids.now) w.projection r.home.documents h.cursor.rest b.count l);
                  },
                )

  -- ---- in the order of an index

  module _ (walk : OrderedWalk) (same_walk : w ≡ held_walk w.version w.number walk.projection.now (way_in_order walk)) where
    abbrev in_order : HeldWalk
    in_order = held_walk w.version w.number walk.projection.now (way_in_order walk)

    next_ordered : (passing : Bool) (r : ReadsRest passing history old in_order h.cursor.rest) (b : GivenBatch) → ExtendsTurn history old new
        → IsOrderedBatch (rest_told history w.version w.number walk asked old new h.cursor.rest passing r).sort walk asked r.home.documents b
        → IsNextBatch passing history new h w namespace most b
    next_ordered passing r b continues given =
        let batch : IsListedBatch asked h.cursor.rest b =
        batch_is history w.version w.number walk asked old new h.cursor.rest passing r b given in
        record {
          counted = batch.counted ∙ ap (λ (m : ℕ). batch_of m h.cursor.rest) asks.most_is;
          says = batch.says
              ∙ (λ i. ok_reply (batch_reply (batch_name (asks.kind i)) b.count h.cursor.rest (asks.number i) (asks.namespace_is i)));
          few = omega (arith, given.few, ap length (rest_is history w.version w.number walk asked old new h.cursor.rest passing r b given));
          next = by b.next refl batch.next;
        }
      where
        by : (o : Option (Vec ℕ)) → b.next ≡ o → MatchOption o (length h.cursor.rest ≤ b.count) (λ _. b.count < length h.cursor.rest)
            → MatchOption o (length h.cursor.rest ≤ b.count)
            (λ text. (b.count < length h.cursor.rest) × ReadsRest passing history new (onwards b.count text.items w) (drop b.count h.cursor.rest))
        by None is none = none
        by (Some text) is more = (
          more,
          subst (λ (x : HeldWalk). ReadsRest passing history new (onwards b.count text.items x) (drop b.count h.cursor.rest)) (sym same_walk)
              (others_in_order history w.version w.number walk asked old new h.cursor.rest passing r b given continues text is),
        )

    pub reads_ordered : (result : Result GivenBatch Refusal) → ReadsOrdered history w.version w.number walk asked old new result
        → ReadsAt history h namespace most result old new
    reads_ordered result reads = reads_of result reads.extends reads.unchanged reads.same right
      where
        right : KeepsWord (disk_history history new) → (passing : Bool) → ReadsRest passing history old w h.cursor.rest
            → MatchResult result (IsNextBatch passing history new h w namespace most) (HasReadCause history old new)
        right k passing r =
            let o : ReadsRest passing history old in_order h.cursor.rest =
            subst (λ (x : HeldWalk). ReadsRest passing history old x h.cursor.rest) same_walk r in
            at result o (ordered_there history w.version w.number walk asked old new h.cursor.rest passing o result reads k)
          where
            at : (q : Result GivenBatch Refusal) (o : ReadsRest passing history old in_order h.cursor.rest)
                → MatchResult q (λ b. IsOrderedBatch (rest_told history w.version w.number walk asked old new h.cursor.rest passing o).sort walk asked
                o.home.documents b) (HasReadCause history old new)
                → MatchResult q (IsNextBatch passing history new h w namespace most) (HasReadCause history old new)
            at (Ok b) o given = next_ordered passing o b reads.extends given
            at (Err e) o cause = cause

-- ---- how many documents

-- Past what is left the most that may come makes no difference.
len_past : (i most room : ℕ) (ds : List Pairs) → length ds ≤ most → batch_len i most room ds ≡ batch_len i (length ds) room ds
len_past i most room [] few = refl
len_past i zero room (d ∷ ds) few = absurd (omega (arith, few))
len_past i (suc most) room (d ∷ ds) few =
    ap (λ (n : ℕ). if i == 0 || nat_le (item_size i d) room then suc n else 0) (len_past (i + 1) most (room - item_size i d) ds (omega (arith, few)))

-- A batch with no number asked for is bounded by its bytes alone.
pub batch_past : (most : ℕ) (ds : List Pairs) → length ds ≤ most → batch_of most ds ≡ batch_of (length ds) ds
batch_past most ds few = len_past 0 most (900000 - 5) ds few

-- ---- the cursor then

pub has_walk : (walk : Option HeldWalk) → walk ≢ None → (w : HeldWalk) × (walk ≡ Some w)
has_walk None some = absurd (some refl)
has_walk (Some w) some = (w, refl)

module _ {D : Type 0} (history : D → History) (old read : State D) (held : Held) (at : ℕ) (there : at < length held.list) (w : HeldWalk)
    (is : (held_at held at).walk ≡ Some w) (namespace : List ℕ) (most : Option ℕ) (bound : ℕ) (bound_is : bound ≡ unwrap_or most (2 ^ 64 - 1)) where
  abbrev here : HeldCursor
  here = held_at held at

  abbrev Gives : Result Pairs Refusal → State D → Held → Type 0
  Gives result new after = GivesNext history at namespace most result old new held after

  -- the reading that came before
  abbrev Read : Result GivenBatch Refusal → Type 0
  Read result = ReadsAt history here namespace bound result old read

  -- The cursors are tied where they were, and the walk gives what is left.
  reads_tied : ExtendsTurn history old read → is_stopped old ≡ false → KeepsWord (disk_history history read) → (changed : Bool)
      → AreTied changed history old held.list → ReadsRest changed history old w here.cursor.rest
  reads_tied continues running k changed tied =
      reads_to history (passes changed here) changed old old w here.cursor.rest (has_either history here.cursor.touched changed old w.version)
      (subst (λ (walk : Option HeldWalk). MatchOption walk ⊤ (λ v. ReadsRest (passes changed here) history old v here.cursor.rest)) is
      (each_at (IsTied changed history old) held.list at no_held_cursor there (tied.each running (continues.stays.reads.extends.kept k))))

  -- as many as a database's definition says
  same_count : (n : ℕ) → n ≡ batch_of bound here.cursor.rest → length here.cursor.rest < 2 ^ 64 → n ≡ batch_len_of here.cursor most
  same_count n counted few = by_most most (counted ∙ ap (λ (m : ℕ). batch_of m here.cursor.rest) bound_is)
    where
      by_most : (m : Option ℕ) → n ≡ batch_of (unwrap_or m (2 ^ 64 - 1)) here.cursor.rest
          → n ≡ batch_of (unwrap_or m (length here.cursor.rest)) here.cursor.rest
      by_most None c = c ∙ batch_past (2 ^ 64 - 1) here.cursor.rest (omega (arith, few))
      by_most (Some m) c = c

  then_pins : (result : Result GivenBatch Refusal) → Read result → (new : State D) → OnlyPins history read new → ReadsThenPins history old new
  then_pins result r new pins = record { read = read; extends = r.extends; unchanged = r.unchanged; same = r.same; pins = pins }

  -- ---- what was read is refused

  pub gives_refused : (e : Refusal) → is_stopped old ≡ false → Read (Err e) → Gives (Err e) read held
  gives_refused e running r = record {
    continues = then_pins (Err e) r read (no_pins history read);
    err = refl;
    answers = λ k changed tied. r.answers k w is changed (reads_tied r.extends running k changed tied);
    tied = λ changed. tied_on history old read held.list changed r.extends;
  }

  module _ (b : GivenBatch) (running : is_stopped old ≡ false) (r : Read (Ok b)) where
    next : KeepsWord (disk_history history read) → (changed : Bool) → AreTied changed history old held.list
        → IsNextBatch changed history read here w namespace bound b
    next k changed tied = r.answers k w is changed (reads_tied r.extends running k changed tied)

    says : (changed : Bool) (n : IsNextBatch changed history read here w namespace bound b)
        → b.reply ≡ ok_reply (batch_reply (codes "nextBatch") (batch_len_of here.cursor most) here.cursor.rest here.cursor.number namespace)
    says changed n = n.says
        ∙ ap (λ (m : ℕ). ok_reply (batch_reply (codes "nextBatch") m here.cursor.rest here.cursor.number namespace)) (same_count b.count n.counted n.few)

    -- ---- others are left

    module _ (text : Vec ℕ) (some : b.next ≡ Some text) where
      more : (changed : Bool) → IsNextBatch changed history read here w namespace bound b
          → (b.count < length here.cursor.rest) × ReadsRest changed history read (onwards b.count text.items w) (drop b.count here.cursor.rest)
      more changed n = subst
          (λ (o : Option (Vec ℕ)). MatchOption o (length here.cursor.rest ≤ b.count)
          (λ t. (b.count < length here.cursor.rest) × ReadsRest changed history read (onwards b.count t.items w) (drop b.count here.cursor.rest)))
          some n.next

      pub gives_more : (after_it : Held) → after_it ≡ gone_on held at b.count (option_map (onwards b.count text.items) here.walk)
          → Gives (Ok b.reply) read after_it
      gives_more after_it went =
          let extends : after_it ≡ gone_on held at b.count (Some (onwards b.count text.items w)) =
          went ∙ ap (λ (walk : Option HeldWalk). gone_on held at b.count (option_map (onwards b.count text.items) walk)) is in
          let x : HeldCursor = after here b.count (Some (onwards b.count text.items w)) in
          record {
            continues = then_pins (Ok b) r read (no_pins history read);
            err = tt;
            answers = λ k changed tied.
                let n = next k changed tied in
                record {
                  says = says changed n;
                  left = ap table_of extends ∙ gone_on_in_table held at b.count (Some (onwards b.count text.items w)) (more changed n).0
                      ∙ ap (λ (m : ℕ). let t : CursorTable = record { list = advanced (cursors_of held) at m; next = held.next } in t)
                      (same_count b.count n.counted n.few);
                };
            tied = λ changed tied.
                let on_read = tied_on history old read held.list changed r.extends tied in
                subst (λ (h : Held). AreTied changed history read h.list) (sym extends)
                (tied_set history changed read held.list at there x
                (ap (λ (walk : Option HeldWalk). with_pin walk []) (sym is)) on_read
                (λ still k. (more changed (next k changed tied)).1));
          }

    -- ---- it gave its last

    pub gives_last : b.next ≡ None → (new : State D) (after_it : Held) → after_it ≡ without held at
        → ((changed : Bool) → Releases changed history read new held after_it)
        → Gives (Ok b.reply) new after_it
    gives_last none new after_it went releases = record {
      continues = then_pins (Ok b) r new (releases true).pins;
      err = tt;
      answers = λ k changed tied.
          let n = next (subst KeepsWord (releases true).pins.untouched.disk k) changed tied in
          let few = subst
          (λ (o : Option (Vec ℕ)). MatchOption o (length here.cursor.rest ≤ b.count)
          (λ t. (b.count < length here.cursor.rest) × ReadsRest changed history read (onwards b.count t.items w) (drop b.count here.cursor.rest)))
          none n.next in
          record {
            says = says changed n;
            left = ap table_of went ∙ ended_in_table held at b.count few
                ∙ ap (λ (m : ℕ). let t : CursorTable = record { list = advanced (cursors_of held) at m; next = held.next } in t)
                (same_count b.count n.counted n.few);
          };
      tied = λ changed tied. (releases changed).tied (tied_on history old read held.list changed r.extends tied);
    }

-- A file that has stopped gives nothing.
pub gives_stopped : {D : Type 0} (history : D → History) (file : State D) (held : Held) (at : ℕ) (namespace : List ℕ) (most : Option ℕ)
    → is_stopped file ≡ true → GivesNext history at namespace most (Err refusals.StorageFailed) file file held held
gives_stopped history file held at namespace most stopped = record {
  continues = nothing_read history file;
  err = refl;
  answers = λ k changed tied. inr (refl, inl stopped);
  tied = λ changed tied. tied;
}
