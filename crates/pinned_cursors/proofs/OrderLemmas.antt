-- What comes in the order of an index of a pinned version, and a batch of it.
use Rattle.std.proofs.Common.{◌≡◌, inl, ℕ, ◌<◌, ◌≤◌, Bool, List, length, drop, Option, Some, None, Result, Ok, Err, sym, ap, subst, ◌∙◌}
use Rattle.std.specs.Prelude.{IfSome, MatchOption, MatchResult}
use Rattle.std.specs.Global.{Vec}
use Rattle.bson.specs.Tree.{Pairs}
use Rattle.page.specs.History.{History, KeepsWord}
use Rattle.pager.specs.declared.version.Version.{Version}
use Rattle.path.specs.declared.refusal.Refusal.{Refusal}
use Rattle.path.specs.declared.refusal.Refusal.TheVariants as refusals
use Rattle.collections.specs.Calls.{ExtendsTurn, HasReadCause}
use Rattle.collections.specs.State.{State}
use Rattle.collections.specs.Versions.{ReadsVersion}
use Rattle.collections.specs.View.{disk_history}
use Rattle.database_model.specs.Cursors.{batch_of, batch_reply}
use Rattle.database_model.specs.Refusals.{ok_reply}
use Rattle.replies.specs.View.{batch_name}
use Rattle.walks.specs.InOrder.{GoesOnInOrder, IsOrderedBatch, IsOrderedIn, rest_in_order}
use Rattle.walks.specs.Listed.{IsListedBatch}
use Rattle.walks.specs.declared.batches.BatchAsked.{BatchAsked}
use Rattle.walks.specs.declared.batches.GivenBatch.{GivenBatch}
use Rattle.walks.specs.declared.in_order.OrderedWalk.{OrderedWalk}
use Rattle.cursors.specs.Changes.{further}
use Rattle.cursors.specs.Held.{HeldWalk}
use Rattle.pinned_cursors.specs.Opening.{held_walk, way_in_order}
use Rattle.pinned_cursors.specs.Tied.{OrdersRest, ReadsRest}
use Rattle.pinned_cursors.proofs.TiedLemmas.{has_now, keeps_on}

module _ {D : Type 0} (history : D → History) (version : Version) (number : ℕ) (w : OrderedWalk) (asked : BatchAsked) (old new : State D) where
  abbrev pub walks_in_order : HeldWalk
  walks_in_order = held_walk version number w.projection.now (way_in_order w)

  -- the reading of the batch
  abbrev pub ReadsOrdered : Result GivenBatch Refusal → Type 0
  ReadsOrdered q = ReadsVersion history version (IsOrderedIn number w) (λ now o b. IsOrderedBatch o.sort w asked o.home.documents b) q old new

  -- the same, where there may be none
  abbrev pub MayRead : Result (Option GivenBatch) Refusal → Type 0
  MayRead q = ReadsVersion history version (IsOrderedIn number w)
      (λ now o (found : Option GivenBatch). IfSome found (IsOrderedBatch o.sort w asked o.home.documents)) q old new

  pub some_read : (found : Option GivenBatch) (b : GivenBatch) → found ≡ Some b → MayRead (Ok found) → ReadsOrdered (Ok b)
  some_read found b is reads =
      let it : MayRead (Ok (Some b)) = subst (λ (o : Option GivenBatch). MayRead (Ok o)) is reads in
      record { extends = it.extends; unchanged = it.unchanged; same = it.same; answers = it.answers }

  pub none_read : (e : Refusal) → MayRead (Err e) → ReadsOrdered (Err e)
  none_read e reads = record { extends = reads.extends; unchanged = reads.unchanged; same = reads.same; answers = reads.answers }

  -- memory ran out behind it
  pub read_out : (found : Option GivenBatch) (e : Refusal) → e ≡ refusals.OutOfMemory → MayRead (Ok found) → ReadsOrdered (Err e)
  read_out found e is reads =
      record { extends = reads.extends; unchanged = reads.unchanged; same = reads.same; answers = λ k now has asked so. inl is }

  module _ (rest : List Pairs) (passing : Bool) (r : ReadsRest passing history old walks_in_order rest) where
    -- what is left
    abbrev pub rest_told : OrdersRest w.filter.now w.index.now w.skip w.limit w.from.now w.last.now w.projection.now r.home rest
    rest_told = r.left

    pub ordered_there : (q : Result GivenBatch Refusal) → ReadsOrdered q → KeepsWord (disk_history history new)
        → MatchResult q (λ b. IsOrderedBatch rest_told.sort w asked r.home.documents b) (HasReadCause history old new)
    ordered_there q reads k =
        reads.answers k r.collections (has_now history passing old version r.collections r.had) (record { home = r.home; sort = rest_told.sort })
        (record { indexed = record { numbered = r.numbered; listed = rest_told.there; stored = r.stored }; in_order = rest_told.in_order })

    module _ (b : GivenBatch) (h : IsOrderedBatch rest_told.sort w asked r.home.documents b) where
      pub rest_is : rest_in_order rest_told.sort w r.home.documents ≡ rest
      rest_is = sym rest_told.same

      pub batch_is : IsListedBatch asked rest b
      batch_is = record {
        counted = h.counted ∙ ap (batch_of asked.most) rest_is;
        says = h.says
            ∙ ap (λ (ds : List Pairs). ok_reply (batch_reply (batch_name asked.kind) b.count ds asked.number asked.namespace.now)) rest_is;
        next = subst (λ (ds : List Pairs). MatchOption b.next (length ds ≤ b.count) (λ _. b.count < length ds)) rest_is (by b.next h.next);
      }
        where
          by : (o : Option (Vec ℕ))
              → MatchOption o (length (rest_in_order rest_told.sort w r.home.documents) ≤ b.count)
              (λ text. GoesOnInOrder rest_told.sort w r.home.documents b.count text.items)
              → MatchOption o (length (rest_in_order rest_told.sort w r.home.documents) ≤ b.count)
              (λ _. b.count < length (rest_in_order rest_told.sort w r.home.documents))
          by None none = none
          by (Some text) extends = extends.more

      -- the others, from the entry that it tells on
      pub others_in_order : ExtendsTurn history old new → (text : Vec ℕ) → b.next ≡ Some text
          → ReadsRest passing history new (held_walk version number w.projection.now (further b.count text.items (way_in_order w))) (drop b.count rest)
      others_in_order continues text is =
          let extends : GoesOnInOrder rest_told.sort w r.home.documents b.count text.items = subst
          (λ (o : Option (Vec ℕ)). MatchOption o (length (rest_in_order rest_told.sort w r.home.documents) ≤ b.count)
          (λ t. GoesOnInOrder rest_told.sort w r.home.documents b.count t.items)) is h.next in
          record {
            collections = r.collections;
            had = keeps_on history old new continues passing version r.collections r.had;
            home = r.home;
            numbered = r.numbered;
            stored = r.stored;
            left = record {
              there = rest_told.there;
              sort = rest_told.sort;
              in_order = rest_told.in_order;
              same = ap (drop b.count) rest_told.same ∙ sym extends.left;
            };
          }
