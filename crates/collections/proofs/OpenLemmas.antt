-- What opening gives.
use Rattle.std.proofs.Common.{◌≡◌, sym, ◌∙◌, subst}
use Rattle.std.specs.Prelude.{Ok}
use Rattle.page.specs.History.{History, now, reads}
use Rattle.roots.specs.declared.opening.OpenFault.{OpenFault}
use Rattle.roots.specs.declared.root.Root.{Root}
use Rattle.roots.specs.Image.{HoldsMap, model_at}
use Rattle.roots.specs.Store.{durable_root}
use Rattle.pager.specs.Opening.{IsPagerOpened as IsPagerOpened, IsPagerRefused as IsPagerRefused}
use Rattle.pager.specs.Turn.{IsBegun}
use Rattle.collections.specs.State.{State}
use Rattle.collections.specs.Holding.{HoldsState}
use Rattle.collections.specs.Opening.{AreCollectionsOpened, AreCollectionsRefused}
use Rattle.collections.proofs.StandingLemmas.{begins, rests_at}

pub opened_so : {D : Type 0} (history : D → History) (disk : D) (c : State D) → IsPagerOpened history disk c.pager → c.root ≡ (durable_root c.pager.store).tree
    → AreCollectionsOpened history disk c
opened_so history disk c opened is =
    let image = reads (now (history disk)) in
    record {
      running = opened.running;
      clean = rests_at c.root (durable_root c.pager.store).tree is;
      pins = opened.pins;
      no_failed_allocations = opened.no_failed_allocations;
      no_failed_reads = opened.no_failed_reads;
      extends = opened.extends;
      begun = λ collections holds running k.
          let h : HoldsState image collections = holds k in
          let both : Ok h.stands.root ≡ Ok (durable_root c.pager.store) = sym h.stands.opens ∙ opened.opens k in
          let same : h.stands.root ≡ durable_root c.pager.store = cc in
          let begun : IsBegun history c.pager h.stands.pages h.entries =
          opened.begun h.stands.pages h.entries (λ _. subst (λ (r : Root). HoldsMap (model_at image r) r h.stands.pages h.entries) same h.stands.holds) in
          begins history c h.stands.pages h.entries collections is k begun h.spells h.state;
      alone = λ collections h k left is_left. record
          { entries = h.entries; stands = opened.alone h.entries h.stands k left is_left; spells = h.spells; state = h.state };
      any_moment = opened.any_moment;
    }

pub refused_so : {D : Type 0} (history : D → History) (disk back : D) (fault : OpenFault) → IsPagerRefused history disk back fault
    → AreCollectionsRefused history disk back fault
refused_so history disk back fault refused = record {
  extends = refused.extends;
  any_moment = refused.any_moment;
  damaged = λ device memory k collections h. refused.damaged device memory k h.entries h.stands;
  foreign = refused.foreign;
  later = refused.later;
  device = refused.device;
  memory = refused.memory;
}
