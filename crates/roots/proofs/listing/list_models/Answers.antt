use Rattle.std.proofs.Common.{◌<◌, arith, length, rules, ◌∙◌}
use Rattle.std.proofs.lemmas.List.{get_or_read, take_all}
use Rattle.freelist.specs.FreeList.{written}
use Rattle.freelist.specs.ListReading.{content_of}
use Rattle.roots.specs.Listed.{list_models}
use Rattle.roots.proofs.ListingLemmas.{models_long, models_more}
use Rattle.roots.proofs.listing.list_models.Goals as goal

pub loop-at-preserved : goal.loop-at-preserved
loop-at-preserved c =
    let within : c.loop-at.at < length c.args.list.now.pages.items = search rules in
    models_more c.args.generation c.args.list.now.pages.items c.args.list.now.named.items c.loop-at.at c.index.result.now (content_of c.in_ok-part.part)
    c.in_ok-new.field-0 c.loop-at.models.items c.push.new.self.items within c.in_ok-part.ensures.part
    (get_or_read c.args.list.now.pages.items c.loop-at.at c.index.result.now within c.index.ensures 0) c.in_ok-new.ensures c.loop-at.invariant
    c.in_ok-push.ensures.items

pub returns : goal.returns
returns c =
    let all = list_models c.args.generation (written c.args.list.now.pages.items c.args.list.now.named.items) in
    c.loop-at.invariant
    ∙ take_all c.loop-at.at all (omega (
      arith,
      models_long c.args.generation c.args.list.now.pages.items c.args.list.now.named.items,
      c.loop-at-test.false,
      c.len-at-end.ensures,
      c.args.list.now.pages.ok,
    ))
