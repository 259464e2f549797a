use Rattle.page.proofs.CacheLemmas.{put_this_by, put_others_by}
use Rattle.page.proofs.page_cache.PageCache.put.Goals as goal

pub returns-clause-this : goal.returns-clause-this
returns-clause-this c =
    put_this_by c.put.result c.args.self.now.pages c.put.new.self c.args.page c.args.image c.put.ensures.entries c.put.ensures.err c.put.ensures.succeeds

pub returns-clause-others : goal.returns-clause-others
returns-clause-others c k other =
    put_others_by c.put.result c.args.self.now.pages c.put.new.self c.args.page k c.args.image c.put.ensures.entries c.put.ensures.err other
