use Rattle.std.proofs.Common.{ℕ, ap, ◌∙◌}
use Rattle.std.specs.Prelude.{nat_eq}
use Rattle.std.specs.Map.{lookup}
use Rattle.lru.specs.LruCache.{LruCache}
use Rattle.page.specs.Format.{PageModel}
use Rattle.page.proofs.CacheLemmas.{removed_this, removed_other}
use Rattle.page.proofs.page_cache.PageCache.remove.Goals as goal

pub returns-then-len-gt0-clause-this : goal.returns-then-len-gt0-clause-this
returns-then-len-gt0-clause-this c =
    ap (λ (x : LruCache ℕ PageModel). lookup (nat_eq c.args.page) x.entries) c.pop.ensures.entries
    ∙ removed_this c.args.page c.args.self.now.pages.entries c.len.ensures.valid.0

pub returns-then-len-gt0-clause-others : goal.returns-then-len-gt0-clause-others
returns-then-len-gt0-clause-others c k other =
    ap (λ (x : LruCache ℕ PageModel). lookup (nat_eq k) x.entries) c.pop.ensures.entries ∙ removed_other c.args.page k other c.args.self.now.pages.entries
