use Rattle.std.proofs.Common.{ℕ, ap, ◌∙◌}
use Rattle.std.specs.Prelude.{nat_eq}
use Rattle.std.specs.Map.{lookup}
use Rattle.lru.specs.LruCache.{LruCache}
use Rattle.page.specs.Format.{PageModel}
use Rattle.page.proofs.CacheLemmas.{promoted_same}
use Rattle.page.proofs.page_cache.PageCache.get.Goals as goal

pub returns-in_err-found-clause-same : goal.returns-in_err-found-clause-same
returns-in_err-found-clause-same c k =
    ap (λ (x : LruCache ℕ PageModel). lookup (nat_eq k) x.entries) c.get.follows.holds-at-none ∙ promoted_same c.args.page k c.args.self.now.pages.entries

pub returns-clause-same : goal.returns-clause-same
returns-clause-same c k =
    ap (λ (x : LruCache ℕ PageModel). lookup (nat_eq k) x.entries) c.get.follows.holds-at-none ∙ promoted_same c.args.page k c.args.self.now.pages.entries
