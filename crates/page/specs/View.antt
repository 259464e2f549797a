-- What contents of pages stand for.
use Rattle.page.specs.Content.{Content, leaf, branch, chain, free_list}
use Rattle.page.specs.declared.page_content.PageContent.{PageContent}
use Rattle.page.specs.declared.page_content.PageContent.TheVariants as contents

abbrev pub content_of : PageContent → Content
content_of (contents.Leaf items) = leaf items
content_of (contents.Branch pivots) = branch pivots
content_of (contents.Chain next bytes) = chain next bytes.items
content_of (contents.FreeList next pages) = free_list next pages.items
