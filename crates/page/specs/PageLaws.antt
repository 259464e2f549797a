-- Laws of pages as bytes.
use Rattle.std.specs.Prelude.{◌≡◌, ℕ, ◌^◌, ◌<◌, ◌≤◌, Ok}
use Rattle.page.specs.Content.{IsContent}
use Rattle.page.specs.Format.{PageModel, page_bytes, model_in}

-- a page of a file whose root has this generation
pub record IsPageModel (generation : ℕ) (model : PageModel) : Type 0 where
  pub page : model.page < 2 ^ 32
  pub some : 1 ≤ model.generation
  pub small : model.generation < 2 ^ 64
  pub until : model.generation ≤ generation
  pub content : IsContent model.content

-- What is written is read back.
abbrev pub ReadsBack : Type 0
ReadsBack =
    (generation : ℕ) (model : PageModel) → IsPageModel generation model
    → model_in model.page generation (page_bytes model) ≡ Ok model
