-- What a page of the code stands for, with its number and generation.
use Rattle.page.specs.Format.{PageModel}
use Rattle.page.specs.View.{content_of}
use Rattle.page.specs.declared.page_image.PageImage.{PageImage}

abbrev pub model_of : PageImage → PageModel
model_of image = record {
  page = image.page;
  generation = image.generation;
  content = content_of image.content;
}
