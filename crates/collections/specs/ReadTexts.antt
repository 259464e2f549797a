-- Texts of entries of an index as they are read, entry after entry.
use Rattle.std.specs.Prelude.{◌≡◌, List, length}
use Rattle.std.specs.Option.{option_map}
use Rattle.tree_model.specs.Calls.{IsBatch}
use Rattle.tree_model.specs.Keys.{Entry}
use Rattle.index.specs.View.{texts_of}
use Rattle.collections.specs.IndexTexts.{texts_behind}
use Rattle.collections.specs.declared.index_texts.TextReading.{TextReading}

-- What entries make of texts that are read: those of the first ones, as many as have room, and the
-- key of the next one.
pub record AreTextsRead (start : TextReading) (all : List Entry) (now : TextReading) : Type 0 where
  pub front : now.front.now ≡ start.front.now
  pub most : now.most ≡ start.most
  pub entries : List Entry
  pub batch : IsBatch start.most all entries (option_map (λ v. v.items) now.next)
  pub texts : texts_of now.texts.items ≡ texts_behind start.front.now entries
  pub count : length entries ≡ now.count
