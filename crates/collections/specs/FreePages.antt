-- Which pages an image says are free.
use Rattle.std.specs.Prelude.{ℕ, List}
use Rattle.tree_model.specs.Keys.{Entry}
use Rattle.freelist.specs.FreeList.{IsFreeList, IsPartition, Part}
use Rattle.roots.specs.Image.{HoldsTree, OpensAs, list_in, model_at}
use Rattle.roots.specs.declared.root.Root.{Root}

-- The tree that the image's root names reaches these pages, and each other page of the file is the
-- list's own, or the list names it, once. So where the root names no list, no page is free.
pub record NamesFreePages (image : ℕ → List ℕ) : Type 0 where
  pub root : Root
  pub opens : OpensAs image root
  pub pages : List ℕ
  pub entries : List Entry
  pub tree : HoldsTree (model_at image root) root pages entries
  pub parts : List Part
  pub list : let models = model_at image root in
      IsFreeList (list_in models) root.pages root.free_list root.free_count parts
  pub all : IsPartition root.pages pages parts
