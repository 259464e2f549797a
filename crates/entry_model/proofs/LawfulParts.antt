-- What is lawful of a state is so of its collections, of their documents and of their indexes.
use Rattle.std.specs.declared.cmp.Ordering.TheVariants.{Equal}
use Rattle.std.proofs.Common.{◌≡◌, List, subst, arith, codes}
use Rattle.bson.specs.Tree.{Pairs}
use Rattle.bson.specs.Lookup.{lookup}
use Rattle.bson.specs.Spelling.{pairs_bytes}
use Rattle.bson.specs.SizingLaws.{frame_of-length}
use Rattle.value_order.specs.Laws.{IsKey}
use Rattle.value_order.specs.Order.{value, compare}
use Rattle.value_order.specs.KeyText.{tree_text}
use Rattle.value_order.specs.declared.texts.Direction.TheVariants as directions
use Rattle.value_order.proofs.KeyLaws.{texts_agree}
use Rattle.index.specs.Definition.{Definition}
use Rattle.index.proofs.SpellableLaws.{Fits, IfFound, field_fits}
use Rattle.entry_model.specs.State.{Collection, key_of}
use Rattle.entry_model.specs.LawfulState.{IsKept, IsLawfulState, IsIndexOf, IsStorable}
use Rattle.entry_model.proofs.MemberLemmas.{Among, of_all}

pub kept_of : (cs : List Collection) (c : Collection) → IsLawfulState cs → Among c cs → IsKept c
kept_of cs c h there = of_all IsKept cs c h.kept there

pub listed_of : (c : Collection) (i : Definition) → IsKept c → Among i c.indexes → IsIndexOf c.documents i
listed_of c i kept there = of_all (IsIndexOf c.documents) c.indexes i kept.indexes there

pub storable_of : (c : Collection) (d : Pairs) → IsKept c → Among d c.documents → IsStorable d
storable_of c d kept there = of_all IsStorable c.documents d kept.storable there

-- ---- `_id`s

-- the `_id` of a document that may be stored is one that BSON can spell
pub id_is_key : (d : Pairs) → IsStorable d → IsKey (value (key_of d))
id_is_key d h =
    let found : IfFound 1048576 (lookup d (codes "_id")) =
    field_fits 1048576 d (codes "_id") h.lawful.lawful (omega (arith, h.size, frame_of-length (pairs_bytes d))) in
    let fits : Fits 1048576 (key_of d) = subst (IfFound 1048576) h.key found in
    (fits.lawful, fits.size)

pub same_id : (d e : Pairs) → IsStorable d → IsStorable e → tree_text (key_of d) ≡ tree_text (key_of e) → compare (key_of d) (key_of e) ≡ Equal
same_id d e hd he same = (texts_agree directions.Ascending (value (key_of d)) (value (key_of e)) (id_is_key d hd) (id_is_key e he)).0 same

pub same_text : (d e : Pairs) → IsStorable d → IsStorable e → compare (key_of d) (key_of e) ≡ Equal → tree_text (key_of d) ≡ tree_text (key_of e)
same_text d e hd he same = (texts_agree directions.Ascending (value (key_of d)) (value (key_of e)) (id_is_key d hd) (id_is_key e he)).1 same
