-- The interface of Standard.Box.
use Rattle.std.specs.Prelude.{List, [], ◌∷◌, codes}
use Rattle.au_base.specs.declared.places.Pos.{Pos}
use Rattle.au_syntax.specs.declared.declarations.Universe.TheVariants.{Linear, AnyType, Region}
use Rattle.au_syntax.specs.Names.{Placed}
use Rattle.au_syntax.specs.Plain.{Bytes, PlainDeclaration, PlainModule}
use Rattle.au_shipped.specs.Building.{name, simple, applied, reads, writes, over, generic, takes, an_opaque}
use Rattle.au_shipped.specs.Building.{a_function, interface}

module _ (at : Pos) where
  -- type Box[T: Type]: Linear;
  abbrev pub box_type : PlainDeclaration
  box_type = an_opaque at (codes "Box") (over at (codes "T") AnyType ∷ []) Linear

  -- generic [T: Type] function makeBox(value: T): Box[T];
  abbrev pub make_box : PlainDeclaration
  make_box = a_function at
      (generic at (codes "T") AnyType ∷ [])
      (codes "makeBox") (takes at (codes "value") (simple at (codes "T")) ∷ [])
      (applied at (codes "Box") (simple at (codes "T")))

  -- generic [T: Type] function unbox(box: Box[T]): T;
  abbrev pub unbox : PlainDeclaration
  unbox = a_function at
      (generic at (codes "T") AnyType ∷ [])
      (codes "unbox") (takes at (codes "box") (applied at (codes "Box") (simple at (codes "T"))) ∷ [])
      (simple at (codes "T"))

  -- generic [T: Type, R: Region] function boxGet(ref: &[Box[T], R]): &[T, R];
  abbrev pub box_get : PlainDeclaration
  box_get = a_function at
      (generic at (codes "T") AnyType ∷ generic at (codes "R") Region ∷ [])
      (codes "boxGet") (takes at (codes "ref")
      (reads at (applied at (codes "Box") (simple at (codes "T"))) (codes "R")) ∷ [])
      (reads at (simple at (codes "T")) (codes "R"))

  -- generic [T: Type, R: Region] function boxGetMut(ref: &![Box[T], R]): &![T, R];
  abbrev pub box_get_mut : PlainDeclaration
  box_get_mut = a_function at
      (generic at (codes "T") AnyType ∷ generic at (codes "R") Region ∷ [])
      (codes "boxGetMut") (takes at (codes "ref")
      (writes at (applied at (codes "Box") (simple at (codes "T"))) (codes "R")) ∷ [])
      (writes at (simple at (codes "T")) (codes "R"))

  -- Standard.Box
  abbrev pub module_name : List (Placed Bytes)
  module_name = name at (codes "Standard") ∷ name at (codes "Box") ∷ []

  -- module Standard.Box is .. end module.
  abbrev pub boxes : PlainModule
  boxes = interface at module_name (box_type ∷ make_box ∷ unbox ∷ box_get ∷ box_get_mut ∷ [])
