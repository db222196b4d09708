-- The interface of Standard.Buffer.
use Rattle.std.specs.Prelude.{List, [], ◌∷◌, codes}
use Rattle.au_base.specs.declared.places.Pos.{Pos}
use Rattle.au_syntax.specs.declared.declarations.Universe.TheVariants.{Free, Linear, AnyType, Region}
use Rattle.au_syntax.specs.Names.{Placed}
use Rattle.au_syntax.specs.Plain.{Bytes, PlainDeclaration, PlainModule}
use Rattle.au_shipped.specs.Building.{name, simple, applied, reads, writes, over, generic, takes, an_opaque}
use Rattle.au_shipped.specs.Building.{a_function, interface}

module _ (at : Pos) where
  -- type Buffer[T: Type]: Linear;
  abbrev pub buffer_type : PlainDeclaration
  buffer_type = an_opaque at (codes "Buffer") (over at (codes "T") AnyType ∷ []) Linear

  -- generic [T: Type] function makeEmpty(): Buffer[T];
  abbrev pub make_empty : PlainDeclaration
  make_empty = a_function at
      (generic at (codes "T") AnyType ∷ [])
      (codes "makeEmpty") []
      (applied at (codes "Buffer") (simple at (codes "T")))

  -- generic [T: Type] function destroyEmpty(buffer: Buffer[T]): Unit;
  abbrev pub destroy_empty : PlainDeclaration
  destroy_empty = a_function at
      (generic at (codes "T") AnyType ∷ [])
      (codes "destroyEmpty") (takes at (codes "buffer") (applied at (codes "Buffer") (simple at (codes "T")))
      ∷ [])
      (simple at (codes "Unit"))

  -- generic [T: Type, R: Region] function length(ref: &[Buffer[T], R]): Index;
  abbrev pub buffer_length : PlainDeclaration
  buffer_length = a_function at
      (generic at (codes "T") AnyType ∷ generic at (codes "R") Region ∷ [])
      (codes "length") (takes at (codes "ref")
      (reads at (applied at (codes "Buffer") (simple at (codes "T"))) (codes "R")) ∷ [])
      (simple at (codes "Index"))

  -- generic [T: Type, R: Region] function insertBack(ref: &![Buffer[T], R], value: T): Unit;
  abbrev pub insert_back : PlainDeclaration
  insert_back = a_function at
      (generic at (codes "T") AnyType ∷ generic at (codes "R") Region ∷ [])
      (codes "insertBack")
      (takes at (codes "ref") (writes at (applied at (codes "Buffer") (simple at (codes "T"))) (codes "R"))
      ∷ takes at (codes "value") (simple at (codes "T")) ∷ [])
      (simple at (codes "Unit"))

  -- generic [T: Type, R: Region] function removeBack(ref: &![Buffer[T], R]): T;
  abbrev pub remove_back : PlainDeclaration
  remove_back = a_function at
      (generic at (codes "T") AnyType ∷ generic at (codes "R") Region ∷ [])
      (codes "removeBack")
      (takes at (codes "ref") (writes at (applied at (codes "Buffer") (simple at (codes "T"))) (codes "R"))
      ∷ [])
      (simple at (codes "T"))

  -- generic [T: Free, R: Region] function nth(ref: &[Buffer[T], R], index: Index): T;
  abbrev pub nth : PlainDeclaration
  nth = a_function at
      (generic at (codes "T") Free ∷ generic at (codes "R") Region ∷ [])
      (codes "nth")
      (takes at (codes "ref") (reads at (applied at (codes "Buffer") (simple at (codes "T"))) (codes "R"))
      ∷ takes at (codes "index") (simple at (codes "Index")) ∷ [])
      (simple at (codes "T"))

  -- generic [T: Type, R: Region] function replaceNth(ref: &![Buffer[T], R], index: Index, value: T): T;
  abbrev pub replace_nth : PlainDeclaration
  replace_nth = a_function at
      (generic at (codes "T") AnyType ∷ generic at (codes "R") Region ∷ [])
      (codes "replaceNth")
      (takes at (codes "ref") (writes at (applied at (codes "Buffer") (simple at (codes "T"))) (codes "R"))
      ∷ takes at (codes "index") (simple at (codes "Index"))
      ∷ takes at (codes "value") (simple at (codes "T")) ∷ [])
      (simple at (codes "T"))

  -- Standard.Buffer
  abbrev pub module_name : List (Placed Bytes)
  module_name = name at (codes "Standard") ∷ name at (codes "Buffer") ∷ []

  -- module Standard.Buffer is .. end module.
  abbrev pub buffers : PlainModule
  buffers = interface at module_name (buffer_type ∷ make_empty ∷ destroy_empty ∷ buffer_length ∷ insert_back
      ∷ remove_back ∷ nth ∷ replace_nth ∷ [])
