-- The interface of Standard.IO.Terminal.
use Rattle.std.specs.Prelude.{List, [], ◌∷◌, codes}
use Rattle.au_base.specs.declared.places.Pos.{Pos}
use Rattle.au_syntax.specs.declared.declarations.Universe.TheVariants.{Linear, Region}
use Rattle.au_syntax.specs.Names.{Placed}
use Rattle.au_syntax.specs.Plain.{Bytes, PlainDeclaration, PlainModule}
use Rattle.au_shipped.specs.Building.{name, simple, applied, writes, generic, takes, an_opaque, a_function}
use Rattle.au_shipped.specs.Building.{interface}

module _ (at : Pos) where
  -- type Terminal: Linear;
  abbrev pub terminal_type : PlainDeclaration
  terminal_type = an_opaque at (codes "Terminal") [] Linear

  -- generic [R: Region] function acquireTerminal(root: &![RootCapability, R]): Terminal;
  abbrev pub acquire_terminal : PlainDeclaration
  acquire_terminal = a_function at
      (generic at (codes "R") Region ∷ [])
      (codes "acquireTerminal") (takes at (codes "root")
      (writes at (simple at (codes "RootCapability")) (codes "R")) ∷ [])
      (simple at (codes "Terminal"))

  -- generic [R: Region] function readByte(ref: &![Terminal, R]): Option[Nat8];
  abbrev pub read_byte : PlainDeclaration
  read_byte = a_function at
      (generic at (codes "R") Region ∷ [])
      (codes "readByte") (takes at (codes "ref") (writes at (simple at (codes "Terminal")) (codes "R")) ∷ [])
      (applied at (codes "Option") (simple at (codes "Nat8")))

  -- generic [R: Region] function writeByte(ref: &![Terminal, R], byte: Nat8): Unit;
  abbrev pub write_byte : PlainDeclaration
  write_byte = a_function at
      (generic at (codes "R") Region ∷ [])
      (codes "writeByte") (takes at (codes "ref") (writes at (simple at (codes "Terminal")) (codes "R"))
      ∷ takes at (codes "byte") (simple at (codes "Nat8")) ∷ [])
      (simple at (codes "Unit"))

  -- function releaseTerminal(terminal: Terminal): Unit;
  abbrev pub release_terminal : PlainDeclaration
  release_terminal =
      a_function at [] (codes "releaseTerminal")
      (takes at (codes "terminal") (simple at (codes "Terminal")) ∷ []) (simple at (codes "Unit"))

  -- Standard.IO.Terminal
  abbrev pub module_name : List (Placed Bytes)
  module_name = name at (codes "Standard") ∷ name at (codes "IO") ∷ name at (codes "Terminal") ∷ []

  -- module Standard.IO.Terminal is .. end module.
  abbrev pub terminal : PlainModule
  terminal = interface at module_name (terminal_type ∷ acquire_terminal ∷ read_byte ∷ write_byte
      ∷ release_terminal ∷ [])
