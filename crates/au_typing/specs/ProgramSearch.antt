-- The search for the notes of a program: its modules in order, in each its interface and its body, and in
-- these the declarations in the order of the text.
use Rattle.std.specs.Prelude.{ℕ, ◌+◌, Bool, true, false, List, [], ◌∷◌, Option, None, Some, Ok, Err}
use Rattle.au_base.specs.declared.places.Pos.{Pos}
use Rattle.au_syntax.specs.declared.modules.Part.{Part}
use Rattle.au_syntax.specs.declared.modules.Part.TheVariants.{Interface, Body}
use Rattle.au_syntax.specs.Modules.{Constrained, Header, constant, opaque_type, record_type, union_type}
use Rattle.au_syntax.specs.Modules.{function, class, instance, constant_body, function_body, instance_body}
use Rattle.au_syntax.specs.Plain.{Bytes, PlainDeclaration, PlainExpression, PlainMethod, PlainStatements}
use Rattle.au_syntax.specs.Types.{WrittenType}
use Rattle.au_modules.specs.Programs.{Entry, ModuleParts}
use Rattle.au_typing.specs.Scopes.{Outside}
use Rattle.au_typing.specs.Faults.{Noting, ◌>>=◌, check, shape, assignable_wanted, falls_out}
use Rattle.au_typing.specs.Lookups.{written_type}
use Rattle.au_typing.specs.Notes.{NotedExpression}
use Rattle.au_typing.specs.Search.{note}
use Rattle.au_typing.specs.Bodies.{body_scope, outer_scope}
use Rattle.au_typing.specs.DerivationFaults.{Judged, ◌then◌, placed, refused}
use Rattle.au_typing.specs.Parts.{is_literal}
use Rattle.au_typing.specs.Returns.{block_returns}
use Rattle.au_typing.specs.DerivationSearch.{note_block}
use Rattle.au_typing.specs.Trees.{NotedDeclaration, NotedEntry, NotedMethod, NotedParts, NotedStatements}

-- a body that doesn't return on every path, told at its `end`
abbrev pub judge_end : Bool → Pos → Judged (Unit {0})
judge_end true stop = Ok tt
judge_end false stop = Err (refused stop falls_out)

-- a file with the notes of its declarations
abbrev pub noted_entry : Entry → List NotedDeclaration → NotedEntry
noted_entry e ds = record {
  file = e.file;
  tree = record {
    imports = e.tree.imports;
    at = e.tree.at;
    part = e.tree.part;
    name = e.tree.name;
    pragma = e.tree.pragma;
    declarations = ds;
  };
}

module _ (outside : Outside) where
  -- the body of a function or method that is declared at a place
  abbrev pub note_body :
      Pos → List (Constrained Bytes) → Header Bytes → PlainStatements → Pos → Judged NotedStatements
  note_body at generics header body stop =
      placed at (body_scope outside generics header)
      then λ sc. note_block body sc then λ noted. judge_end (block_returns body) stop then λ ends. Ok noted

  -- the methods of an instance
  abbrev pub note_methods : List (Constrained Bytes) → List PlainMethod → Judged (List NotedMethod)
  note_methods generics [] = Ok []
  note_methods generics (m ∷ rest) =
      note_body m.header.name.at generics m.header m.body m.stop
      then λ body. note_methods generics rest
      then λ all. Ok (record { header = m.header; body = body; stop = m.stop } ∷ all)

  -- the value of a constant
  abbrev pub note_constant : WrittenType → PlainExpression → Noting NotedExpression
  note_constant t e =
      written_type (outer_scope outside []) t
      >>= λ of. check (is_literal e) (shape assignable_wanted) (note (outer_scope outside []) e (Some of))

  -- a declaration, and several of them
  abbrev pub note_declaration : PlainDeclaration → Judged NotedDeclaration
  note_declaration (constant at name t) = Ok (constant at name t)
  note_declaration (opaque_type at name ps u) = Ok (opaque_type at name ps u)
  note_declaration (record_type at name ps u fields) = Ok (record_type at name ps u fields)
  note_declaration (union_type at name ps u cases) = Ok (union_type at name ps u cases)
  note_declaration (function at generics header) = Ok (function at generics header)
  note_declaration (class at name p headers) = Ok (class at name p headers)
  note_declaration (instance at generics name t) = Ok (instance at generics name t)
  note_declaration (constant_body at name t e) =
      placed at (note_constant t e) then λ a. Ok (constant_body at name t a)
  note_declaration (function_body at generics header body stop) =
      note_body at generics header body stop then λ noted. Ok (function_body at generics header noted stop)
  note_declaration (instance_body at generics name t methods) =
      note_methods generics methods then λ noted. Ok (instance_body at generics name t noted)

  abbrev pub note_declarations : List PlainDeclaration → Judged (List NotedDeclaration)
  note_declarations [] = Ok []
  note_declarations (d ∷ rest) =
      note_declaration d then λ noted. note_declarations rest then λ all. Ok (noted ∷ all)

  -- a part of a module, if the module has it
  abbrev pub note_part : Option Entry → Judged (Option NotedEntry)
  note_part None = Ok None
  note_part (Some e) = note_declarations e.tree.declarations then λ ds. Ok (Some (noted_entry e ds))

module _ (outside : ℕ → Part → Outside) where
  -- the module at a place
  abbrev pub note_module : ℕ → ModuleParts → Judged NotedParts
  note_module place m =
      note_part (outside place Interface) m.interface
      then λ interface. note_part (outside place Body) m.body
      then λ body. Ok (record { name = m.name; interface = interface; body = body })

  -- modules, the first of which stands at this place
  abbrev pub note_modules : ℕ → List ModuleParts → Judged (List NotedParts)
  note_modules place [] = Ok []
  note_modules place (m ∷ rest) =
      note_module place m then λ noted. note_modules (place + 1) rest then λ all. Ok (noted ∷ all)

  -- the modules of a program
  abbrev pub note_program : List ModuleParts → Judged (List NotedParts)
  note_program program = note_modules 0 program
