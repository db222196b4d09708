-- Steps of the search for the notes of a program, each with a name of its own.
use Rattle.std.specs.Prelude.{List, Ok, Some}
use Rattle.au_base.specs.declared.places.Pos.{Pos}
use Rattle.au_syntax.specs.Modules.{Constrained, Header}
use Rattle.au_syntax.specs.Plain.{Bytes, PlainExpression, PlainMethod, PlainModule, PlainStatements}
use Rattle.au_syntax.specs.Types.{Labelled}
use Rattle.au_types.specs.Types.{Meaning}
use Rattle.au_modules.specs.Programs.{Entry}
use Rattle.au_typing.specs.Scopes.{Outside, Scope}
use Rattle.au_typing.specs.Faults.{Noting, ◌>>=◌, assignable_wanted, check, shape}
use Rattle.au_typing.specs.Lookups.{written_type}
use Rattle.au_typing.specs.Notes.{NotedExpression}
use Rattle.au_typing.specs.Search.{note}
use Rattle.au_typing.specs.Bodies.{with_parameters, with_result}
use Rattle.au_typing.specs.DerivationFaults.{Judged, ◌then◌}
use Rattle.au_typing.specs.InScope.{fixed_variable, with_variable}
use Rattle.au_typing.specs.Parts.{is_literal}
use Rattle.au_typing.specs.ProgramSearch.{judge_end, note_body, note_declarations, noted_entry}
use Rattle.au_typing.specs.Returns.{block_returns}
use Rattle.au_typing.specs.DerivationSearch.{note_block}
use Rattle.au_typing.specs.Trees.{NotedDeclaration, NotedEntry, NotedMethod, NotedModule}
use Rattle.au_typing.specs.Trees.{NotedStatements}

-- a scope with a parameter, which isn't assigned to
abbrev pub with_parameter : Labelled Bytes → Scope → Noting Scope
with_parameter p sc = written_type sc p.of >>= λ of. Ok (with_variable (fixed_variable p.name.name of) sc)

-- a scope with the parameters and the result of a header
abbrev pub with_header : Header Bytes → Scope → Noting Scope
with_header header sc = with_parameters header.parameters sc >>= λ inner. with_result header.result inner

-- a block that returns on every path, or falls out at its end
abbrev pub note_inside : PlainStatements → Pos → Scope → Judged NotedStatements
note_inside body stop sc =
    note_block body sc then λ noted. judge_end (block_returns body) stop then λ ends. Ok noted

-- the value of a constant of a type, in a scope
abbrev pub note_value : Scope → PlainExpression → Meaning → Noting NotedExpression
note_value sc e of = check (is_literal e) (shape assignable_wanted) (note sc e (Some of))

-- what a file holds, with these declarations
abbrev pub tree_with : PlainModule → List NotedDeclaration → NotedModule
tree_with tree ds = record {
  imports = tree.imports;
  at = tree.at;
  part = tree.part;
  name = tree.name;
  pragma = tree.pragma;
  declarations = ds;
}

module _ (outside : Outside) where
  -- a method of an instance with these type parameters
  abbrev pub note_method : List (Constrained Bytes) → PlainMethod → Judged NotedMethod
  note_method generics m =
      note_body outside m.header.name.at generics m.header m.body m.stop
      then λ body. Ok (record { header = m.header; body = body; stop = m.stop })

  -- what a file holds
  abbrev pub note_tree : PlainModule → Judged NotedModule
  note_tree tree = note_declarations outside tree.declarations then λ ds. Ok (tree_with tree ds)

  -- a file
  abbrev pub note_entry : Entry → Judged NotedEntry
  note_entry e = note_declarations outside e.tree.declarations then λ ds. Ok (noted_entry e ds)
