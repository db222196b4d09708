-- Files of the code with their notes.
use Rattle.std.proofs.Common.{◌≡◌, List, Ok, Err, refl, sym, ap, ◌∙◌}
use Rattle.au_syntax.specs.contracts.parsed.ParsedPhase.TheImpl.{ghosts as parsed}
use Rattle.au_syntax.specs.declared.wholes.FileTree.{FileTree}
use Rattle.au_syntax.specs.Plain.{PlainModule}
use Rattle.au_syntax.specs.Views.{module_tree}
use Rattle.au_modules.specs.Programs.{Entry, entry}
use Rattle.au_typing.specs.Scopes.{Outside}
use Rattle.au_typing.specs.DerivationFaults.{Judged, ◌then◌}
use Rattle.au_typing.specs.ProgramSearch.{note_declarations, noted_entry}
use Rattle.au_typing.specs.Trees.{NotedDeclaration, NotedEntry, NotedModule}
use Rattle.au_noting_programs.specs.Steps.{note_entry, note_tree, tree_with}
use Rattle.au_noting_programs.proofs.PlainLemmas.{module_kept}

-- a file of this number
abbrev numbered : FileTree → PlainModule → Entry
numbered f tree = record { file = f.file; tree = tree }

-- a file with notes of this number
abbrev pub with_number : FileTree → NotedModule → NotedEntry
with_number f tree = record { file = f.file; tree = tree }

-- what a file says is noted as what its tree says
entry_noted : (outside : Outside) (f : FileTree) → note_entry outside (entry f)
    ≡ (note_tree outside (module_tree parsed f.tree.tree) then λ tree. Ok (with_number f tree))
entry_noted outside f =
    ap (λ tree. note_entry outside (numbered f tree)) (module_kept (module_tree parsed f.tree.tree))
    ∙ by (note_declarations outside (module_tree parsed f.tree.tree).declarations)
  where
    by : (r : Judged (List NotedDeclaration))
        → (r then λ ds. Ok (noted_entry (numbered f (module_tree parsed f.tree.tree)) ds))
        ≡ ((r then λ ds. Ok (tree_with (module_tree parsed f.tree.tree) ds)) then λ tree. Ok
        (with_number f tree))
    by (Ok ds) = refl
    by (Err fault) = refl

-- the same, by what is read of it
pub read_noted : (outside : Outside) (f : FileTree) (said : PlainModule) →
    said ≡ module_tree parsed f.tree.tree → note_entry outside (entry f)
    ≡ (note_tree outside said then λ tree. Ok (with_number f tree))
read_noted outside f said is = entry_noted outside f
    ∙ ap (λ tree. note_tree outside tree then λ noted. Ok (with_number f noted)) (sym is)
