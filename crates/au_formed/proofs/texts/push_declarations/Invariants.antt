use Rattle.std.proofs.Common.{◌≡◌, ◌+◌, ◌++◌, take}
use Rattle.au_formed.specs.Said.{spots_said}
use Rattle.au_formed.specs.Text.{spots_from}
use Rattle.au_names.specs.Walks.{written_all}
use Rattle.au_formed.proofs.texts.push_declarations.Given as goal

-- those that are visited
abbrev pub invariant-loop-decl : goal.invariant-loop-decl
invariant-loop-decl l = record {
  number : l.number ≡ l.first + l.decl-index;
  spots : spots_said l.list.items
      ≡ spots_said l.fn.list.items
      ++ spots_from l.place l.part l.first (written_all (take l.decl-index l.decl-items));
}
