use Rattle.std.proofs.Common.{◌≡◌, drop}
use Rattle.au_types.specs.Views.{meaning}
use Rattle.au_typing.specs.Lookups.{part_type}
use Rattle.au_noting.specs.Said.{fields_said}
use Rattle.au_noting.specs.Scopes.{scope_said}
use Rattle.au_noting.proofs.lookups.part_type.Given as goal

-- what is left of the path is looked for in the part so far
abbrev pub invariant-loop-field : goal.invariant-loop-field
invariant-loop-field l =
    part_type (scope_said l.scope) (meaning l.fn.of) (fields_said l.path)
    ≡ part_type (scope_said l.scope) (meaning l.part) (fields_said (drop l.field-index l.path))
