use Rattle.std.proofs.Common.{◌≡◌, drop, map}
use Rattle.std.specs.Str.{bytes_eq}
use Rattle.au_type_texts.specs.Keys.{key_of}
use Rattle.au_lowered.specs.Programs.{texts_named, types_named}
use Rattle.au_lowering_statements.specs.LoweringExpressions.Views.{drafts_said}
use Rattle.au_graphs.specs.Reached.{adds}
use Rattle.au_lowering.proofs.numbering.collect.Given as goal

-- what is left makes of the tables what all makes of those at first
abbrev pub invariant-loop-one : goal.invariant-loop-one
invariant-loop-one l =
    (adds bytes_eq l.tables.texts (texts_named (drafts_said (drop l.one-index l.one-items)))
    ≡ adds bytes_eq l.fn.tables.texts (texts_named (drafts_said l.one-items)))
    × (adds bytes_eq l.tables.types (map key_of (types_named (drafts_said (drop l.one-index l.one-items))))
    ≡ adds bytes_eq l.fn.tables.types (map key_of (types_named (drafts_said l.one-items))))
