-- What the code's drafted functions say.
use Rattle.std.specs.Prelude.{List, map}
use Rattle.au_lowering_statements.specs.LoweringExpressions.Views.{drafts_said}
use Rattle.au_lowering.specs.declared.functions.Drafted as found
use Rattle.au_lowering.specs.Drafted.{Drafted}

-- a function
abbrev pub drafted_said : found.Drafted → Drafted
drafted_said one = record {
  params = one.params;
  slots = one.slots;
  drafts = drafts_said one.drafts.items;
}

-- functions in order
abbrev pub all_said : List found.Drafted → List Drafted
all_said all = map drafted_said all
