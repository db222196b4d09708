use Rattle.std.proofs.Common.{◌≡◌, drop, length, map}
use Rattle.std.specs.Option.{option_map}
use Rattle.au_types.specs.Views.{argument_all}
use Rattle.au_types.specs.Meant.{arguments_meant}
use Rattle.au_types.specs.WrittenViews.{given_in}
use Rattle.au_types.proofs.MeantLemmas.{joined}
use Rattle.au_types.proofs.meaning.+type_meant.Given as goal

-- the arguments so far mean what was found, so those that are left decide
abbrev pub invariant-arguments_meant-loop-index : goal.invariant-arguments_meant-loop-index
invariant-arguments_meant-loop-index l = record {
  lengths : length l.args.items ≡ length l.expected;
  rest : arguments_meant l.expected (map (given_in l.scope) l.args.items)
      ≡ option_map (joined (argument_all l.found.items))
      (arguments_meant (drop l.index l.expected) (map (given_in l.scope) (drop l.index l.args.items)));
}
