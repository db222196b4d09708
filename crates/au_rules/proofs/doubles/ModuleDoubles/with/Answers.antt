use Rattle.std.proofs.Common.{map}
use Rattle.au_syntax.specs.declared.modules.Part.TheVariants.{Interface, Body}
use Rattle.au_modules.specs.Slots as slots
use Rattle.au_names.specs.Meanings.{part_of}
use Rattle.au_names.specs.Owned.{declarations_in}
use Rattle.au_rules.specs.Marks.{marks}
use Rattle.au_rules.specs.Outside.{outside}
use Rattle.au_rules.proofs.ScopeLemmas.{both_parts}
use Rattle.au_rules.proofs.doubles.ModuleDoubles.with.Goals as goal

pub returns : goal.returns
returns c = λ m here.
    let program = slots.modules c.args.resolved.now in
    let place = c.args.place in
    let first = c.in_ok-judge_part.ensures in
    let second = c.in_ok-judge_part-2.ensures in
    both_parts (outside program place m Interface) (outside program place m Body)
    (map (marks Interface) (declarations_in (part_of Interface m)))
    (map (marks Body) (declarations_in (part_of Body m)))
    c.args.scopes.now c.judge_part.new.scopes c.new-by_number.result.items c.judge_part.new.list.items
    c.judge_part-2.new.list.items
    c.requires.empty c.new-by_number.ensures.items (first.found m here) (first.noted m here)
    (second.found m here)
