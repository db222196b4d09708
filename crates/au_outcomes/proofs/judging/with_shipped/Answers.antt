-- The shipped files stand first.
use Rattle.std.proofs.Common.{map}
use Rattle.au_modules.specs.Programs.{entry}
use Rattle.au_outcomes.proofs.CountLemmas.{with_shipped_few}
use Rattle.au_outcomes.proofs.JudgeLemmas.{shipped_first}
use Rattle.au_outcomes.proofs.judging.with_shipped.Goals as goal

pub returns-clause-files : goal.returns-clause-files
returns-clause-files c =
    shipped_first c.in_ok-files.files.items c.args.own.items c.append.new.self.items c.in_ok-files.ensures
    c.in_ok-append.ensures.items

pub returns-clause-few : goal.returns-clause-few
returns-clause-few c =
    with_shipped_few c.args.own.items (map entry c.append.new.self.items)
    (shipped_first c.in_ok-files.files.items c.args.own.items c.append.new.self.items c.in_ok-files.ensures
    c.in_ok-append.ensures.items)
    c.requires.few c.requires.declared
