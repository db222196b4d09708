use Rattle.std.proofs.Common.{refl}
use Rattle.au_caps_lists.specs.Mentions.{all_written, mentions, mentions_in, mentions_in_all, written_mentions}
use Rattle.au_caps_lists.proofs.laws.examples_hold.Goals as goal

pub returns-clause-types : goal.returns-clause-types
unfolding mentions mentions_in mentions_in_all
returns-clause-types c = refl

pub returns-clause-kept : goal.returns-clause-kept
returns-clause-kept c = refl

pub returns-clause-free : goal.returns-clause-free
returns-clause-free c = refl

pub returns-clause-variables : goal.returns-clause-variables
unfolding mentions written_mentions all_written
returns-clause-variables c at binding e = refl
