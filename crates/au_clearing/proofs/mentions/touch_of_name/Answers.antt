use Rattle.au_clearing.proofs.MentionLemmas.{meets_all}
use Rattle.au_clearing.proofs.mentions.touch_of_name.Goals as goal

pub returns : goal.returns
returns g c = meets_all c.new-table.result c.mention_as.new.table _ c.new-table.ensures c.in_ok-mention_as.ensures
