use Rattle.au_machine.proofs.CallingLemmas.{other_arity}
use Rattle.au_machine.proofs.calling_shipped.arity.Goals as goal

pub returns-in_default : goal.returns-in_default
returns-in_default c = other_arity c.args.call (record {
  not_make_empty = c.in_default.not-MakeEmpty;
  not_swap = c.in_default.not-Swap;
  not_insert_back = c.in_default.not-InsertBack;
  not_nth = c.in_default.not-Nth;
  not_write_byte = c.in_default.not-WriteByte;
  not_wrap = c.in_default.not-Wrap;
  not_replace_nth = c.in_default.not-ReplaceNth;
})
