use Rattle.std.proofs.Common.{◌≡◌, ◌++◌, take}
use Rattle.au_syntax.specs.Views.{written_all}
use Rattle.au_caps_types.specs.Naming.{no_holder}
use Rattle.au_formed.specs.Naming.{all_named}
use Rattle.au_types.specs.WrittenViews.{sense_in}
use Rattle.au_caps_types.proofs.naming.+push_named.Given as goal

-- what the types name that are visited
abbrev pub invariant-push_all-loop-one : goal.invariant-push_all-loop-one
invariant-push_all-loop-one l = l.list.items
    ≡ l.fn.list.items ++ all_named (sense_in l.scope) no_holder
    (written_all (take l.one-index l.one-items))
