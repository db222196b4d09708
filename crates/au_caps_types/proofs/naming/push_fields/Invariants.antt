use Rattle.std.proofs.Common.{◌≡◌, ◌++◌, take}
use Rattle.au_caps_types.specs.Naming.{no_holder}
use Rattle.au_formed.specs.Naming.{fields_name}
use Rattle.au_promises.specs.Said.{fields_said}
use Rattle.au_types.specs.WrittenViews.{sense_in}
use Rattle.au_caps_types.proofs.naming.push_fields.Given as goal

-- what the fields name that are visited
abbrev pub invariant-loop-one : goal.invariant-loop-one
invariant-loop-one l = l.list.items
    ≡ l.fn.list.items ++ fields_name (sense_in l.scope) no_holder
    (fields_said (take l.one-index l.one-items))
