use Rattle.std.proofs.Common.{◌≡◌, drop}
use Rattle.std.specs.List.{list_all}
use Rattle.au_classes.specs.InstanceViews.{methods_of}
use Rattle.au_classes.specs.Methods.{is_declared}
use Rattle.au_classes.specs.Views.{headers_of}
use Rattle.au_classes.proofs.methods.all_declared.Given as goal

-- all so far are declared, so those that are left decide
abbrev pub invariant-loop-one : goal.invariant-loop-one
invariant-loop-one l =
    list_all (is_declared (headers_of l.list.items)) (methods_of l.one-items)
    ≡ list_all (is_declared (headers_of l.list.items)) (methods_of (drop l.one-index l.one-items))
